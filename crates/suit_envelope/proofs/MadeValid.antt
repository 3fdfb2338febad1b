-- An envelope that is made from its parts is a valid item.
use Rattle.std.proofs.Common.{◌≡◌, ℕ, ◌<◌, ◌≤◌, ◌^◌, true, List, [], ◌∷◌, Option, Some, None, refl, ap, ◌∙◌, arith}
use Rattle.std.specs.Prelude.{IfSome}
use Rattle.std.specs.List.{AllByRecursion}
use Rattle.std.specs.Ordering.{is_lt, nat_cmp}
use Rattle.std.specs.Cmp.Lexicographic.{slice_cmp}
use Rattle.std.specs.declared.cmp.Ordering.TheVariants.{Less}
use Rattle.det_cbor.specs.DataItem.{DataItem, UnsignedInteger, TextString, DataPairs, pair_count, spell, IsString, IsValid, ArePairsWithin}
use Rattle.det_cbor.specs.ItemOrder.{item_order}
use Rattle.det_cbor.proofs.Cuts.{Cuts-order, cmp_less}
use Rattle.det_cbor.proofs.ItemCuts.{items_cut_apart}
use Rattle.suit_envelope.specs.declared.parts.EnvelopeParts.{EnvelopeParts}
use Rattle.suit_envelope.specs.Making.{member_then, payload_pairs, pairs_made, envelope_made, IsText, IsPayload}
use Rattle.suit_envelope.specs.PayloadOrder.{AreAscending}

-- the bounds that the types of the code set the parts
pub record Fits (parts : EnvelopeParts) : Type 0 where
  pub required : AllByRecursion IsString (parts.wrapper ∷ parts.manifest ∷ [])
  pub members : AllByRecursion (λ m. IfSome m IsString) (parts.payload_fetch ∷ parts.install ∷ parts.text ∷ [])
  pub payloads : AllByRecursion IsPayload parts.payloads
  pub count : pair_count (pairs_made parts) < 2 ^ 64

-- ---- the order of keys

below : (x y : DataItem) → IsValid x → IsValid y → item_order x y ≡ Less → is_lt (slice_cmp nat_cmp (spell x) (spell y)) ≡ true
below x y x_valid y_valid less = ap is_lt (Cuts-order (item_order x y) (spell x) (spell y) (items_cut_apart 0 0 x y x_valid y_valid) ∙ less)

number_below : (m n : ℕ) → m < n → n < 24 → is_lt (slice_cmp nat_cmp (spell (UnsignedInteger m)) (spell (UnsignedInteger n))) ≡ true
number_below m n lt small = below (UnsignedInteger m) (UnsignedInteger n) (omega arith) (omega arith) (rw (cmp_less m n lt) refl)

text_above : (n : ℕ) (text : List ℕ) → n < 24 → IsText text → is_lt (slice_cmp nat_cmp (spell (UnsignedInteger n)) (spell (TextString text))) ≡ true
text_above n text small valid = below (UnsignedInteger n) (TextString text) (omega arith) valid refl

-- ---- pairs that follow a key whose number is at most this one

Follows : ℕ → DataPairs → Type 0
Follows n ps = (m : ℕ) → m ≤ n → ArePairsWithin 2 (Some (spell (UnsignedInteger m))) ps

payloads_after : (before : List ℕ) (ps : List (List ℕ × List ℕ)) → AllByRecursion IsPayload ps → AreAscending (Some before) ps → ArePairsWithin 2 (Some before) (payload_pairs ps)
payloads_after before [] fit ascend = tt
payloads_after before (p ∷ ps) fit ascend = (fit.0.0, ascend.0, fit.0.1, payloads_after (spell (TextString p.0)) ps fit.1 ascend.1)

payloads_follow : (ps : List (List ℕ × List ℕ)) → AllByRecursion IsPayload ps → AreAscending None ps → Follows 23 (payload_pairs ps)
unfolding Follows
payloads_follow [] fit ascend = λ m le. tt
payloads_follow (p ∷ ps) fit ascend = λ m le. (fit.0.0, text_above m p.0 (omega arith) fit.0.0, fit.0.1, payloads_after (spell (TextString p.0)) ps fit.1 ascend.1)

member_follows : (low n high : ℕ) (member : Option (List ℕ)) (ps : DataPairs) → low < n → n ≤ high → n < 24 → IfSome member IsString → Follows high ps → Follows low (member_then n member ps)
unfolding Follows
member_follows low n high None ps lt le_high small fit rest = λ m le. rest m (omega arith)
member_follows low n high (Some content) ps lt le_high small fit rest = λ m le. (omega arith, number_below m n (omega arith) small, fit, rest n (omega arith))

pub made_valid : (parts : EnvelopeParts) → Fits parts → AreAscending None parts.payloads → IsValid (envelope_made parts)
unfolding Follows
made_valid parts fit ascend =
    let payloads = payloads_follow parts.payloads fit.payloads ascend in
    let text = member_follows 22 23 23 parts.text _ (omega arith) (omega arith) (omega arith) fit.members.1.1.0 payloads in
    let install = member_follows 19 20 22 parts.install _ (omega arith) (omega arith) (omega arith) fit.members.1.0 text in
    let payload_fetch = member_follows 3 16 19 parts.payload_fetch _ (omega arith) (omega arith) (omega arith) fit.members.0 install in
    let manifest = payload_fetch 3 (omega arith) in
    (omega arith, omega arith, (omega arith, fit.count, (omega arith, tt, fit.required.0, (omega arith, number_below 2 3 (omega arith) (omega arith), fit.required.1.0, manifest))))
