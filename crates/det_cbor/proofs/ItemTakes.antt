-- An item that is read is spelled by the bytes it was read from.
use Rattle.std.proofs.Common.{◌≡◌, ℕ, zero, suc, ◌+◌, ◌-◌, ◌^◌, ◌<◌, ◌≤◌, true, ltb, eqb, List, [], ◌∷◌, ◌++◌, length, take, drop, Option, Some, None, Result, Ok, Err, refl, sym, ap, subst, ◌∙◌, append_assoc, arith, inl, inr}
use Rattle.std.specs.Str.{IsUtf8, is_utf8}
use Rattle.std.specs.declared.cmp.Ordering.{Ordering}
use Rattle.std.specs.declared.cmp.Ordering.TheVariants.{Less, Equal, Greater}
use Rattle.std.specs.Ordering.{is_lt, nat_cmp}
use Rattle.std.specs.Cmp.Lexicographic.{slice_cmp}
use Rattle.std.proofs.lemmas.Bool.{ltb-false}
use Rattle.std.proofs.lemmas.Str.{IsUtf8-from_is_utf8}
use Rattle.std.proofs.lemmas.List.{take_at, take-append-drop, length-append, length-take}
use Rattle.det_cbor.specs.declared.head.HeadKind.{HeadKind}
use Rattle.det_cbor.specs.declared.head.HeadKind.TheVariants as kinds
use Rattle.det_cbor.specs.declared.reason.Reason.{Reason}
use Rattle.det_cbor.specs.declared.reason.Reason.TheVariants.{BadText}
use Rattle.det_cbor.specs.declared.reason.Stop.{Stop}
use Rattle.det_cbor.specs.DataItem.{DataItem, UnsignedInteger, NegativeInteger, ByteString, TextString, ArrayOf, MapOf, TaggedItem, Boolean, NullItem, DataItems, NoItems, DataPairs, NoPairs, item_count, pair_count, spell, spell_items, spell_pairs, IsString, IsAbove, IsValidWithin, AreValidWithin, ArePairsWithin}
use Rattle.det_cbor.specs.DataLists.{items_of, pairs_of}
use Rattle.det_cbor.specs.Heads.{head_bytes}
use Rattle.det_cbor.specs.HeadSpelling.{major_of, argument_of, IsValueOf}
use Rattle.det_cbor.specs.ItemReading.{Reader, stopped, string_at, text_at, items_by, read_of, ascending, in_order, pairs_by, body_with, item_with, item_at}
use Rattle.det_cbor.specs.ResultLaws.{chosen, bind_ok, ok_pair, same_ok}
use Rattle.det_cbor.specs.ArgumentLaws.{IsBytes, IsBytes-rest, IsBytes-drop, IsBytes-take, all_bytes, head_small}
use Rattle.det_cbor.proofs.Heads.{head_takes}

-- the bytes are an item that is valid inside `levels` arrays, maps and tags, and then the rest
pub record StartsWith (levels : ℕ) (x : DataItem) (bytes rest : List ℕ) : Type 0 where
  pub valid : IsValidWithin levels x
  pub parts : bytes ≡ spell x ++ rest
  pub left : IsBytes rest

abbrev pub ReadsSpelled : ℕ → Reader → Type 0
ReadsSpelled levels read = (bytes : List ℕ) (x : DataItem) (rest : List ℕ) → IsBytes bytes → read bytes ≡ Ok (x, rest) → StartsWith levels x bytes rest

-- the item that was read is the one in the answer
answered : (levels : ℕ) (x y : DataItem) (bytes rest after : List ℕ) → StartsWith levels x bytes rest → ◌≡◌ {A = Result (DataItem × List ℕ) Stop} (Ok (x, rest)) (Ok (y, after)) → StartsWith levels y bytes after
answered levels x y bytes rest after starts e =
    let parts = ok_pair x y rest after e in
    subst (λ (z : DataItem). StartsWith levels z bytes after) parts.0 (subst (λ (r : List ℕ). StartsWith levels x bytes r) parts.1 starts)

pub stopped_ok : {A : Type 0} (bytes : List ℕ) (r : Result A Reason) (x : A) → stopped bytes r ≡ Ok x → r ≡ Ok x
stopped_ok bytes (Ok y) x e = ap Ok (same_ok y x e)
stopped_ok bytes (Err reason) x e = absurd cc

-- ---- strings

pub record IsStringAt (count : ℕ) (rest : List ℕ) (s : List ℕ × List ℕ) : Type 0 where
  pub long : length s.0 ≡ count
  pub parts : rest ≡ s.0 ++ s.1
  pub bytes : IsBytes s.0
  pub left : IsBytes s.1

pub string_takes : (count : ℕ) (rest : List ℕ) (s : List ℕ × List ℕ) → IsBytes rest → string_at count rest ≡ Ok s → IsStringAt count rest s
string_takes count rest s fits e =
    elim (chosen (ltb (length rest) count) _ _ _ e) [
      | inl (short, never) ↦ absurd cc
      | inr (long, e) ↦
          let enough : count ≤ length rest = ltb-false _ _ long in
          let is : (take count rest, drop count rest) ≡ s = same_ok _ _ e in
          let all : IsStringAt count rest (take count rest, drop count rest) = record { long = omega (arith, length-take count rest); parts = sym (take-append-drop count rest); bytes = IsBytes-take count rest fits; left = IsBytes-drop count rest fits } in
          subst (λ (t : List ℕ × List ℕ). IsStringAt count rest t) is all
    ]

pub text_takes : (count : ℕ) (rest : List ℕ) (s : List ℕ × List ℕ) → IsBytes rest → text_at count rest ≡ Ok s → IsStringAt count rest s × IsUtf8 s.0
text_takes count rest s fits e =
    bind_ok _ _ _ e (λ t t-is e. elim (chosen {A = Result (List ℕ × List ℕ) Reason} (is_utf8 t.0) (Ok t) (Err BadText) (Ok s) e) [
      | inl (good, e) ↦
          let is : t ≡ s = same_ok t s e in
          subst (λ (u : List ℕ × List ℕ). IsStringAt count rest u × IsUtf8 u.0) is (string_takes count rest t fits t-is, IsUtf8-from_is_utf8 t.0 good)
      | inr (other, never) ↦ absurd cc
    ])

-- ---- arrays

pub record StartsWithItems (levels count : ℕ) (xs : DataItems) (bytes rest : List ℕ) : Type 0 where
  pub valid : AreValidWithin levels xs
  pub counted : item_count xs ≡ count
  pub parts : bytes ≡ spell_items xs ++ rest
  pub left : IsBytes rest

pub items_takes : (levels : ℕ) (read : Reader) → ReadsSpelled levels read → (count : ℕ) (bytes : List ℕ) (xs : List DataItem) (rest : List ℕ) → IsBytes bytes → items_by read count bytes ≡ Ok (xs, rest)
    → StartsWithItems levels count (items_of xs) bytes rest
items_takes levels read law zero bytes xs rest fits e =
    let parts = ok_pair [] xs bytes rest e in
    subst (λ (ys : List DataItem). StartsWithItems levels 0 (items_of ys) bytes rest) parts.0
    (subst (λ (r : List ℕ). StartsWithItems levels 0 NoItems bytes r) parts.1 (record { valid = tt; counted = refl; parts = refl; left = fits }))
items_takes levels read law (suc count) bytes xs rest fits e =
    bind_ok _ _ _ e (λ first first-is e. bind_ok _ _ _ e (λ others others-is e.
    let a = law bytes first.0 first.1 fits first-is in
    let b = items_takes levels read law count first.1 others.0 others.1 a.left others-is in
    let parts = ok_pair (first.0 ∷ others.0) xs others.1 rest e in
    let whole : bytes ≡ (spell first.0 ++ spell_items (items_of others.0)) ++ others.1 = a.parts ∙ ap (λ (l : List ℕ). spell first.0 ++ l) b.parts ∙ sym (append_assoc (spell first.0) (spell_items (items_of others.0)) others.1) in
    let counted : item_count (items_of others.0) + 1 ≡ suc count = omega arith in
    subst (λ (ys : List DataItem). StartsWithItems levels (suc count) (items_of ys) bytes rest) parts.0
    (subst (λ (r : List ℕ). StartsWithItems levels (suc count) (items_of (first.0 ∷ others.0)) bytes r) parts.1 (record { valid = (a.valid, b.valid); counted = counted; parts = whole; left = b.left }))))

-- ---- maps

-- the bytes before the rest are the ones that were read
pub read_of_front : (front rest : List ℕ) → read_of (front ++ rest) rest ≡ front
read_of_front front rest = let long : length (front ++ rest) - length rest ≡ length front = omega (arith, length-append front rest) in rw long (take_at front rest (length front) refl)

ascending_ok : (o : Ordering) (done : Unit) → ascending o ≡ Ok done → is_lt o ≡ true
ascending_ok Less done e = refl
ascending_ok Equal done e = absurd cc
ascending_ok Greater done e = absurd cc

pub in_order_ok : (before : Option (List ℕ)) (key : List ℕ) (done : Unit) → in_order before key ≡ Ok done → IsAbove before key
in_order_ok None key done e = tt
in_order_ok (Some before) key done e = ascending_ok (slice_cmp nat_cmp before key) done e

pub record StartsWithPairs (levels : ℕ) (before : Option (List ℕ)) (count : ℕ) (ps : DataPairs) (bytes rest : List ℕ) : Type 0 where
  pub valid : ArePairsWithin levels before ps
  pub counted : pair_count ps ≡ count
  pub parts : bytes ≡ spell_pairs ps ++ rest
  pub left : IsBytes rest

pub pairs_takes : (levels : ℕ) (read : Reader) → ReadsSpelled levels read → (before : Option (List ℕ)) (count : ℕ) (bytes : List ℕ) (ps : List (DataItem × DataItem)) (rest : List ℕ) → IsBytes bytes → pairs_by read before count bytes ≡ Ok (ps, rest)
    → StartsWithPairs levels before count (pairs_of ps) bytes rest
pairs_takes levels read law before zero bytes ps rest fits e =
    let parts = ok_pair [] ps bytes rest e in
    subst (λ (qs : List (DataItem × DataItem)). StartsWithPairs levels before 0 (pairs_of qs) bytes rest) parts.0
    (subst (λ (r : List ℕ). StartsWithPairs levels before 0 NoPairs bytes r) parts.1 (record { valid = tt; counted = refl; parts = refl; left = fits }))
pairs_takes levels read law before (suc count) bytes ps rest fits e =
    bind_ok _ _ _ e (λ key key-is e. bind_ok _ _ _ e (λ done done-is e. bind_ok _ _ _ e (λ value value-is e. bind_ok _ _ _ e (λ others others-is e.
    let k = law bytes key.0 key.1 fits key-is in
    let spelled : read_of bytes key.1 ≡ spell key.0 = ap (λ (l : List ℕ). read_of l key.1) k.parts ∙ read_of_front (spell key.0) key.1 in
    let above : IsAbove before (spell key.0) = subst (λ (l : List ℕ). IsAbove before l) spelled (in_order_ok before (read_of bytes key.1) done (stopped_ok bytes _ done done-is)) in
    let v = law key.1 value.0 value.1 k.left value-is in
    let b = pairs_takes levels read law (Some (read_of bytes key.1)) count value.1 others.0 others.1 v.left others-is in
    let valid : ArePairsWithin levels (Some (spell key.0)) (pairs_of others.0) = subst (λ (l : List ℕ). ArePairsWithin levels (Some l) (pairs_of others.0)) spelled b.valid in
    let parts = ok_pair ((key.0, value.0) ∷ others.0) ps others.1 rest e in
    let whole = pair_parts bytes (spell key.0) (spell value.0) (spell_pairs (pairs_of others.0)) key.1 value.1 others.1 k.parts v.parts b.parts in
    let counted : pair_count (pairs_of others.0) + 1 ≡ suc count = omega arith in
    subst (λ (qs : List (DataItem × DataItem)). StartsWithPairs levels before (suc count) (pairs_of qs) bytes rest) parts.0
    (subst (λ (r : List ℕ). StartsWithPairs levels before (suc count) (pairs_of ((key.0, value.0) ∷ others.0)) bytes r) parts.1 (record { valid = (k.valid, above, v.valid, valid); counted = counted; parts = whole; left = b.left }))))))
  where
    pair_parts : (bytes key value others after_key after_value rest : List ℕ) → bytes ≡ key ++ after_key → after_key ≡ value ++ after_value → after_value ≡ others ++ rest → bytes ≡ (key ++ (value ++ others)) ++ rest
    pair_parts bytes key value others after_key after_value rest a b c = a ∙ ap (λ (l : List ℕ). key ++ l) (b ∙ ap (λ (l : List ℕ). value ++ l) c) ∙ simp append_assoc

-- ---- items

abbrev pub PartsRead : ℕ → Option Reader → Type 0
PartsRead levels None = Unit {0}
PartsRead levels (Some read) = (levels < 16) × ReadsSpelled (levels + 1) read

string_parts : (bytes : List ℕ) (major value : ℕ) (rest : List ℕ) (s : List ℕ × List ℕ) → IsStringAt value rest s → bytes ≡ head_bytes major value ++ rest → bytes ≡ (head_bytes major (length s.0) ++ s.0) ++ s.1
string_parts bytes major value rest s t is = is ∙ ap (λ (l : List ℕ). head_bytes major value ++ l) t.parts ∙ ap (λ (n : ℕ). head_bytes major n ++ (s.0 ++ s.1)) (sym t.long) ∙ sym (append_assoc (head_bytes major (length s.0)) s.0 s.1)

counted_parts : (bytes : List ℕ) (major value count : ℕ) (rest inner after : List ℕ) → bytes ≡ head_bytes major value ++ rest → value ≡ count → rest ≡ inner ++ after → bytes ≡ (head_bytes major count ++ inner) ++ after
counted_parts bytes major value count rest inner after is same parts = is ∙ ap (λ (l : List ℕ). head_bytes major value ++ l) parts ∙ ap (λ (n : ℕ). head_bytes major n ++ (inner ++ after)) same ∙ sym (append_assoc (head_bytes major count) inner after)

truth : (value : ℕ) → value < 2 → head_bytes 7 (20 + value) ≡ spell (Boolean (eqb value 1))
truth zero lt = head_small 7 20 (omega arith)
truth (suc zero) lt = head_small 7 21 (omega arith)
truth (suc (suc value)) lt = absurd (omega arith)

-- an item after its head
pub body_takes : (levels : ℕ) (parts : Option Reader) → PartsRead levels parts → (bytes : List ℕ) (value : ℕ) (rest : List ℕ) (kind : HeadKind) (x : DataItem) (after : List ℕ)
    → IsBytes rest → IsValueOf kind value → bytes ≡ head_bytes (major_of kind) (argument_of kind value) ++ rest → body_with parts bytes value rest kind ≡ Ok (x, after) → StartsWith levels x bytes after
body_takes levels parts law bytes value rest kinds.Unsigned x after fits lt is e = answered levels (UnsignedInteger value) x bytes rest after (record { valid = lt; parts = is; left = fits }) e
body_takes levels parts law bytes value rest kinds.Negative x after fits lt is e = answered levels (NegativeInteger value) x bytes rest after (record { valid = lt; parts = is; left = fits }) e
body_takes levels parts law bytes value rest kinds.Bytes x after fits lt is e =
    bind_ok _ _ _ e (λ s s-is e.
    let t = string_takes value rest s fits (stopped_ok bytes _ s s-is) in
    let valid : IsString s.0 = (omega arith, all_bytes s.0 t.bytes) in
    answered levels (ByteString s.0) x bytes s.1 after (record { valid = valid; parts = string_parts bytes 2 value rest s t is; left = t.left }) e)
body_takes levels parts law bytes value rest kinds.Text x after fits lt is e =
    bind_ok _ _ _ e (λ s s-is e.
    let both = text_takes value rest s fits (stopped_ok bytes _ s s-is) in
    let t = both.0 in
    let valid : IsString s.0 = (omega arith, all_bytes s.0 t.bytes) in
    answered levels (TextString s.0) x bytes s.1 after (record { valid = (valid, both.1); parts = string_parts bytes 3 value rest s t is; left = t.left }) e)
body_takes levels None law bytes value rest kinds.Array x after fits lt is e = absurd cc
body_takes levels None law bytes value rest kinds.Map x after fits lt is e = absurd cc
body_takes levels None law bytes value rest kinds.Tag x after fits lt is e = absurd cc
body_takes levels (Some read) law bytes value rest kinds.Array x after fits lt is e =
    bind_ok _ _ _ e (λ xs xs-is e.
    let t = items_takes (levels + 1) read law.1 value rest xs.0 xs.1 fits xs-is in
    let valid : IsValidWithin levels (ArrayOf (items_of xs.0)) = (law.0, subst (λ (n : ℕ). n < 2 ^ 64) (sym t.counted) lt, t.valid) in
    answered levels (ArrayOf (items_of xs.0)) x bytes xs.1 after (record { valid = valid; parts = counted_parts bytes 4 value (item_count (items_of xs.0)) rest (spell_items (items_of xs.0)) xs.1 is (sym t.counted) t.parts; left = t.left }) e)
body_takes levels (Some read) law bytes value rest kinds.Map x after fits lt is e =
    bind_ok _ _ _ e (λ ps ps-is e.
    let t = pairs_takes (levels + 1) read law.1 None value rest ps.0 ps.1 fits ps-is in
    let valid : IsValidWithin levels (MapOf (pairs_of ps.0)) = (law.0, subst (λ (n : ℕ). n < 2 ^ 64) (sym t.counted) lt, t.valid) in
    answered levels (MapOf (pairs_of ps.0)) x bytes ps.1 after (record { valid = valid; parts = counted_parts bytes 5 value (pair_count (pairs_of ps.0)) rest (spell_pairs (pairs_of ps.0)) ps.1 is (sym t.counted) t.parts; left = t.left }) e)
body_takes levels (Some read) law bytes value rest kinds.Tag x after fits lt is e =
    bind_ok _ _ _ e (λ inner inner-is e.
    let t = law.1 rest inner.0 inner.1 fits inner-is in
    answered levels (TaggedItem value inner.0) x bytes inner.1 after (record { valid = (law.0, lt, t.valid); parts = counted_parts bytes 6 value value rest (spell inner.0) inner.1 is refl t.parts; left = t.left }) e)
body_takes levels parts law bytes value rest kinds.Bool x after fits lt is e = answered levels (Boolean (eqb value 1)) x bytes rest after (record { valid = tt; parts = is ∙ ap (λ (l : List ℕ). l ++ rest) (truth value lt); left = fits }) e
body_takes levels parts law bytes value rest kinds.Null x after fits lt is e = answered levels NullItem x bytes rest after (record { valid = tt; parts = is ∙ ap (λ (l : List ℕ). l ++ rest) (ap (λ (n : ℕ). head_bytes 7 (22 + n)) lt ∙ head_small 7 22 (omega arith)); left = fits }) e

whole_takes : (levels : ℕ) (parts : Option Reader) → PartsRead levels parts → ReadsSpelled levels (item_with parts)
whole_takes levels parts law bytes x rest fits e =
    bind_ok _ _ _ e (λ h h-is e.
    let begins = head_takes bytes h.0 h.1 fits (stopped_ok bytes _ h h-is) in
    let left : IsBytes h.1 = IsBytes-rest _ h.1 (subst IsBytes begins.parts fits) in
    body_takes levels parts law bytes h.0.value h.1 h.0.kind x rest left begins.value begins.parts e)

pub item_takes : (k levels : ℕ) → levels + k ≡ 16 → ReadsSpelled levels (item_at k)
unfolding item_at
item_takes zero levels sum bytes x rest fits e = whole_takes levels None tt bytes x rest fits e
item_takes (suc k) levels sum bytes x rest fits e =
    let deeper : (levels + 1) + k ≡ 16 = omega arith in
    whole_takes levels (Some (item_at k)) (omega arith, item_takes k (levels + 1) deeper) bytes x rest fits e
