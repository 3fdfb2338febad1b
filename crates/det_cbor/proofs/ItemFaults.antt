-- An item that is refused is faulty.
use Rattle.std.proofs.Common.{◌≡◌, ℕ, zero, suc, ◌+◌, ◌^◌, ◌<◌, ◌≤◌, List, ◌++◌, length, Option, Some, None, Err, refl, sym, ap, subst, ◌∙◌, append_assoc, arith}
use Rattle.std.specs.declared.cmp.Ordering.{Ordering}
use Rattle.std.specs.declared.cmp.Ordering.TheVariants.{Less, Equal, Greater}
use Rattle.std.specs.Ordering.{nat_cmp}
use Rattle.std.specs.Cmp.Lexicographic.{slice_cmp}
use Rattle.std.proofs.lemmas.List.{length-append}
use Rattle.det_cbor.specs.declared.head.HeadKind.{HeadKind}
use Rattle.det_cbor.specs.declared.head.HeadKind.TheVariants as kinds
use Rattle.det_cbor.specs.declared.reason.Reason.{Reason}
use Rattle.det_cbor.specs.declared.reason.Reason.TheVariants.{TooDeep}
use Rattle.det_cbor.specs.declared.reason.Stop.{Stop}
use Rattle.det_cbor.specs.DataItem.{DataItem, DataPairs, spell, spell_items, spell_pairs, IsValidWithin}
use Rattle.det_cbor.specs.Faults.{last_key, StartsMap, OfArray, OfMap, OfKey, OfTag, Faulty, FaultyHead, DeepHead, SameKey, LowKey}
use Rattle.det_cbor.specs.Heads.{head_bytes}
use Rattle.det_cbor.specs.HeadSpelling.{major_of, argument_of, IsValueOf}
use Rattle.det_cbor.specs.HeadReading.{head_at, place_in}
use Rattle.det_cbor.specs.ItemReading.{Reader, stop_at, string_at, text_at, ascending, body_with, item_with, item_at}
use Rattle.det_cbor.specs.ResultLaws.{bind_err, same_err}
use Rattle.det_cbor.specs.ArgumentLaws.{IsBytes, IsBytes-rest}
use Rattle.det_cbor.proofs.Heads.{head_takes}
use Rattle.det_cbor.proofs.HeadFaults.{head_bad}
use Rattle.det_cbor.proofs.KeyOrder.{equal_keys, above_is_below}
use Rattle.det_cbor.proofs.ItemTakes.{ReadsSpelled, stopped_ok, item_takes}
use Rattle.det_cbor.proofs.StringFaults.{fault_here, stopped_err, string_fault, text_fault}
pub use Rattle.det_cbor.proofs.StringFaults.{IsFault, StopsFaulty, stop_place}
use Rattle.det_cbor.proofs.PartFaults.{part_fault, items_fault, PairsFault, InKey, InValue, Disorder, pairs_fault}

abbrev pub PartsStop : ℕ → Option Reader → Type 0
PartsStop levels None = 16 ≤ levels
PartsStop levels (Some read) = (levels < 16) × ReadsSpelled (levels + 1) read × StopsFaulty (levels + 1) read

in_front : (bytes head parts rest after : List ℕ) → bytes ≡ head ++ rest → rest ≡ parts ++ after → bytes ≡ (head ++ parts) ++ after
in_front bytes head parts rest after a b = a ∙ ap (λ (l : List ℕ). head ++ l) b ∙ sym (append_assoc head parts after)

deep : (levels major : ℕ) (bytes : List ℕ) (value : ℕ) (rest : List ℕ) (s : Stop) → 16 ≤ levels → 4 ≤ major → major ≤ 6 → value < 2 ^ 64 → bytes ≡ head_bytes major value ++ rest → stop_at bytes TooDeep ≡ s → IsFault levels bytes s
deep levels major bytes value rest s full ge le lt is stop = fault_here levels bytes TooDeep s (subst (λ (l : List ℕ). Faulty levels l 0 TooDeep) (sym is) (DeepHead levels major value rest full ge le lt)) stop

key_fault : (levels : ℕ) (before : DataPairs) (front : List ℕ) (key : DataItem) (rest last : List ℕ) (reason : Reason) → levels < 16 → StartsMap (levels + 1) before front → IsValidWithin (levels + 1) key → last_key None before ≡ Some last
    → (o : Ordering) → slice_cmp nat_cmp last (spell key) ≡ o → ascending o ≡ Err reason → Faulty levels (front ++ (spell key ++ rest)) (length front) reason
key_fault levels before front key rest last reason lt starts valid last-is Less o-is e = absurd cc
key_fault levels before front key rest last reason lt starts valid last-is Equal o-is e =
    let same : last ≡ spell key = equal_keys last (spell key) o-is in
    subst (λ (r : Reason). Faulty levels (front ++ (spell key ++ rest)) (length front) r) (same_err _ _ e) (SameKey levels before front key rest lt starts valid (last-is ∙ ap Some same))
key_fault levels before front key rest last reason lt starts valid last-is Greater o-is e =
    subst (λ (r : Reason). Faulty levels (front ++ (spell key ++ rest)) (length front) r) (same_err _ _ e) (LowKey levels before front key rest last lt starts valid last-is (above_is_below last (spell key) o-is))

map_fault : (levels count : ℕ) (bytes rest : List ℕ) (s : Stop) → levels < 16 → count < 2 ^ 64 → bytes ≡ head_bytes 5 count ++ rest → PairsFault (levels + 1) None count rest s → IsFault levels bytes s
map_fault levels count bytes rest s lt fits is (InKey before after b parts fault) =
    let front = head_bytes 5 count ++ spell_pairs before in
    let starts : StartsMap (levels + 1) before front = record { count = count; fits = fits; more = b.more; valid = b.valid; is = refl } in
    part_fault levels bytes front after s lt (OfMap before front starts) (in_front bytes (head_bytes 5 count) (spell_pairs before) rest after is parts) fault
map_fault levels count bytes rest s lt fits is (InValue before key after b valid above parts fault) =
    let front = head_bytes 5 count ++ spell_pairs before in
    let starts : StartsMap (levels + 1) before front = record { count = count; fits = fits; more = b.more; valid = b.valid; is = refl } in
    part_fault levels bytes (front ++ spell key) after s lt (OfKey before front key starts valid above) (in_front bytes (head_bytes 5 count) (spell_pairs before) rest (spell key ++ after) is parts ∙ sym (append_assoc front (spell key) after)) fault
map_fault levels count bytes rest s lt fits is (Disorder before key after last b valid last-is order left parts) =
    let front = head_bytes 5 count ++ spell_pairs before in
    let starts : StartsMap (levels + 1) before front = record { count = count; fits = fits; more = b.more; valid = b.valid; is = refl } in
    let whole : bytes ≡ front ++ (spell key ++ after) = in_front bytes (head_bytes 5 count) (spell_pairs before) rest (spell key ++ after) is parts in
    record {
      place = length front;
      faulty = subst (λ (l : List ℕ). Faulty levels l (length front) s.reason) (sym whole) (key_fault levels before front key after last s.reason lt starts valid last-is (slice_cmp nat_cmp last (spell key)) refl order);
      sum = omega (arith, left, ap length whole, length-append front (spell key ++ after));
    }

body_fault : (levels : ℕ) (parts : Option Reader) → PartsStop levels parts → (bytes : List ℕ) (value : ℕ) (rest : List ℕ) (kind : HeadKind) (s : Stop)
    → IsBytes rest → IsValueOf kind value → bytes ≡ head_bytes (major_of kind) (argument_of kind value) ++ rest → body_with parts bytes value rest kind ≡ Err s → IsFault levels bytes s
body_fault levels parts law bytes value rest kinds.Unsigned s fits lt is e = absurd cc
body_fault levels parts law bytes value rest kinds.Negative s fits lt is e = absurd cc
body_fault levels parts law bytes value rest kinds.Bytes s fits lt is e =
    bind_err _ _ _ e
    (λ f. let stop = stopped_err bytes (string_at value rest) s f in string_fault levels bytes 2 value rest stop.0 s (omega arith) (omega arith) lt is stop.1 stop.2)
    (λ t t-is never. absurd cc)
body_fault levels parts law bytes value rest kinds.Text s fits lt is e =
    bind_err _ _ _ e
    (λ f. let stop = stopped_err bytes (text_at value rest) s f in text_fault levels bytes value rest stop.0 s fits lt is stop.1 stop.2)
    (λ t t-is never. absurd cc)
body_fault levels None law bytes value rest kinds.Array s fits lt is e = deep levels 4 bytes value rest s law (omega arith) (omega arith) lt is (same_err _ _ e)
body_fault levels None law bytes value rest kinds.Map s fits lt is e = deep levels 5 bytes value rest s law (omega arith) (omega arith) lt is (same_err _ _ e)
body_fault levels None law bytes value rest kinds.Tag s fits lt is e = deep levels 6 bytes value rest s law (omega arith) (omega arith) lt is (same_err _ _ e)
body_fault levels (Some read) law bytes value rest kinds.Array s fits lt is e =
    bind_err _ _ _ e
    (λ f.
    let a = items_fault (levels + 1) read law.1 law.2 value rest s fits f in
    part_fault levels bytes (head_bytes 4 value ++ spell_items a.before) a.rest s law.0 (OfArray value a.before lt a.more a.valid) (in_front bytes (head_bytes 4 value) (spell_items a.before) rest a.rest is a.parts) a.fault)
    (λ xs xs-is never. absurd cc)
body_fault levels (Some read) law bytes value rest kinds.Map s fits lt is e =
    bind_err _ _ _ e
    (λ f. map_fault levels value bytes rest s law.0 lt is (pairs_fault (levels + 1) read law.1 law.2 None value rest s fits f))
    (λ ps ps-is never. absurd cc)
body_fault levels (Some read) law bytes value rest kinds.Tag s fits lt is e =
    bind_err _ _ _ e
    (λ f. part_fault levels bytes (head_bytes 6 value) rest s law.0 (OfTag value lt) is (law.2 rest s fits f))
    (λ x x-is never. absurd cc)
body_fault levels parts law bytes value rest kinds.Bool s fits lt is e = absurd cc
body_fault levels parts law bytes value rest kinds.Null s fits lt is e = absurd cc

whole_fault : (levels : ℕ) (parts : Option Reader) → PartsStop levels parts → StopsFaulty levels (item_with parts)
whole_fault levels parts law bytes s fits e =
    bind_err _ _ _ e
    (λ f. let stop = stopped_err bytes (head_at bytes) s f in fault_here levels bytes stop.0 s (FaultyHead levels bytes (place_in bytes stop.0) stop.0 (head_bad bytes stop.0 fits stop.1)) stop.2)
    (λ h h-is e.
    let begins = head_takes bytes h.0 h.1 fits (stopped_ok bytes _ h h-is) in
    let left : IsBytes h.1 = IsBytes-rest _ h.1 (subst IsBytes begins.parts fits) in
    body_fault levels parts law bytes h.0.value h.1 h.0.kind s left begins.value begins.parts e)

pub item_fault : (k levels : ℕ) → levels + k ≡ 16 → StopsFaulty levels (item_at k)
unfolding item_at
item_fault zero levels sum bytes s fits e = whole_fault levels None (omega arith) bytes s fits e
item_fault (suc k) levels sum bytes s fits e =
    let deeper : (levels + 1) + k ≡ 16 = omega arith in
    whole_fault levels (Some (item_at k)) (omega arith, item_takes k (levels + 1) deeper, item_fault k (levels + 1) deeper) bytes s fits e
