-- An array or a map with a part that is refused.
use Rattle.std.proofs.Common.{◌≡◌, ℕ, zero, suc, ◌+◌, ◌<◌, List, ◌++◌, length, Option, Some, None, Err, refl, sym, ap, subst, ◌∙◌, append_assoc, arith}
use Rattle.std.specs.declared.cmp.Ordering.{Ordering}
use Rattle.std.specs.declared.cmp.Ordering.TheVariants.{Less, Equal, Greater}
use Rattle.std.specs.Ordering.{nat_cmp}
use Rattle.std.specs.Cmp.Lexicographic.{slice_cmp}
use Rattle.std.proofs.lemmas.List.{length-append}
use Rattle.det_cbor.specs.declared.reason.Reason.{Reason}
use Rattle.det_cbor.specs.declared.reason.Reason.TheVariants.{Repeated, Order}
use Rattle.det_cbor.specs.declared.reason.Stop.{Stop}
use Rattle.det_cbor.specs.DataItem.{DataItem, DataItems, NoItems, ItemThen, DataPairs, NoPairs, PairThen, item_count, pair_count, spell, spell_items, spell_pairs, IsAbove, IsValidWithin, AreValidWithin, ArePairsWithin}
use Rattle.det_cbor.specs.Faults.{last_key, FirstParts, Faulty, FaultyPart}
use Rattle.det_cbor.specs.ItemReading.{Reader, stop_at, stopped, items_by, read_of, ascending, in_order, pairs_by}
use Rattle.det_cbor.specs.ResultLaws.{bind_err, same_err}
use Rattle.det_cbor.specs.ArgumentLaws.{IsBytes}
use Rattle.det_cbor.proofs.ItemTakes.{ReadsSpelled, stopped_ok, in_order_ok, read_of_front}
use Rattle.det_cbor.proofs.StringFaults.{IsFault, StopsFaulty, stopped_err}

pub part_fault : (levels : ℕ) (bytes front rest : List ℕ) (s : Stop) → levels < 16 → FirstParts (levels + 1) front → bytes ≡ front ++ rest → IsFault (levels + 1) rest s → IsFault levels bytes s
part_fault levels bytes front rest s lt first is fault =
    let sum = fault.sum in
    record {
      place = length front + fault.place;
      faulty = subst (λ (l : List ℕ). Faulty levels l (length front + fault.place) s.reason) (sym is) (FaultyPart levels front rest fault.place s.reason lt first fault.faulty);
      sum = omega (arith, ap length is, length-append front rest);
    }

-- of `count` items, the first ones were read and the next one is faulty
pub record ItemsFault (levels count : ℕ) (bytes : List ℕ) (s : Stop) : Type 0 where
  pub before : DataItems
  pub rest : List ℕ
  pub valid : AreValidWithin levels before
  pub more : item_count before < count
  pub parts : bytes ≡ spell_items before ++ rest
  pub fault : IsFault levels rest s

pub items_fault : (levels : ℕ) (read : Reader) → ReadsSpelled levels read → StopsFaulty levels read → (count : ℕ) (bytes : List ℕ) (s : Stop) → IsBytes bytes → items_by read count bytes ≡ Err s → ItemsFault levels count bytes s
items_fault levels read takes stops zero bytes s fits e = absurd cc
items_fault levels read takes stops (suc count) bytes s fits e =
    bind_err _ _ _ e
    (λ f. record { before = NoItems; rest = bytes; valid = tt; more = omega arith; parts = refl; fault = stops bytes s fits f })
    (λ first first-is e. bind_err _ _ _ e
    (λ f.
    let a = takes bytes first.0 first.1 fits first-is in
    let b = items_fault levels read takes stops count first.1 s a.left f in
    let fewer : item_count b.before + 1 < suc count = omega (arith, b.more) in
    record { before = ItemThen first.0 b.before; rest = b.rest; valid = (a.valid, b.valid); more = fewer; parts = a.parts ∙ ap (λ (l : List ℕ). spell first.0 ++ l) b.parts ∙ sym (append_assoc (spell first.0) (spell_items b.before) b.rest); fault = b.fault })
    (λ others others-is never. absurd cc))

-- the first ones of `count` pairs were read
pub record PairsBefore (levels : ℕ) (start : Option (List ℕ)) (count : ℕ) (before : DataPairs) : Type 0 where
  pub valid : ArePairsWithin levels start before
  pub more : pair_count before < count

pub data PairsFault (levels : ℕ) (start : Option (List ℕ)) (count : ℕ) (bytes : List ℕ) (s : Stop) : Type 0 where
  InKey : (before : DataPairs) (rest : List ℕ) → PairsBefore levels start count before → bytes ≡ spell_pairs before ++ rest → IsFault levels rest s → PairsFault levels start count bytes s
  InValue : (before : DataPairs) (key : DataItem) (rest : List ℕ) → PairsBefore levels start count before → IsValidWithin levels key → IsAbove (last_key start before) (spell key)
      → bytes ≡ spell_pairs before ++ (spell key ++ rest) → IsFault levels rest s → PairsFault levels start count bytes s
  Disorder : (before : DataPairs) (key : DataItem) (rest last : List ℕ) → PairsBefore levels start count before → IsValidWithin levels key → last_key start before ≡ Some last
      → ascending (slice_cmp nat_cmp last (spell key)) ≡ Err s.reason → s.left ≡ length (spell key ++ rest)
      → bytes ≡ spell_pairs before ++ (spell key ++ rest) → PairsFault levels start count bytes s

one_more : (levels : ℕ) (start : Option (List ℕ)) (count : ℕ) (key value : DataItem) (before : DataPairs) → IsValidWithin levels key → IsAbove start (spell key) → IsValidWithin levels value
    → PairsBefore levels (Some (spell key)) count before → PairsBefore levels start (suc count) (PairThen key value before)
one_more levels start count key value before k-ok above v-ok b = let more = b.more in record { valid = (k-ok, above, v-ok, b.valid); more = omega arith }

joined : (bytes key value pairs after rest : List ℕ) → bytes ≡ key ++ (value ++ after) → after ≡ pairs ++ rest → bytes ≡ (key ++ (value ++ pairs)) ++ rest
joined bytes key value pairs after rest a b = a ∙ ap (λ (l : List ℕ). key ++ (value ++ l)) b ∙ simp append_assoc

-- a pair was read before
later_fault : (levels : ℕ) (start : Option (List ℕ)) (count : ℕ) (bytes : List ℕ) (s : Stop) (key value : DataItem) (after : List ℕ) → IsValidWithin levels key → IsAbove start (spell key) → IsValidWithin levels value
    → bytes ≡ spell key ++ (spell value ++ after) → PairsFault levels (Some (spell key)) count after s → PairsFault levels start (suc count) bytes s
later_fault levels start count bytes s key value after k-ok above v-ok parts (InKey before rest b is fault) =
    InKey (PairThen key value before) rest (one_more levels start count key value before k-ok above v-ok b) (joined bytes (spell key) (spell value) (spell_pairs before) after rest parts is) fault
later_fault levels start count bytes s key value after k-ok above v-ok parts (InValue before k rest b valid up is fault) =
    InValue (PairThen key value before) k rest (one_more levels start count key value before k-ok above v-ok b) valid up (joined bytes (spell key) (spell value) (spell_pairs before) after (spell k ++ rest) parts is) fault
later_fault levels start count bytes s key value after k-ok above v-ok parts (Disorder before k rest last b valid last-is order left is) =
    Disorder (PairThen key value before) k rest last (one_more levels start count key value before k-ok above v-ok b) valid last-is order left (joined bytes (spell key) (spell value) (spell_pairs before) after (spell k ++ rest) parts is)

in_order_err : (start : Option (List ℕ)) (key : List ℕ) (reason : Reason) → in_order start key ≡ Err reason → (last : List ℕ) × (start ≡ Some last) × (ascending (slice_cmp nat_cmp last key) ≡ Err reason)
in_order_err None key reason e = absurd cc
in_order_err (Some last) key reason e = (last, refl, e)

-- a key out of order is a fault at that key
ascending_stop : (bytes : List ℕ) (o : Ordering) (reason : Reason) → ascending o ≡ Err reason → stop_at bytes reason ≡ record { left = length bytes; reason = reason }
ascending_stop bytes Less reason e = absurd cc
ascending_stop bytes Equal reason e = let is : Repeated ≡ reason = same_err _ _ e in subst (λ (r : Reason). stop_at bytes r ≡ record { left = length bytes; reason = r }) is refl
ascending_stop bytes Greater reason e = let is : Order ≡ reason = same_err _ _ e in subst (λ (r : Reason). stop_at bytes r ≡ record { left = length bytes; reason = r }) is refl

disorder : (levels : ℕ) (start : Option (List ℕ)) (count : ℕ) (bytes : List ℕ) (s : Stop) (key : DataItem) (rest : List ℕ) → IsValidWithin levels key → bytes ≡ spell key ++ rest
    → stopped bytes (in_order start (read_of bytes rest)) ≡ Err s → PairsFault levels start (suc count) bytes s
disorder levels start count bytes s key rest valid is e =
    let spelled : read_of bytes rest ≡ spell key = ap (λ (l : List ℕ). read_of l rest) is ∙ read_of_front (spell key) rest in
    let stop = stopped_err bytes (in_order start (read_of bytes rest)) s e in
    let order = in_order_err start (spell key) stop.0 (ap (in_order start) (sym spelled) ∙ stop.1) in
    let s-is : s ≡ record { left = length bytes; reason = stop.0 } = sym stop.2 ∙ ascending_stop bytes (slice_cmp nat_cmp order.0 (spell key)) stop.0 order.2 in
    let reason : stop.0 ≡ s.reason = sym (ap (λ (t : Stop). t.reason) s-is) in
    Disorder NoPairs key rest order.0 (record { valid = tt; more = omega arith }) valid order.1 (order.2 ∙ ap Err reason) (ap (λ (t : Stop). t.left) s-is ∙ ap length is) is

pub pairs_fault : (levels : ℕ) (read : Reader) → ReadsSpelled levels read → StopsFaulty levels read → (start : Option (List ℕ)) (count : ℕ) (bytes : List ℕ) (s : Stop) → IsBytes bytes → pairs_by read start count bytes ≡ Err s → PairsFault levels start count bytes s
pairs_fault levels read takes stops start zero bytes s fits e = absurd cc
pairs_fault levels read takes stops start (suc count) bytes s fits e =
    bind_err _ _ _ e
    (λ f. InKey NoPairs bytes (record { valid = tt; more = omega arith }) refl (stops bytes s fits f))
    (λ key key-is e.
    let k = takes bytes key.0 key.1 fits key-is in
    let spelled : read_of bytes key.1 ≡ spell key.0 = ap (λ (l : List ℕ). read_of l key.1) k.parts ∙ read_of_front (spell key.0) key.1 in
    bind_err _ _ _ e
    (λ f. disorder levels start count bytes s key.0 key.1 k.valid k.parts f)
    (λ done done-is e.
    let above : IsAbove start (spell key.0) = subst (λ (l : List ℕ). IsAbove start l) spelled (in_order_ok start (read_of bytes key.1) done (stopped_ok bytes _ done done-is)) in
    bind_err _ _ _ e
    (λ f. InValue NoPairs key.0 key.1 (record { valid = tt; more = omega arith }) k.valid above k.parts (stops key.1 s k.left f))
    (λ value value-is e.
    let v = takes key.1 value.0 value.1 k.left value-is in
    bind_err _ _ _ e
    (λ f.
    let later = pairs_fault levels read takes stops (Some (read_of bytes key.1)) count value.1 s v.left f in
    let later : PairsFault levels (Some (spell key.0)) count value.1 s = subst (λ (l : List ℕ). PairsFault levels (Some l) count value.1 s) spelled later in
    later_fault levels start count bytes s key.0 value.0 value.1 k.valid above v.valid (k.parts ∙ ap (λ (l : List ℕ). spell key.0 ++ l) v.parts) later)
    (λ others others-is never. absurd cc))))
