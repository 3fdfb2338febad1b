use Rattle.std.proofs.Common.{ℕ, ◌<◌, ◌≤◌, ◌^◌, [], length, get_or, refl, sym, ap, subst, ◌∙◌, arith}
use Rattle.std.specs.Prelude.{IsOk}
use Rattle.std.proofs.lemmas.List.{length-replicate, length-set}
use Rattle.flash_layout.specs.PageReading.{identifier_at}
use Rattle.flash_layout.specs.Placement.{ArePlaces}
use Rattle.flash_layout.proofs.Found.{first_unknown, all_placed, one_placed, none_after, other_places}
use Rattle.flash_layout.proofs.SpelledPlaces.{array_ok, array_is, identifier_ok, identifier_is, zeros_at}
use Rattle.flash_layout.proofs.spelled_places.places_spelled.Goals as goal

pub unwrap-count-requires : goal.unwrap-count-requires
unwrap-count-requires c =
    array_ok c.args.identifiers.now c.new-items.result c.requires.components.0 c.read_array.result c.read_array.new.item
    c.new-items.ensures c.requires.components.1 (λ i. omega (arith, c.type_inv.identifiers i)) (omega arith) c.read_array.ensures

pub loop-k-init : goal.loop-k-init
loop-k-init c =
    let fits : length c.args.identifiers.now < 2 ^ 64 = omega arith in
    let passed = array_is c.args.identifiers.now c.new-items.result c.requires.components.0 c.read_array.result c.read_array.new.item
    c.new-items.ensures c.requires.components.1 (λ i. omega (arith, c.type_inv.identifiers i)) fits c.read_array.ensures c.unwrap-count.result c.unwrap-count.ensures in
    record {
      left = λ ids is. (array_is c.args.identifiers.now c.new-items.result ids c.read_array.result c.read_array.new.item c.new-items.ensures is (λ i. omega (arith, c.type_inv.identifiers i)) fits c.read_array.ensures c.unwrap-count.result c.unwrap-count.ensures).left;
      count = λ ids is. (array_is c.args.identifiers.now c.new-items.result ids c.read_array.result c.read_array.new.item c.new-items.ensures is (λ i. omega (arith, c.type_inv.identifiers i)) fits c.read_array.ensures c.unwrap-count.result c.unwrap-count.ensures).count;
      each = λ ids is j lt d. absurd (omega (arith, lt));
      rest = λ j le. zeros_at 8 j;
      long = length-replicate {A = ℕ} 8 0;
      bytes = passed.bytes;
      room = passed.room;
    }

pub unwrap-item-requires : goal.unwrap-item-requires
unwrap-item-requires c =
    let some = c.requires.components in
    identifier_ok c.loop-k.items some.0 c.loop-k.k c.read_item.result c.read_item.new.cursor (c.loop-k.invariant.left some.0 some.1)
    (omega (arith, c.loop-k-test.true, c.loop-k.invariant.count some.0 some.1)) c.loop-k.invariant.bytes c.loop-k.invariant.room c.read_item.ensures.exact

pub find_spelled-requires : goal.find_spelled-requires
find_spelled-requires c =
    let some = c.requires.components in
    let passed = identifier_is c.loop-k.items some.0 c.loop-k.k c.read_item.result c.read_item.new.cursor (c.loop-k.invariant.left some.0 some.1)
    (omega (arith, c.loop-k-test.true, c.loop-k.invariant.count some.0 some.1)) c.loop-k.invariant.bytes c.loop-k.invariant.room c.read_item.ensures.exact c.unwrap-item.result c.unwrap-item.ensures in
    subst IsOk (sym (ap identifier_at c.bytes_left.ensures ∙ passed.named [])) refl

pub overflow_cast-layout_index : goal.overflow_cast-layout_index
overflow_cast-layout_index c =
    let some = c.requires.components in
    let passed = identifier_is c.loop-k.items some.0 c.loop-k.k c.read_item.result c.read_item.new.cursor (c.loop-k.invariant.left some.0 some.1)
    (omega (arith, c.loop-k-test.true, c.loop-k.invariant.count some.0 some.1)) c.loop-k.invariant.bytes c.loop-k.invariant.room c.read_item.ensures.exact c.unwrap-item.result c.unwrap-item.ensures in
    let has = c.in-Some.ensures (get_or some.0 c.loop-k.k []) (ap identifier_at c.bytes_left.ensures ∙ passed.named []) in
    omega (arith, has.0, c.requires.entries, ap length c.as_slice-entries.ensures)

pub offset_bounds-layout_index-k : goal.offset_bounds-layout_index-k
offset_bounds-layout_index-k c = let some = c.requires.components in omega (arith, c.loop-k-test.true, c.loop-k.invariant.count some.0 some.1, some.2)

pub bounds-layout_index-k : goal.bounds-layout_index-k
bounds-layout_index-k c = let some = c.requires.components in omega (arith, c.loop-k-test.true, c.loop-k.invariant.count some.0 some.1, some.2)

pub loop-k-preserved : goal.loop-k-preserved
loop-k-preserved c =
    let some = c.requires.components in
    let below : c.loop-k.k < length some.0 = omega (arith, c.loop-k-test.true, c.loop-k.invariant.count some.0 some.1) in
    let room : c.loop-k.k < length c.loop-k.layout_index = omega (arith, below, some.2, c.loop-k.invariant.long) in
    let passed = identifier_is c.loop-k.items some.0 c.loop-k.k c.read_item.result c.read_item.new.cursor (c.loop-k.invariant.left some.0 some.1)
    below c.loop-k.invariant.bytes c.loop-k.invariant.room c.read_item.ensures.exact c.unwrap-item.result c.unwrap-item.ensures in
    record {
      left = λ ids is. (identifier_is c.loop-k.items ids c.loop-k.k c.read_item.result c.read_item.new.cursor (c.loop-k.invariant.left ids is)
          (omega (arith, c.loop-k-test.true, c.loop-k.invariant.count ids is)) c.loop-k.invariant.bytes c.loop-k.invariant.room c.read_item.ensures.exact c.unwrap-item.result c.unwrap-item.ensures).left;
      count = c.loop-k.invariant.count;
      each = λ ids is.
          let lt : c.loop-k.k < length ids = omega (arith, c.loop-k-test.true, c.loop-k.invariant.count ids is) in
          let so = identifier_is c.loop-k.items ids c.loop-k.k c.read_item.result c.read_item.new.cursor (c.loop-k.invariant.left ids is)
          lt c.loop-k.invariant.bytes c.loop-k.invariant.room c.read_item.ensures.exact c.unwrap-item.result c.unwrap-item.ensures in
          one_placed c.as_slice-entries.result.now ids c.loop-k.layout_index c.loop-k.k c.in-Some.i (get_or ids c.loop-k.k []) [] lt room refl
          (c.in-Some.ensures (get_or ids c.loop-k.k []) (ap identifier_at c.bytes_left.ensures ∙ so.named [])) (c.loop-k.invariant.each ids is);
      rest = none_after c.loop-k.layout_index c.loop-k.k c.in-Some.i c.loop-k.invariant.rest;
      long = length-set c.loop-k.layout_index c.loop-k.k c.in-Some.i ∙ c.loop-k.invariant.long;
      bytes = passed.bytes;
      room = passed.room;
    }

pub overflow_cast-result : goal.overflow_cast-result
overflow_cast-result c = let some = c.requires.components in omega (arith, c.loop-k-test.true, c.loop-k.invariant.count some.0 some.1, some.2)

pub returns-in-None-clause-unknown : goal.returns-in-None-clause-unknown
returns-in-None-clause-unknown c ids is =
    let lt : c.loop-k.k < length ids = omega (arith, c.loop-k-test.true, c.loop-k.invariant.count ids is) in
    let passed = identifier_is c.loop-k.items ids c.loop-k.k c.read_item.result c.read_item.new.cursor (c.loop-k.invariant.left ids is)
    lt c.loop-k.invariant.bytes c.loop-k.invariant.room c.read_item.ensures.exact c.unwrap-item.result c.unwrap-item.ensures in
    first_unknown c.as_slice-entries.result.now c.args.layout.now ids ids c.loop-k.layout_index c.loop-k.k (get_or ids c.loop-k.k []) []
    c.as_slice-entries.ensures refl lt refl (c.in-None.ensures (get_or ids c.loop-k.k []) (ap identifier_at c.bytes_left.ensures ∙ passed.named [])) (c.loop-k.invariant.each ids is)

pub overflow_cast-result-2 : goal.overflow_cast-result-2
overflow_cast-result-2 c = let some = c.requires.components in omega (arith, c.loop-k.invariant.count some.0 some.1, some.2)

pub returns-clause-ok : goal.returns-clause-ok
returns-clause-ok c ids is =
    let count = c.loop-k.invariant.count ids is in
    let high : c.loop-k.k ≤ length ids = omega (arith, count) in
    subst (λ (n : ℕ). ArePlaces c.args.layout.now ids (record { count = n; layout_index = c.loop-k.layout_index })) (sym count)
    (all_placed c.as_slice-entries.result.now c.args.layout.now ids ids c.loop-k.layout_index c.loop-k.k
    c.as_slice-entries.ensures refl (omega (arith, c.loop-k-test.false, count)) high (c.loop-k.invariant.each ids is) c.loop-k.invariant.rest)

pub returns-clause-other : goal.returns-clause-other
returns-clause-other c ids is = other_places c.args.layout.now ids _ (returns-clause-ok c ids is)
