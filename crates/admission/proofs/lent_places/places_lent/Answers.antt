use Rattle.std.proofs.Common.{◌≡◌, ℕ, ◌<◌, ◌≤◌, List, [], length, get_or, subst, ◌∙◌, arith}
use Rattle.std.proofs.lemmas.List.{length-set}
use Rattle.flash_layout.specs.declared.layout.Entry.{Entry}
use Rattle.flash_layout.specs.Placement.{ArePlaces, HasPlace, IsFirstUnknown, IsUnknown}
use Rattle.admission.proofs.LentIds.{left_first, next_left, none_after, one_placed, other_default, other_places}
use Rattle.admission.proofs.lent_places.places_lent.Goals as goal

-- what stands of the identifier that is lent next stands of the one at its place
moved : (P : List (List ℕ) → Type 0) (ids left : List (List (List ℕ))) (k : ℕ) (e d : List (List ℕ)) → k < length ids → get_or left 0 e ≡ get_or ids k e → get_or ids k e ≡ get_or ids k d → P (get_or left 0 e)
    → P (get_or ids k d)
moved P ids left k e d lt first same p = subst P (first ∙ same) p

pub returns-in-None-clause-unknown : goal.returns-in-None-clause-unknown
returns-in-None-clause-unknown c =
    let ids = c.args.ids in
    let inv = c.loop-k.invariant in
    let lt : c.loop-k.k < length ids = omega (arith, c.loop-k-test.true, inv.count) in
    let first = left_first ids c.loop-k.ids c.loop-k.k [] lt inv.left in
    subst (λ (l : List Entry). IsFirstUnknown l ids c.loop-k.k) c.as_slice-entries.ensures
    (record {
      inside = lt;
      lacks = λ d. moved (IsUnknown c.as_slice-entries.result.now) ids c.loop-k.ids c.loop-k.k [] d lt first (other_default ids c.loop-k.k [] d lt) c.in-None.ensures.found;
      before = λ j d below. (get_or c.loop-k.layout_index j 0, inv.each j below d);
    })

pub loop-k-preserved : goal.loop-k-preserved
loop-k-preserved c =
    let ids = c.args.ids in
    let inv = c.loop-k.invariant in
    let lt : c.loop-k.k < length ids = omega (arith, c.loop-k-test.true, inv.count) in
    let room : c.loop-k.k < length c.loop-k.layout_index = omega (arith, lt, c.requires.components, inv.long) in
    let first = left_first ids c.loop-k.ids c.loop-k.k [] lt inv.left in
    record {
      left = next_left ids c.loop-k.k c.find_next.new.ids c.next.new.self c.next.result lt (c.in-Some.ensures.same ∙ inv.left) c.next.ensures;
      count = inv.count;
      each = one_placed c.as_slice-entries.result.now ids c.loop-k.layout_index c.loop-k.k c.in-Some.i room
          (λ d. moved (λ (id : List (List ℕ)). HasPlace c.as_slice-entries.result.now id c.in-Some.i) ids c.loop-k.ids c.loop-k.k [] d lt first (other_default ids c.loop-k.k [] d lt) c.in-Some.ensures.found) inv.each;
      rest = none_after c.loop-k.layout_index c.loop-k.k c.in-Some.i inv.rest;
      long = length-set c.loop-k.layout_index c.loop-k.k c.in-Some.i ∙ inv.long;
    }

pub returns-clause-ok : goal.returns-clause-ok
returns-clause-ok c =
    let ids = c.args.ids in
    let inv = c.loop-k.invariant in
    let high : c.loop-k.k ≤ length ids = omega (arith, inv.count) in
    subst (λ (l : List Entry). ArePlaces l ids (record { count = c.len-count.result; layout_index = c.loop-k.layout_index })) c.as_slice-entries.ensures
    (record {
      count = inv.count;
      each = λ k d lt. inv.each k (omega (arith, lt, c.loop-k-test.false, inv.count)) d;
      rest = λ k le. inv.rest k (omega (arith, le, high));
    })

pub returns-clause-other : goal.returns-clause-other
returns-clause-other c = other_places c.args.layout.now c.args.ids _ (returns-clause-ok c)
