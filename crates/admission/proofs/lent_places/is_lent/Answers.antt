use Rattle.std.proofs.Common.{◌<◌, List, ℕ, ◌++◌, length, take, get_or, sym, ap, subst, ◌∙◌}
use lib.Pointwise.{bytes_decides}
use Rattle.admission.proofs.LentIds.{behind, one_more, was_false, was_true}
use Rattle.admission.proofs.lent_places.is_lent.Goals as goal

pub returns-then-ne : goal.returns-then-ne
returns-then-ne c = (
  λ never. cc,
  λ whole.
      let id = c.args.identifier.now in
      let i = c.loop-part.part-index in
      let found = c.in-Some.found.now in
      let inside : i < length id = subst (λ (l : List (List ℕ)). i < length l) c.as_slice-part-items.ensures c.loop-part-test.true in
      let so_far = whole ∙ c.loop-part.invariant ∙ ap (λ (l : List (List ℕ)). take i id ++ l) c.in-Some.ensures in
      let there = behind id i found c.part-item.result c.next.new.self inside so_far in
      let part = ap (λ (l : List (List ℕ)). get_or l i c.part-item.result) (sym c.as_slice-part-items.ensures) ∙ sym c.part-item.is ∙ sym c.as_slice.ensures in
      absurd (was_false _ c.if-ne.ensures ((bytes_decides found c.as_slice.result.now).1 (sym there ∙ part))),
)

pub loop-part-preserved : goal.loop-part-preserved
loop-part-preserved c =
    let id = c.args.identifier.now in
    let i = c.loop-part.part-index in
    let found = c.in-Some.found.now in
    let inside : i < length id = subst (λ (l : List (List ℕ)). i < length l) c.as_slice-part-items.ensures c.loop-part-test.true in
    let same = (bytes_decides found c.as_slice.result.now).0 (was_true _ c.if-ne.ensures) in
    let part = ap (λ (l : List (List ℕ)). get_or l i c.part-item.result) (sym c.as_slice-part-items.ensures) ∙ sym c.part-item.is ∙ sym c.as_slice.ensures in
    c.loop-part.invariant ∙ ap (λ (l : List (List ℕ)). take i id ++ l) c.in-Some.ensures
    ∙ one_more id i found c.part-item.result c.next.new.self inside (part ∙ sym same)
