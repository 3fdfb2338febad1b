use Rattle.std.proofs.Common.{ℕ, ◌<◌, ◌≡◌, get_or, arith, sym, ap, ◌∙◌, subst}
use Rattle.path_checker.specs.Selecting.{components_of}
use Rattle.path_checker.specs.Small.{AreSmall}
use Rattle.path_checker.proofs.Counting.{small_at, range_at}
use Rattle.path_checker.proofs.judge_plan.selected.Selected.at.Goals as goal

pub returns-in-First-clause-value : goal.returns-in-First-clause-value
returns-in-First-clause-value c = range_at c.in-First._count c.args.index c.args.self.now (sym (ap components_of c.in-First.is) ∙ c.self.view_is) c.requires.within

pub returns-in-First-clause-small : goal.returns-in-First-clause-small
returns-in-First-clause-small c =
    let here : c.args.index ≡ get_or c.args.self.now c.args.index c.args.index = range_at c.in-First._count c.args.index c.args.self.now (sym (ap components_of c.in-First.is) ∙ c.self.view_is) c.requires.within in
    subst (λ (n : ℕ). n < 8) (sym here) (small_at c.args.self.now c.args.index c.args.index (subst AreSmall c.self.view_is c.self.invariant) c.requires.within)

pub overflow_cast-result : goal.overflow_cast-result
overflow_cast-result c =
    let here : c.args.index ≡ get_or c.args.self.now c.args.index c.args.index = range_at c.in-First._count c.args.index c.args.self.now (sym (ap components_of c.in-First.is) ∙ c.self.view_is) c.requires.within in
    let small : get_or c.args.self.now c.args.index c.args.index < 8 = small_at c.args.self.now c.args.index c.args.index (subst AreSmall c.self.view_is c.self.invariant) c.requires.within in
    omega (arith, here, small)
