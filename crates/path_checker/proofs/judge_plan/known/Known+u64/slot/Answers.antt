use Rattle.std.proofs.Common.{ℕ, List, Option, Some, sym, subst}
use Rattle.path_checker.specs.Exploring.{In}
use Rattle.path_checker.specs.Knowing.{Known, Agrees, AgreesWith}
use Rattle.path_checker.proofs.Outside.{outside_none}
use Rattle.path_checker.proofs.judge_plan.known.Known+u64.slot.Goals as goal

pub returns-in-None : goal.returns-in-None
returns-in-None c =
    let out : In c.least_outside.result c.self.inside.others.items → ⊥ = subst (λ (xs : List ℕ). In c.least_outside.result xs → ⊥) c.deref.ensures.value c.least_outside.ensures.outside in
    subst (λ (k : Known ℕ). Agrees k (Some c.least_outside.result)) c.self.view_is
    (subst (λ (o : Option ℕ). AgreesWith o c.self.inside.others.items (Some c.least_outside.result)) (sym c.in-None.is) (outside_none c.least_outside.result c.self.inside.others.items out))
