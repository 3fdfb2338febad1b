use Rattle.std.proofs.Common.{ap, refl}
use Rattle.path_checker.proofs.DirectiveLeaves.{Explores-swap, Explores-no_swap}
use Rattle.path_checker.proofs.judge_plan.directives.swap.Goals as goal

pub returns-in_ok-add_swap-in-Some : goal.returns-in_ok-add_swap-in-Some
returns-in_ok-add_swap-in-Some c = λ place. Explores-swap place c.args.component _ c.args.k.now _ c.k.inside.params (ap (λ k. k.state.parameters) c.k.view_is) c.in-Some.ensures (rw (← c.k.view_is, c.in_ok-add_swap-in-Some.ensures) refl)

pub returns-in-None : goal.returns-in-None
returns-in-None c = λ place. Explores-no_swap place c.args.component c.args.k.now c.k.inside.params (ap (λ k. k.state.parameters) c.k.view_is) c.in-None.ensures
