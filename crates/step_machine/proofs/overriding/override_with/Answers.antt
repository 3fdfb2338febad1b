use Rattle.std.proofs.Common.{◌∙◌, sym, ap}
use Rattle.std.specs.Prelude.{Bool}
use Rattle.suit_params.specs.InForce.{Parameters, overridden}
use Rattle.step_machine.specs.Running.{selected_list}
use Rattle.step_machine.proofs.Sourcing.{override_is}
use Rattle.step_machine.proofs.overriding.override_with.Goals as goal

pub returns-clause-after : goal.returns-clause-after
returns-clause-after c =
    let ps = c.args.state.now.params in
    let selection = selected_list c.args.state.now.selected in
    let soft = c.args.state.now.soft_failure in
    let list = c.args.list in
    ap (λ (x : Parameters). record { parameters = x; selection = selection; soft_failure = c.override_with-state.result }) c.override_with-state.ensures.exact
    ∙ ap (λ (b : Bool). record { parameters = overridden ps c.args.component list; selection = selection; soft_failure = b }) c.override_with-state.ensures.soft
    ∙ sym (override_is ps selection soft c.args.component list)
