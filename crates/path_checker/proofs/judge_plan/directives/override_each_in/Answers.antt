use Rattle.std.proofs.Common.{◌++◌, ap, ◌∙◌}
use Rattle.path_checker.specs.Happening.{sets_at}
use Rattle.path_checker.specs.Steps.{overridden_at, soft_at}
use Rattle.path_checker.proofs.OverridesEach.{Explores-sets}
use Rattle.path_checker.proofs.judge_plan.directives.override_each_in.Goals as goal

pub returns : goal.returns
returns c =
    Explores-sets c.args.list.now c.args.k.now c.k.inside.facts c.k.inside.history _ c.k.inside.params _ c.k.inside.selection c.k.inside.soft_failure _ c.k.view_is
    (c.in_ok-add_sets.ensures ∙ ap (λ cs. c.k.inside.history ++ sets_at cs c.args.list.now) c.components.ensures)
    (c.in_ok-override_all.ensures ∙ ap (λ cs. overridden_at c.k.inside.params cs c.args.list.now) (c.deref.ensures.value ∙ c.in_ok-components.ensures.value))
    (c.soft_at-k-inside.ensures ∙ ap (λ cs. soft_at c.k.inside.soft_failure cs c.args.list.now) (c.deref-2.ensures.value ∙ c.in_ok-components.ensures.value))
