use Rattle.std.proofs.Common.{[], ◌∷◌, refl}
use Rattle.std.proofs.lemmas.List.{append-nil}
use Rattle.path_checker.proofs.DirectiveLeaves.{Adds-overrides}
use Rattle.path_checker.proofs.Passing.{Explores-added}
use Rattle.path_checker.proofs.judge_plan.directives.override_in.Goals as goal

pub returns : goal.returns
returns c =
    Explores-added _ (c.args.k.now ∷ []) _
    (Adds-overrides c.args.list.now c.args.component c.args.k.now _ [] _ (rw (← c.k.view_is, c.in_ok-add_sets.ensures, c.in_ok-override_with.ensures, c.soft_after_all-k-inside.ensures, append-nil) refl) refl)
