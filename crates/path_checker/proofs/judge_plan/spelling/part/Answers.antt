use Rattle.std.proofs.Common.{[], ◌∷◌, Option, sym, subst, inl, refl}
use Rattle.std.specs.Borrow.{Bor}
use Rattle.suit_commands.specs.Plans.{lent_tree}
use Rattle.suit_commands.specs.Tree.{SequenceTree}
use Rattle.path_model.specs.Behaviour.{Done}
use Rattle.path_checker.specs.Exploring.{Leads}
use Rattle.path_checker.specs.Steps.{RunsAll}
use Rattle.path_checker.proofs.Carrying.{Explores-nothing}
use Rattle.path_checker.proofs.judge_plan.spelling.part.Goals as goal

pub returns-in-None-clause-ok : goal.returns-in-None-clause-ok
returns-in-None-clause-ok c =
    subst (λ (lent : Option (Bor SequenceTree)). Leads (RunsAll (lent_tree lent) c.args.count) (c.args.k ∷ []) c.args.k.facts c.args.k.events (Done c.args.k.state)) (sym c.in-None.is) ((Explores-nothing (c.args.k ∷ [])).reached c.args.k (inl refl))
