use Rattle.std.proofs.Common.{List, sym, ap, ◌∙◌, subst}
use Rattle.path_checker.specs.Exploring.{In}
use Rattle.path_checker.specs.Holding.{held_matches}
use Rattle.path_checker.specs.Matches.{Match}
use Rattle.path_checker.proofs.judge_plan.held.Held.is_within.Goals as goal

pub returns-in-Several-held : goal.returns-in-Several-held
returns-in-Several-held c t one h =
    subst (λ (ms : List Match). In one ms) (c.deref-in-Several-held.ensures ∙ sym (ap held_matches c.in-Several-held.is) ∙ c.others.view_is)
    (c.is_within.ensures t one (subst (λ (ms : List Match). In one ms) (sym (c.deref.ensures ∙ sym (ap held_matches c.in-Several.is) ∙ c.self.view_is)) h))
