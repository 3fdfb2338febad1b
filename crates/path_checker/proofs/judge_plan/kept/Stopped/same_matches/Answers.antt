use Rattle.std.proofs.Common.{subst}
use Rattle.path_model.specs.Following.{SameMatches}
use Rattle.path_checker.specs.Exploring.{Stopped}
use Rattle.path_checker.specs.Happening.{after_end}
use Rattle.path_checker.proofs.StandingLaws.{same_ends}
use Rattle.path_checker.proofs.judge_plan.kept.Stopped.same_matches.Goals as goal

pub returns : goal.returns
returns c t =
    let one = after_end c.self.inside.history c.self.inside.ended c.self.inside.place in
    subst (λ (s : Stopped). SameMatches s.events c.args.other.now.events) c.self.view_is
    (subst (λ (s : Stopped). SameMatches one s.events) c.other.view_is
    (same_ends c.self.inside.history c.other.inside.history c.self.inside.ended c.other.inside.ended c.self.inside.place c.other.inside.place (c.same_matches.ensures t)))
