use Rattle.std.proofs.lemmas.Result.{IfOk-weaker}
use Rattle.path_checker.specs.Happening.{event_of}
use Rattle.path_checker.specs.Matches.{match_of}
use Rattle.path_checker.specs.Standing.{Gains, StandsAfter}
use Rattle.path_checker.proofs.StandingLaws.{stands_matched, stands_wrote, stands_other}
use Rattle.path_checker.proofs.judge_plan.history.stand_after.Goals as goal

pub returns-in-Matched : goal.returns-in-Matched
returns-in-Matched c =
    IfOk-weaker c.gain.result (λ _. Gains c.args.standing.now c.in-Matched.component (match_of c.in-Matched.own.now) c.gain.new.self) (λ _. StandsAfter c.args.standing.now (event_of c.args.event) c.gain.new.self)
    (λ _ gains. stands_matched c.args.standing.now c.gain.new.self c.args.event c.in-Matched.component c.in-Matched.own c.in-Matched.is gains) c.gain.ensures

pub returns-in-Wrote : goal.returns-in-Wrote
returns-in-Wrote c = stands_wrote c.args.standing.now c.lose.new.self c.args.event c.in-Wrote.component c.in-Wrote.is c.lose.ensures

pub returns-in_default : goal.returns-in_default
returns-in_default c = stands_other c.args.standing.now c.args.event c.in_default.not-Matched c.in_default.not-Wrote
