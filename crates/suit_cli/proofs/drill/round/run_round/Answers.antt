use Rattle.conformance.specs.Rounds.{said_by}
use Rattle.suit_cli.proofs.DrillRun.{runs_round, words_are}
use Rattle.suit_cli.proofs.drill.round.run_round.Goals as goal

pub update_on-requires-clause-words : goal.update_on-requires-clause-words
update_on-requires-clause-words c = words_are c.args.draw.now c.args.sequence (said_by c.in_ok-round.round) _ c.in_ok-round.ensures.says

pub returns-clause-runs : goal.returns-clause-runs
returns-clause-runs c =
    runs_round c.args.sequence c.args.draw.now _ (said_by c.in_ok-round.round) c.in_ok-round.ensures.says c.in_ok-host.host c.in_ok-host.ensures _ c.in_ok-flash.ensures.files
    _ _ _ _ _ _ c.in_ok-flash.ensures.updates c.in_ok-flash.ensures.lives c.in_ok-flash-2.ensures.boots c.in_ok-flash-2.ensures.lives
