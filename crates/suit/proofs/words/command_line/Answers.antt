use Rattle.std.proofs.Common.{ℕ, List, Option, subst}
use Rattle.std.specs.Prelude.{slice_get}
use Rattle.suit.specs.CommandLine.{IsFound}
use Rattle.suit.proofs.Handing.{goes_on, ends}
use Rattle.suit.proofs.words.command_line.Goals as goal

pub returns-in-None : goal.returns-in-None
returns-in-None g c told =
    ends (g.S.Source.words c.args.source.now) c.loop-index.words c.loop-index.index (c.loop-index.invariant told)
    (subst (λ (o : Option (List ℕ)). IsFound (slice_get (g.S.Source.words c.args.source.now) c.loop-index.index) o) c.in-None.is (c.in_ok-word.ensures told))

pub loop-index-preserved : goal.loop-index-preserved
loop-index-preserved g c told =
    goes_on (g.S.Source.words c.args.source.now) c.loop-index.words c.loop-index.index (c.loop-index.invariant told) c.push.new.self c.in-Some.word
    (subst (λ (o : Option (List ℕ)). IsFound (slice_get (g.S.Source.words c.args.source.now) c.loop-index.index) o) c.in-Some.is (c.in_ok-word.ensures told)) c.in_ok-push-in-Some.ensures.ok
