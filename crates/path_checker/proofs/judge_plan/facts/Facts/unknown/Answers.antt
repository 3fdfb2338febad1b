use Rattle.path_checker.proofs.Counting.{nothing_more}
use Rattle.path_checker.proofs.judge_plan.facts.Facts.unknown.Goals as goal

pub loop-preserved : goal.loop-preserved
loop-preserved c = nothing_more c.loop.counter c.loop.held.items c.push.new.self.items c.in_ok-known.known c.loop.invariant c.in_ok-known.ensures c.in_ok-push.ensures.items
