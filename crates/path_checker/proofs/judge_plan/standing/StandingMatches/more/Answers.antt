use Rattle.path_checker.proofs.HeldLaws.{held_more}
use Rattle.path_checker.proofs.judge_plan.standing.StandingMatches.more.Goals as goal

pub returns : goal.returns
returns c component = held_more c.args.self.now.of.items c.push.new.self.items c.none.result c.none.ensures c.in_ok-push.ensures.items component
