use Rattle.path_checker.proofs.Counting.{range_more}
use Rattle.path_checker.proofs.judge_plan.selected.numbers.Goals as goal

pub loop-component-preserved : goal.loop-component-preserved
loop-component-preserved c = range_more c.loop-component.component c.loop-component.held.items c.push.new.self.items c.loop-component.invariant c.in_ok-push.ensures.items
