use Rattle.std.proofs.Common.{length}
use Rattle.suit_commands.specs.View.{command_tree}
use Rattle.path_checker.proofs.Walking.{does_course}
use Rattle.path_checker.proofs.Passing.{Passed}
use Rattle.path_checker.proofs.judge_plan.straight.straight.Given as goal

abbrev pub invariant-loop-one : goal.invariant-loop-one
invariant-loop-one l = Passed (does_course (command_tree l.step.command) l.count l.step.place) l.fn.from.items l.now.items l.next.items

abbrev pub decreases-loop-one : goal.decreases-loop-one
decreases-loop-one l = length l.now.items
