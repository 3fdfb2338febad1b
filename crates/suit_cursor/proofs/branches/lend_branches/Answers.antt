use Rattle.std.proofs.Common.{Option, Result, sym, ap}
use Rattle.det_cbor.specs.Position.{Position}
use Rattle.suit_params.specs.declared.refusal.Refusal.{Refusal}
use Rattle.suit_commands.specs.Judged.{inner_by, behind}
use Rattle.suit_commands.specs.Tree.{SequenceTree}
use Rattle.suit_commands.proofs.JudgingSteps.{branch_judged}
use Rattle.suit_cursor.proofs.branches.lend_branches.Goals as goal

pub loop-done-preserved : goal.loop-done-preserved
loop-done-preserved c =
    branch_judged (inner_by c.args.rules) c.args.number c.loop-done.done c.loop-done.cursor c.lend_branch.new.cursor _ c.loop-done-test.true
    (sym (ap (λ (r : Result (Option SequenceTree × Position) Refusal). behind r) c.lend_branch.ensures)) c.loop-done.invariant
