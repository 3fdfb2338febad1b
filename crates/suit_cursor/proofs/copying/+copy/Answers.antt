use Rattle.std.proofs.Common.{◌≡◌, ◌<◌, sym, subst, arith}
use Rattle.suit_commands.specs.Size.{branches_size}
use Rattle.suit_commands.specs.Tree.{SequenceTree, BranchesTree}
use Rattle.suit_commands.specs.View.{command_tree}
use Rattle.suit_commands.proofs.ReadingSteps.{steps_append, branches_append}
use Rattle.suit_cursor.specs.Lending.{command_of, branch_of}
use Rattle.suit_cursor.proofs.TreeCopies.{branch_size, step_smaller, branch_smaller, step_copied, branch_copied, steps_copied, branches_copied}
use Rattle.suit_cursor.proofs.copying.+copy.Goals as goal

pub copy_branches-copy_branch-requires : goal.copy_branches-copy_branch-requires
copy_branches-copy_branch-requires t c =
    let e : branch_size (branch_of c.in-Some.branch) < branches_size c.loop-branch.left = (branch_smaller c.loop-branch.left c.next.new.self (branch_of c.in-Some.branch) c.in-Some.ensures).0 in
    (omega (arith, e, c.decreases, c.loop-branch.invariant.1), tt)

pub copy_branches-loop-branch-preserved : goal.copy_branches-loop-branch-preserved
copy_branches-loop-branch-preserved t c =
    let smaller = branch_smaller c.loop-branch.left c.next.new.self (branch_of c.in-Some.branch) c.in-Some.ensures in (
      subst (λ (made : BranchesTree). branches_append made c.next.new.self ≡ c.args.left) (sym c.in_ok-push.ensures.ok)
          (branch_copied c.loop-branch.branches c.loop-branch.left c.next.new.self c.args.left (branch_of c.in-Some.branch) c.in_ok-copy_branch.field-0 c.in-Some.ensures c.in_ok-copy_branch.ensures c.loop-branch.invariant.0),
      omega (arith, smaller.1, c.loop-branch.invariant.1),
    )

pub copy_branches-returns : goal.copy_branches-returns
copy_branches-returns t c = branches_copied c.loop-branch.branches c.loop-branch.left c.args.left c.in_default.ensures.0 c.loop-branch.invariant.0

pub copy_sequence-loop-step-preserved : goal.copy_sequence-loop-step-preserved
copy_sequence-loop-step-preserved t c =
    let smaller = step_smaller c.loop-step.left c.next.new.self c.in-Some.step.place (command_of c.in-Some.step.command) c.in-Some.ensures in (
      subst (λ (made : SequenceTree). steps_append made c.next.new.self ≡ c.args.left) (sym c.in_ok-push.ensures.ok)
          (step_copied c.loop-step.sequence c.loop-step.left c.next.new.self c.args.left c.in-Some.step.place (command_of c.in-Some.step.command) (command_tree c.in_ok-command.command) c.in-Some.ensures c.in_ok-command.ensures c.loop-step.invariant.0),
      omega (arith, smaller.1, c.loop-step.invariant.1),
    )

pub copy_sequence-returns : goal.copy_sequence-returns
copy_sequence-returns t c = steps_copied c.loop-step.sequence c.loop-step.left c.args.left c.in_default.ensures.0 c.loop-step.invariant.0
