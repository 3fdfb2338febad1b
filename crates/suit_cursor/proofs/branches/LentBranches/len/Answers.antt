use Rattle.std.proofs.Common.{◌∙◌, sym, ap}
use Rattle.suit_commands.specs.Judged.{inner_by}
use Rattle.suit_cursor.specs.Walking.{branch_count}
use Rattle.suit_cursor.proofs.LentBranchCounts.{branches_number}
use Rattle.suit_cursor.proofs.branches.LentBranches.len.Goals as goal

pub returns : goal.returns
returns c = sym (branches_number (inner_by c.self.inside.rules) c.self.inside.left c.self.inside.cursor c.self.invariant) ∙ ap branch_count c.self.view_is
