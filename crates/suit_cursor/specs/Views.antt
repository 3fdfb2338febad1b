-- Commands as a walk shows them, and what is left after the next one was borrowed.
use Rattle.std.specs.Prelude.{◌≡◌, ℕ, Option, Some, None}
use Rattle.suit_commands.specs.Selections.{selected_by}
use Rattle.suit_commands.specs.Tree.{CommandTree, Test, Act, Index, Override, TryEach, RunSequence, SequenceTree, NoSteps, StepThen, NoBranches}
use Rattle.suit_cursor.specs.declared.view.View.{View}
use Rattle.suit_cursor.specs.declared.view.ViewAct.{ViewAct}
use Rattle.suit_cursor.specs.declared.view.ViewAct.TheVariants as acts
use Rattle.suit_cursor.specs.declared.walk.Entered.{Entered}
use Rattle.suit_cursor.specs.declared.walk.Entered.TheVariants.{Inside, Nothing}
use Rattle.suit_cursor.specs.Walking.{Standing, branches_of, branch_count, branch_at, moved_on, inside_of}

-- what a walk shows of a command, for this number of components
abbrev pub shown : ℕ → CommandTree → ViewAct
shown count (Test kind report) = acts.Test kind report
shown count (Act kind report) = acts.Act kind report
shown count (Index selection) = acts.Index (selected_by selection count)
shown count (Override list) = acts.Override list
shown count (TryEach branches) = acts.TryEach (branch_count branches)
shown count (RunSequence inner) = acts.Run

-- the first command that is left is returned, and the walk moves past it
abbrev pub LendsView : Standing → Standing → Option View → Type 0
LendsView before after None =
    (before.here.left ≡ NoSteps) × (after ≡ moved_on before NoSteps NoBranches)
LendsView before after (Some view) =
    (command : CommandTree) × (rest : SequenceTree)
    × (before.here.left ≡ StepThen view.place command rest)
    × (view.act ≡ shown before.count command)
    × (after ≡ moved_on before rest (branches_of command))

-- the branch with this number of the command that was returned last is entered, if there is one and it is not
-- null
abbrev pub EntersBranch : Standing → Standing → Option SequenceTree → Entered → Type 0
EntersBranch before after None entered = (entered ≡ Nothing) × (after ≡ before)
EntersBranch before after (Some inner) entered =
    (entered ≡ Inside) × (after ≡ inside_of before inner)

abbrev pub Enters : Standing → Standing → ℕ → Entered → Type 0
Enters before after n entered =
    EntersBranch before after (branch_at before.here.branches n) entered
