-- How much work it is to judge a procedure: its work and its ways (this project's own bounds, over unbounded
-- numbers).
use Rattle.std.specs.Prelude.{ℕ, zero, suc, ◌+◌, ◌*◌, length}
use Rattle.suit_commands.specs.declared.selection.Selection.{Selection}
use Rattle.suit_commands.specs.declared.selection.Selection.TheVariants.{One, All, Listed}
use Rattle.suit_commands.specs.Tree.{CommandTree, Test, Act, Index, Override, TryEach, RunSequence, SequenceTree, NoSteps, StepThen, BranchesTree, NoBranches, BranchThen, NullThen, PlanTree}

-- how many indices a selection has
abbrev pub selected_count : Selection → ℕ → ℕ
selected_count (One component) count = 1
selected_count All count = count
selected_count (Listed components) count = length components

-- how many indices are selected after a command
abbrev pub count_after : CommandTree → ℕ → ℕ → ℕ
count_after (Index selection) count selected = selected_count selection count
count_after _ count selected = selected

-- ---- work: how many commands are executed, counting each once for each selected component

abbrev mutual
  pub work_of : SequenceTree → ℕ → ℕ → ℕ
  work_of NoSteps count selected = 0
  work_of (StepThen place command rest) count selected =
      command_work command count selected + work_of rest count (count_after command count selected)

  pub command_work : CommandTree → ℕ → ℕ → ℕ
  command_work (Test kind report) count selected = selected
  command_work (Act kind report) count selected = selected
  command_work (Index selection) count selected = 1
  command_work (Override list) count selected = selected
  command_work (TryEach tries) count selected = selected * (1 + branches_work tries count)
  command_work (RunSequence inner) count selected = selected * (1 + work_of inner count 1)

  pub branches_work : BranchesTree → ℕ → ℕ
  branches_work NoBranches count = 0
  branches_work (BranchThen inner rest) count = work_of inner count 1 + branches_work rest count
  branches_work (NullThen rest) count = branches_work rest count

-- ---- ways: in how many ways a sequence may complete, and in how many a condition may end it

pub record Ways : Type 0 where
  pub on : ℕ
  pub off : ℕ

-- at the beginning: one way to go on, and none that a condition ended
abbrev pub start_ways : Ways
start_ways = record { on = 1; off = 0 }

-- a step, repeated n times
abbrev pub times : {A : Type 0} → ℕ → (A → A) → A → A
times zero step a = a
times (suc n) step a = step (times n step a)

-- in each way so far, the condition may fail
abbrev pub after_test : Ways → Ways
after_test ways = record { on = ways.on; off = ways.off + ways.on }

-- if a condition ends an inner sequence, either the next command follows or the whole sequence ends
abbrev pub after_inner : Ways → Ways → Ways
after_inner inner ways =
    record { on = ways.on * (inner.on + inner.off); off = ways.off + ways.on * inner.off }

-- a try each that completes in `done` ways and fails in `failed` ways
abbrev pub after_tries : ℕ → ℕ → Ways → Ways
after_tries done failed ways = record { on = ways.on * done; off = ways.off + ways.on * failed }

abbrev mutual
  pub ways_of : SequenceTree → ℕ → ℕ → Ways → Ways
  ways_of NoSteps count selected ways = ways
  ways_of (StepThen place command rest) count selected ways =
      ways_of rest count (count_after command count selected)
      (command_ways command count selected ways)

  pub command_ways : CommandTree → ℕ → ℕ → Ways → Ways
  command_ways (Test kind report) count selected ways = times selected after_test ways
  command_ways (Act kind report) count selected ways = ways
  command_ways (Index selection) count selected ways = ways
  command_ways (Override list) count selected ways = ways
  command_ways (TryEach tries) count selected ways =
      times selected (after_tries (branches_done tries count) (branches_failed tries count)) ways
  command_ways (RunSequence inner) count selected ways =
      times selected (after_inner (ways_of inner count 1 start_ways)) ways

  -- the sum over the branches of the ways in which one completes after all before it failed
  pub branches_done : BranchesTree → ℕ → ℕ
  branches_done NoBranches count = 0
  branches_done (BranchThen inner rest) count =
      (ways_of inner count 1 start_ways).on
      + (ways_of inner count 1 start_ways).off * branches_done rest count
  branches_done (NullThen rest) count = 1

  -- the product over the branches of the ways in which they fail
  pub branches_failed : BranchesTree → ℕ → ℕ
  branches_failed NoBranches count = 1
  branches_failed (BranchThen inner rest) count =
      (ways_of inner count 1 start_ways).off * branches_failed rest count
  branches_failed (NullThen rest) count = 0

-- ---- procedures: each member, with the shared sequence before it

-- the work of the shared sequence and of the member after it
abbrev pub member_work : PlanTree → SequenceTree → ℕ
member_work plan member = work_of plan.shared plan.count 1 + work_of member plan.count 1

-- the work of the procedure: the sum over its members
abbrev pub work_number : PlanTree → ℕ
work_number plan =
    member_work plan plan.first + member_work plan plan.second + member_work plan plan.third

-- in how many ways the sequence may complete if one component is selected at its beginning
abbrev pub on_number : PlanTree → SequenceTree → ℕ
on_number plan s = (ways_of s plan.count 1 start_ways).on

-- in how many ways the shared sequence and the member after it may complete
abbrev pub member_spread : PlanTree → SequenceTree → ℕ
member_spread plan member = on_number plan plan.shared * on_number plan member

-- in how many ways all members may complete, one after another
abbrev pub spread_number : PlanTree → ℕ
spread_number plan =
    member_spread plan plan.first * member_spread plan plan.second * member_spread plan plan.third

-- the work, counted once for each of these ways
abbrev pub width_number : PlanTree → ℕ
width_number plan = work_number plan * spread_number plan
