-- The plays of the parts of a procedure.
use Rattle.std.specs.Prelude.{ℕ, Bool, true, false, List, Option, Some, None}
use Rattle.suit_commands.specs.Tree.{CommandTree, Test, Act, Index, Override, TryEach, RunSequence, SequenceTree, BranchesTree, PlanTree}
use Rattle.suit_commands.specs.declared.kinds.TestKind.{TestKind}
use Rattle.suit_commands.specs.declared.kinds.ActKind.{ActKind}
use Rattle.path_model.specs.Plays.{Play, nothing, each, overriding, running_inner, sequence_play, command_play, branches_play, starting}
use Rattle.path_model.specs.DevicePlays.{condition_play, directive_play}
use Rattle.path_model.specs.RecalledPlays.{Recalling}
use Rattle.path_model.specs.KeepingPlays.{keeping_condition, keeping_directive, keeping_play}
use Rattle.step_machine.specs.declared.stop.Stop.{Stop}
use Rattle.step_machine.specs.declared.stop.Stop.TheVariants as stops
use Rattle.step_machine.specs.Running.{Part}
use Rattle.step_machine.specs.Stages.{KeptPart, Terms}

-- ---- on the device alone

abbrev pub test_part : TestKind → ℕ → ℕ → Part
test_part kind place component setting = condition_play setting kind place component

abbrev pub act_part : ActKind → ℕ → ℕ → Part
act_part kind place component setting = directive_play setting kind place component

-- ---- where outcomes are recalled and kept

abbrev pub keeping_tests : Terms → TestKind → ℕ → ℕ → Play Recalling
keeping_tests terms = keeping_condition terms.may_fail terms.setting

abbrev pub keeping_acts : Terms → ActKind → ℕ → ℕ → Play Recalling
keeping_acts terms = keeping_directive terms.may_fail terms.setting

abbrev pub nothing_part : KeptPart
nothing_part terms = nothing Recalling

abbrev pub sequence_part : SequenceTree → ℕ → KeptPart
sequence_part sequence count terms =
    sequence_play Recalling (keeping_tests terms) (keeping_acts terms) count sequence

-- a member or the shared sequence
abbrev pub starting_part : SequenceTree → ℕ → KeptPart
starting_part sequence count terms =
    starting Recalling (keeping_tests terms) (keeping_acts terms) count sequence

abbrev pub plan_part : PlanTree → KeptPart
plan_part plan terms = keeping_play terms.may_fail plan terms.setting

abbrev pub command_part : CommandTree → ℕ → ℕ → KeptPart
command_part command count place terms =
    command_play Recalling (keeping_tests terms) (keeping_acts terms) count command place

abbrev pub branches_part : BranchesTree → ℕ → ℕ → ℕ → KeptPart
branches_part branches count place component terms =
    branches_play Recalling (keeping_tests terms) (keeping_acts terms) count branches place
    component

abbrev pub kept_test_part : TestKind → ℕ → ℕ → KeptPart
kept_test_part kind place component terms = keeping_tests terms kind place component

abbrev pub kept_act_part : ActKind → ℕ → ℕ → KeptPart
kept_act_part kind place component terms = keeping_acts terms kind place component

-- a command at one component; set component index does nothing there
abbrev pub at_part : CommandTree → ℕ → ℕ → ℕ → KeptPart
at_part (Test kind report) count place component = kept_test_part kind place component
at_part (Act kind report) count place component = kept_act_part kind place component
at_part (Index selection) count place component = nothing_part
at_part (Override list) count place component = λ terms. overriding Recalling list component
at_part (TryEach branches) count place component = branches_part branches count place component
at_part (RunSequence inner) count place component =
    λ terms. running_inner Recalling (sequence_part inner count terms) component

-- a command at each of these components
abbrev pub each_part : CommandTree → ℕ → ℕ → List ℕ → KeptPart
each_part command count place components terms =
    each Recalling (λ c. at_part command count place c terms) components

-- how the stop of an inner sequence stops the outer one, which has this soft failure; an inner one that failed softly
-- does not
abbrev pub passed_on : Stop → Bool → Option Stop
passed_on (stops.Condition place true) soft_failure = None
passed_on (stops.Condition place false) soft_failure = Some (stops.Condition place soft_failure)
passed_on (stops.Directive place cause) soft_failure = Some (stops.Directive place cause)
