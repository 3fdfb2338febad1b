-- Each target of a procedure of the grammar is one of its components.
use Rattle.std.proofs.Common.{ℕ, ◌<◌, inl, inr, List, [], ◌∷◌, arith}
use Rattle.std.specs.List.{AllByRecursion}
use Rattle.suit_params.specs.declared.param.Param.{Param}
use Rattle.suit_params.specs.declared.param.Param.TheVariants as params
use Rattle.suit_params.specs.ParamMaking.{IsBelow}
use Rattle.suit_commands.specs.declared.selection.Selection.{Selection}
use Rattle.suit_commands.specs.declared.selection.Selection.TheVariants.{One, All, Listed}
use Rattle.suit_commands.specs.Tree.{CommandTree, Test, Act, Index, Override, TryEach, RunSequence, SequenceTree, NoSteps, StepThen, BranchesTree, NoBranches, BranchThen, NullThen, PlanTree}
use Rattle.suit_commands.specs.Allowed.{IsSelectionOf, IsPlan}
use Rattle.suit_commands.specs.Indexed.{AreIndexed, IsIndexed, BranchesIndexed}
use Rattle.suit_commands.specs.NumberLaws.{TargetLaws}
use Rattle.suit_commands.specs.Selections.{Among, selected_by, selected_after}
use Rattle.suit_commands.specs.Targets.{Writes, CommandWrites, BranchesWrite, NamesSource, Sources, CommandSources, BranchesSource, InSome}
use Rattle.suit_commands.proofs.BitLaws.{range_from}
use Rattle.suit_commands.proofs.IndexedSteps.{member_indexed, shared_indexed}

-- all of the list are components
abbrev pub AreBelow : ℕ → List ℕ → Type 0
AreBelow count selected = (i : ℕ) → Among i selected → i < count

pub below_one : (count i : ℕ) → i < count → AreBelow count (i ∷ [])
below_one count i lt j (inl e) = omega arith
below_one count i lt j (inr h) = absurd h

listed_below : (count : ℕ) (is : List ℕ) → AllByRecursion (λ i. i < count) is → AreBelow count is
listed_below count [] all i h = absurd h
listed_below count (x ∷ is) all i (inl e) = let lt : x < count = all.0 in omega (arith, e, lt)
listed_below count (x ∷ is) all i (inr h) = listed_below count is all.1 i h

selection_below : (count : ℕ) (selection : Selection) → IsSelectionOf count selection → AreBelow count (selected_by selection count)
selection_below count (One component) h = below_one count component h
selection_below count All h = λ i w. let r = range_from count 0 i w in omega (arith, r.1)
selection_below count (Listed is) h = listed_below count is h.1

pub after_below : (count : ℕ) (command : CommandTree) (selected : List ℕ) → IsIndexed count command → AreBelow count selected → AreBelow count (selected_after command count selected)
after_below count (Test kind report) selected h below = below
after_below count (Act kind report) selected h below = below
after_below count (Index selection) selected h below = selection_below count selection h
after_below count (Override list) selected h below = below
after_below count (TryEach branches) selected h below = below
after_below count (RunSequence inner) selected h below = below

mutual
  writes_below : (s : SequenceTree) (count : ℕ) (selected : List ℕ) (c : ℕ) → AreIndexed count s → AreBelow count selected → Writes s count selected c → c < count
  writes_below NoSteps count selected c indexed below h = absurd h
  writes_below (StepThen place command rest) count selected c indexed below (inl h) = command_below command count selected c indexed.0 below h
  writes_below (StepThen place command rest) count selected c indexed below (inr h) = writes_below rest count (selected_after command count selected) c indexed.1 (after_below count command selected indexed.0 below) h

  command_below : (command : CommandTree) (count : ℕ) (selected : List ℕ) (c : ℕ) → IsIndexed count command → AreBelow count selected → CommandWrites command count selected c → c < count
  command_below (Test kind report) count selected c indexed below h = absurd h
  command_below (Act kind report) count selected c indexed below h = below c h.1
  command_below (Index selection) count selected c indexed below h = absurd h
  command_below (Override list) count selected c indexed below h = absurd h
  command_below (TryEach branches) count selected c indexed below h = branches_below branches count h.0 c indexed (below h.0 h.1) h.2
  command_below (RunSequence inner) count selected c indexed below h = writes_below inner count (h.0 ∷ []) c indexed (below_one count h.0 (below h.0 h.1)) h.2

  branches_below : (branches : BranchesTree) (count outer c : ℕ) → BranchesIndexed count branches → outer < count → BranchesWrite branches count outer c → c < count
  branches_below NoBranches count outer c indexed lt h = absurd h
  branches_below (BranchThen inner rest) count outer c indexed lt (inl h) = writes_below inner count (outer ∷ []) c indexed.0 (below_one count outer lt) h
  branches_below (BranchThen inner rest) count outer c indexed lt (inr h) = branches_below rest count outer c indexed.1 lt h
  branches_below (NullThen rest) count outer c indexed lt h = branches_below rest count outer c indexed lt h

source_below : (list : List Param) (count c : ℕ) → AllByRecursion (IsBelow count) list → NamesSource list c → c < count
source_below [] count c all h = absurd h
source_below (params.Source i ∷ list) count c all (inl e) = let lt : i < count = all.0 in omega (arith, e, lt)
source_below (params.Source i ∷ list) count c all (inr h) = source_below list count c all.1 h
source_below (params.Vendor x ∷ list) count c all h = source_below list count c all.1 h
source_below (params.Class x ∷ list) count c all h = source_below list count c all.1 h
source_below (params.Device x ∷ list) count c all h = source_below list count c all.1 h
source_below (params.Digest x ∷ list) count c all h = source_below list count c all.1 h
source_below (params.Slot x ∷ list) count c all h = source_below list count c all.1 h
source_below (params.Strict x ∷ list) count c all h = source_below list count c all.1 h
source_below (params.Soft x ∷ list) count c all h = source_below list count c all.1 h
source_below (params.Size x ∷ list) count c all h = source_below list count c all.1 h
source_below (params.Content x ∷ list) count c all h = source_below list count c all.1 h
source_below (params.Uri x ∷ list) count c all h = source_below list count c all.1 h
source_below (params.Args x ∷ list) count c all h = source_below list count c all.1 h

mutual
  pub sources_below : (s : SequenceTree) (count c : ℕ) → AreIndexed count s → Sources s c → c < count
  sources_below NoSteps count c indexed h = absurd h
  sources_below (StepThen place command rest) count c indexed (inl h) = command_sources_below command count c indexed.0 h
  sources_below (StepThen place command rest) count c indexed (inr h) = sources_below rest count c indexed.1 h

  command_sources_below : (command : CommandTree) (count c : ℕ) → IsIndexed count command → CommandSources command c → c < count
  command_sources_below (Test kind report) count c indexed h = absurd h
  command_sources_below (Act kind report) count c indexed h = absurd h
  command_sources_below (Index selection) count c indexed h = absurd h
  command_sources_below (Override list) count c indexed h = source_below list count c indexed h
  command_sources_below (TryEach branches) count c indexed h = branches_sources_below branches count c indexed h
  command_sources_below (RunSequence inner) count c indexed h = sources_below inner count c indexed h

  branches_sources_below : (branches : BranchesTree) (count c : ℕ) → BranchesIndexed count branches → BranchesSource branches c → c < count
  branches_sources_below NoBranches count c indexed h = absurd h
  branches_sources_below (BranchThen inner rest) count c indexed (inl h) = sources_below inner count c indexed.0 h
  branches_sources_below (BranchThen inner rest) count c indexed (inr h) = branches_sources_below rest count c indexed.1 h
  branches_sources_below (NullThen rest) count c indexed h = branches_sources_below rest count c indexed h

-- what follows from each sequence that has the property follows if some sequence of the procedure has it
pub in_some : (plan : PlanTree) (has : SequenceTree → Type 0) (A : Type 0) → IsPlan plan → ((s : SequenceTree) → AreIndexed plan.count s → has s → A) → InSome plan has → A
in_some plan has A allowed each (inl h) = each plan.shared (shared_indexed plan.count plan.shared allowed.shared) h
in_some plan has A allowed each (inr (inl h)) = each plan.first (member_indexed plan.count plan.first allowed.first) h
in_some plan has A allowed each (inr (inr (inl h))) = each plan.second (member_indexed plan.count plan.second allowed.second) h
in_some plan has A allowed each (inr (inr (inr h))) = each plan.third (member_indexed plan.count plan.third allowed.third) h

pub target_laws : TargetLaws
target_laws plan allowed c (inl h) =
    let some : 0 < plan.count = omega (arith, allowed.some_components) in
    in_some plan (λ s. Writes s plan.count (0 ∷ []) c) (c < plan.count) allowed (λ s indexed w. writes_below s plan.count (0 ∷ []) c indexed (below_one plan.count 0 some) w) h
target_laws plan allowed c (inr h) = in_some plan (λ s. Sources s c) (c < plan.count) allowed (λ s indexed w. sources_below s plan.count c indexed w) h.1
