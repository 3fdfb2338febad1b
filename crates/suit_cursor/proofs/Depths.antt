-- At most eight levels nest, wherever a walk is.
use Rattle.std.proofs.Common.{◌≡◌, ℕ, zero, suc, ◌+◌, ◌≤◌, ◌<◌, ◌^◌, Bool, List, [], ◌∷◌, ◌++◌, length, Option, Some, None, refl, sym, ap, subst, arith}
use Rattle.suit_params.specs.Refusing.{SaysWhole}
use Rattle.suit_commands.specs.Allowed.{levels_allowed}
use Rattle.suit_commands.specs.Depth.{sequence_depth, command_depth, branches_depth}
use Rattle.suit_commands.specs.Sequences.{SaysSequence}
use Rattle.suit_commands.specs.Tree.{CommandTree, Test, Act, Index, Override, TryEach, RunSequence, SequenceTree, NoSteps, StepThen, BranchesTree, NoBranches, BranchThen, NullThen}
use Rattle.suit_commands.proofs.SequenceLawProofs.{sequence_laws}
use Rattle.suit_cursor.specs.Spelled.{AreShortSteps, AreShortBranches}
use Rattle.suit_cursor.specs.Walking.{Level, branches_of, branch_at, at_first}
use Rattle.suit_cursor.specs.Within.{IsLevel, AreLevels}
use Rattle.suit_cursor.proofs.Lengths.{step_short, whole_short, branches_short, branch_short}

-- ---- parts are no deeper than the whole

some_depth : (s : SequenceTree) → 1 ≤ sequence_depth s
some_depth NoSteps = omega arith
some_depth (StepThen place c rest) = omega (arith, some_depth rest)

branches_deep : (c : CommandTree) → branches_depth (branches_of c) ≤ command_depth c
branches_deep (Test kind report) = omega arith
branches_deep (Act kind report) = omega arith
branches_deep (Index selection) = omega arith
branches_deep (Override list) = omega arith
branches_deep (TryEach bs) = omega arith
branches_deep (RunSequence inner) = omega arith

branch_deep : (bs : BranchesTree) (n : ℕ) (s : SequenceTree) → branch_at bs n ≡ Some s → 1 + sequence_depth s ≤ branches_depth bs
branch_deep NoBranches n s is = absurd cc
branch_deep (BranchThen inner rest) zero s is = let same : inner ≡ s = cc in omega (arith, ap sequence_depth same)
branch_deep (BranchThen inner rest) (suc n) s is = omega (arith, branch_deep rest n s is)
branch_deep (NullThen rest) zero s is = absurd cc
branch_deep (NullThen rest) (suc n) s is = omega (arith, branch_deep rest n s is)

-- ---- levels

first : (around : ℕ) (s : SequenceTree) → sequence_depth s + around ≤ 8 → AreShortSteps s → IsLevel around (at_first s)
first around s deep short = record {
  steps_deep = deep;
  branches_deep = omega (arith, deep, some_depth s);
  steps_short = short;
  branches_short = omega arith;
}

-- sequences in bytes that were judged
pub started : (shared : Bool) (count place : ℕ) (bytes : List ℕ) (s : SequenceTree) → SaysWhole (SaysSequence shared count levels_allowed) place bytes s → length bytes < 2 ^ 32
    → IsLevel 0 (at_first s)
started shared count place bytes s said short =
    let deep = sequence_laws.eight_levels shared count s (sequence_laws.allowed shared count levels_allowed place said.item s said.spells.valid said.says_so) in
    first 0 s (omega (arith, deep)) (whole_short s bytes (sequence_laws.again shared count levels_allowed place bytes s said) short)

pub moved : (around : ℕ) (level : Level) (place : ℕ) (c : CommandTree) (rest : SequenceTree) → level.left ≡ StepThen place c rest → IsLevel around level
    → IsLevel around (record { left = rest; branches = branches_of c })
moved around level place c rest is was =
    let deep = ap sequence_depth is in
    let short = step_short place c rest (subst AreShortSteps is was.steps_short) in
    record {
      steps_deep = omega (arith, deep, was.steps_deep);
      branches_deep = omega (arith, deep, was.steps_deep, branches_deep c);
      steps_short = short.1;
      branches_short = branches_short c short.0;
    }

pub ended : (around : ℕ) (level : Level) → level.left ≡ NoSteps → IsLevel around level → IsLevel around (at_first NoSteps)
ended around level is was = first around NoSteps (omega (arith, ap sequence_depth is, was.steps_deep)) (omega arith)

pub entered : (around n : ℕ) (level : Level) (s : SequenceTree) → branch_at level.branches n ≡ Some s → IsLevel around level → IsLevel (around + 1) (at_first s) × (around < 7)
entered around n level s is was =
    let deep = branch_deep level.branches n s is in
    (first (around + 1) s (omega (arith, deep, was.branches_deep)) (branch_short level.branches n s is was.branches_short), omega (arith, deep, was.branches_deep, some_depth s))

-- ---- lists of them

pub one_more : (around : ℕ) (levels : List Level) (level : Level) → AreLevels around levels → IsLevel (around + length levels) level → AreLevels around (levels ++ level ∷ [])
one_more around [] level are is = (subst (λ (n : ℕ). IsLevel n level) (omega arith) is, tt)
one_more around (l ∷ ls) level are is = (are.0, one_more (suc around) ls level are.1 (subst (λ (n : ℕ). IsLevel n level) (omega arith) is))

pub one_less : (around : ℕ) (levels : List Level) (level : Level) → AreLevels around (levels ++ level ∷ []) → AreLevels around levels × IsLevel (around + length levels) level
one_less around [] level are = (tt, subst (λ (n : ℕ). IsLevel n level) (omega arith) are.0)
one_less around (l ∷ ls) level are =
    let others = one_less (suc around) ls level are.1 in
    ((are.0, others.0), subst (λ (n : ℕ). IsLevel n level) (omega arith) others.1)
