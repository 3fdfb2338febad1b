-- Where a walk through a sequence of commands is, and how it moves on, enters and leaves.
use Rattle.std.specs.Prelude.{◌≡◌, ◌⊎◌, ℕ, zero, suc, List, [], ◌∷◌, ◌++◌, Option, Some, None, refl}
use Rattle.std.specs.Coded.{Coded, code_by, coded×, coded_list, coded_ℕ}
use Rattle.suit_commands.specs.Codes.{coded_sequence, coded_branches}
use Rattle.suit_commands.specs.Tree.{CommandTree, TryEach, RunSequence, SequenceTree, NoSteps, BranchesTree, NoBranches, BranchThen, NullThen}

-- a sequence that was entered: its steps that are left, and the branches of the command that was returned
-- last
pub record Level : Type 0 where
  pub left : SequenceTree
  pub branches : BranchesTree

-- the sequence that was entered last, those around it with the outermost first, and the number of components
pub record Standing : Type 0 where
  pub here : Level
  pub outer : List Level
  pub count : ℕ

-- ---- one-to-one codes

abbrev pub coded_level : Coded Level
coded_level =
    code_by (SequenceTree × BranchesTree) (coded× coded_sequence coded_branches)
    (λ l. (l.left, l.branches))
    (λ p. record { left = p.0; branches = p.1 }) (λ _. refl)

abbrev pub coded_standing : Coded Standing
coded_standing =
    code_by (Level × (List Level × ℕ)) (coded× coded_level (coded× (coded_list coded_level) coded_ℕ))
    (λ s. (s.here, (s.outer, s.count)))
    (λ p. record { here = p.0; outer = p.1.0; count = p.1.1 }) (λ _. refl)

-- ---- branches

-- the branches of a try each; a run sequence has one branch, and other commands have none
abbrev pub branches_of : CommandTree → BranchesTree
branches_of (TryEach branches) = branches
branches_of (RunSequence inner) = BranchThen inner NoBranches
branches_of _ = NoBranches

abbrev pub branch_count : BranchesTree → ℕ
branch_count NoBranches = 0
branch_count (BranchThen inner rest) = suc (branch_count rest)
branch_count (NullThen rest) = suc (branch_count rest)

-- the sequence of the branch with this number; a null branch has none
abbrev pub branch_at : BranchesTree → ℕ → Option SequenceTree
branch_at NoBranches n = None
branch_at (BranchThen inner rest) zero = Some inner
branch_at (BranchThen inner rest) (suc n) = branch_at rest n
branch_at (NullThen rest) zero = None
branch_at (NullThen rest) (suc n) = branch_at rest n

-- ---- where a walk is

-- before the first command of a sequence
abbrev pub at_first : SequenceTree → Level
at_first s = record { left = s; branches = NoBranches }

-- at the beginning of the outermost sequence
abbrev pub starting : ℕ → SequenceTree → Standing
starting count s = record { here = at_first s; outer = []; count = count }

-- further on in the same sequence
abbrev pub moved_on : Standing → SequenceTree → BranchesTree → Standing
moved_on before left branches = record {
  here = record { left = left; branches = branches };
  outer = before.outer;
  count = before.count;
}

-- at the beginning of a sequence inside the present one
abbrev pub inside_of : Standing → SequenceTree → Standing
inside_of before inner = record {
  here = at_first inner;
  outer = before.outer ++ before.here ∷ [];
  count = before.count;
}

-- the walk is back in the sequence around the one it was in; in the outermost one nothing changes
abbrev pub Leaves : Standing → Standing → Type 0
Leaves before after =
    ((before.outer ≡ []) × (after ≡ before))
    ⊎ ((before.outer ≡ after.outer ++ after.here ∷ []) × (after.count ≡ before.count))
