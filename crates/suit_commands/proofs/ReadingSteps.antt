-- Reading indices, branches and commands, one by one.
use Rattle.std.proofs.Common.{◌≡◌, ℕ, suc, ◌+◌, ◌-◌, ◌<◌, ◌≤◌, Bool, eqb, List, [], ◌∷◌, ◌++◌, Option, Some, None, Result, Ok, Err, refl, sym, ap, ◌∙◌, append_assoc, arith}
use Rattle.det_cbor.specs.HeadReading.{◌>>=◌}
use Rattle.det_cbor.specs.Position.{Position}
use Rattle.suit_params.specs.declared.refusal.Refusal.{Refusal}
use Rattle.suit_commands.specs.SequenceJudging.{branch_before}
use Rattle.suit_commands.specs.SequenceReading.{InnerReader, element_from, indices_from, branch_from, branches_from, step_from, steps_from}
use Rattle.suit_commands.specs.Tree.{CommandTree, SequenceTree, NoSteps, StepThen, BranchesTree, NoBranches, BranchThen, NullThen}
use Rattle.suit_commands.specs.View.{step_after, branch_after}

-- ---- indices

-- the indices read before, in front of those that are read
abbrev pub with_indices : List ℕ → Result (List ℕ × Position) Refusal → Result (List ℕ × Position) Refusal
with_indices front (Ok x) = Ok (front ++ x.0, x.1)
with_indices front (Err r) = Err r

one_index : (front : List ℕ) (i : ℕ) (r : Result (List ℕ × Position) Refusal) → with_indices front (r >>= λ is. Ok (i ∷ is.0, is.1)) ≡ with_indices (front ++ i ∷ []) r
one_index front i (Ok is) = ap (λ (l : List ℕ). Ok (l, is.1)) (sym (append_assoc front (i ∷ []) is.0))
one_index front i (Err r) = refl

pub indices_step : (count list : ℕ) (front : List ℕ) (elements done : ℕ) (at next : Position) (i : ℕ) (total : Result (List ℕ × Position) Refusal) → done < elements → element_from count list at ≡ Ok (i, next)
    → with_indices front (indices_from count list (elements - done) at) ≡ total → with_indices (front ++ i ∷ []) (indices_from count list (elements - (done + 1)) next) ≡ total
indices_step count list front elements done at next i total lt e so_far =
    let one : elements - done ≡ suc (elements - (done + 1)) = omega arith in
    let step : with_indices front (indices_from count list (elements - done) at) ≡ with_indices (front ++ i ∷ []) (indices_from count list (elements - (done + 1)) next) = rw (one, e) (one_index front i (indices_from count list (elements - (done + 1)) next)) in
    sym step ∙ so_far

-- ---- branches

abbrev pub branches_append : BranchesTree → BranchesTree → BranchesTree
branches_append NoBranches others = others
branches_append (BranchThen s rest) others = BranchThen s (branches_append rest others)
branches_append (NullThen rest) others = NullThen (branches_append rest others)

abbrev pub with_branches : BranchesTree → Result (BranchesTree × Position) Refusal → Result (BranchesTree × Position) Refusal
with_branches front (Ok x) = Ok (branches_append front x.0, x.1)
with_branches front (Err r) = Err r

branches_end : (front : BranchesTree) → branches_append front NoBranches ≡ front
branches_end NoBranches = refl
branches_end (BranchThen s rest) = ap (BranchThen s) (branches_end rest)
branches_end (NullThen rest) = ap NullThen (branches_end rest)

pub branches_done : (inner : InnerReader) (front : BranchesTree) (number done : ℕ) (at : Position) (total : Result (BranchesTree × Position) Refusal) → number ≤ done
    → with_branches front (branches_from inner (number - done) at) ≡ total → total ≡ Ok (front, at)
branches_done inner front number done at total le so_far =
    let none : number - done ≡ 0 = omega arith in
    let last : with_branches front (branches_from inner (number - done) at) ≡ Ok (front, at) = rw none (ap (λ (t : BranchesTree). Ok (t, at)) (branches_end front)) in
    sym so_far ∙ last

branch_moves : (front : BranchesTree) (b : Option SequenceTree) (others : BranchesTree) → branches_append front (branch_before b others) ≡ branches_append (branch_after front b) others
branch_moves NoBranches (Some s) others = refl
branch_moves NoBranches None others = refl
branch_moves (BranchThen s rest) b others = ap (BranchThen s) (branch_moves rest b others)
branch_moves (NullThen rest) b others = ap NullThen (branch_moves rest b others)

one_branch : (front : BranchesTree) (b : Option SequenceTree) (r : Result (BranchesTree × Position) Refusal) → with_branches front (r >>= λ bs. Ok (branch_before b bs.0, bs.1)) ≡ with_branches (branch_after front b) r
one_branch front b (Ok bs) = ap (λ (t : BranchesTree). Ok (t, bs.1)) (branch_moves front b bs.0)
one_branch front b (Err r) = refl

pub branches_step : (inner : InnerReader) (front : BranchesTree) (number done : ℕ) (at next : Position) (b : Option SequenceTree) (total : Result (BranchesTree × Position) Refusal)
    → done < number → branch_from inner (eqb (number - done - 1) 0) at ≡ Ok (b, next)
    → with_branches front (branches_from inner (number - done) at) ≡ total → with_branches (branch_after front b) (branches_from inner (number - (done + 1)) next) ≡ total
branches_step inner front number done at next b total lt e so_far =
    let one : number - done ≡ suc (number - (done + 1)) = omega arith in
    let others : number - done - 1 ≡ number - (done + 1) = omega arith in
    let found : branch_from inner (eqb (number - (done + 1)) 0) at ≡ Ok (b, next) = ap (λ (n : ℕ). branch_from inner (eqb n 0) at) (sym others) ∙ e in
    let step : with_branches front (branches_from inner (number - done) at) ≡ with_branches (branch_after front b) (branches_from inner (number - (done + 1)) next) =
    rw (one, found) (one_branch front b (branches_from inner (number - (done + 1)) next)) in
    sym step ∙ so_far

-- ---- commands

abbrev pub steps_append : SequenceTree → SequenceTree → SequenceTree
steps_append NoSteps others = others
steps_append (StepThen place command rest) others = StepThen place command (steps_append rest others)

abbrev pub with_steps : SequenceTree → Result SequenceTree Refusal → Result SequenceTree Refusal
with_steps front (Ok s) = Ok (steps_append front s)
with_steps front (Err r) = Err r

steps_end : (front : SequenceTree) → steps_append front NoSteps ≡ front
steps_end NoSteps = refl
steps_end (StepThen place command rest) = ap (StepThen place command) (steps_end rest)

pub steps_done : (inner : InnerReader) (shared : Bool) (count : ℕ) (front : SequenceTree) (steps done : ℕ) (at : Position) (total : Result SequenceTree Refusal) → steps ≤ done
    → with_steps front (steps_from inner shared count (steps - done) at) ≡ total → total ≡ Ok front
steps_done inner shared count front steps done at total le so_far =
    let none : steps - done ≡ 0 = omega arith in
    let last : with_steps front (steps_from inner shared count (steps - done) at) ≡ Ok front = rw none (ap (λ (t : SequenceTree). Ok t) (steps_end front)) in
    sym so_far ∙ last

step_moves : (front : SequenceTree) (place : ℕ) (command : CommandTree) (others : SequenceTree) → steps_append front (StepThen place command others) ≡ steps_append (step_after front place command) others
step_moves NoSteps place command others = refl
step_moves (StepThen p c rest) place command others = ap (StepThen p c) (step_moves rest place command others)

one_step : (front : SequenceTree) (place : ℕ) (command : CommandTree) (r : Result SequenceTree Refusal) → with_steps front (r >>= λ rest. Ok (StepThen place command rest)) ≡ with_steps (step_after front place command) r
one_step front place command (Ok rest) = ap (λ (t : SequenceTree). Ok t) (step_moves front place command rest)
one_step front place command (Err r) = refl

pub steps_step : (inner : InnerReader) (shared : Bool) (count : ℕ) (front : SequenceTree) (steps done : ℕ) (at next : Position) (command : CommandTree) (total : Result SequenceTree Refusal)
    → done < steps → step_from inner shared count at ≡ Ok (command, next)
    → with_steps front (steps_from inner shared count (steps - done) at) ≡ total → with_steps (step_after front at.place command) (steps_from inner shared count (steps - (done + 1)) next) ≡ total
steps_step inner shared count front steps done at next command total lt e so_far =
    let one : steps - done ≡ suc (steps - (done + 1)) = omega arith in
    let step : with_steps front (steps_from inner shared count (steps - done) at) ≡ with_steps (step_after front at.place command) (steps_from inner shared count (steps - (done + 1)) next) =
    rw (one, e) (one_step front at.place command (steps_from inner shared count (steps - (done + 1)) next)) in
    sym step ∙ so_far
