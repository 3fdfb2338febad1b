-- Judging indices, branches and commands, one by one.
use Rattle.std.proofs.Common.{◌≡◌, ℕ, suc, ◌+◌, ◌-◌, ◌<◌, ◌≤◌, Bool, eqb, List, ◌∷◌, Option, Result, Ok, Err, refl, sym, subst, ◌∙◌, arith}
use Rattle.std.specs.Prelude.{⊤}
use Rattle.det_cbor.specs.HeadReading.{◌>>=◌, map_ok}
use Rattle.det_cbor.specs.Position.{Position}
use Rattle.det_cbor.specs.ResultLaws.{same_ok}
use Rattle.suit_params.specs.declared.refusal.Refusal.{Refusal}
use Rattle.suit_commands.specs.Judged.{behind}
use Rattle.suit_commands.specs.SequenceJudging.{branch_before}
use Rattle.suit_commands.specs.SequenceReading.{InnerReader, element_from, indices_from, branch_from, branches_from, step_from, steps_from}
use Rattle.suit_commands.specs.Tree.{CommandTree, SequenceTree, StepThen, BranchesTree}

-- whether a sequence can be read, without the sequence
abbrev pub judged : {A : Type 0} → Result A Refusal → Result ⊤ Refusal
judged r = map_ok (λ _. tt) r

-- the position after reading does not depend on what the parts are made into
pub same_behind : {A B : Type 0} (f : A → B) (r : Result (A × Position) Refusal) → behind (r >>= λ v. Ok (f v.0, v.1)) ≡ behind r
same_behind f (Ok v) = refl
same_behind f (Err e) = refl

-- ---- indices

pub index_judged : (count list elements done : ℕ) (at next : Position) (i : ℕ) (total : Result Position Refusal) → done < elements → element_from count list at ≡ Ok (i, next)
    → behind (indices_from count list (elements - done) at) ≡ total → behind (indices_from count list (elements - (done + 1)) next) ≡ total
index_judged count list elements done at next i total lt e so_far =
    let one : elements - done ≡ suc (elements - (done + 1)) = omega arith in
    let step : behind (indices_from count list (elements - done) at) ≡ behind (indices_from count list (elements - (done + 1)) next) = rw (one, e) (same_behind (λ is. i ∷ is) (indices_from count list (elements - (done + 1)) next)) in
    sym step ∙ so_far

-- ---- branches

branch_then : (inner : InnerReader) (n : ℕ) (next : Position) (r : Result (Option SequenceTree × Position) Refusal) → ◌≡◌ {A = Result Position Refusal} (Ok next) (behind r)
    → behind (r >>= λ b. branches_from inner n b.1 >>= λ bs. Ok (branch_before b.0 bs.0, bs.1)) ≡ behind (branches_from inner n next)
branch_then inner n next (Ok b) e =
    subst (λ (q : Position). behind (branches_from inner n q >>= λ bs. Ok (branch_before b.0 bs.0, bs.1)) ≡ behind (branches_from inner n next)) (same_ok next b.1 e)
    (same_behind (branch_before b.0) (branches_from inner n next))
branch_then inner n next (Err f) e = absurd cc

pub branch_judged : (inner : InnerReader) (number done : ℕ) (at next : Position) (total : Result Position Refusal) → done < number
    → ◌≡◌ {A = Result Position Refusal} (Ok next) (behind (branch_from inner (eqb (number - done - 1) 0) at))
    → behind (branches_from inner (number - done) at) ≡ total → behind (branches_from inner (number - (done + 1)) next) ≡ total
branch_judged inner number done at next total lt e so_far =
    let one : number - done ≡ suc (number - (done + 1)) = omega arith in
    let others : number - done - 1 ≡ number - (done + 1) = omega arith in
    let found : ◌≡◌ {A = Result Position Refusal} (Ok next) (behind (branch_from inner (eqb (number - (done + 1)) 0) at)) = subst (λ (n : ℕ). ◌≡◌ {A = Result Position Refusal} (Ok next) (behind (branch_from inner (eqb n 0) at))) others e in
    let step : behind (branches_from inner (number - done) at) ≡ behind (branches_from inner (number - (done + 1)) next) =
    rw one (branch_then inner (number - (done + 1)) next (branch_from inner (eqb (number - (done + 1)) 0) at) found) in
    sym step ∙ so_far

-- ---- commands

step_then : (inner : InnerReader) (shared : Bool) (count n place : ℕ) (next : Position) (r : Result (CommandTree × Position) Refusal) → ◌≡◌ {A = Result Position Refusal} (Ok next) (behind r)
    → judged (r >>= λ c. steps_from inner shared count n c.1 >>= λ rest. Ok (StepThen place c.0 rest)) ≡ judged (steps_from inner shared count n next)
step_then inner shared count n place next (Ok c) e =
    subst (λ (q : Position). judged (steps_from inner shared count n q >>= λ rest. Ok (StepThen place c.0 rest)) ≡ judged (steps_from inner shared count n next)) (same_ok next c.1 e)
    (any (steps_from inner shared count n next))
  where
    any : (s : Result SequenceTree Refusal) → judged (s >>= λ rest. Ok (StepThen place c.0 rest)) ≡ judged s
    any (Ok rest) = refl
    any (Err f) = refl
step_then inner shared count n place next (Err f) e = absurd cc

pub step_judged : (inner : InnerReader) (shared : Bool) (count steps done : ℕ) (at next : Position) (total : Result ⊤ Refusal) → done < steps
    → ◌≡◌ {A = Result Position Refusal} (Ok next) (behind (step_from inner shared count at))
    → judged (steps_from inner shared count (steps - done) at) ≡ total → judged (steps_from inner shared count (steps - (done + 1)) next) ≡ total
step_judged inner shared count steps done at next total lt e so_far =
    let one : steps - done ≡ suc (steps - (done + 1)) = omega arith in
    let step : judged (steps_from inner shared count (steps - done) at) ≡ judged (steps_from inner shared count (steps - (done + 1)) next) =
    rw one (step_then inner shared count (steps - (done + 1)) at.place next (step_from inner shared count at) e) in
    sym step ∙ so_far
