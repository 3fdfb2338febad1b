-- As many branches are borrowed as are read, and passing one leaves the others.
use Rattle.std.proofs.Common.{◌≡◌, ◌∙◌, ℕ, zero, suc, ◌==◌, Bool, Option, Some, None, Result, Ok, Err, refl, sym, ap}
use Rattle.std.specs.Prelude.{IsOk}
use Rattle.det_cbor.specs.HeadReading.{◌>>=◌}
use Rattle.det_cbor.specs.Position.{Position}
use Rattle.suit_params.specs.declared.refusal.Refusal.{Refusal}
use Rattle.suit_commands.specs.SequenceJudging.{branch_before}
use Rattle.suit_commands.specs.SequenceReading.{InnerReader, branch_from, branches_from}
use Rattle.suit_commands.specs.Tree.{SequenceTree, BranchesTree, NoBranches}
use Rattle.suit_cursor.specs.LentParts.{first_or}
use Rattle.suit_cursor.specs.Walking.{branch_count, branch_at}
use Rattle.suit_cursor.proofs.Known.{ok_is, first_ok, then_ok}

counted_before : (b : Option SequenceTree) (bs : BranchesTree) → branch_count (branch_before b bs) ≡ suc (branch_count bs)
counted_before None bs = refl
counted_before (Some s) bs = refl

grown : (b : Option SequenceTree) (r : Result (BranchesTree × Position) Refusal) → IsOk r
    → branch_count (first_or NoBranches (r >>= λ bs. Ok (branch_before b bs.0, bs.1))) ≡ suc (branch_count (first_or NoBranches r))
grown b (Ok bs) ok = counted_before b bs.0
grown b (Err bad) ok = absurd cc

abbrev more : InnerReader → ℕ → Option SequenceTree × Position → Result (BranchesTree × Position) Refusal
more inner n b = branches_from inner n b.1 >>= λ bs. Ok (branch_before b.0 bs.0, bs.1)

pub branches_number : (inner : InnerReader) (n : ℕ) (p : Position) → IsOk (branches_from inner n p) → branch_count (first_or NoBranches (branches_from inner n p)) ≡ n
branches_number inner zero p ok = refl
branches_number inner (suc n) p ok =
    let one = ok_is (branch_from inner (n == 0) p) (first_ok (branch_from inner (n == 0) p) (more inner n) ok) in
    let others : IsOk (branches_from inner n one.0.1) = first_ok (branches_from inner n one.0.1) (λ bs. Ok (branch_before one.0.0 bs.0, bs.1)) (then_ok (branch_from inner (n == 0) p) (more inner n) one.0 one.1 ok) in
    ap (λ (r : Result (Option SequenceTree × Position) Refusal). branch_count (first_or NoBranches (r >>= more inner n))) one.1
    ∙ grown one.0.0 (branches_from inner n one.0.1) others
    ∙ ap suc (branches_number inner n one.0.1 others)

-- ---- passing

pub passed : (before after : BranchesTree) (b : Option SequenceTree) (n : ℕ) → before ≡ branch_before b after → branch_at before (suc n) ≡ branch_at after n
passed before after None n is = ap (λ (bs : BranchesTree). branch_at bs (suc n)) is
passed before after (Some s) n is = ap (λ (bs : BranchesTree). branch_at bs (suc n)) is

pub passed_none : (before after : BranchesTree) (n : ℕ) → before ≡ NoBranches → after ≡ NoBranches → branch_at before (suc n) ≡ branch_at after n
passed_none before after n none same = ap (λ (bs : BranchesTree). branch_at bs (suc n)) none ∙ sym (ap (λ (bs : BranchesTree). branch_at bs n) same)
