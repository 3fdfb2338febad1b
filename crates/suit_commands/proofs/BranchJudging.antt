-- Judging an argument that holds sequences, given how the sequences inside are judged.
use Rattle.std.proofs.Common.{◌≡◌, ℕ, ◌+◌, ◌≤◌, Bool, true, false, eqb, ltb, List, Option, Some, Result, Ok, Err, refl, sym, ap, subst, ◌∙◌, inl, inr, arith}
use Rattle.std.proofs.lemmas.Bool.{ne_eqb, ltb-true, ltb-false}
use Rattle.det_cbor.specs.DataItem.{DataItem, UnsignedInteger, ByteString, ArrayOf, NullItem, DataItems, NoItems, ItemThen, item_count, IsValidWithin, AreValidWithin}
use Rattle.det_cbor.specs.HeadReading.{◌>>=◌}
use Rattle.det_cbor.specs.ArgumentLaws.{IsBytes, bytes_of_all}
use Rattle.det_cbor.specs.ResultLaws.{chosen, bind_ok, bind_err, same_ok, same_err}
use Rattle.suit_params.specs.declared.refusal.Refusal.{Refusal}
use Rattle.suit_params.specs.declared.refusal.Why.TheVariants.{BadArgument}
use Rattle.suit_params.specs.Refusing.{refused, IsByteString}
use Rattle.suit_commands.specs.Sequences.{elements_place, place_after, SaysCommand, SaysTry, SaysRun, SaysBranches, SaysNoBranches, SaysNull, SaysBranch, SaysInner}
use Rattle.suit_commands.specs.SequenceFaults.{IsTryArray, IsBranch, RefusesArgument, NoTries, BadBranches, NoString, BadRun, RefusesBranches, NoBranch, BadBranch, LaterBranch, RefusesInner}
use Rattle.suit_commands.specs.SequenceJudging.{InnerJudge, judge_run, branch_before, judge_branch, judge_branches, judge_try}
use Rattle.suit_commands.specs.Tree.{TryEach, RunSequence, SequenceTree, BranchesTree, NoBranches, BranchThen, NullThen}

-- judging a byte string agrees with the grammar and the refusals, in both directions
pub record JudgesInner (inner : InnerJudge) (shared : Bool) (count levels : ℕ) : Type 0 where
  pub ok : (place : ℕ) (content : List ℕ) (s : SequenceTree) → IsBytes content → inner place content ≡ Ok s → SaysInner shared count levels place content s
  pub again : (place : ℕ) (content : List ℕ) (s : SequenceTree) → SaysInner shared count levels place content s → inner place content ≡ Ok s
  pub err : (place : ℕ) (content : List ℕ) (r : Refusal) → IsBytes content → inner place content ≡ Err r → RefusesInner shared count levels place content r
  pub refuses : (place : ℕ) (content : List ℕ) (r : Refusal) → RefusesInner shared count levels place content r → inner place content ≡ Err r

-- ---- run sequence

abbrev RefusesRun : Bool → ℕ → ℕ → ℕ → DataItem → Refusal → Type 0
RefusesRun shared count levels place x r = RefusesArgument shared count levels place 32 x r

pub run_ok : (inner : InnerJudge) (shared : Bool) (count levels deep place : ℕ) (x : DataItem) (s : SequenceTree) → JudgesInner inner shared count levels → IsValidWithin deep x → judge_run inner place x ≡ Ok s → SaysCommand shared count levels place 32 x (RunSequence s)
run_ok inner shared count levels deep place (ByteString content) s law valid e = SaysRun levels place content s (law.ok place content s (bytes_of_all content valid.1) e)
run_ok inner shared count levels deep place _ s law valid e = absurd cc

pub run_err : (inner : InnerJudge) (shared : Bool) (count levels deep place : ℕ) (x : DataItem) (r : Refusal) → JudgesInner inner shared count levels → IsValidWithin deep x → judge_run inner place x ≡ Err r → RefusesArgument shared count levels place 32 x r
run_err inner shared count levels deep place (ByteString content) r law valid e = BadRun levels place content r (law.err place content r (bytes_of_all content valid.1) e)
run_err inner shared count levels deep place x r law valid e = subst (RefusesRun shared count levels place x) (same_err _ r e) (NoString levels place x (λ h. h))

pub run_other : (inner : InnerJudge) (place : ℕ) (x : DataItem) → (IsByteString x → ⊥) → judge_run inner place x ≡ Err (refused place BadArgument)
run_other inner place (ByteString content) other = absurd (other tt)
run_other inner place _ other = refl

-- ---- branches

no_branch : (inner : InnerJudge) (place : ℕ) (x : DataItem) (others : DataItems) → (IsBranch x others → ⊥) → judge_branch inner place x others ≡ Err (refused place BadArgument)
no_branch inner place (ByteString content) others other = absurd (other tt)
no_branch inner place NullItem NoItems other = absurd (other tt)
no_branch inner place NullItem (ItemThen y ys) other = let more : eqb (item_count ys + 1) 0 ≡ false = ne_eqb (item_count ys + 1) 0 (λ e. absurd (omega (arith, e))) in rw more refl
no_branch inner place _ others other = refl

abbrev SaysThese : Bool → ℕ → ℕ → ℕ → DataItems → BranchesTree → Type 0
SaysThese shared count levels place items bs = SaysBranches shared count levels place items bs

branches_ok : (inner : InnerJudge) (shared : Bool) (count levels deep place : ℕ) (items : DataItems) (bs : BranchesTree) → JudgesInner inner shared count levels → AreValidWithin deep items
    → judge_branches inner place items ≡ Ok bs → SaysBranches shared count levels place items bs
branches_ok inner shared count levels deep place NoItems bs law valid e = subst (SaysThese shared count levels place NoItems) (same_ok NoBranches bs e) (SaysNoBranches levels place)
branches_ok inner shared count levels deep place (ItemThen (ByteString content) others) bs law valid e =
    bind_ok (judge_branch inner place (ByteString content) others) _ bs e (λ b b-is f. bind_ok (judge_branches inner (place_after place (ByteString content)) others) _ bs f (λ rest rest-is g.
    bind_ok (inner place content) _ b b-is (λ s s-is h.
    let said = law.ok place content s (bytes_of_all content valid.0.1) s-is in
    let more = branches_ok inner shared count levels deep (place_after place (ByteString content)) others rest law valid.1 rest-is in
    let same : BranchThen s rest ≡ bs = ap (λ (o : Option SequenceTree). branch_before o rest) (same_ok (Some s) b h) ∙ same_ok _ bs g in
    subst (SaysThese shared count levels place (ItemThen (ByteString content) others)) same (SaysBranch levels place content others s rest said more))))
branches_ok inner shared count levels deep place (ItemThen NullItem NoItems) bs law valid e = subst (SaysThese shared count levels place (ItemThen NullItem NoItems)) (same_ok (NullThen NoBranches) bs e) (SaysNull levels place)
branches_ok inner shared count levels deep place (ItemThen NullItem (ItemThen y ys)) bs law valid e =
    bind_ok (judge_branch inner place NullItem (ItemThen y ys)) _ bs e (λ b b-is f. never b (sym (no_branch inner place NullItem (ItemThen y ys) (λ h. h)) ∙ b-is))
  where
    never : {A : Type 0} (b : Option SequenceTree) → ◌≡◌ {A = Result (Option SequenceTree) Refusal} (Err (refused place BadArgument)) (Ok b) → A
    never b e = absurd cc
branches_ok inner shared count levels deep place (ItemThen _ others) bs law valid e = absurd cc

pub branches_again : (inner : InnerJudge) (shared : Bool) (count levels place : ℕ) (items : DataItems) (bs : BranchesTree) → JudgesInner inner shared count levels → SaysBranches shared count levels place items bs → judge_branches inner place items ≡ Ok bs
branches_again inner shared count levels place items bs law (SaysNoBranches l at) = refl
branches_again inner shared count levels place items bs law (SaysNull l at) = refl
branches_again inner shared count levels place items bs law (SaysBranch l at content others s rest said more) =
    rw (law.again place content s said, branches_again inner shared count levels (place_after place (ByteString content)) others rest law more) refl

abbrev RefusesThese : Bool → ℕ → ℕ → ℕ → DataItems → Refusal → Type 0
RefusesThese shared count levels place items r = RefusesBranches shared count levels place items r

branches_err : (inner : InnerJudge) (shared : Bool) (count levels deep place : ℕ) (items : DataItems) (r : Refusal) → JudgesInner inner shared count levels → AreValidWithin deep items
    → judge_branches inner place items ≡ Err r → RefusesBranches shared count levels place items r
branches_err inner shared count levels deep place NoItems r law valid e = absurd cc
branches_err inner shared count levels deep place (ItemThen (ByteString content) others) r law valid e =
    bind_err (judge_branch inner place (ByteString content) others) _ r e
    (λ f. bind_err (inner place content) _ r f
    (λ g. BadBranch levels place content others r (law.err place content r (bytes_of_all content valid.0.1) g))
    (λ s s-is g. absurd cc))
    (λ b b-is f. bind_err (judge_branches inner (place_after place (ByteString content)) others) _ r f
    (λ g. bind_ok (inner place content) _ b b-is (λ s s-is h.
    LaterBranch levels place content others s r (law.ok place content s (bytes_of_all content valid.0.1) s-is) (branches_err inner shared count levels deep (place_after place (ByteString content)) others r law valid.1 g)))
    (λ rest rest-is g. absurd cc))
branches_err inner shared count levels deep place (ItemThen NullItem NoItems) r law valid e = absurd cc
branches_err inner shared count levels deep place (ItemThen NullItem (ItemThen y ys)) r law valid e =
    let judged = no_branch inner place NullItem (ItemThen y ys) (λ h. h) in
    let same : refused place BadArgument ≡ r = same_err _ r (sym (ap (λ (b : Result (Option SequenceTree) Refusal). b >>= λ o. judge_branches inner (place_after place NullItem) (ItemThen y ys) >>= λ bs. Ok (branch_before o bs)) judged) ∙ e) in
    subst (RefusesThese shared count levels place (ItemThen NullItem (ItemThen y ys))) same (NoBranch levels place NullItem (ItemThen y ys) (λ h. h))
branches_err inner shared count levels deep place (ItemThen x others) r law valid e = subst (RefusesThese shared count levels place (ItemThen x others)) (same_err _ r e) (NoBranch levels place x others (λ h. h))

pub branches_refused : (inner : InnerJudge) (shared : Bool) (count levels place : ℕ) (items : DataItems) (r : Refusal) → JudgesInner inner shared count levels → RefusesBranches shared count levels place items r → judge_branches inner place items ≡ Err r
branches_refused inner shared count levels place items r law (NoBranch l at x others other) = rw (no_branch inner place x others other) refl
branches_refused inner shared count levels place items r law (BadBranch l at content others s bad) = rw (law.refuses place content s bad) refl
branches_refused inner shared count levels place items r law (LaterBranch l at content others s t said later) =
    rw (law.again place content s said, branches_refused inner shared count levels (place_after place (ByteString content)) others t law later) refl

-- ---- try each

pub try_ok : (inner : InnerJudge) (shared : Bool) (count levels deep place : ℕ) (x : DataItem) (bs : BranchesTree) → JudgesInner inner shared count levels → IsValidWithin deep x → judge_try inner place x ≡ Ok bs
    → SaysCommand shared count levels place 15 x (TryEach bs)
try_ok inner shared count levels deep place (ArrayOf items) bs law valid e =
    elim (chosen {A = Result BranchesTree Refusal} (ltb (item_count items) 2) (Err (refused place BadArgument)) (judge_branches inner (elements_place place items) items) (Ok bs) e) [
      | inl (few, f) ↦ absurd cc
      | inr (two, f) ↦ SaysTry levels place items bs (omega (arith, ltb-false (item_count items) 2 two)) (branches_ok inner shared count levels (deep + 1) (elements_place place items) items bs law valid.2 f)
    ]
try_ok inner shared count levels deep place _ bs law valid e = absurd cc

abbrev RefusesTry : Bool → ℕ → ℕ → ℕ → DataItem → Refusal → Type 0
RefusesTry shared count levels place x r = RefusesArgument shared count levels place 15 x r

pub try_err : (inner : InnerJudge) (shared : Bool) (count levels deep place : ℕ) (x : DataItem) (r : Refusal) → JudgesInner inner shared count levels → IsValidWithin deep x → judge_try inner place x ≡ Err r
    → RefusesArgument shared count levels place 15 x r
try_err inner shared count levels deep place (ArrayOf items) r law valid e =
    elim (chosen {A = Result BranchesTree Refusal} (ltb (item_count items) 2) (Err (refused place BadArgument)) (judge_branches inner (elements_place place items) items) (Err r) e) [
      | inl (few, f) ↦
          let less = ltb-true (item_count items) 2 few in
          subst (RefusesTry shared count levels place (ArrayOf items)) (same_err _ r f) (NoTries levels place (ArrayOf items) (λ (two : 2 ≤ item_count items). absurd (omega (arith, less, two))))
      | inr (two, f) ↦ BadBranches levels place items r (omega (arith, ltb-false (item_count items) 2 two)) (branches_err inner shared count levels (deep + 1) (elements_place place items) items r law valid.2 f)
    ]
try_err inner shared count levels deep place (UnsignedInteger n) r law valid e = subst (RefusesTry shared count levels place (UnsignedInteger n)) (same_err _ r e) (NoTries levels place (UnsignedInteger n) (λ h. h))
try_err inner shared count levels deep place x r law valid e = subst (RefusesTry shared count levels place x) (same_err _ r e) (NoTries levels place x (λ h. h))

pub try_other : (inner : InnerJudge) (place : ℕ) (x : DataItem) → (IsTryArray x → ⊥) → judge_try inner place x ≡ Err (refused place BadArgument)
try_other inner place (ArrayOf items) other = by_test (ltb (item_count items) 2) refl
  where
    by_test : (t : Bool) → ltb (item_count items) 2 ≡ t → judge_try inner place (ArrayOf items) ≡ Err (refused place BadArgument)
    by_test true is = rw is refl
    by_test false is = absurd (other (omega (arith, ltb-false (item_count items) 2 is)))
try_other inner place _ other = refl
