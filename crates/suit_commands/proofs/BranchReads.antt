-- Reading arguments that hold sequences agrees with judging them.
use Rattle.std.proofs.Common.{◌≡◌, ℕ, suc, ◌+◌, Bool, true, false, cond, eqb, ltb, List, [], ◌++◌, length, Option, Some, None, Result, Ok, Err, refl, ap, ◌∙◌, append_assoc, arith}
use Rattle.det_cbor.specs.Heads.{head_bytes}
use Rattle.det_cbor.specs.DataItem.{DataItem, UnsignedInteger, ByteString, ArrayOf, NullItem, DataItems, NoItems, ItemThen, item_count, spell, spell_items, IsValidWithin, AreValidWithin}
use Rattle.det_cbor.specs.HeadReading.{◌>>=◌}
use Rattle.det_cbor.specs.Position.{Position}
use Rattle.det_cbor.specs.ArgumentLaws.{IsBytes, bytes_of_all}
use Rattle.suit_params.specs.declared.refusal.Refusal.{Refusal}
use Rattle.suit_params.specs.declared.refusal.Why.TheVariants.{BadArgument}
use Rattle.suit_params.specs.Refusing.{refused, content_place}
use Rattle.suit_params.specs.HeldLaws.{with_rest}
use Rattle.suit_params.specs.HeadLaws.{item_head_read, bytes_again, after}
use Rattle.suit_commands.specs.Sequences.{elements_place}
use Rattle.suit_commands.specs.SequenceJudging.{InnerJudge, judge_run, branch_before, judge_branch, judge_branches, judge_try}
use Rattle.suit_commands.specs.SequenceReading.{InnerReader, held_sequence, run_from, branch_from, branches_from, try_from}
use Rattle.suit_commands.specs.Tree.{SequenceTree, BranchesTree, NoBranches}
use Rattle.suit_commands.proofs.ArgumentReads.{head_alone, after_both, made}

-- reading the content of a byte string at a place agrees with judging it
abbrev pub ReadsInner : InnerReader → InnerJudge → Type 0
ReadsInner reader judge = (place : ℕ) (content : List ℕ) → IsBytes content → reader place (record { left = content; place = content_place place content }) ≡ judge place content

-- ---- byte strings

held_read : (reader : InnerReader) (judge : InnerJudge) (deep : ℕ) (p : Position) (bytes rest : List ℕ) → ReadsInner reader judge → IsValidWithin deep (ByteString bytes)
    → held_sequence reader p.place (length bytes) (after p (head_bytes 2 (length bytes)) (bytes ++ rest)) ≡ (judge p.place bytes >>= with_rest (after p (spell (ByteString bytes)) rest))
held_read reader judge deep p bytes rest law valid =
    let head = head_bytes 2 (length bytes) in
    let q = after p head (bytes ++ rest) in
    rw (bytes_again q bytes rest refl, law p.place bytes (bytes_of_all bytes valid.1)) (ap (λ (r : Position). judge p.place bytes >>= with_rest r) (after_both p head bytes (bytes ++ rest) rest))

pub run_read : (reader : InnerReader) (judge : InnerJudge) (deep : ℕ) (p : Position) (x : DataItem) (rest : List ℕ) → ReadsInner reader judge → IsValidWithin deep x → p.left ≡ spell x ++ rest
    → run_from reader p ≡ (judge_run judge p.place x >>= with_rest (after p (spell x) rest))
unfolding run_from
run_read reader judge deep p (ByteString bytes) rest law valid is = rw (item_head_read deep p (ByteString bytes) rest valid is) (held_read reader judge deep p bytes rest law valid)
run_read reader judge deep p x rest law valid is = rw (item_head_read deep p x rest valid is) refl

-- ---- branches

no_branch : (t : Bool) (e : Refusal) (q r : Position) → q ≡ r → cond {A = Result (Option SequenceTree × Position) Refusal} t (Ok (None, q)) (Err e) ≡ (cond {A = Result (Option SequenceTree) Refusal} t (Ok None) (Err e) >>= with_rest r)
no_branch true e q r same = ap (λ (s : Position). Ok (None, s)) same
no_branch false e q r same = refl

branch_read : (reader : InnerReader) (judge : InnerJudge) (deep : ℕ) (p : Position) (x : DataItem) (others : DataItems) (rest : List ℕ) → ReadsInner reader judge → IsValidWithin deep x → p.left ≡ spell x ++ rest
    → branch_from reader (eqb (item_count others) 0) p ≡ (judge_branch judge p.place x others >>= with_rest (after p (spell x) rest))
unfolding branch_from
branch_read reader judge deep p (ByteString bytes) others rest law valid is =
    rw (item_head_read deep p (ByteString bytes) rest valid is, held_read reader judge deep p bytes rest law valid) (made (judge p.place bytes) (after p (spell (ByteString bytes)) rest) Some)
branch_read reader judge deep p NullItem others rest law valid is =
    rw (item_head_read deep p NullItem rest valid is) (no_branch (eqb (item_count others) 0) (refused p.place BadArgument) _ _ (ap (λ (l : List ℕ). after p l rest) (head_alone NullItem refl)))
branch_read reader judge deep p (UnsignedInteger n) others rest law valid is = rw (item_head_read deep p (UnsignedInteger n) rest valid is) refl
branch_read reader judge deep p x others rest law valid is = rw (item_head_read deep p x rest valid is) refl

branches_read : (reader : InnerReader) (judge : InnerJudge) (deep : ℕ) (p : Position) (items : DataItems) (rest : List ℕ) → ReadsInner reader judge → AreValidWithin deep items → p.left ≡ spell_items items ++ rest
    → branches_from reader (item_count items) p ≡ (judge_branches judge p.place items >>= with_rest (after p (spell_items items) rest))
branches_read reader judge deep p NoItems rest law valid is = nothing is
  where
    nothing : p.left ≡ rest → ◌≡◌ {A = Result (BranchesTree × Position) Refusal} (Ok (NoBranches, p)) (Ok (NoBranches, after p [] rest))
    nothing e = let none : p.place ≡ p.place + 0 = omega arith in ap (λ (l : List ℕ). Ok (NoBranches, record { left = l; place = p.place })) e ∙ ap (λ (n : ℕ). Ok (NoBranches, record { left = rest; place = n })) none
branches_read reader judge deep p (ItemThen x others) rest law valid is =
    let one : item_count others + 1 ≡ suc (item_count others) = omega arith in
    let behind = spell_items others ++ rest in
    let q = after p (spell x) behind in
    let whole : p.left ≡ spell x ++ behind = is ∙ append_assoc (spell x) (spell_items others) rest in
    rw (one, branch_read reader judge deep p x others behind law valid.0 whole)
    (by_branch (judge_branch judge p.place x others) q (after p (spell x ++ spell_items others) rest)
    (branches_read reader judge deep q others rest law valid.1 refl ∙ ap (λ (r : Position). judge_branches judge q.place others >>= with_rest r) (after_both p (spell x) (spell_items others) behind rest)))
  where
    by_rest : (a : Result BranchesTree Refusal) (b : Option SequenceTree) (r : Position) → ((a >>= with_rest r) >>= λ bs. Ok (branch_before b bs.0, bs.1)) ≡ ((a >>= λ bs. Ok (branch_before b bs)) >>= with_rest r)
    by_rest (Ok bs) b r = refl
    by_rest (Err e) b r = refl

    by_branch : (a : Result (Option SequenceTree) Refusal) (q r : Position) → branches_from reader (item_count others) q ≡ (judge_branches judge q.place others >>= with_rest r)
        → ((a >>= with_rest q) >>= λ b. branches_from reader (item_count others) b.1 >>= λ bs. Ok (branch_before b.0 bs.0, bs.1)) ≡ ((a >>= λ b. judge_branches judge q.place others >>= λ bs. Ok (branch_before b bs)) >>= with_rest r)
    by_branch (Ok b) q r e = rw e (by_rest (judge_branches judge q.place others) b r)
    by_branch (Err s) q r e = refl

-- ---- try each

two_or_more : (t : Bool) (e : Refusal) (r : Result BranchesTree Refusal) (found : Result (BranchesTree × Position) Refusal) (q : Position) → found ≡ (r >>= with_rest q) → cond t (Err e) found ≡ (cond t (Err e) r >>= with_rest q)
two_or_more true e r found q is = refl
two_or_more false e r found q is = is

pub try_read : (reader : InnerReader) (judge : InnerJudge) (deep : ℕ) (p : Position) (x : DataItem) (rest : List ℕ) → ReadsInner reader judge → IsValidWithin deep x → p.left ≡ spell x ++ rest
    → try_from reader p ≡ (judge_try judge p.place x >>= with_rest (after p (spell x) rest))
unfolding try_from
try_read reader judge deep p (ArrayOf items) rest law valid is =
    let head = head_bytes 4 (item_count items) in
    let q = after p head (spell_items items ++ rest) in
    let found = branches_read reader judge (deep + 1) q items rest law valid.2 refl ∙ ap (λ (r : Position). judge_branches judge q.place items >>= with_rest r) (after_both p head (spell_items items) (spell_items items ++ rest) rest) in
    rw (item_head_read deep p (ArrayOf items) rest valid is)
    (two_or_more (ltb (item_count items) 2) (refused p.place BadArgument) (judge_branches judge (elements_place p.place items) items) (branches_from reader (item_count items) q) (after p (spell (ArrayOf items)) rest) found)
try_read reader judge deep p (UnsignedInteger n) rest law valid is = rw (item_head_read deep p (UnsignedInteger n) rest valid is) refl
try_read reader judge deep p x rest law valid is = rw (item_head_read deep p x rest valid is) refl
