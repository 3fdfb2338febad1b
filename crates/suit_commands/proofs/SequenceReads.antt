-- Reading a sequence of commands agrees with judging it.
use Rattle.std.proofs.Common.{◌≡◌, ℕ, zero, suc, ◌+◌, ◌*◌, ◌/◌, ◌%◌, Bool, true, false, cond, eqb, List, [], ◌++◌, Result, Ok, Err, refl, sym, ◌∙◌, append_assoc, arith}
use Rattle.std.proofs.lemmas.Bool.{eqb-true}
use Rattle.std.proofs.lemmas.List.{append-nil}
use Rattle.det_cbor.specs.Heads.{head_bytes}
use Rattle.det_cbor.specs.DataItem.{DataItem, UnsignedInteger, ArrayOf, DataItems, NoItems, ItemThen, item_count, spell, spell_items, IsValidWithin, AreValidWithin}
use Rattle.det_cbor.specs.HeadReading.{◌>>=◌}
use Rattle.det_cbor.specs.Position.{Position}
use Rattle.det_cbor.specs.ArgumentLaws.{IsBytes}
use Rattle.suit_params.specs.declared.refusal.Refusal.{Refusal}
use Rattle.suit_params.specs.declared.refusal.Why.TheVariants.{Shape}
use Rattle.suit_params.specs.Refusing.{refused, content_place}
use Rattle.suit_params.specs.Reading.{whole_judged}
use Rattle.suit_params.specs.HeldLaws.{ReadsAs, with_rest, whole_is}
use Rattle.suit_params.specs.HeadLaws.{item_head_read, after}
use Rattle.suit_commands.specs.declared.command_code.CommandCode.{CommandCode}
use Rattle.suit_commands.specs.declared.command_code.CommandCode.TheVariants as codes
use Rattle.suit_commands.specs.SequenceJudging.{InnerJudge, judge_code, judge_report, judge_selection, judge_override, judge_run, judge_try, judge_argument, judge_step, judge_steps, judge_array, judge_inner, judge_sequence}
use Rattle.suit_commands.specs.SequenceReading.{InnerReader, argument_from, step_from, steps_from, sequence_at, nested_from, whole_sequence}
use Rattle.suit_commands.specs.Tree.{CommandTree, Test, Act, Index, Override, TryEach, RunSequence, SequenceTree, StepThen}
use Rattle.suit_commands.proofs.ArgumentReads.{made, code_read, report_read, selection_read, override_read}
use Rattle.suit_commands.proofs.BranchReads.{ReadsInner, run_read, try_read}

-- ---- commands

argument_read : (reader : InnerReader) (judge : InnerJudge) (count : ℕ) (code : CommandCode) (deep : ℕ) (p : Position) (x : DataItem) (rest : List ℕ) → ReadsInner reader judge → IsValidWithin deep x → p.left ≡ spell x ++ rest
    → argument_from reader count code p ≡ (judge_argument judge count code p.place x >>= with_rest (after p (spell x) rest))
argument_read reader judge count (codes.Test kind) deep p x rest law valid is = rw (report_read deep p x rest valid is) (made (judge_report p.place x) (after p (spell x) rest) (Test kind))
argument_read reader judge count (codes.Act kind) deep p x rest law valid is = rw (report_read deep p x rest valid is) (made (judge_report p.place x) (after p (spell x) rest) (Act kind))
argument_read reader judge count codes.Index deep p x rest law valid is = rw (selection_read count deep p x rest valid is) (made (judge_selection count p.place x) (after p (spell x) rest) Index)
argument_read reader judge count codes.TryEach deep p x rest law valid is = rw (try_read reader judge deep p x rest law valid is) (made (judge_try judge p.place x) (after p (spell x) rest) TryEach)
argument_read reader judge count codes.Override deep p x rest law valid is = rw (override_read count deep p x rest valid is) (made (judge_override count p.place x) (after p (spell x) rest) Override)
argument_read reader judge count codes.Run deep p x rest law valid is = rw (run_read reader judge deep p x rest law valid is) (made (judge_run judge p.place x) (after p (spell x) rest) RunSequence)

step_read : (reader : InnerReader) (judge : InnerJudge) (shared : Bool) (count deep : ℕ) (p : Position) (x argument : DataItem) (rest : List ℕ) → ReadsInner reader judge → IsValidWithin deep x → IsValidWithin deep argument
    → p.left ≡ spell x ++ (spell argument ++ rest) → step_from reader shared count p ≡ (judge_step judge shared count p.place x argument >>= with_rest (after (after p (spell x) (spell argument ++ rest)) (spell argument) rest))
step_read reader judge shared count deep p x argument rest law valid also is =
    let q = after p (spell x) (spell argument ++ rest) in
    rw (code_read shared deep p x (spell argument ++ rest) valid is) (by_code (judge_code shared p.place x) q (after q (spell argument) rest) (λ code. argument_read reader judge count code deep q argument rest law also refl))
  where
    by_code : (a : Result CommandCode Refusal) (q r : Position) → ((code : CommandCode) → argument_from reader count code q ≡ (judge_argument judge count code q.place argument >>= with_rest r))
        → ((a >>= with_rest q) >>= λ c. argument_from reader count c.0 c.1) ≡ ((a >>= λ code. judge_argument judge count code q.place argument) >>= with_rest r)
    by_code (Ok code) q r reads = reads code
    by_code (Err e) q r reads = refl

steps_read : (reader : InnerReader) (judge : InnerJudge) (shared : Bool) (count deep half : ℕ) (p : Position) (items : DataItems) (rest : List ℕ) → ReadsInner reader judge → AreValidWithin deep items → item_count items ≡ 2 * half
    → p.left ≡ spell_items items ++ rest → steps_from reader shared count half p ≡ judge_steps judge shared count p.place items
steps_read reader judge shared count deep zero p NoItems rest law valid even is = refl
steps_read reader judge shared count deep (suc half) p NoItems rest law valid even is = absurd (omega (arith, even))
steps_read reader judge shared count deep half p (ItemThen x NoItems) rest law valid even is = absurd (omega (arith, even))
steps_read reader judge shared count deep zero p (ItemThen x (ItemThen argument others)) rest law valid even is = absurd (omega (arith, even))
steps_read reader judge shared count deep (suc half) p (ItemThen x (ItemThen argument others)) rest law valid even is =
    let fewer : item_count others ≡ 2 * half = omega (arith, even) in
    let behind = spell_items others ++ rest in
    let q = after p (spell x) (spell argument ++ behind) in
    let r = after q (spell argument) behind in
    let whole : p.left ≡ spell x ++ (spell argument ++ behind) = is ∙ simp append_assoc in
    rw (step_read reader judge shared count deep p x argument behind law valid.0 valid.1.0 whole)
    (by_step (judge_step judge shared count p.place x argument) r (steps_read reader judge shared count deep half r others rest law valid.1.1 fewer refl))
  where
    by_step : (a : Result CommandTree Refusal) (r : Position) → steps_from reader shared count half r ≡ judge_steps judge shared count r.place others
        → ((a >>= with_rest r) >>= λ c. steps_from reader shared count half c.1 >>= λ rest. Ok (StepThen p.place c.0 rest)) ≡ (a >>= λ command. judge_steps judge shared count r.place others >>= λ rest. Ok (StepThen p.place command rest))
    by_step (Ok command) r e = rw e refl
    by_step (Err s) r e = refl

-- ---- arrays

abbrev Found : Type 0
Found = Result SequenceTree Refusal

by_count : (n : ℕ) (t : Bool) (bad : Refusal) (found judged : Found) → (n % 2 ≡ 0 → found ≡ judged) → cond t (Err bad) (cond (eqb (n % 2) 0) found (Err bad)) ≡ cond t (Err bad) (cond (eqb (n % 2) 0) judged (Err bad))
by_count n true bad found judged same = refl
by_count n false bad found judged same = by_parity (eqb (n % 2) 0) refl
  where
    by_parity : (t : Bool) → eqb (n % 2) 0 ≡ t → cond t found (Err bad) ≡ cond t judged (Err bad)
    by_parity true is = same (eqb-true (n % 2) 0 is)
    by_parity false is = refl

pub array_read : (reader : InnerReader) (judge : InnerJudge) (shared : Bool) (count : ℕ) → ReadsInner reader judge → ReadsAs (sequence_at reader shared count) (judge_array judge shared count)
unfolding sequence_at
array_read reader judge shared count law deep place (ArrayOf items) valid =
    let p : Position = record { left = spell (ArrayOf items); place = place } in
    let q = after p (head_bytes 4 (item_count items)) (spell_items items ++ []) in
    rw (item_head_read deep p (ArrayOf items) [] valid (sym (append-nil (spell (ArrayOf items)))))
    (by_count (item_count items) (eqb (item_count items) 0) (refused place Shape) _ _ (λ even. steps_read reader judge shared count (deep + 1) (item_count items / 2) q items [] law valid.2 (omega (arith, even)) refl))
array_read reader judge shared count law deep place (UnsignedInteger n) valid = rw (item_head_read deep (record { left = spell (UnsignedInteger n); place = place }) (UnsignedInteger n) [] valid (sym (append-nil (spell (UnsignedInteger n))))) refl
array_read reader judge shared count law deep place x valid = rw (item_head_read deep (record { left = spell x; place = place }) x [] valid (sym (append-nil (spell x)))) refl

-- ---- levels

next_level : (shared : Bool) (count levels : ℕ) → ReadsInner (nested_from shared count levels) (judge_inner shared count levels) → ReadsInner (nested_from shared count (suc levels)) (judge_inner shared count (suc levels))
unfolding nested_from judge_inner
next_level shared count levels law place content fits =
    whole_is (sequence_at (nested_from shared count levels) shared count) (judge_array (judge_inner shared count levels) shared count) (array_read (nested_from shared count levels) (judge_inner shared count levels) shared count law)
    (record { left = content; place = content_place place content }) fits

no_level : (shared : Bool) (count : ℕ) → ReadsInner (nested_from shared count zero) (judge_inner shared count zero)
unfolding nested_from judge_inner
no_level shared count place content fits = refl

nested_read : (shared : Bool) (count levels : ℕ) → ReadsInner (nested_from shared count levels) (judge_inner shared count levels)
nested_read shared count zero = no_level shared count
nested_read shared count (suc levels) = next_level shared count levels (nested_read shared count levels)

pub sequence_read : (shared : Bool) (count levels : ℕ) (p : Position) → IsBytes p.left → whole_sequence shared count levels p ≡ whole_judged (judge_sequence shared count levels) p.place p.left
sequence_read shared count levels p fits =
    whole_is (sequence_at (nested_from shared count levels) shared count) (judge_sequence shared count levels) (array_read (nested_from shared count levels) (judge_inner shared count levels) shared count (nested_read shared count levels)) p fits
