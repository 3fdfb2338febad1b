-- Judging a sequence of commands agrees with the grammar and the refusals, at each level.
use Rattle.std.proofs.Common.{◌≡◌, ◌≢◌, ℕ, zero, suc, ◌+◌, ◌%◌, Bool, cond, eqb, List, Result, Ok, Err, refl, sym, ap, subst, inl, inr}
use Rattle.std.proofs.lemmas.Bool.{eqb-true, eqb-false}
use Rattle.det_cbor.specs.DataItem.{DataItem, UnsignedInteger, ArrayOf, DataItems, NoItems, item_count, IsValidWithin}
use Rattle.det_cbor.specs.ResultLaws.{chosen, same_err}
use Rattle.suit_params.specs.declared.refusal.Refusal.{Refusal}
use Rattle.suit_params.specs.declared.refusal.Why.TheVariants.{Shape, Nested}
use Rattle.suit_params.specs.Refusing.{refused, content_place, RefusesWhole, FaultyItem, BytesAfter, RefusedItem, SaysWhole}
use Rattle.suit_params.specs.JudgingLaws.{Judges, whole_ok, whole_err, whole_read, whole_refused}
use Rattle.suit_commands.specs.Sequences.{elements_place, SaysSequence, SaysArray, SaysInner, SaysHeldSequence}
use Rattle.suit_commands.specs.SequenceFaults.{ArePairs, IsSequenceArray, RefusesSequence, NoSequence, BadSteps, RefusesInner, TooNested, FaultyContent, BytesBehind, BadSequence}
use Rattle.suit_commands.specs.SequenceJudging.{InnerJudge, judge_steps, judge_array, judge_inner, judge_sequence}
use Rattle.suit_commands.specs.Tree.{SequenceTree}
use Rattle.suit_commands.proofs.IndexJudging.{no_items, some_items, not_none}
use Rattle.suit_commands.proofs.BranchJudging.{JudgesInner}
use Rattle.suit_commands.proofs.StepJudging.{pairs_even, even_pairs, steps_ok, steps_again, said_pairs, steps_err, steps_refused}

-- ---- arrays

abbrev Judged : Type 0
Judged = Result SequenceTree Refusal

-- which branches the tests on an array took
counted : {P : Type 0} (items : DataItems) (bad : Refusal) (steps z : Judged) → cond (eqb (item_count items) 0) (Err bad) (cond (eqb (item_count items % 2) 0) steps (Err bad)) ≡ z
    → (items ≢ NoItems → ArePairs items → steps ≡ z → P) → ((items ≢ NoItems → ArePairs items → ⊥) → Err bad ≡ z → P) → P
counted items bad steps z e good other =
    elim (chosen {A = Judged} (eqb (item_count items) 0) (Err bad) (cond (eqb (item_count items % 2) 0) steps (Err bad)) z e) [
      | inl (none, f) ↦ other (λ some pairs. some (no_items items (eqb-true _ _ none))) f
      | inr (some, f) ↦ elim (chosen {A = Judged} (eqb (item_count items % 2) 0) steps (Err bad) z f) [
        | inl (even, g) ↦ good (some_items items some) (even_pairs items (eqb-true _ _ even)) g
        | inr (odd, g) ↦ other (λ some pairs. eqb-false _ _ odd (pairs_even items pairs)) g
      ]
    ]

array_ok : (inner : InnerJudge) (shared : Bool) (count levels deep place : ℕ) (x : DataItem) (s : SequenceTree) → JudgesInner inner shared count levels → IsValidWithin deep x → judge_array inner shared count place x ≡ Ok s
    → SaysSequence shared count (suc levels) place x s
array_ok inner shared count levels deep place (ArrayOf items) s law valid e =
    counted items (refused place Shape) (judge_steps inner shared count (elements_place place items) items) (Ok s) e
    (λ some pairs f. SaysArray levels place items s some (steps_ok inner shared count levels (deep + 1) (elements_place place items) items s law valid.2 pairs f))
    (λ other f. absurd cc)
array_ok inner shared count levels deep place _ s law valid e = absurd cc

array_judged : (inner : InnerJudge) (shared : Bool) (count place : ℕ) (items : DataItems) (answer : Judged) → items ≢ NoItems → ArePairs items → judge_steps inner shared count (elements_place place items) items ≡ answer
    → judge_array inner shared count place (ArrayOf items) ≡ answer
array_judged inner shared count place items answer some pairs e = rw (not_none items some, pairs_even items pairs) e

array_again : (inner : InnerJudge) (shared : Bool) (count levels place : ℕ) (x : DataItem) (s : SequenceTree) → JudgesInner inner shared count levels → SaysSequence shared count (suc levels) place x s → judge_array inner shared count place x ≡ Ok s
array_again inner shared count levels place x s law (SaysArray l at items t some said) =
    array_judged inner shared count place items (Ok s) some (said_pairs shared count levels _ items s said) (steps_again inner shared count levels (elements_place place items) items s law said)

abbrev RefusesThis : Bool → ℕ → ℕ → ℕ → DataItem → Refusal → Type 0
RefusesThis shared count levels place x r = RefusesSequence shared count (suc levels) place x r

array_err : (inner : InnerJudge) (shared : Bool) (count levels deep place : ℕ) (x : DataItem) (r : Refusal) → JudgesInner inner shared count levels → IsValidWithin deep x → judge_array inner shared count place x ≡ Err r
    → RefusesSequence shared count (suc levels) place x r
array_err inner shared count levels deep place (ArrayOf items) r law valid e =
    counted items (refused place Shape) (judge_steps inner shared count (elements_place place items) items) (Err r) e
    (λ some pairs f. BadSteps levels place items r (some, pairs) (steps_err inner shared count levels (deep + 1) (elements_place place items) items r law valid.2 pairs f))
    (λ other f. subst (RefusesThis shared count levels place (ArrayOf items)) (same_err _ r f) (NoSequence levels place (ArrayOf items) (λ (is : IsSequenceArray (ArrayOf items)). other is.0 is.1)))
array_err inner shared count levels deep place (UnsignedInteger n) r law valid e = subst (RefusesThis shared count levels place (UnsignedInteger n)) (same_err _ r e) (NoSequence levels place (UnsignedInteger n) (λ h. h))
array_err inner shared count levels deep place x r law valid e = subst (RefusesThis shared count levels place x) (same_err _ r e) (NoSequence levels place x (λ h. h))

no_array : (inner : InnerJudge) (shared : Bool) (count place : ℕ) (x : DataItem) → (IsSequenceArray x → ⊥) → judge_array inner shared count place x ≡ Err (refused place Shape)
no_array inner shared count place (ArrayOf items) other =
    counted items (refused place Shape) (judge_steps inner shared count (elements_place place items) items) (judge_array inner shared count place (ArrayOf items)) refl
    (λ some pairs f. absurd (other (some, pairs)))
    (λ bad f. sym f)
no_array inner shared count place _ other = refl

array_refused : (inner : InnerJudge) (shared : Bool) (count levels place : ℕ) (x : DataItem) (r : Refusal) → JudgesInner inner shared count levels → RefusesSequence shared count (suc levels) place x r → judge_array inner shared count place x ≡ Err r
array_refused inner shared count levels place x r law (NoSequence l at y other) = no_array inner shared count place x other
array_refused inner shared count levels place x r law (BadSteps l at items s is bad) =
    array_judged inner shared count place items (Err r) is.0 is.1 (steps_refused inner shared count levels (elements_place place items) items r law bad)

pub array_judges : (inner : InnerJudge) (shared : Bool) (count levels : ℕ) → JudgesInner inner shared count levels → Judges (judge_array inner shared count) (SaysSequence shared count (suc levels)) (RefusesSequence shared count (suc levels))
array_judges inner shared count levels law = record {
  ok = λ deep place x s valid e. array_ok inner shared count levels deep place x s law valid e;
  again = λ place x s said. array_again inner shared count levels place x s law said;
  err = λ deep place x r valid e. array_err inner shared count levels deep place x r law valid e;
  refuses = λ place x r bad. array_refused inner shared count levels place x r law bad;
}

-- ---- levels

nothing_said : (shared : Bool) (count place : ℕ) (content : List ℕ) (s : SequenceTree) → SaysInner shared count zero place content s → ⊥
nothing_said shared count place content s (SaysHeldSequence l at c x t spells said) = elim said [ ]

none_refused : (shared : Bool) (count place : ℕ) (content : List ℕ) (r : Refusal) → RefusesInner shared count zero place content r → refused place Nested ≡ r
none_refused shared count place content r (TooNested at c) = refl

no_level : (shared : Bool) (count : ℕ) → JudgesInner (judge_inner shared count zero) shared count zero
unfolding judge_inner
no_level shared count = record {
  ok = λ place content s fits e. absurd cc;
  again = λ place content s said. absurd (nothing_said shared count place content s said);
  err = λ place content r fits e. subst (RefusesInner shared count zero place content) (same_err _ r e) (TooNested place content);
  refuses = λ place content r bad. ap Err (none_refused shared count place content r bad);
}

whole_said : (shared : Bool) (count levels place : ℕ) (content : List ℕ) (s : SequenceTree) → SaysInner shared count (suc levels) place content s → SaysWhole (SaysSequence shared count (suc levels)) (content_place place content) content s
whole_said shared count levels place content s (SaysHeldSequence l at c x t spells said) = record { item = x; spells = spells; says_so = said }

inner_bad : (shared : Bool) (count levels place : ℕ) (content : List ℕ) (r : Refusal) → RefusesWhole (RefusesSequence shared count (suc levels)) (content_place place content) content r → RefusesInner shared count (suc levels) place content r
inner_bad shared count levels place content r (FaultyItem at reason faulty) = FaultyContent levels place content at reason faulty
inner_bad shared count levels place content r (BytesAfter x rest valid is some) = BytesBehind levels place content x rest valid is some
inner_bad shared count levels place content r (RefusedItem x s spells bad) = BadSequence levels place content x s spells bad

whole_bad : (shared : Bool) (count levels place : ℕ) (content : List ℕ) (r : Refusal) → RefusesInner shared count (suc levels) place content r → RefusesWhole (RefusesSequence shared count (suc levels)) (content_place place content) content r
whole_bad shared count levels place content r (FaultyContent l at c n reason faulty) = FaultyItem n reason faulty
whole_bad shared count levels place content r (BytesBehind l at c x rest valid is some) = BytesAfter x rest valid is some
whole_bad shared count levels place content r (BadSequence l at c x s spells bad) = RefusedItem x s spells bad

next_level : (shared : Bool) (count levels : ℕ) → JudgesInner (judge_inner shared count levels) shared count levels → JudgesInner (judge_inner shared count (suc levels)) shared count (suc levels)
unfolding judge_inner
next_level shared count levels law =
    let judge : ℕ → DataItem → Judged = judge_array (judge_inner shared count levels) shared count in
    let says : ℕ → DataItem → SequenceTree → Type 0 = SaysSequence shared count (suc levels) in
    let form : ℕ → DataItem → Refusal → Type 0 = RefusesSequence shared count (suc levels) in
    let arrays : Judges judge says form = array_judges (judge_inner shared count levels) shared count levels law in
    record {
      ok = λ place content s fits e. let so = whole_ok judge says form arrays (content_place place content) content s fits e in SaysHeldSequence (suc levels) place content so.item s so.spells so.says_so;
      again = λ place content s said. whole_read judge says form arrays (content_place place content) content s (whole_said shared count levels place content s said);
      err = λ place content r fits e. inner_bad shared count levels place content r (whole_err judge says form arrays (content_place place content) content r fits e);
      refuses = λ place content r bad. whole_refused judge says form arrays (content_place place content) content r (whole_bad shared count levels place content r bad);
    }

pub inner_judges : (shared : Bool) (count levels : ℕ) → JudgesInner (judge_inner shared count levels) shared count levels
inner_judges shared count zero = no_level shared count
inner_judges shared count (suc levels) = next_level shared count levels (inner_judges shared count levels)

pub sequence_judges : (shared : Bool) (count levels : ℕ) → Judges (judge_sequence shared count levels) (SaysSequence shared count (suc levels)) (RefusesSequence shared count (suc levels))
sequence_judges shared count levels = array_judges (judge_inner shared count levels) shared count levels (inner_judges shared count levels)
