-- Judging one command after another agrees with the grammar and the refusals.
use Rattle.std.proofs.Common.{◌≡◌, ℕ, ◌%◌, Bool, Ok, Err, refl, sym, subst, arith}
use Rattle.det_cbor.specs.DataItem.{DataItem, UnsignedInteger, DataItems, NoItems, ItemThen, item_count, AreValidWithin}
use Rattle.det_cbor.specs.ResultLaws.{bind_ok, bind_err, same_ok}
use Rattle.suit_params.specs.declared.refusal.Refusal.{Refusal}
use Rattle.suit_commands.specs.declared.command_code.CommandCode.{CommandCode}
use Rattle.suit_commands.specs.CommandCodes.{code_number}
use Rattle.suit_commands.specs.Sequences.{place_after, SaysSteps, SaysNoSteps, SaysStep, SaysCommand}
use Rattle.suit_commands.specs.SequenceFaults.{ArePairs, RefusesSteps, OtherCode, OtherArgument, LaterStep, RefusesArgument}
use Rattle.suit_commands.specs.SequenceJudging.{InnerJudge, judge_code, judge_step, judge_steps}
use Rattle.suit_commands.specs.Tree.{CommandTree, SequenceTree, NoSteps, StepThen}
use Rattle.suit_commands.proofs.CodeLaws.{code_ok, code_err, code_refused}
use Rattle.suit_commands.proofs.CommandJudging.{argument_ok, argument_again, argument_err, argument_refused}
use Rattle.suit_commands.proofs.BranchJudging.{JudgesInner}

-- ---- counts of elements

pub pairs_even : (items : DataItems) → ArePairs items → item_count items % 2 ≡ 0
pairs_even NoItems pairs = refl
pairs_even (ItemThen code NoItems) pairs = absurd pairs
pairs_even (ItemThen code (ItemThen argument others)) pairs = omega (arith, pairs_even others pairs)

pub even_pairs : (items : DataItems) → item_count items % 2 ≡ 0 → ArePairs items
even_pairs NoItems even = tt
even_pairs (ItemThen code NoItems) even = absurd (omega (arith, even))
even_pairs (ItemThen code (ItemThen argument others)) even = even_pairs others (omega (arith, even))

-- ---- one command after another

abbrev SaysThese : Bool → ℕ → ℕ → ℕ → DataItems → SequenceTree → Type 0
SaysThese shared count levels place items s = SaysSteps shared count levels place items s

-- a step, once its code has been judged
with_code : (shared : Bool) (count levels place : ℕ) (x argument : DataItem) (others : DataItems) (code : CommandCode) (command : CommandTree) (rest : SequenceTree) → x ≡ UnsignedInteger (code_number code)
    → SaysCommand shared count levels (place_after place x) (code_number code) argument command → SaysSteps shared count levels (place_after (place_after place x) argument) others rest
    → SaysSteps shared count levels place (ItemThen x (ItemThen argument others)) (StepThen place command rest)
with_code shared count levels place x argument others code command rest is said more =
    subst (λ (y : DataItem). SaysCommand shared count levels (place_after place y) (code_number code) argument command → SaysSteps shared count levels (place_after (place_after place y) argument) others rest
    → SaysSteps shared count levels place (ItemThen y (ItemThen argument others)) (StepThen place command rest)) (sym is)
    (λ s t. SaysStep levels place (code_number code) argument others command rest s t)
    said more

pub steps_ok : (inner : InnerJudge) (shared : Bool) (count levels deep place : ℕ) (items : DataItems) (s : SequenceTree) → JudgesInner inner shared count levels → AreValidWithin deep items → ArePairs items
    → judge_steps inner shared count place items ≡ Ok s → SaysSteps shared count levels place items s
steps_ok inner shared count levels deep place NoItems s law valid pairs e = subst (SaysThese shared count levels place NoItems) (same_ok NoSteps s e) (SaysNoSteps levels place)
steps_ok inner shared count levels deep place (ItemThen x NoItems) s law valid pairs e = absurd pairs
steps_ok inner shared count levels deep place (ItemThen x (ItemThen argument others)) s law valid pairs e =
    bind_ok (judge_step inner shared count place x argument) _ s e (λ command command-is f.
    bind_ok (judge_steps inner shared count (place_after (place_after place x) argument) others) _ s f (λ rest rest-is g.
    bind_ok (judge_code shared place x) _ command command-is (λ code code-is h.
    let known = code_ok shared place x code code-is in
    let said = argument_ok inner shared count levels deep (place_after place x) code argument command law valid.1.0 known.1 h in
    let more = steps_ok inner shared count levels deep (place_after (place_after place x) argument) others rest law valid.1.1 pairs rest-is in
    subst (SaysThese shared count levels place (ItemThen x (ItemThen argument others))) (same_ok _ s g) (with_code shared count levels place x argument others code command rest known.0 said more))))

pub steps_again : (inner : InnerJudge) (shared : Bool) (count levels place : ℕ) (items : DataItems) (s : SequenceTree) → JudgesInner inner shared count levels → SaysSteps shared count levels place items s → judge_steps inner shared count place items ≡ Ok s
steps_again inner shared count levels place items s law (SaysNoSteps l at) = refl
steps_again inner shared count levels place items s law (SaysStep l at number argument others command rest said more) =
    let first = argument_again inner shared count levels (place_after place (UnsignedInteger number)) number argument command law said in
    rw (first.known place, first.judged, steps_again inner shared count levels (place_after (place_after place (UnsignedInteger number)) argument) others rest law more) refl

-- the elements of a sequence that is said come in pairs
pub said_pairs : (shared : Bool) (count levels place : ℕ) (items : DataItems) (s : SequenceTree) → SaysSteps shared count levels place items s → ArePairs items
said_pairs shared count levels place items s (SaysNoSteps l at) = tt
said_pairs shared count levels place items s (SaysStep l at number argument others command rest said more) = said_pairs shared count levels _ others rest more

pub steps_err : (inner : InnerJudge) (shared : Bool) (count levels deep place : ℕ) (items : DataItems) (r : Refusal) → JudgesInner inner shared count levels → AreValidWithin deep items → ArePairs items
    → judge_steps inner shared count place items ≡ Err r → RefusesSteps shared count levels place items r
steps_err inner shared count levels deep place NoItems r law valid pairs e = absurd cc
steps_err inner shared count levels deep place (ItemThen x NoItems) r law valid pairs e = absurd pairs
steps_err inner shared count levels deep place (ItemThen x (ItemThen argument others)) r law valid pairs e =
    bind_err (judge_step inner shared count place x argument) _ r e
    (λ f. bind_err (judge_code shared place x) _ r f
    (λ g. let unknown = code_err shared place x r g in subst (RefusesSteps shared count levels place (ItemThen x (ItemThen argument others))) unknown.1 (OtherCode levels place x argument others unknown.0))
    (λ code code-is g. let known = code_ok shared place x code code-is in
    bad_argument code known.0 (argument_err inner shared count levels deep (place_after place x) code argument r law valid.1.0 known.1 g)))
    (λ command command-is f. bind_err (judge_steps inner shared count (place_after (place_after place x) argument) others) _ r f
    (λ g. bind_ok (judge_code shared place x) _ command command-is (λ code code-is h.
    let known = code_ok shared place x code code-is in
    bad_later code command known.0 (argument_ok inner shared count levels deep (place_after place x) code argument command law valid.1.0 known.1 h)
    (steps_err inner shared count levels deep (place_after (place_after place x) argument) others r law valid.1.1 pairs g)))
    (λ rest rest-is g. absurd cc))
  where
    bad_argument : (code : CommandCode) → x ≡ UnsignedInteger (code_number code) → RefusesArgument shared count levels (place_after place x) (code_number code) argument r
        → RefusesSteps shared count levels place (ItemThen x (ItemThen argument others)) r
    bad_argument code is bad =
        subst (λ (y : DataItem). RefusesArgument shared count levels (place_after place y) (code_number code) argument r → RefusesSteps shared count levels place (ItemThen y (ItemThen argument others)) r) (sym is)
        (λ b. OtherArgument levels place (code_number code) argument others r b)
        bad

    bad_later : (code : CommandCode) (command : CommandTree) → x ≡ UnsignedInteger (code_number code) → SaysCommand shared count levels (place_after place x) (code_number code) argument command
        → RefusesSteps shared count levels (place_after (place_after place x) argument) others r → RefusesSteps shared count levels place (ItemThen x (ItemThen argument others)) r
    bad_later code command is said bad =
        subst (λ (y : DataItem). SaysCommand shared count levels (place_after place y) (code_number code) argument command → RefusesSteps shared count levels (place_after (place_after place y) argument) others r
        → RefusesSteps shared count levels place (ItemThen y (ItemThen argument others)) r) (sym is)
        (λ s b. LaterStep levels place (code_number code) argument others command r s b)
        said bad

pub steps_refused : (inner : InnerJudge) (shared : Bool) (count levels place : ℕ) (items : DataItems) (r : Refusal) → JudgesInner inner shared count levels → RefusesSteps shared count levels place items r → judge_steps inner shared count place items ≡ Err r
steps_refused inner shared count levels place items r law (OtherCode l at x argument others other) = rw (code_refused shared place x other) refl
steps_refused inner shared count levels place items r law (OtherArgument l at number argument others s bad) =
    let first = argument_refused inner shared count levels (place_after place (UnsignedInteger number)) number argument r law bad in
    rw (first.known place, first.judged) refl
steps_refused inner shared count levels place items r law (LaterStep l at number argument others command s said later) =
    let first = argument_again inner shared count levels (place_after place (UnsignedInteger number)) number argument command law said in
    rw (first.known place, first.judged, steps_refused inner shared count levels (place_after (place_after place (UnsignedInteger number)) argument) others r law later) refl
