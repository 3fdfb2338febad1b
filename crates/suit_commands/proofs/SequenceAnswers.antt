-- The answer of the call that decodes a sequence, in terms of the grammar and the refusals.
use Rattle.std.proofs.Common.{◌≡◌, ℕ, Bool, List, Result, Ok, Err, refl, sym, ap, ◌∙◌, inl, inr}
use Rattle.std.specs.Prelude.{IfOk, IfErr}
use Rattle.det_cbor.specs.DataItem.{DataItem}
use Rattle.det_cbor.specs.ArgumentLaws.{IsBytes}
use Rattle.det_cbor.specs.ResultLaws.{same_ok, same_err, not_both}
use Rattle.suit_params.specs.declared.refusal.Refusal.{Refusal}
use Rattle.suit_params.specs.declared.refusal.Fault.{Fault}
use Rattle.suit_params.specs.declared.refusal.Fault.TheVariants.{Refused, NoMemory}
use Rattle.suit_params.specs.Answering.{Gives, IsFaultBy, IsReadAs, IsRefusedAs}
use Rattle.suit_params.specs.Refusing.{RefusesWhole, SaysWhole}
use Rattle.suit_params.specs.Reading.{whole_judged}
use Rattle.suit_params.specs.JudgingLaws.{whole_ok, whole_err, whole_read, whole_refused}
use Rattle.suit_commands.specs.Allowed.{levels_allowed, levels_inside}
use Rattle.suit_commands.specs.Sequences.{SaysSequence}
use Rattle.suit_commands.specs.SequenceFaults.{RefusesSequence}
use Rattle.suit_commands.specs.SequenceJudging.{judge_sequence}
use Rattle.suit_commands.specs.SequenceReading.{whole_sequence}
use Rattle.suit_commands.specs.Tree.{SequenceTree}
use Rattle.suit_commands.proofs.SequenceJudging.{sequence_judges}
use Rattle.suit_commands.proofs.SequenceReads.{sequence_read}

abbrev pub ReadsSequence : Bool → ℕ → ℕ → List ℕ → Result SequenceTree Fault → Type 0
ReadsSequence shared count place bytes r = Gives {Y = SequenceTree} (λ s. s) r (whole_sequence shared count levels_inside (record { left = bytes; place = place }))

abbrev judged : Bool → ℕ → ℕ → List ℕ → Result SequenceTree Refusal
judged shared count place bytes = whole_judged (judge_sequence shared count levels_inside) place bytes

read_is : (shared : Bool) (count place : ℕ) (bytes : List ℕ) → IsBytes bytes → whole_sequence shared count levels_inside (record { left = bytes; place = place }) ≡ judged shared count place bytes
read_is shared count place bytes fits = sequence_read shared count levels_inside (record { left = bytes; place = place }) fits

abbrev Says : Bool → ℕ → ℕ → DataItem → SequenceTree → Type 0
Says shared count = SaysSequence shared count levels_allowed

abbrev Form : Bool → ℕ → ℕ → DataItem → Refusal → Type 0
Form shared count = RefusesSequence shared count levels_allowed

pub ok_says : (shared : Bool) (count place : ℕ) (bytes : List ℕ) (r : Result SequenceTree Fault) → IsBytes bytes → ReadsSequence shared count place bytes r → IfOk r (λ s. SaysWhole (SaysSequence shared count levels_allowed) place bytes s)
ok_says shared count place bytes (Ok s) fits e = whole_ok (judge_sequence shared count levels_inside) (Says shared count) (Form shared count) (sequence_judges shared count levels_inside) place bytes s fits (sym (read_is shared count place bytes fits) ∙ e)
ok_says shared count place bytes (Err f) fits e = tt

pub err_refuses : (shared : Bool) (count place : ℕ) (bytes : List ℕ) (r : Result SequenceTree Fault) → IsBytes bytes → ReadsSequence shared count place bytes r
    → IfErr r (IsFaultBy (RefusesWhole (RefusesSequence shared count levels_allowed) place bytes))
err_refuses shared count place bytes (Ok s) fits e = tt
err_refuses shared count place bytes (Err (Refused f)) fits e =
    whole_err (judge_sequence shared count levels_inside) (Says shared count) (Form shared count) (sequence_judges shared count levels_inside) place bytes f fits (sym (read_is shared count place bytes fits) ∙ e)
err_refuses shared count place bytes (Err NoMemory) fits e = tt

-- the answer of the call, unless memory ran out
sequence_is : (shared : Bool) (count place : ℕ) (bytes : List ℕ) (s : SequenceTree) → IsBytes bytes → SaysWhole (SaysSequence shared count levels_allowed) place bytes s → whole_sequence shared count levels_inside (record { left = bytes; place = place }) ≡ Ok s
sequence_is shared count place bytes s fits so = read_is shared count place bytes fits ∙ whole_read (judge_sequence shared count levels_inside) (Says shared count) (Form shared count) (sequence_judges shared count levels_inside) place bytes s so

refusal_is : (shared : Bool) (count place : ℕ) (bytes : List ℕ) (f : Refusal) → IsBytes bytes → RefusesWhole (RefusesSequence shared count levels_allowed) place bytes f
    → whole_sequence shared count levels_inside (record { left = bytes; place = place }) ≡ Err f
refusal_is shared count place bytes f fits bad = read_is shared count place bytes fits ∙ whole_refused (judge_sequence shared count levels_inside) (Says shared count) (Form shared count) (sequence_judges shared count levels_inside) place bytes f bad

pub every_sequence : (shared : Bool) (count place : ℕ) (bytes : List ℕ) (r : Result SequenceTree Fault) → IsBytes bytes → ReadsSequence shared count place bytes r
    → (s : SequenceTree) → SaysWhole (SaysSequence shared count levels_allowed) place bytes s → IsReadAs s r
every_sequence shared count place bytes (Ok found) fits e s so = same_ok found s (sym e ∙ sequence_is shared count place bytes s fits so)
every_sequence shared count place bytes (Err (Refused f)) fits e s so = not_both _ s f (sequence_is shared count place bytes s fits so) e
every_sequence shared count place bytes (Err NoMemory) fits e s so = refl

pub every_refusal : (shared : Bool) (count place : ℕ) (bytes : List ℕ) (r : Result SequenceTree Fault) → IsBytes bytes → ReadsSequence shared count place bytes r
    → (f : Refusal) → RefusesWhole (RefusesSequence shared count levels_allowed) place bytes f → IsRefusedAs f r
every_refusal shared count place bytes (Ok found) fits e f bad = not_both _ found f e (refusal_is shared count place bytes f fits bad)
every_refusal shared count place bytes (Err (Refused g)) fits e f bad = inl (ap Refused (same_err g f (sym e ∙ refusal_is shared count place bytes f fits bad)))
every_refusal shared count place bytes (Err NoMemory) fits e f bad = inr refl
