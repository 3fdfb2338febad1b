-- The answer of the call that borrows a sequence, in terms of the grammar and the refusals.
use Rattle.std.proofs.Common.{◌≡◌, ℕ, Bool, List, Result, Ok, Err, sym, ap, inl, inr}
use Rattle.std.specs.Prelude.{IfOk, IfErr}
use Rattle.det_cbor.specs.ArgumentLaws.{IsBytes}
use Rattle.suit_params.specs.declared.refusal.Refusal.{Refusal}
use Rattle.suit_params.specs.declared.refusal.Fault.{Fault}
use Rattle.suit_params.specs.declared.refusal.Fault.TheVariants.{Refused, NoMemory}
use Rattle.suit_params.specs.Refusing.{RefusesWhole, SaysWhole}
use Rattle.suit_commands.specs.Allowed.{levels_allowed, levels_inside}
use Rattle.suit_commands.specs.Sequences.{SaysSequence}
use Rattle.suit_commands.specs.SequenceFaults.{RefusesSequence}
use Rattle.suit_commands.specs.SequenceReading.{whole_sequence}
use Rattle.suit_commands.specs.Tree.{SequenceTree}
use Rattle.suit_commands.proofs.SequenceAnswers.{ok_says, err_refuses, every_sequence, every_refusal}

abbrev pub read_at : Bool → ℕ → ℕ → List ℕ → Result SequenceTree Refusal
read_at shared count place bytes = whole_sequence shared count levels_inside (record { left = bytes; place = place })

pub says : (shared : Bool) (count place : ℕ) (bytes : List ℕ) (r : Result SequenceTree Refusal) → IsBytes bytes → r ≡ read_at shared count place bytes
    → IfOk r (λ s. SaysWhole (SaysSequence shared count levels_allowed) place bytes s)
says shared count place bytes (Ok s) fits e = ok_says shared count place bytes (Ok s) fits (sym e)
says shared count place bytes (Err f) fits e = tt

pub refuses : (shared : Bool) (count place : ℕ) (bytes : List ℕ) (r : Result SequenceTree Refusal) → IsBytes bytes → r ≡ read_at shared count place bytes
    → IfErr r (RefusesWhole (RefusesSequence shared count levels_allowed) place bytes)
refuses shared count place bytes (Ok s) fits e = tt
refuses shared count place bytes (Err f) fits e = err_refuses shared count place bytes (Err (Refused f)) fits (sym e)

pub every_said : (shared : Bool) (count place : ℕ) (bytes : List ℕ) (r : Result SequenceTree Refusal) → IsBytes bytes → r ≡ read_at shared count place bytes
    → (s : SequenceTree) → SaysWhole (SaysSequence shared count levels_allowed) place bytes s → r ≡ Ok s
every_said shared count place bytes (Ok found) fits e s so = ap (λ (t : SequenceTree). Ok t) (every_sequence shared count place bytes (Ok found) fits (sym e) s so)
every_said shared count place bytes (Err f) fits e s so =
    let never : Refused f ≡ NoMemory = every_sequence shared count place bytes (Err (Refused f)) fits (sym e) s so in absurd cc

pub every_refused : (shared : Bool) (count place : ℕ) (bytes : List ℕ) (r : Result SequenceTree Refusal) → IsBytes bytes → r ≡ read_at shared count place bytes
    → (f : Refusal) → RefusesWhole (RefusesSequence shared count levels_allowed) place bytes f → r ≡ Err f
every_refused shared count place bytes (Ok found) fits e f bad = absurd (every_refusal shared count place bytes (Ok found) fits (sym e) f bad)
every_refused shared count place bytes (Err g) fits e f bad =
    elim (every_refusal shared count place bytes (Err (Refused g)) fits (sym e) f bad) [
      | inl same ↦ cc
      | inr never ↦ absurd cc
    ]
