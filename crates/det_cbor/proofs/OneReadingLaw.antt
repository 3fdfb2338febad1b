-- Bytes begin with one item or have one first fault, and never both.
use Rattle.std.proofs.Common.{◌≡◌, ℕ, ◌+◌, ◌-◌, ◌≤◌, List, ◌++◌, length, take, drop, Ok, Err, refl, sym, ap, subst, ◌∙◌, arith, inl, inr, ◌⊎◌}
use Rattle.std.proofs.lemmas.List.{take_at, take-append-drop, length-append, length-drop}
use Rattle.det_cbor.specs.declared.reason.Reason.{Reason}
use Rattle.det_cbor.specs.declared.reason.Stop.{Stop}
use Rattle.det_cbor.specs.DataItem.{DataItem, spell}
use Rattle.det_cbor.specs.Faults.{Faulty}
use Rattle.det_cbor.specs.ItemReading.{Read, item_at}
use Rattle.det_cbor.specs.OneReading.{StartsWithItem, HasOneItem, HasOneFault, OneReading}
use Rattle.det_cbor.specs.ResultLaws.{ok_pair, same_err, not_both}
use Rattle.det_cbor.specs.ArgumentLaws.{IsBytes, bytes_of_all}
use Rattle.det_cbor.proofs.ItemTakes.{StartsWith, item_takes}
use Rattle.det_cbor.proofs.ItemAgain.{item_again}
use Rattle.det_cbor.proofs.ItemFaults.{item_fault}
use Rattle.det_cbor.proofs.ItemRefused.{item_refused}

-- ---- the meaning of the reader's answers

pub starts_from : (bytes : List ℕ) (x : DataItem) (rest : List ℕ) → StartsWith 0 x bytes rest → StartsWithItem bytes x (length bytes - length rest)
starts_from bytes x rest starts =
    let long : length bytes ≡ length (spell x) + length rest = ap length starts.parts ∙ length-append (spell x) rest in
    let used : length (spell x) ≡ length bytes - length rest = omega arith in
    let front : take (length bytes - length rest) bytes ≡ spell x = ap (λ (l : List ℕ). take (length bytes - length rest) l) starts.parts ∙ take_at (spell x) rest (length bytes - length rest) used in
    record { spells = record { valid = starts.valid; is = front }; within = omega arith }

pub read_again : (bytes : List ℕ) (x : DataItem) (used : ℕ) → StartsWithItem bytes x used → item_at 16 bytes ≡ Ok (x, drop used bytes)
read_again bytes x used starts =
    let whole : spell x ++ drop used bytes ≡ bytes = ap (λ (l : List ℕ). l ++ drop used bytes) (sym starts.spells.is) ∙ take-append-drop used bytes in
    subst (λ (l : List ℕ). item_at 16 l ≡ Ok (x, drop used bytes)) whole (item_again 16 0 refl x (drop used bytes) starts.spells.valid)

-- ---- the bytes of an item that was read

pub item_starts : (bytes : List ℕ) (x : DataItem) (rest : List ℕ) → IsBytes bytes → item_at 16 bytes ≡ Ok (x, rest) → StartsWithItem bytes x (length bytes - length rest)
item_starts bytes x rest fits e = starts_from bytes x rest (item_takes 16 0 refl bytes x rest fits e)

pub item_only : (bytes : List ℕ) (x : DataItem) (rest : List ℕ) → item_at 16 bytes ≡ Ok (x, rest) → (y : DataItem) (n : ℕ) → StartsWithItem bytes y n → (y ≡ x) × (n ≡ length bytes - length rest)
item_only bytes x rest e y n other =
    let both = ok_pair y x (drop n bytes) rest (sym (read_again bytes y n other) ∙ e) in
    let within : n ≤ length bytes = other.within in
    (both.0, omega (arith, ap length both.1, length-drop n bytes))

pub item_sound : (bytes : List ℕ) (x : DataItem) (rest : List ℕ) → item_at 16 bytes ≡ Ok (x, rest) → (place : ℕ) (reason : Reason) → Faulty 0 bytes place reason → ⊥
item_sound bytes x rest e place reason faulty = let stops = item_refused 16 0 refl bytes place reason faulty in not_both (item_at 16 bytes) (x, rest) _ e stops.is

pub one_item : (bytes : List ℕ) (x : DataItem) (rest : List ℕ) → IsBytes bytes → item_at 16 bytes ≡ Ok (x, rest) → HasOneItem bytes
one_item bytes x rest fits e = record { item = x; used = length bytes - length rest; starts = item_starts bytes x rest fits e; only = item_only bytes x rest e; sound = item_sound bytes x rest e }

pub one_fault : (bytes : List ℕ) (s : Stop) → IsBytes bytes → item_at 16 bytes ≡ Err s → HasOneFault bytes
one_fault bytes s fits e =
    let fault = item_fault 16 0 refl bytes s fits e in
    let sum = fault.sum in
    record {
      place = fault.place;
      reason = s.reason;
      faulty = fault.faulty;
      only = λ p r faulty.
          let stops = item_refused 16 0 refl bytes p r faulty in
          let same : record { left = stops.left; reason = r } ≡ s = same_err _ _ (sym stops.is ∙ e) in
          let left : stops.left ≡ s.left = ap (λ (t : Stop). t.left) same in
          let other = stops.sum in
          (omega arith, ap (λ (t : Stop). t.reason) same);
      empty = λ x n starts. not_both (item_at 16 bytes) (x, drop n bytes) s (read_again bytes x n starts) e;
    }

pub one_reading_law : OneReading
one_reading_law bytes all = by_answer (item_at 16 bytes) refl
  where
    by_answer : (r : Read DataItem) → item_at 16 bytes ≡ r → HasOneItem bytes ⊎ HasOneFault bytes
    by_answer (Ok x) e = inl (one_item bytes x.0 x.1 (bytes_of_all bytes all) e)
    by_answer (Err s) e = inr (one_fault bytes s (bytes_of_all bytes all) e)
