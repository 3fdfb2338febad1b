-- The answers of decoding, derived from those of the reading function.
use Rattle.std.proofs.Common.{◌≡◌, ℕ, ◌-◌, List, length, drop, Ok, Err, refl, sym, ap, subst, ◌∙◌, arith, inl, ◌⊎◌}
use Rattle.det_cbor.specs.declared.reason.Reason.{Reason}
use Rattle.det_cbor.specs.declared.reason.CborFault.TheVariants.{Refused, NoMemory}
use Rattle.det_cbor.specs.declared.reason.Stop.{Stop}
use Rattle.det_cbor.specs.DataItem.{DataItem}
use Rattle.det_cbor.specs.Faults.{Faulty}
use Rattle.det_cbor.specs.ItemReading.{item_at}
use Rattle.det_cbor.specs.OneReading.{StartsWithItem}
use Rattle.det_cbor.specs.ResultLaws.{same_err, not_both}
use Rattle.det_cbor.specs.ArgumentLaws.{IsBytes}
use Rattle.det_cbor.proofs.ItemFaults.{item_fault}
use Rattle.det_cbor.proofs.ItemRefused.{item_refused}
use Rattle.det_cbor.proofs.OneReadingLaw.{item_starts, item_only, read_again}

pub decoded_item : (bytes : List ℕ) (x : DataItem) (rest : List ℕ) (n : ℕ) → IsBytes bytes → item_at 16 bytes ≡ Ok (x, rest) → n ≡ length bytes - length rest → StartsWithItem bytes x n
decoded_item bytes x rest n fits e is = subst (λ (m : ℕ). StartsWithItem bytes x m) (sym is) (item_starts bytes x rest fits e)

pub decoded_only : (bytes : List ℕ) (x : DataItem) (rest : List ℕ) (n : ℕ) → item_at 16 bytes ≡ Ok (x, rest) → n ≡ length bytes - length rest
    → (y : DataItem) (m : ℕ) → StartsWithItem bytes y m → (x ≡ y) × (n ≡ m)
decoded_only bytes x rest n e is y m starts = let same = item_only bytes x rest e y m starts in (sym same.0, is ∙ sym same.1)

pub refused_fault : (bytes : List ℕ) (s : Stop) (n : ℕ) → IsBytes bytes → item_at 16 bytes ≡ Err s → n ≡ length bytes - s.left → Faulty 0 bytes n s.reason
refused_fault bytes s n fits e is =
    let fault = item_fault 16 0 refl bytes s fits e in
    let sum = fault.sum in
    let same : fault.place ≡ n = omega arith in
    subst (λ (m : ℕ). Faulty 0 bytes m s.reason) same fault.faulty

pub refused_item : {P : Type 0} (bytes : List ℕ) (s : Stop) → item_at 16 bytes ≡ Err s → (x : DataItem) (used : ℕ) → StartsWithItem bytes x used → P
refused_item bytes s e x used starts = not_both (item_at 16 bytes) (x, drop used bytes) s (read_again bytes x used starts) e

pub refused_only : (bytes : List ℕ) (s : Stop) (n : ℕ) → item_at 16 bytes ≡ Err s → n ≡ length bytes - s.left → (place : ℕ) (reason : Reason) → Faulty 0 bytes place reason
    → (Refused n s.reason ≡ Refused place reason) ⊎ (Refused n s.reason ≡ NoMemory)
refused_only bytes s n e is place reason faulty =
    let stops = item_refused 16 0 refl bytes place reason faulty in
    let same : record { left = stops.left; reason = reason } ≡ s = same_err _ _ (sym stops.is ∙ e) in
    let left : stops.left ≡ s.left = ap (λ (t : Stop). t.left) same in
    let sum = stops.sum in
    let at : n ≡ place = omega arith in
    inl (ap (λ (m : ℕ). Refused m s.reason) at ∙ ap (λ (t : Stop). Refused place t.reason) (sym same))
