-- A spelling is read back.
use Rattle.std.proofs.Common.{◌≡◌, ℕ, List, length, refl, ◌∙◌, arith}
use Rattle.std.proofs.lemmas.List.{take_at, length-append}
use Rattle.det_cbor.specs.DataItem.{DataItem, spell, IsValid}
use Rattle.det_cbor.specs.OneReading.{ReadsBack}

pub reads_back : (x : DataItem) (bytes : List ℕ) → IsValid x → bytes ≡ spell x → ReadsBack x bytes
reads_back x bytes valid is rest = record {
  spells = record { valid = valid; is = take_at bytes rest (length bytes) refl ∙ is };
  within = omega (arith, length-append bytes rest);
}
