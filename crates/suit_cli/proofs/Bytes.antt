-- Bytes of a slice.
use Rattle.std.proofs.Common.{ℕ, suc, ◌<◌, List, [], ◌∷◌, get_or}
use Rattle.std.specs.List.{AllByRecursion}
use Rattle.det_cbor.specs.DataItem.{IsByte}

pub are_bytes : (bytes : List ℕ) → ((i : ℕ) → get_or bytes i 0 < 256) → AllByRecursion IsByte bytes
are_bytes [] all = tt
are_bytes (b ∷ bytes) all = (all 0, are_bytes bytes (λ i. all (suc i)))
