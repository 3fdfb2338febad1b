-- The bytes of a head that is held without allocating: a first byte and up to eight after it.
use Rattle.std.specs.Prelude.{ℕ, List, [], ◌∷◌}
use Rattle.det_cbor.specs.declared.short_head.Behind.{Behind}
use Rattle.det_cbor.specs.declared.short_head.Behind.TheVariants.{Nothing, One, Two, Four, Eight}

abbrev pub bytes_behind : Behind → List ℕ
bytes_behind Nothing = []
bytes_behind (One bytes) = bytes
bytes_behind (Two bytes) = bytes
bytes_behind (Four bytes) = bytes
bytes_behind (Eight bytes) = bytes

abbrev pub short_bytes : ℕ → Behind → List ℕ
short_bytes first behind = first ∷ bytes_behind behind
