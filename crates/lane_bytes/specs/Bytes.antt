-- Bytes that are all the same, the first that is not, and bits that are only cleared.
use Rattle.std.specs.Prelude.{◌≡◌, ◌≢◌, ◌<◌, ℕ, List, length, slice_index}
use Rattle.std.specs.Int.{bit_at}

-- each of the first n bytes is this one
abbrev pub AreAll : ℕ → ℕ → List ℕ → Type 0
AreAll byte n bytes = (i : ℕ) → i < n → slice_index bytes i ≡ byte

-- i is the index of the first byte that is not this one
pub record IsFirstOther (bytes : List ℕ) (byte i : ℕ) : Type 0 where
  pub inside : i < length bytes
  pub other : slice_index bytes i ≢ byte
  pub before : AreAll byte i bytes

-- each bit that is set in the new byte is set in the old one
abbrev pub SetsNoBit : ℕ → ℕ → Type 0
SetsNoBit old new = (bit : ℕ) → bit_at new bit ≡ 1 → bit_at old bit ≡ 1

-- each of the first n new bytes sets no bit that is clear in the old one
abbrev pub ClearsBelow : ℕ → List ℕ → List ℕ → Type 0
ClearsBelow n old new = (i : ℕ) → i < n → SetsNoBit (slice_index old i) (slice_index new i)

-- each new byte sets no bit that is clear in the old one
abbrev pub OnlyClears : List ℕ → List ℕ → Type 0
OnlyClears old new = ClearsBelow (length new) old new
