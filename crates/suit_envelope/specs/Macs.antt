-- The blocks of a wrapper, verified together under a key, for a payload (RFC 9052, section 6).
use Rattle.std.specs.Prelude.{ℕ, zero, suc, List, [], ◌∷◌, Option, Some, None, Result, Ok}
use Rattle.std.specs.List.{AllByRecursion}
use Rattle.det_cbor.specs.HeadReading.{◌>>=◌}
use Rattle.det_cbor.specs.Position.{Position}
use Rattle.hmac_mac0.specs.Mac0.{IsMac0, Verifies}
use Rattle.hmac_mac0.specs.Mac0 as mac0
use Rattle.hmac_mac0.specs.Tags.{tag_bytes}
use Rattle.hmac_mac0.specs.declared.mac_kind.MacKind.{MacKind}
use Rattle.hmac_mac0.specs.declared.verdict.MacVerdict.{MacVerdict}
use Rattle.hmac_mac0.specs.declared.verdict.MacVerdict.TheVariants as verdict
use Rattle.suit_params.specs.declared.refusal.Refusal.{Refusal}
use Rattle.suit_params.specs.Reading.{content_from}
use Rattle.suit_envelope.specs.declared.macs.Difference.{Difference}

-- the block is not a Mac0 block, and is ignored
abbrev pub IsOther : List ℕ → Type 0
IsOther block = (kind : MacKind) (protected tag : List ℕ) → IsMac0 block kind protected tag → ⊥

-- the block does not verify under this key, for this payload
abbrev pub FailsToVerify : List ℕ → List ℕ → List ℕ → Type 0
FailsToVerify key payload block = Verifies block key payload → ⊥

-- one of the blocks verifies
pub data SomeVerifies (key payload : List ℕ) : List (List ℕ) → Type 0 where
  ThisVerifies : (block : List ℕ) (rest : List (List ℕ)) → Verifies block key payload
      → SomeVerifies key payload (block ∷ rest)
  ALaterVerifies : (block : List ℕ) (rest : List (List ℕ)) → SomeVerifies key payload rest
      → SomeVerifies key payload (block ∷ rest)

-- the first Mac0 block has this tag, and not the expected one
pub data FirstDiffers (key payload expected found : List ℕ) : List (List ℕ) → Type 0 where
  ThisDiffers : (block : List ℕ) (rest : List (List ℕ))
      → mac0.Mismatches block key payload expected found
      → FirstDiffers key payload expected found (block ∷ rest)
  ALaterDiffers : (block : List ℕ) (rest : List (List ℕ)) → IsOther block
      → FirstDiffers key payload expected found rest
      → FirstDiffers key payload expected found (block ∷ rest)

-- some block verifies; or none is a Mac0 block; or none verifies, and the first Mac0 block has another tag
abbrev pub BlocksSay : List ℕ → List ℕ → List (List ℕ) → MacVerdict → Type 0
BlocksSay key payload blocks verdict.Verified = SomeVerifies key payload blocks
BlocksSay key payload blocks verdict.OtherKind = AllByRecursion IsOther blocks
BlocksSay key payload blocks (verdict.Differs expected found) =
    AllByRecursion (FailsToVerify key payload) blocks
    × FirstDiffers key payload (tag_bytes expected) found.now blocks

-- ---- how the blocks are read

-- the contents of the next n byte strings
abbrev pub contents_from : ℕ → Position → Result (List (List ℕ)) Refusal
contents_from zero p = Ok []
contents_from (suc n) p =
    content_from p >>= λ c. contents_from n c.1 >>= λ rest. Ok (c.0.left ∷ rest)

-- only the first difference is kept
abbrev pub kept : Option Difference → Difference → Difference
kept (Some d) next = d
kept None next = next

-- the verdict after the last block
abbrev pub last_answer : Option Difference → MacVerdict
last_answer None = verdict.OtherKind
last_answer (Some d) = verdict.Differs d.expected d.found
