-- The meaning of a verdict on a block.
use Rattle.std.specs.Prelude.{ℕ, List}
use Rattle.hmac_mac0.specs.declared.mac_kind.MacKind.{MacKind}
use Rattle.hmac_mac0.specs.declared.verdict.MacVerdict.{MacVerdict}
use Rattle.hmac_mac0.specs.declared.verdict.MacVerdict.TheVariants as verdict
use Rattle.hmac_mac0.specs.Mac0.{IsMac0, Verifies, Mismatches}
use Rattle.hmac_mac0.specs.Tags.{tag_bytes}

-- what a verdict says of a block; if the tags differ, it holds both
abbrev pub IsJustified : MacVerdict → List ℕ → List ℕ → List ℕ → Type 0
IsJustified verdict.Verified block key payload = Verifies block key payload
IsJustified verdict.OtherKind block key payload =
    (kind : MacKind) (protected tag : List ℕ) → IsMac0 block kind protected tag → ⊥
IsJustified (verdict.Differs expected found) block key payload =
    Mismatches block key payload (tag_bytes expected) found.now
