-- The judgement of a manifest against the held record.
use Rattle.std.specs.Prelude.{◌≡◌, ◌≢◌, ◌<◌, ◌^◌, ◌-◌, ℕ, Option, Some, None, IsSomeAnd}
use Rattle.suit_params.specs.declared.digest.Digest.{Digest}
use Rattle.flash_layout.specs.declared.slot.Record.{Record}
use Rattle.rollback_record.specs.declared.judging.Judged.{Judged}
use Rattle.rollback_record.specs.declared.judging.Judged.TheVariants as judged

-- the sequence number is not below the recorded one, and if it is the same, so is the digest
pub record IsNotBack (sequence : ℕ) (digest : Digest) (r : Record) : Type 0 where
  pub number : ¬ (sequence < r.sequence)
  pub same : sequence ≡ r.sequence → digest ≡ r.digest

-- the manifest may be recorded: there is no record, or the manifest does not go back and the record's generation has a
-- next one
abbrev pub IsAcceptable : ℕ → Digest → Option Record → Type 0
IsAcceptable sequence digest None = Unit {0}
IsAcceptable sequence digest (Some r) = IsNotBack sequence digest r × (r.generation ≢ 2 ^ 64 - 1)

-- the judgement tells the first thing that is wrong, or that nothing is
abbrev pub IsJudged : ℕ → Digest → Option Record → Judged → Type 0
IsJudged sequence digest held judged.Accepted = IsAcceptable sequence digest held
IsJudged sequence digest held (judged.Lower recorded offered) =
    IsSomeAnd held (λ r. (sequence < r.sequence) × (recorded ≡ r.sequence) × (offered ≡ sequence))
IsJudged sequence digest held (judged.OtherDigest recorded offered) =
    IsSomeAnd held
    (λ r. (sequence ≡ r.sequence) × (digest ≢ r.digest) × (recorded ≡ r.digest)
    × (offered ≡ digest))
IsJudged sequence digest held judged.Worn =
    IsSomeAnd held (λ r. IsNotBack sequence digest r × (r.generation ≡ 2 ^ 64 - 1))
