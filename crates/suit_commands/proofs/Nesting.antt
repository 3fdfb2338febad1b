-- Sequences at the last level, and above it.
use Rattle.std.proofs.Common.{◌≡◌, ℕ, zero, suc, ◌-◌, ◌<◌, Bool, Err, refl, arith}
use Rattle.det_cbor.specs.HeadReading.{◌>>=◌}
use Rattle.det_cbor.specs.Position.{Position}
use Rattle.suit_params.specs.declared.refusal.Why.TheVariants.{Nested}
use Rattle.suit_params.specs.Refusing.{refused}
use Rattle.suit_params.specs.Reading.{only_from}
use Rattle.suit_commands.specs.SequenceReading.{sequence_at, nested_from}

pub nested_above : (shared : Bool) (count levels place : ℕ) (p : Position) → 0 < levels → nested_from shared count levels place p ≡ (only_from p >>= sequence_at (nested_from shared count (levels - 1)) shared count)
unfolding nested_from
nested_above shared count zero place p lt = absurd (omega arith)
nested_above shared count (suc levels) place p lt = let e : suc levels - 1 ≡ levels = omega arith in rw e refl

pub nested_none : (shared : Bool) (count levels place : ℕ) (p : Position) → levels ≡ 0 → nested_from shared count levels place p ≡ Err (refused place Nested)
unfolding nested_from
nested_none shared count zero place p e = refl
nested_none shared count (suc levels) place p e = absurd (omega arith)
