-- Skipping an item, level by level.
use Rattle.std.proofs.Common.{◌≡◌, ℕ, zero, suc, ◌+◌, ◌-◌, ◌<◌, List, Option, Some, Result, Ok, refl, sym, ◌∙◌, arith}
use Rattle.det_cbor.specs.declared.reason.Stop.{Stop}
use Rattle.det_cbor.specs.ItemReading.{stopped, read_of, in_order}
use Rattle.det_cbor.specs.ItemSkipping.{Skipper, skips_by, pair_skips_by, skip_with, skip_at, parts_at}

pub skip_at_is : (levels : ℕ) (bytes : List ℕ) → skip_at levels bytes ≡ skip_with (parts_at levels) bytes
unfolding skip_at
skip_at_is zero bytes = refl
skip_at_is (suc levels) bytes = refl

-- one more item was skipped
pub skips_step : (skip : Skipper) (count i : ℕ) (bytes rest : List ℕ) (total : Result (List ℕ) Stop) → i < count → Ok rest ≡ skip bytes → skips_by skip (count - i) bytes ≡ total → skips_by skip (count - (i + 1)) rest ≡ total
skips_step skip count i bytes rest total lt e so_far =
    let one : count - i ≡ suc (count - (i + 1)) = omega arith in
    let step : skips_by skip (count - i) bytes ≡ skips_by skip (count - (i + 1)) rest = rw (one, ← e) refl in
    sym step ∙ so_far

-- one more pair was skipped
pub pair_skips_step : (skip : Skipper) (before : Option (List ℕ)) (count i : ℕ) (bytes key after rest : List ℕ) (total : Result (List ℕ) Stop) → i < count → Ok after ≡ skip bytes → key ≡ read_of bytes after → Ok tt ≡ stopped bytes (in_order before key)
    → Ok rest ≡ skip after → pair_skips_by skip before (count - i) bytes ≡ total → pair_skips_by skip (Some key) (count - (i + 1)) rest ≡ total
pair_skips_step skip before count i bytes key after rest total lt first key-is sorted second so_far =
    let one : count - i ≡ suc (count - (i + 1)) = omega arith in
    let step : pair_skips_by skip before (count - i) bytes ≡ pair_skips_by skip (Some key) (count - (i + 1)) rest = rw (one, ← first, ← key-is, ← sorted, ← second) refl in
    sym step ∙ so_far
