-- How many pairs a row adds to others.
use Rattle.std.proofs.Common.{◌≡◌, ℕ, ◌+◌, ◌≤◌, Option, Some, None, arith}
use Rattle.det_cbor.specs.DataItem.{DataItem, DataPairs, pair_count}
use Rattle.suit_manifest.specs.ManifestMaking.{pair_then, pairs_of}

pub row_counted : (key : ℕ) (value : Option DataItem) (others : DataPairs) → pair_count (pair_then key value others) ≡ pair_count others + pairs_of value
row_counted key None others = omega arith
row_counted key (Some value) others = omega arith

pub few_pairs : (value : Option DataItem) → pairs_of value ≤ 1
few_pairs None = omega arith
few_pairs (Some value) = omega arith
