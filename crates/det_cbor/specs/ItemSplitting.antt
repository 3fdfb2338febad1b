-- The law of skipping an item: what is split off is the spelling of one item, and each such spelling is split
-- off.
use Rattle.std.specs.Prelude.{◌≡◌, ℕ, List, ◌++◌, take, drop, Ok}
use Rattle.std.specs.List.{AllByRecursion}
use Rattle.det_cbor.specs.DataItem.{DataItem, IsByte}
use Rattle.det_cbor.specs.ItemSkipping.{item_split}
use Rattle.det_cbor.specs.OneReading.{IsItem, StartsWithItem}

pub record ItemSplitting : Type 0 where
  pub item : (bytes first rest : List ℕ) → AllByRecursion IsByte bytes
      → item_split bytes ≡ Ok (first, rest) → IsItem first × (bytes ≡ first ++ rest)
  pub every_item : (bytes : List ℕ) (x : DataItem) (used : ℕ) → StartsWithItem bytes x used
      → item_split bytes ≡ Ok (take used bytes, drop used bytes)
