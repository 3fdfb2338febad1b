-- The numbers of items and pairs.
use Rattle.std.proofs.Common.{◌≡◌, List, [], ◌∷◌, length, refl, arith}
use Rattle.det_cbor.specs.DataItem.{DataItem, item_count, pair_count}
use Rattle.det_cbor.specs.DataLists.{items_of, pairs_of}

pub items_counted : (xs : List DataItem) → item_count (items_of xs) ≡ length xs
items_counted [] = refl
items_counted (x ∷ xs) = omega (arith, items_counted xs)

pub pairs_counted : (ps : List (DataItem × DataItem)) → pair_count (pairs_of ps) ≡ length ps
pairs_counted [] = refl
pairs_counted (p ∷ ps) = omega (arith, pairs_counted ps)
