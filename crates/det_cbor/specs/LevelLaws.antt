-- An item that is valid inside more levels is valid inside fewer.
use Rattle.std.proofs.Common.{ℕ, ◌+◌, ◌≤◌, Option, Some, List, arith}
use Rattle.det_cbor.specs.DataItem.{DataItem, UnsignedInteger, NegativeInteger, ByteString, TextString, ArrayOf, MapOf, TaggedItem, Boolean, NullItem, DataItems, NoItems, ItemThen, DataPairs, NoPairs, PairThen, spell, IsValid, IsValidWithin, AreValidWithin, ArePairsWithin}

mutual
  pub further_out : (j k : ℕ) (x : DataItem) → j ≤ k → IsValidWithin k x → IsValidWithin j x
  further_out j k (UnsignedInteger n) le v = v
  further_out j k (NegativeInteger n) le v = v
  further_out j k (ByteString bytes) le v = v
  further_out j k (TextString bytes) le v = v
  further_out j k (ArrayOf xs) le v = (omega arith, v.1, items_further_out (j + 1) (k + 1) xs (omega arith) v.2)
  further_out j k (MapOf ps) le v = (omega arith, v.1, pairs_further_out (j + 1) (k + 1) _ ps (omega arith) v.2)
  further_out j k (TaggedItem tag x) le v = (omega arith, v.1, further_out (j + 1) (k + 1) x (omega arith) v.2)
  further_out j k (Boolean b) le v = v
  further_out j k NullItem le v = v

  pub items_further_out : (j k : ℕ) (xs : DataItems) → j ≤ k → AreValidWithin k xs
      → AreValidWithin j xs
  items_further_out j k NoItems le v = v
  items_further_out j k (ItemThen x xs) le v = (further_out j k x le v.0, items_further_out j k xs le v.1)

  pub pairs_further_out : (j k : ℕ) (before : Option (List ℕ)) (ps : DataPairs) → j ≤ k
      → ArePairsWithin k before ps → ArePairsWithin j before ps
  pairs_further_out j k before NoPairs le v = v
  pairs_further_out j k before (PairThen key value ps) le v =
      (further_out j k key le v.0, v.1, further_out j k value le v.2, pairs_further_out j k (Some (spell key)) ps le v.3)

pub valid_alone : (k : ℕ) (x : DataItem) → IsValidWithin k x → IsValid x
valid_alone k x v = further_out 0 k x (omega arith) v
