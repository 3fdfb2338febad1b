-- The answers of reading.
use Rattle.std.specs.Prelude.{◌≡◌, ℕ, List, Option, Some, None, Result, Ok, Err}
use Rattle.det_cbor.specs.declared.item.Item.{Item}
use Rattle.det_cbor.specs.DataItem.{DataItem, IsValid}
use Rattle.det_cbor.specs.ItemTree.{tree_of}
use Rattle.cbor_diag.specs.declared.fault.NotationFault.{NotationFault}
use Rattle.cbor_diag.specs.declared.fault.NotationFault.TheVariants.{NoNotation, NoMemory}
use Rattle.cbor_diag.specs.Notation.{notation_of}

-- the item is valid, and the text is its notation
pub record Notates (x : DataItem) (text : List ℕ) : Type 0 where
  pub valid : IsValid x
  pub is : text ≡ notation_of x

-- this item was read, or memory ran out
abbrev pub IsReadAs : DataItem → Result Item NotationFault → Type 0
IsReadAs x (Ok item) = tree_of item ≡ x
IsReadAs x (Err fault) = fault ≡ NoMemory

-- two valid items with the same notation are equal
abbrev pub OneItem : Type 0
OneItem = (x y : DataItem) (text : List ℕ) → Notates x text → Notates y text → x ≡ y

-- the code answers as the reader of the definitions does, unless memory ran out
abbrev pub Gives : {X Y : Type 0} → (X → Y) → Result X NotationFault → Option Y → Type 0
Gives view (Ok x) read = read ≡ Some (view x)
Gives view (Err NoNotation) read = read ≡ None
Gives view (Err NoMemory) read = Unit {0}
