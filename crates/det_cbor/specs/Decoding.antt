-- The answers of decoding.
use Rattle.std.specs.Prelude.{◌≡◌, ◌⊎◌, ℕ, List, Result, Ok, Err}
use Rattle.det_cbor.specs.declared.read_fault.ReadFault.{ReadFault}
use Rattle.det_cbor.specs.declared.read_fault.ReadFault.TheVariants as faults
use Rattle.det_cbor.specs.declared.item.Item.{Item}
use Rattle.det_cbor.specs.declared.reason.CborFault.{CborFault}
use Rattle.det_cbor.specs.declared.reason.CborFault.TheVariants.{Refused, NoMemory}
use Rattle.det_cbor.specs.declared.reason.Reason.{Reason}
use Rattle.det_cbor.specs.declared.reason.Stop.{Stop}
use Rattle.det_cbor.specs.DataItem.{DataItem}
use Rattle.det_cbor.specs.Faults.{Faulty}
use Rattle.det_cbor.specs.ItemTree.{tree_of}

-- the code answers as the reader of the definitions does, unless memory ran out
abbrev pub Gives : {X Y : Type 0} → (X → Y) → Result X ReadFault → Result Y Stop → Type 0
Gives view (Ok x) read = read ≡ Ok (view x)
Gives view (Err (faults.Stopped s)) read = read ≡ Err s
Gives view (Err faults.NoMemory) read = Unit {0}

-- a refusal names the first fault of the bytes
abbrev pub IsFaultOf : List ℕ → CborFault → Type 0
IsFaultOf bytes (Refused place reason) = Faulty 0 bytes place reason
IsFaultOf bytes NoMemory = Unit {0}

-- this item of this length was decoded, or memory ran out
abbrev pub IsDecoded : DataItem → ℕ → Result (Item × ℕ) CborFault → Type 0
IsDecoded x used (Ok r) = (tree_of r.0 ≡ x) × (r.1 ≡ used)
IsDecoded x used (Err fault) = fault ≡ NoMemory

-- the bytes were refused at this place for this reason, or memory ran out
abbrev pub IsRefusedAt : ℕ → Reason → Result (Item × ℕ) CborFault → Type 0
IsRefusedAt place reason (Ok r) = ⊥
IsRefusedAt place reason (Err fault) = (fault ≡ Refused place reason) ⊎ (fault ≡ NoMemory)
