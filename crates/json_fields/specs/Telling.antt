-- Flaws of a value as faults of another type.
use Rattle.std.specs.Prelude.{◌≡◌, ◌⊎◌, ℕ, List, Result, Ok, Err}
use Rattle.json_fields.specs.declared.flaw.Flaw.{Flaw}
use Rattle.json_fields.specs.declared.flaw.FlawKind.{FlawKind}
use Rattle.json_fields.specs.declared.flaw.FlawKind.TheVariants as kinds
use Rattle.json_fields.specs.declared.flaw.JsonFault.{JsonFault}
use Rattle.json_fields.specs.declared.flaw.JsonFault.TheVariants.{Flawed, NoMemory}

-- a fault, given the kind of a flaw and its place
abbrev pub by_kind : {F : Type 0} → (field hex uuid : List ℕ → F) → FlawKind → List ℕ → F
by_kind field hex uuid kinds.Field pointer = field pointer
by_kind field hex uuid kinds.Hex pointer = hex pointer
by_kind field hex uuid kinds.Uuid pointer = uuid pointer

-- the fault of a flaw, or the one for memory that ran out
abbrev pub told : {F : Type 0} → (Flaw → F) → F → JsonFault → F
told fault no_memory (Flawed f) = fault f
told fault no_memory NoMemory = no_memory

-- accepted, or memory ran out
abbrev pub IsAcceptedBut : {A F : Type 0} → F → Result A F → Type 0
IsAcceptedBut no_memory (Ok x) = Unit {0}
IsAcceptedBut no_memory (Err fault) = fault ≡ no_memory

-- refused with this fault, or memory ran out
abbrev pub IsRefusedBut : {A F : Type 0} → F → F → Result A F → Type 0
IsRefusedBut no_memory fault (Ok x) = ⊥
IsRefusedBut no_memory fault (Err other) = (other ≡ fault) ⊎ (other ≡ no_memory)
