-- The answer of a reader that allocates: the one of the definitions, unless memory ran out.
use Rattle.std.specs.Prelude.{◌≡◌, ◌⊎◌, Result, Ok, Err}
use Rattle.suit_params.specs.declared.refusal.Refusal.{Refusal}
use Rattle.suit_params.specs.declared.refusal.Fault.{Fault}
use Rattle.suit_params.specs.declared.refusal.Fault.TheVariants.{Refused, NoMemory}

-- the value or the refusal is the one that the definition reads, or memory ran out
abbrev pub Gives : {X Y : Type 0} → (X → Y) → Result X Fault → Result Y Refusal → Type 0
Gives view (Ok x) read = read ≡ Ok (view x)
Gives view (Err (Refused r)) read = read ≡ Err r
Gives view (Err NoMemory) read = Unit {0}

-- the input was refused in such a way, or memory ran out
abbrev pub IsFaultBy : (Refusal → Type 0) → Fault → Type 0
IsFaultBy bad (Refused r) = bad r
IsFaultBy bad NoMemory = Unit {0}

-- this was read, or memory ran out
abbrev pub IsReadAs : {A : Type 0} → A → Result A Fault → Type 0
IsReadAs a (Ok found) = found ≡ a
IsReadAs a (Err fault) = fault ≡ NoMemory

-- the input was refused in this way, or memory ran out
abbrev pub IsRefusedAs : {A : Type 0} → Refusal → Result A Fault → Type 0
IsRefusedAs r (Ok found) = ⊥
IsRefusedAs r (Err fault) = (fault ≡ Refused r) ⊎ (fault ≡ NoMemory)
