-- The answer of a reader that allocates: what the definitions read of the value, unless memory ran out.
use Rattle.std.specs.Prelude.{◌≡◌, Result, Ok, Err}
use Rattle.json_fields.specs.declared.flaw.Flaw.{Flaw}
use Rattle.json_fields.specs.declared.flaw.JsonFault.{JsonFault}
use Rattle.json_fields.specs.declared.flaw.JsonFault.TheVariants.{Flawed, NoMemory}

-- the value or the flaw is the one that the definition reads, or memory ran out
abbrev pub Gives : {X Y : Type 0} → (X → Y) → Result X JsonFault → Result Y Flaw → Type 0
Gives view (Ok x) read = read ≡ Ok (view x)
Gives view (Err (Flawed f)) read = read ≡ Err f
Gives view (Err NoMemory) read = Unit {0}
