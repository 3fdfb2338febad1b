-- Why a description is refused: for the first flaw of its fields, or else for too many components, or else for two that
-- are alike.
use Rattle.std.specs.Prelude.{◌≡◌, ◌<◌, ◌≤◌, ℕ, List, [], length, Result, Ok, Err}
use Rattle.serde_json.specs.Data.{Data}
use Rattle.json_fields.specs.declared.flaw.Flaw.{Flaw}
use Rattle.json_fields.specs.declared.flaw.JsonFault.{JsonFault}
use Rattle.json_fields.specs.Telling.{by_kind, told, IsAcceptedBut, IsRefusedBut}
use Rattle.suit_manifest.specs.Components.{AreApart, AreAlike}
use Rattle.author.specs.declared.fields.Described.{Described}
use Rattle.author.specs.declared.fault.DescriptionFault.{DescriptionFault}
use Rattle.author.specs.declared.fault.DescriptionFault.TheVariants.{BadField, BadHex, BadUuid, TwoAlike, TooMany, NoMemory}
use Rattle.author.specs.Descriptions.{described}

abbrev pub fault_of : Flaw → DescriptionFault
fault_of f = by_kind BadField BadHex BadUuid f.kind f.pointer

abbrev pub fault_told : JsonFault → DescriptionFault
fault_told fault = told fault_of NoMemory fault

-- there are at most eight components, and no two are alike
pub record AreFewAndApart (ids : List (List (List ℕ))) : Type 0 where
  pub few : length ids ≤ 8
  pub apart : AreApart ids

-- there are too many components, or else these are the first two that are alike
pub data RefusesComponents (ids : List (List (List ℕ))) : DescriptionFault → Type 0 where
  Many : 8 < length ids → RefusesComponents ids (TooMany (length ids))
  Alike : (i j : ℕ) → length ids ≤ 8 → AreAlike ids i j → RefusesComponents ids (TwoAlike i j)

-- the value is a description
pub record IsDescription (d : Data) : Type 0 where
  pub said : Described
  pub reads : described [] d ≡ Ok said
  pub components : AreFewAndApart said.manifest.components

-- the first fault of the value
pub data RefusesDescription (d : Data) : DescriptionFault → Type 0 where
  BadValue : (f : Flaw) → described [] d ≡ Err f → RefusesDescription d (fault_of f)
  BadComponents : (p : Described) (fault : DescriptionFault) → described [] d ≡ Ok p
      → RefusesComponents p.manifest.components fault → RefusesDescription d fault

-- the fault is in the value, or memory ran out
abbrev pub IsFaultOf : Data → DescriptionFault → Type 0
IsFaultOf d NoMemory = Unit {0}
IsFaultOf d fault = RefusesDescription d fault

-- the value is accepted, unless memory ran out
abbrev pub IsAccepted : {A : Type 0} → Result A DescriptionFault → Type 0
IsAccepted result = IsAcceptedBut NoMemory result

-- the value is refused for this fault, unless memory ran out
abbrev pub IsRefusedFor : {A : Type 0} → DescriptionFault → Result A DescriptionFault → Type 0
IsRefusedFor fault result = IsRefusedBut NoMemory fault result
