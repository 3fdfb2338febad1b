-- How objects are read: member by member in the order of their keys, and then the missing fields.
use Rattle.std.specs.Prelude.{ℕ, List, Option, Result, Ok}
use Rattle.det_cbor.specs.HeadReading.{◌>>=◌}
use Rattle.serde_json.specs.Data.{Data, Members, no_members, member}
use Rattle.serde_json.specs.Find.{as_object}
use Rattle.json_fields.specs.declared.flaw.Flaw.{Flaw}
use Rattle.json_fields.specs.declared.flaw.FlawKind.TheVariants.{Field}
use Rattle.json_fields.specs.Flaws.{found_or, under}
use Rattle.json_fields.specs.Pointers.{key_token}

-- how a draft takes a member
abbrev pub Takes : Type 0 → Type 0
Takes D = D → List ℕ → Data → Result D Flaw

-- the draft after these members, or the first flaw
abbrev pub members_of : {D : Type 0} → Takes D → D → Members → Result D Flaw
members_of takes draft no_members = Ok draft
members_of takes draft (member key d others) =
    under (key_token key) (takes draft key d) >>= λ more. members_of takes more others

-- an object whose members the draft takes
abbrev pub object_of : {D : Type 0} → Takes D → D → Data → Result D Flaw
object_of takes draft d = found_or Field (as_object d) >>= λ members. members_of takes draft members

-- a field that must be there
abbrev pub required : {A : Type 0} → List ℕ → Option A → Result A Flaw
required key field = under (key_token key) (found_or Field field)
