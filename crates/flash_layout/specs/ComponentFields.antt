-- One component of a device's description: an object of seven fields.
use Rattle.std.specs.Prelude.{ℕ, ◌^◌, ◌-◌, ◌==◌, nat_le, if◌then◌else◌, List, [], ◌∷◌, length, slice_index, codes, Option, Some, None, option_and_then, Result, Ok}
use Rattle.std.specs.Str.{bytes_eq}
use Rattle.det_cbor.specs.HeadReading.{◌>>=◌}
use Rattle.serde_json.specs.Data.{Data}
use Rattle.serde_json.specs.Find.{get, as_str}
use Rattle.json_fields.specs.declared.flaw.Flaw.{Flaw}
use Rattle.json_fields.specs.declared.flaw.FlawKind.TheVariants.{Field}
use Rattle.json_fields.specs.Flaws.{flawed, found_or}
use Rattle.json_fields.specs.Values.{number_up_to, hex_of, uuid_of}
use Rattle.json_fields.specs.Arrays.{array_of}
use Rattle.json_fields.specs.Objects.{Takes, object_of, required}
use Rattle.flash_layout.specs.declared.rules.TheConstants.{MAX_RAM}
use Rattle.flash_layout.specs.declared.layout.Entry.{Entry}
use Rattle.flash_layout.specs.declared.layout.Memory.{Memory}
use Rattle.flash_layout.specs.declared.layout.Memory.TheVariants as memory
use Rattle.flash_layout.specs.declared.component_fields.ComponentFields.{ComponentFields}
use Rattle.flash_layout.specs.declared.starts.Starts.{Starts}
use Rattle.suit_params.specs.Identifiers.{spelled_id}

-- ---- names

abbrev pub memory_named : List ℕ → Option Memory
memory_named name =
    if bytes_eq name (codes "flash") then Some memory.Flash
    else if bytes_eq name (codes "ram") then Some memory.Ram
    else None

-- ---- values

-- an array of byte strings that is spelled in at most 64 bytes
abbrev pub short_id : List (List ℕ) → Result (List (List ℕ)) Flaw
short_id id = if nat_le (length (spelled_id id)) 64 then Ok id else flawed Field

-- the identifier that an array of hexadecimal strings gives
abbrev pub id_of : Data → Result (List (List ℕ)) Flaw
id_of d = array_of hex_of d >>= λ id. short_id id

-- the memory that the kind names, if it is a known one; it bounds the capacity, which is read before the kind
abbrev pub memory_said : Data → Option Memory
memory_said d = option_and_then memory_named (option_and_then as_str (get (codes "kind") d))

abbrev pub capacity_limit : Option Memory → ℕ
capacity_limit None = 2 ^ 64 - 1
capacity_limit (Some memory.Flash) = 2 ^ 64 - 1
capacity_limit (Some memory.Ram) = MAX_RAM

abbrev pub some_capacity : ℕ → Result ℕ Flaw
some_capacity n = if nat_le 1 n then Ok n else flawed Field

-- a capacity of at least one byte
abbrev pub capacity_of : Option Memory → Data → Result ℕ Flaw
capacity_of said d = number_up_to (capacity_limit said) d >>= λ n. some_capacity n

-- one slot, without a place
abbrev pub no_starts : Starts
no_starts = record { count = 1; places = 0 ∷ 0 ∷ [] }

abbrev pub one_or_two : List ℕ → Result Starts Flaw
one_or_two starts =
    if length starts == 1 then Ok (record { count = 1; places = slice_index starts 0 ∷ 0 ∷ [] })
    else if length starts == 2
    then Ok (record { count = 2; places = slice_index starts 0 ∷ slice_index starts 1 ∷ [] })
    else flawed Field

abbrev pub flash_starts : Data → Result Starts Flaw
flash_starts d = array_of (λ s. number_up_to (2 ^ 64 - 1) s) d >>= λ starts. one_or_two starts

-- an array of one or two starts, which working memory may not have
abbrev pub starts_of : Option Memory → Data → Result Starts Flaw
starts_of None d = flash_starts d
starts_of (Some memory.Flash) d = flash_starts d
starts_of (Some memory.Ram) d = flawed Field

-- ---- the object

abbrev pub no_component : Option Memory → ComponentFields
no_component said = record {
  memory = said;
  capacity = None;
  class = None;
  device = None;
  id = None;
  slots = None;
  vendor = None;
}

-- takes a member, by its key
abbrev pub takes_component : Takes ComponentFields
takes_component t key d =
    if bytes_eq key (codes "capacity")
    then (capacity_of t.memory d >>= λ n. Ok (record t { capacity = Some n }))
    else if bytes_eq key (codes "class")
    then (uuid_of d >>= λ id. Ok (record t { class = Some id }))
    else if bytes_eq key (codes "device")
    then (uuid_of d >>= λ id. Ok (record t { device = Some id }))
    else if bytes_eq key (codes "id") then (id_of d >>= λ id. Ok (record t { id = Some id }))
    else if bytes_eq key (codes "kind") then (found_or Field t.memory >>= λ said. Ok t)
    else if bytes_eq key (codes "slots")
    then (starts_of t.memory d >>= λ starts. Ok (record t { slots = Some starts }))
    else if bytes_eq key (codes "vendor")
    then (uuid_of d >>= λ id. Ok (record t { vendor = Some id }))
    else flawed Field

-- flash must have slots
abbrev pub starts_in : Memory → Option Starts → Result Starts Flaw
starts_in memory.Flash starts = required (codes "slots") starts
starts_in memory.Ram starts = Ok no_starts

-- a component with these parts
abbrev pub entry_with : ComponentFields → ℕ → List (List ℕ) → Memory → Starts → Entry
entry_with t capacity id kind starts = record {
  identifier = id;
  memory = kind;
  slots = starts.count;
  starts = starts.places;
  capacity = capacity;
  vendor = t.vendor;
  class = t.class;
  device = t.device;
}

-- the component that the members describe, once all of them were taken
abbrev pub whole : ComponentFields → Result Entry Flaw
whole t =
    required (codes "capacity") t.capacity >>= λ capacity. required (codes "id") t.id >>= λ id.
    required (codes "kind") t.memory >>= λ kind. starts_in kind t.slots >>= λ starts.
    Ok (entry_with t capacity id kind starts)

-- the component that a JSON value describes
abbrev pub component_of : Data → Result Entry Flaw
component_of d = object_of takes_component (no_component (memory_said d)) d >>= λ t. whole t
