-- How arrays are read: element by element, up to the first flaw.
use Rattle.std.specs.Prelude.{ℕ, suc, List, [], ◌∷◌, Result, Ok}
use Rattle.det_cbor.specs.HeadReading.{◌>>=◌}
use Rattle.serde_json.specs.Data.{Data, Items, no_items, item}
use Rattle.serde_json.specs.Find.{as_array}
use Rattle.json_fields.specs.declared.flaw.Flaw.{Flaw}
use Rattle.json_fields.specs.declared.flaw.FlawKind.TheVariants.{Field}
use Rattle.json_fields.specs.Flaws.{found_or, under}
use Rattle.json_fields.specs.Pointers.{index_token}

-- the elements from the index i on
abbrev pub each_from : {A : Type 0} → (Data → Result A Flaw) → ℕ → Items → Result (List A) Flaw
each_from form i no_items = Ok []
each_from form i (item d ds) =
    under (index_token i) (form d) >>= λ x. each_from form (suc i) ds >>= λ xs. Ok (x ∷ xs)

-- an array whose elements have this form
abbrev pub array_of : {A : Type 0} → (Data → Result A Flaw) → Data → Result (List A) Flaw
array_of form d = found_or Field (as_array d) >>= λ ds. each_from form 0 ds
