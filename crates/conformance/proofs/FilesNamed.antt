-- The files of a round are those that its description names.
use Rattle.std.proofs.Common.{◌≡◌, ℕ, List, [], ◌∷◌, true, ap}
use Rattle.serde_json.specs.Data.{Data}
use Rattle.author.specs.FileNames.{file_names}
use Rattle.author.specs.Files.{has_files}
use Rattle.conformance.specs.declared.shape.Shape.{Shape}
use Rattle.conformance.specs.declared.shape.Shape.TheVariants.{Fetched, Integrated, Loaded, FetchedIfOther}
use Rattle.conformance.specs.Shapes.{image_name, got_name, shape_data}
use Rattle.conformance.proofs.ShapeValues.{fetched_is, integrated_is, loaded_is, fetched_if_other_is}

abbrev files : List ℕ → List ℕ → List (List ℕ × List ℕ)
files payload got = (image_name, payload) ∷ (got_name, got) ∷ []

pub named : (shape : Shape) (sequence : ℕ) (payload got : List ℕ)
    → has_files (files payload got) (file_names (shape_data shape sequence)) ≡ true
named Fetched sequence payload got = ap (λ (d : Data). has_files (files payload got) (file_names d)) (fetched_is sequence)
named Integrated sequence payload got = ap (λ (d : Data). has_files (files payload got) (file_names d)) (integrated_is sequence)
named Loaded sequence payload got = ap (λ (d : Data). has_files (files payload got) (file_names d)) (loaded_is sequence)
named FetchedIfOther sequence payload got = ap (λ (d : Data). has_files (files payload got) (file_names d)) (fetched_if_other_is sequence)
