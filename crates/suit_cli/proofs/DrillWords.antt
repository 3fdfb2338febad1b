-- The words of a round's update.
use Rattle.std.proofs.Common.{◌≡◌, ℕ, List, [], ◌∷◌, Option, Some, refl, ap, ◌∙◌}
use Rattle.std.specs.Prelude.{codes}
use Rattle.command_words.specs.UriWords.{are_answers, cut}
use Rattle.conformance.specs.declared.shape.Shape.{Shape}
use Rattle.conformance.specs.declared.shape.Shape.TheVariants.{Fetched, Integrated, Loaded, FetchedIfOther}
use Rattle.conformance.specs.Shapes.{words_of}
use Rattle.suit_cli.specs.DrillRounds.{AreWords, envelope_name, uris_asked}
use Rattle.suit_cli.specs.Words.{Named, Task, RunUpdate, pairs_of, task_of}

uris_for : Shape → List Named
uris_for Integrated = []
uris_for _ = (record { uri = codes "img"; name = codes "got.bin" }) ∷ []

abbrev pub asked : List (List ℕ) → List (List ℕ)
asked words = codes "run" ∷ codes "update" ∷ envelope_name ∷ words

asks : (shape : Shape) → task_of (asked (words_of shape)) ≡ Some (RunUpdate envelope_name (uris_for shape))
unfolding uris_for cut are_answers
asks Fetched = refl
asks Integrated = refl
asks Loaded = refl
asks FetchedIfOther = refl

-- they ask for an update of the envelope
pub asks_update : (words : List (List ℕ)) → AreWords words → (uris : List Named) × (task_of (asked words) ≡ Some (RunUpdate envelope_name uris))
asks_update words are = (uris_for are.0, ap (λ (w : List (List ℕ)). task_of (asked w)) are.1 ∙ asks are.0)

-- and so has URIs, those of its task
pub asked_uris : (words : List (List ℕ)) → AreWords words → (told : List (List ℕ)) → told ≡ asked words → (task : Option Task) → task ≡ task_of told
    → (result : Option (List (List ℕ × List ℕ))) → result ≡ uris_asked task
    → (uris : List Named) × (result ≡ Some (pairs_of uris)) × (task_of (asked words) ≡ Some (RunUpdate envelope_name uris))
asked_uris words are told is task says result result_is =
    let asks = asks_update words are in
    (asks.0, result_is ∙ ap uris_asked (says ∙ ap task_of is ∙ asks.1), asks.1)
