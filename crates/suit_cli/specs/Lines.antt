-- The lines of a path.
use Rattle.std.specs.Prelude.{ℕ, ◌+◌, Bool, List, [], ◌∷◌, ◌++◌, Option, Some, codes, if◌then◌else◌}
use Rattle.std.specs.Fmt.{decimal}
use Rattle.std.specs.List.{flat_map}
use Rattle.std.specs.Option.{option_map_or}
pub use Rattle.std.specs.List.{concat as joined}
use Rattle.hex.specs.Hex.{encode_lower}
use Rattle.uuid.specs.Text.{hyphenated_text, lower}
use Rattle.suit_params.specs.declared.digest.Digest.{Digest}
use Rattle.path_model.specs.declared.identity.Identity.{Identity}
use Rattle.path_model.specs.declared.event.Event.{Event}
use Rattle.path_model.specs.declared.event.Event.TheVariants.{Set, Tried, Matched, Missed, Wrote, Invoked, Failed}
use Rattle.path_model.specs.declared.bad_path.BadPath.{BadPath}
use Rattle.suit_params.specs.DigestBytes.{digest_bytes}
use Rattle.suit_params.specs.ParamKeys.{key_of, key_number}
use Rattle.suit_commands.specs.Kinds.{test_code}

-- ---- the words in a line

abbrev pub digest_text : Option Digest → List ℕ
digest_text digest = option_map_or (λ (d : Digest). encode_lower (digest_bytes d)) digest (codes "none")

abbrev pub size_text : Option ℕ → List ℕ
size_text size = option_map_or decimal size (codes "none")

abbrev pub identifier_text : Option (List ℕ) → List ℕ
identifier_text identifier = option_map_or (hyphenated_text lower) identifier (codes "none")

abbrev pub outcome_text : Bool → List ℕ
outcome_text passed = if passed then codes "pass" else codes "fail"

-- ---- the lines

abbrev pub identity_texts : ℕ → List ℕ → List ℕ → List ℕ → ℕ → List ℕ
identity_texts component vendor class device slot =
    joined
    (codes "identity " ∷ decimal component ∷ codes " vendor " ∷ vendor ∷ codes " class " ∷ class
    ∷ codes " device " ∷ device ∷ codes " slot " ∷ decimal slot ∷ codes "\n" ∷ [])

abbrev pub identity_line : ℕ → Identity → List ℕ
identity_line component identity =
    identity_texts component (identifier_text identity.vendor) (identifier_text identity.class)
    (identifier_text identity.device) identity.slot

abbrev pub set_line : ℕ → ℕ → List ℕ
set_line component key =
    joined (codes "set " ∷ decimal component ∷ codes " " ∷ decimal key ∷ codes "\n" ∷ [])

abbrev pub tried_line : ℕ → ℕ → List ℕ → List ℕ
tried_line component code outcome =
    joined
    (codes "tried " ∷ decimal component ∷ codes " " ∷ decimal code ∷ codes " " ∷ outcome
    ∷ codes "\n" ∷ [])

-- a line of a word, a component, a digest and a size
abbrev pub image_line : List ℕ → ℕ → List ℕ → List ℕ → List ℕ
image_line word component digest size =
    joined
    (word ∷ codes " " ∷ decimal component ∷ codes " " ∷ digest ∷ codes " " ∷ size ∷ codes "\n"
    ∷ [])

abbrev pub number_line : List ℕ → ℕ → List ℕ
number_line word number = joined (word ∷ codes " " ∷ decimal number ∷ codes "\n" ∷ [])

abbrev pub event_line : Event → List ℕ
event_line (Set component param) = set_line component (key_number (key_of param))
event_line (Tried component kind passed) =
    tried_line component (test_code kind) (outcome_text passed)
event_line (Matched component digest size) =
    image_line (codes "matched") component (digest_text (Some digest)) (size_text size)
event_line (Missed component) = number_line (codes "missed") component
event_line (Wrote component) = number_line (codes "wrote") component
event_line (Invoked component digest size passed) =
    image_line (codes "invoked") component (digest_text digest) (size_text size)
event_line (Failed place) = number_line (codes "failed") place

abbrev pub identity_lines : ℕ → List Identity → List ℕ
identity_lines component [] = []
identity_lines component (identity ∷ identities) =
    identity_line component identity ++ identity_lines (component + 1) identities

abbrev pub event_lines : List Event → List ℕ
event_lines events = flat_map event_line events

-- a line for each component, and then one for each event
abbrev pub path_lines : BadPath → List ℕ
path_lines bad = identity_lines 0 bad.identities ++ event_lines bad.events
