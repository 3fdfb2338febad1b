-- An envelope says what is under the numbers of its map (draft-ietf-suit-manifest-25, section 8.2).
use Rattle.std.specs.Prelude.{◌≡◌, ℕ, if◌then◌else◌, List, [], ◌∷◌, Option, Some, None, option_map}
use Rattle.std.specs.Option.{option_map_or}
use Rattle.det_cbor.specs.DataItem.{DataItem, ByteString}
use Rattle.suit_params.specs.Refusing.{content_place}
use Rattle.suit_envelope.specs.Envelopes.{Entry, EnvelopeSays, is_number}

-- the content of a byte string, and the content's place
abbrev pub content_at : ℕ → DataItem → Option (List ℕ × ℕ)
content_at place (ByteString content) = Some (content, content_place place content)
content_at place _ = None

-- the content and its place under this number, among these entries
abbrev pub under : ℕ → List Entry → Option (List ℕ × ℕ)
under n [] = None
under n (e ∷ es) = if is_number n e.key then content_at e.value_place e.value else under n es

-- the content under this number
abbrev pub content_under : ℕ → List Entry → Option (List ℕ)
content_under n es = option_map (λ c. c.0) (under n es)

-- the place of what is under this number, or 0 if nothing is
abbrev pub place_under : ℕ → List Entry → ℕ
place_under n es = option_map_or (λ c. c.1) (under n es) 0

-- the envelope says what is under the numbers of these entries
pub record SaysEntries (es : List Entry) (said : EnvelopeSays) : Type 0 where
  pub wrapper : under 2 es ≡ Some (said.wrapper, said.wrapper_place)
  pub manifest : under 3 es ≡ Some (said.manifest, said.manifest_place)
  pub payload_fetch : content_under 16 es ≡ said.payload_fetch
  pub payload_fetch_place : place_under 16 es ≡ said.payload_fetch_place
  pub install : content_under 20 es ≡ said.install
  pub install_place : place_under 20 es ≡ said.install_place
  pub text : content_under 23 es ≡ said.text
