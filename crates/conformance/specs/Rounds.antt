-- Rounds: what is made from their draws.
use Rattle.std.specs.Prelude.{ℕ, Bool, if◌then◌else◌, List, [], ◌∷◌, bit_xor, Option, Some, None}
use Rattle.serde_json.specs.Data.{Data}
use Rattle.author.specs.Held.{value_of}
use Rattle.conformance.specs.declared.drawing.Drawn.{Drawn}
use Rattle.conformance.specs.declared.rounds.Round.{Round}
use Rattle.conformance.specs.Drawing.{drawn_from, state_behind}
use Rattle.conformance.specs.Shapes.{image_name, got_name, shape_data, words_of}

-- a payload with another first byte, or a zero byte in place of none
abbrev pub spoiled : List ℕ → List ℕ
spoiled [] = 0 ∷ []
spoiled (byte ∷ bytes) = bit_xor byte 1 ∷ bytes

-- the payload as it is fetched
abbrev pub payload_got : Bool → List ℕ → List ℕ
payload_got wrong payload = if wrong then spoiled payload else payload

-- a round as contracts see it: with the value of its description in place of the description
pub record RoundSaid : Type 0 where
  pub description : Data
  pub files : List (List ℕ × List ℕ)
  pub words : List (List ℕ)
  pub wrong_payload : Bool
  pub cut : Option ℕ
  pub choice : ℕ

abbrev pub said_by : Round → RoundSaid
said_by r = record {
  description = value_of r.description;
  files = r.files;
  words = r.words;
  wrong_payload = r.wrong_payload;
  cut = r.cut;
  choice = r.choice;
}

abbrev pub files_drawn : Drawn → List (List ℕ × List ℕ)
files_drawn d =
    (image_name, d.payload) ∷ (got_name, payload_got d.wrong_payload d.payload) ∷ []

abbrev pub said_of : Drawn → ℕ → RoundSaid
said_of d sequence = record {
  description = shape_data d.shape sequence;
  files = files_drawn d;
  words = words_of d.shape;
  wrong_payload = d.wrong_payload;
  cut = if d.wants_cut then Some d.passes else None;
  choice = d.choice;
}

-- the round that is drawn from a state for this sequence number, and the state after its draws
unfoldable pub round_of : ℕ → ℕ → RoundSaid × ℕ
round_of state sequence = (said_of (drawn_from state) sequence, state_behind state)
