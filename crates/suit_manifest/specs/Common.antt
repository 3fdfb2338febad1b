-- The common part of a manifest (draft-ietf-suit-manifest-25, section 8.4.5): the components and the shared
-- sequence.
use Rattle.std.specs.Prelude.{ℕ, true, List, [], ◌∷◌, length, Option}
use Rattle.det_cbor.specs.DataItem.{DataItem}
use Rattle.suit_params.specs.declared.refusal.Refusal.{Refusal}
use Rattle.suit_params.specs.Refusing.{Refuses, SaysHeld, RefusesHeld}
use Rattle.suit_commands.specs.Tree.{SequenceTree}
use Rattle.suit_commands.specs.Allowed.{levels_allowed}
use Rattle.suit_commands.specs.Sequences.{SaysSequence}
use Rattle.suit_commands.specs.SequenceFaults.{RefusesSequence}
use Rattle.suit_envelope.specs.Envelopes.{Entry}
use Rattle.suit_manifest.specs.Components.{IsComponents, RefusesComponents}
use Rattle.suit_manifest.specs.Maps.{entries_of, HasKeys, SaysUnder, MaySayUnder, RefusesUnder, RefusesMap}

-- what a common part says: the component identifiers, and the shared sequence, if there is one
pub record CommonSays : Type 0 where
  pub components : List (List (List ℕ))
  pub shared : Option SequenceTree

-- the keys of the components and of the shared sequence
abbrev pub common_keys : List ℕ
common_keys = 2 ∷ 4 ∷ []

-- a byte string that holds the shared sequence, in which directives that act on contents are not allowed
abbrev pub SaysShared : ℕ → ℕ → DataItem → SequenceTree → Type 0
SaysShared count place x s = SaysHeld (SaysSequence true count levels_allowed) place x s

-- the item is a map of the components, which are required, and perhaps of the shared sequence
pub record IsCommon (place : ℕ) (x : DataItem) (said : CommonSays) : Type 0 where
  pub map : HasKeys common_keys (2 ∷ []) place x
  pub components : SaysUnder 2 IsComponents (entries_of place map.pairs) said.components
  pub shared :
      MaySayUnder 4 (SaysShared (length said.components)) (entries_of place map.pairs) said.shared

-- ---- refusals

-- the refusals of the values: the components come first, and then the shared sequence
pub data RefusesCommonValues (es : List Entry) (r : Refusal) : Type 0 where
  BadIdentifiers : RefusesUnder 2 RefusesComponents es r → RefusesCommonValues es r
  BadShared : (ids : List (List (List ℕ))) → SaysUnder 2 IsComponents es ids
      → RefusesUnder 4 (RefusesHeld (RefusesSequence true (length ids) levels_allowed)) es r
      → RefusesCommonValues es r

abbrev pub RefusesCommon : Refuses
RefusesCommon place x r = RefusesMap common_keys (2 ∷ []) RefusesCommonValues place x r
