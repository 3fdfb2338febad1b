-- An item that says a manifest says it at each place, but for places.
use Rattle.std.proofs.Common.{◌≡◌, ℕ, Bool, true, false, List, [], ◌∷◌, length, Option, Some, None, refl, ap, subst}
use Rattle.det_cbor.specs.DataItem.{DataItem, DataPairs}
use Rattle.suit_params.specs.declared.digest.Digest.{Digest}
use Rattle.suit_params.specs.Refusing.{Says, SaysHeld}
use Rattle.suit_params.specs.Params.{pairs_place}
use Rattle.suit_commands.specs.Tree.{SequenceTree}
use Rattle.suit_commands.specs.Allowed.{levels_allowed}
use Rattle.suit_commands.specs.Sequences.{SaysSequence}
use Rattle.suit_commands.specs.SequenceMaking.{unplaced}
use Rattle.suit_envelope.specs.Envelopes.{entries}
use Rattle.suit_manifest.specs.declared.manifest.Manifest.{Manifest}
use Rattle.suit_manifest.specs.declared.manifest.Member.{Member}
use Rattle.suit_manifest.specs.declared.manifest.Member.TheVariants as members
use Rattle.suit_manifest.specs.declared.manifest.TextMember.{TextMember}
use Rattle.suit_manifest.specs.declared.manifest.TextMember.TheVariants as texts
use Rattle.suit_manifest.specs.Common.{CommonSays, IsCommon, common_keys}
use Rattle.suit_manifest.specs.Components.{IsComponents}
use Rattle.suit_manifest.specs.Manifests.{IsManifest, IsVersion, SaysNumber, SaysText, SaysSevered, SaysHere, SaysApart, SaysTextMember, SaysTextHere, SaysTextApart, SeveredUnder, TextUnder, manifest_keys, required_keys, common_said, count_said}
use Rattle.suit_manifest.specs.Maps.{MaySayUnder, SaysUnder}
use Rattle.suit_manifest.specs.ManifestMaking.{unplaced_held, unplaced_severed}
use Rattle.place_laws.specs.Moving.{ManifestMoves, WholeMoves}
use Rattle.place_laws.specs.PlacesApart.{SameManifest}
use Rattle.place_laws.proofs.MapsMoved.{Moves, absent_moved, held_moved, keys_moved, under_kept, under_moved, whole_moved}
use Rattle.place_laws.proofs.ParamsMoved.{digest_moved}
use Rattle.place_laws.proofs.SequencesMoved.{sequence_moved}

-- ---- sequences in byte strings

abbrev SameSequence : SequenceTree → SequenceTree → Type 0
SameSequence s t = unplaced s ≡ unplaced t

-- a byte string that holds a sequence
abbrev SaysString : Bool → ℕ → Says SequenceTree
SaysString shared count = SaysHeld (SaysSequence shared count levels_allowed)

sequences_move : (shared : Bool) (count : ℕ) → Moves (SaysSequence shared count levels_allowed) SameSequence
sequences_move shared count p q x s said =
    let t = sequence_moved shared count levels_allowed p q x s said in
    record { other = t.0; says_so = t.1; alike = t.2 }

strings_move : (shared : Bool) (count : ℕ) → Moves (SaysString shared count) SameSequence
strings_move shared count = held_moved (SaysSequence shared count levels_allowed) SameSequence (sequences_move shared count)

held_under : (shared : Bool) (count n p q : ℕ) (ps : DataPairs) (o : Option SequenceTree) → MaySayUnder n (SaysString shared count) (entries p ps) o
    → (other : Option SequenceTree) × MaySayUnder n (SaysString shared count) (entries q ps) other × (unplaced_held o ≡ unplaced_held other)
held_under shared count n p q ps None said = (None, absent_moved n p q ps said, refl)
held_under shared count n p q ps (Some s) said =
    let t = under_moved (SaysString shared count) SameSequence (strings_move shared count) n p q ps s said in
    (Some t.0, t.1, ap Some t.2)

-- ---- other values

text_under : (n p q : ℕ) (ps : DataPairs) (o : Option (List ℕ)) → MaySayUnder n SaysText (entries p ps) o → MaySayUnder n SaysText (entries q ps) o
text_under n p q ps None said = absent_moved n p q ps said
text_under n p q ps (Some text) said = under_kept SaysText text (λ a b x is. is) n p q ps said

abbrev SaysHereOnly : ℕ → Says SequenceTree
SaysHereOnly count place x s = SaysSevered count place x (members.Here s)

here_moves : (count : ℕ) → Moves (SaysHereOnly count) SameSequence
here_moves count p q x s (SaysHere t held) =
    let u = strings_move false count p q x s held in
    record { other = u.other; says_so = SaysHere u.other u.says_so; alike = u.alike }

apart_moved : (count p q : ℕ) (x : DataItem) (m : Member) → SaysSevered count p x m → (digest : Digest) → m ≡ members.Apart digest → SaysSevered count q x m
apart_moved count p q x m (SaysHere t held) digest is = absurd cc
apart_moved count p q x m (SaysApart d said) digest is = SaysApart d (digest_moved p q x d said)

severed_under : (n count p q : ℕ) (ps : DataPairs) (m : Member) → SeveredUnder n count (entries p ps) m
    → (other : Member) × SeveredUnder n count (entries q ps) other × (unplaced_severed m ≡ unplaced_severed other)
severed_under n count p q ps members.Empty said = (members.Empty, absent_moved n p q ps said, refl)
severed_under n count p q ps (members.Here s) said =
    let t = under_moved (SaysHereOnly count) SameSequence (here_moves count) n p q ps s (record { entry = said.entry; there = said.there; says_so = said.says_so }) in
    (members.Here t.0, record { entry = t.1.entry; there = t.1.there; says_so = t.1.says_so }, ap members.Here t.2)
severed_under n count p q ps (members.Apart digest) said =
    (members.Apart digest, under_kept (SaysSevered count) (members.Apart digest) (λ a b x is. apart_moved count a b x (members.Apart digest) is digest refl) n p q ps said, refl)

text_member_moved : (p q : ℕ) (x : DataItem) (t : TextMember) → SaysTextMember p x t → SaysTextMember q x t
text_member_moved p q x t (SaysTextHere said held) =
    SaysTextHere said (record { content = held.content; is = held.is; holds = record { item = held.holds.item; spells = held.holds.spells; says_so = held.holds.says_so } })
text_member_moved p q x t (SaysTextApart digest said) = SaysTextApart digest (digest_moved p q x digest said)

text_member_under : (p q : ℕ) (ps : DataPairs) (t : TextMember) → TextUnder (entries p ps) t → TextUnder (entries q ps) t
text_member_under p q ps texts.Empty said = absent_moved 23 p q ps said
text_member_under p q ps (texts.Here content) said = under_kept SaysTextMember (texts.Here content) (λ a b x is. text_member_moved a b x (texts.Here content) is) 23 p q ps said
text_member_under p q ps (texts.Apart digest) said = under_kept SaysTextMember (texts.Apart digest) (λ a b x is. text_member_moved a b x (texts.Apart digest) is) 23 p q ps said

-- ---- the common part

-- the same but for the places of the shared sequence
record SameCommon (a b : CommonSays) : Type 0 where
  shared : Option SequenceTree
  is : b ≡ record { components = a.components; shared = shared }
  alike : unplaced_held a.shared ≡ unplaced_held shared

common_moves : Moves IsCommon SameCommon
common_moves p q x c said =
    let ps : DataPairs = said.map.pairs in
    let a : ℕ = pairs_place p ps in
    let b : ℕ = pairs_place q ps in
    let t = held_under true (length c.components) 4 a b ps c.shared said.shared in
    record {
      other = record { components = c.components; shared = t.0 };
      says_so = record {
        map = keys_moved common_keys (2 ∷ []) p q x said.map;
        components = under_kept IsComponents c.components (λ at to y is. record { is = is.is; some = is.some; few = is.few; short = is.short; apart = is.apart }) 2 a b ps said.components;
        shared = t.1;
      };
      alike = record { shared = t.0; is = refl; alike = t.2 };
    }

-- ---- the manifest

module _ (p q : ℕ) (x : DataItem) (m : Manifest) (said : IsManifest p x m) where
  abbrev pairs : DataPairs
  pairs = said.map.pairs

  abbrev before : ℕ
  before = pairs_place p pairs

  abbrev after : ℕ
  after = pairs_place q pairs

  common : (c : CommonSays) × SaysUnder 3 (SaysHeld IsCommon) (entries after pairs) c × SameCommon (common_said m) c
  common = under_moved (SaysHeld IsCommon) SameCommon (held_moved IsCommon SameCommon common_moves) 3 before after pairs (common_said m) said.common

  member : (n : ℕ) (o : Option SequenceTree) → MaySayUnder n (SaysString false (count_said m)) (entries before pairs) o
      → (other : Option SequenceTree) × MaySayUnder n (SaysString false (count_said m)) (entries after pairs) other × (unplaced_held o ≡ unplaced_held other)
  member n o is = held_under false (count_said m) n before after pairs o is

  manifest_moved : (n : Manifest) × IsManifest q x n × SameManifest m n
  manifest_moved =
      let c = common.2 in
      let validate = member 7 m.validate said.validate in
      let load = member 8 m.load said.load in
      let invoke = member 9 m.invoke said.invoke in
      let payload_fetch = severed_under 16 (count_said m) before after pairs m.payload_fetch said.payload_fetch in
      let install = severed_under 20 (count_said m) before after pairs m.install said.install in
      let n : Manifest = record m { shared = c.shared; validate = validate.0; load = load.0; invoke = invoke.0; payload_fetch = payload_fetch.0; install = install.0 } in
      let says : IsManifest q x n = record {
        map = keys_moved manifest_keys required_keys p q x said.map;
        version = under_kept IsVersion 1 (λ a b y is. record { is = is.is; first = is.first }) 1 before after pairs said.version;
        sequence = under_kept SaysNumber m.sequence (λ a b y is. is) 2 before after pairs said.sequence;
        common = subst (λ (d : CommonSays). SaysUnder 3 (SaysHeld IsCommon) (entries after pairs) d) c.is common.1;
        reference = text_under 4 before after pairs m.reference said.reference;
        validate = validate.1;
        load = load.1;
        invoke = invoke.1;
        payload_fetch = payload_fetch.1;
        install = install.1;
        text = text_member_under before after pairs m.text said.text;
      } in
      let same : SameManifest m n = λ i. record m {
        shared = c.alike i;
        validate = validate.2 i;
        load = load.2 i;
        invoke = invoke.2 i;
        payload_fetch = payload_fetch.2 i;
        install = install.2 i;
      } in
      (n, says, same)

pub manifest_moves : ManifestMoves
manifest_moves p q x m said = manifest_moved p q x m said

manifests_move : Moves IsManifest SameManifest
manifests_move p q x m said =
    let n = manifest_moved p q x m said in
    record { other = n.0; says_so = n.1; alike = n.2 }

pub whole_moves : WholeMoves
whole_moves p q bytes m said = whole_moved IsManifest SameManifest manifests_move p q bytes m said
