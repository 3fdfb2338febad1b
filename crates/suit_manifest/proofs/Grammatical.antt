-- A manifest that an item says is allowed by the grammar.
use Rattle.std.proofs.Common.{ℕ, Bool, true, false, List, Option, Some, None}
use Rattle.std.specs.Prelude.{IfSome}
use Rattle.det_cbor.specs.DataItem.{DataItem, Spells}
use Rattle.suit_params.specs.Refusing.{SaysHeld, content_place}
use Rattle.suit_commands.specs.Tree.{SequenceTree}
use Rattle.suit_commands.specs.Allowed.{levels_allowed}
use Rattle.suit_commands.specs.Sequences.{SaysSequence}
use Rattle.suit_commands.specs.SequenceLaws.{SequenceLaws}
use Rattle.suit_envelope.specs.Envelopes.{Entry}
use Rattle.suit_manifest.specs.declared.manifest.Manifest.{Manifest}
use Rattle.suit_manifest.specs.declared.manifest.Member.{Member}
use Rattle.suit_manifest.specs.declared.manifest.Member.TheVariants as members
use Rattle.suit_manifest.specs.declared.manifest.TextMember.{TextMember}
use Rattle.suit_manifest.specs.declared.manifest.TextMember.TheVariants as texts
use Rattle.suit_manifest.specs.Maps.{entries_of, MaySayUnder}
use Rattle.suit_manifest.specs.Manifests.{IsManifest, SaysSevered, SaysHere, SaysTextMember, SaysTextHere, SeveredUnder, TextUnder, count_said}
use Rattle.suit_manifest.specs.ManifestWriting.{IsHeldSequence, IsSevered, IsTextMember, IsGrammatical}

held_allowed : SequenceLaws → (shared : Bool) (count place : ℕ) (x : DataItem) (s : SequenceTree) → SaysHeld (SaysSequence shared count levels_allowed) place x s → IsHeldSequence shared count s
held_allowed laws shared count place x s said =
    let holds = said.holds in
    laws.allowed shared count levels_allowed (content_place place said.content) holds.item s holds.spells.valid holds.says_so

may_hold : SequenceLaws → (shared : Bool) (count n : ℕ) (es : List Entry) (o : Option SequenceTree) → MaySayUnder n (SaysHeld (SaysSequence shared count levels_allowed)) es o → IfSome o (IsHeldSequence shared count)
may_hold laws shared count n es None said = tt
may_hold laws shared count n es (Some s) said = held_allowed laws shared count said.entry.value_place said.entry.value s said.says_so

here_allowed : SequenceLaws → (count place : ℕ) (x : DataItem) (s : SequenceTree) → SaysSevered count place x (members.Here s) → IsHeldSequence false count s
here_allowed laws count place x s (SaysHere t held) = held_allowed laws false count place x s held

severed_allowed : SequenceLaws → (count n : ℕ) (es : List Entry) (m : Member) → SeveredUnder n count es m → IsSevered count m
severed_allowed laws count n es members.Empty said = tt
severed_allowed laws count n es (members.Here s) said = here_allowed laws count said.entry.value_place said.entry.value s said.says_so
severed_allowed laws count n es (members.Apart digest) said = tt

text_held : (place : ℕ) (x : DataItem) (content : List ℕ) → SaysTextMember place x (texts.Here content) → (y : DataItem) × Spells y content
text_held place x content (SaysTextHere y held) = (held.holds.item, held.holds.spells)

text_allowed : (es : List Entry) (t : TextMember) → TextUnder es t → IsTextMember t
text_allowed es texts.Empty said = tt
text_allowed es (texts.Here content) said = text_held said.entry.value_place said.entry.value content said.says_so
text_allowed es (texts.Apart digest) said = tt

pub grammatical : SequenceLaws → (place : ℕ) (x : DataItem) (m : Manifest) → IsManifest place x m → IsGrammatical m
grammatical laws place x m said =
    let held = said.common.says_so in
    let common = held.holds.says_so in
    let inside : List Entry = entries_of (content_place said.common.entry.value_place held.content) common.map.pairs in
    let es : List Entry = entries_of place said.map.pairs in
    let components = common.components.says_so in
    record {
      some = components.some;
      few = components.few;
      short = components.short;
      apart = components.apart;
      shared = may_hold laws true (count_said m) 4 inside m.shared common.shared;
      validate = may_hold laws false (count_said m) 7 es m.validate said.validate;
      load = may_hold laws false (count_said m) 8 es m.load said.load;
      invoke = may_hold laws false (count_said m) 9 es m.invoke said.invoke;
      payload_fetch = severed_allowed laws (count_said m) 16 es m.payload_fetch said.payload_fetch;
      install = severed_allowed laws (count_said m) 20 es m.install said.install;
      text = text_allowed es m.text said.text;
    }
