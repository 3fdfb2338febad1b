-- The procedures of a manifest of the grammar are procedures of the grammar.
use Rattle.std.proofs.Common.{◌≡◌, ℕ, Bool, true, false, List, Option, Some, None, refl, subst}
use Rattle.det_cbor.specs.DataItem.{DataItem}
use Rattle.suit_params.specs.Refusing.{SaysWhole, content_place}
use Rattle.suit_commands.specs.Allowed.{IsSequence, IsMember, IsShared, IsPlan}
use Rattle.suit_commands.specs.Sequences.{SaysSequence}
use Rattle.suit_commands.specs.Tree.{SequenceTree, NoSteps, StepThen}
use Rattle.suit_commands.specs.SequenceLaws.{SequenceLaws}
use Rattle.suit_envelope.specs.Envelopes.{Entry, EnvelopeSays}
use Rattle.suit_manifest.specs.declared.manifest.Manifest.{Manifest}
use Rattle.suit_manifest.specs.declared.manifest.Member.{Member}
use Rattle.suit_manifest.specs.declared.manifest.Member.TheVariants.{Empty, Here, Apart}
use Rattle.suit_manifest.specs.declared.manifest.Members.{Members}
use Rattle.suit_manifest.specs.Common.{SaysShared}
use Rattle.suit_manifest.specs.Manifests.{IsManifest, SaysMember, SaysSevered, SaysHere, SaysApart, SeveredUnder, count_said}
use Rattle.suit_manifest.specs.Maps.{entries_of, MaySayUnder}
use Rattle.suit_manifest.specs.MembersApart.{HasMember, HasMembers}
use Rattle.suit_manifest.specs.ProcedureLaws.{StandsFor, StandsForMember, ProcedureLaws}
use Rattle.suit_manifest.specs.Procedures.{tree_or_empty, member_tree, update_tree, invocation_tree}

whole_allowed : SequenceLaws → (shared : Bool) (count place : ℕ) (content : List ℕ) (s : SequenceTree) → SaysWhole (SaysSequence shared count 8) place content s → IsSequence shared count 8 s
whole_allowed laws shared count place content s so = laws.allowed shared count 8 place so.item s so.spells.valid so.says_so

as_member : (count : ℕ) (s : SequenceTree) → IsSequence false count 8 s → IsMember count s
as_member count NoSteps is = tt
as_member count (StepThen place command rest) is = is

as_shared : (count : ℕ) (s : SequenceTree) → IsSequence true count 8 s → IsShared count s
as_shared count NoSteps is = tt
as_shared count (StepThen place command rest) is = is

held_allowed : SequenceLaws → (count place : ℕ) (x : DataItem) (s : SequenceTree) → SaysMember count place x s → IsMember count s
held_allowed laws count place x s so = as_member count s (whole_allowed laws false count _ so.content s so.holds)

member_allowed : SequenceLaws → (n count : ℕ) (es : List Entry) (m : Option SequenceTree) → MaySayUnder n (SaysMember count) es m → IsMember count (tree_or_empty m)
member_allowed laws n count es None so = tt
member_allowed laws n count es (Some s) so = held_allowed laws count so.entry.value_place so.entry.value s so.says_so

shared_allowed : SequenceLaws → (n count : ℕ) (es : List Entry) (m : Option SequenceTree) → MaySayUnder n (SaysShared count) es m → IsShared count (tree_or_empty m)
shared_allowed laws n count es None so = tt
shared_allowed laws n count es (Some s) so = as_shared count s (whole_allowed laws true count _ so.says_so.content s so.says_so.holds)

-- ---- severable members

own_allowed : SequenceLaws → (count place : ℕ) (x : DataItem) (m : Member) (s : SequenceTree) → SaysSevered count place x m → m ≡ Here s → IsMember count s
own_allowed laws count place x m s (SaysHere t so) is = let same : t ≡ s = cc in subst (IsMember count) same (held_allowed laws count place x t so)
own_allowed laws count place x m s (SaysApart digest so) is = absurd cc

severable_allowed : SequenceLaws → (n count : ℕ) (es : List Entry) (held : Option (List ℕ)) (place : ℕ) (m : Member) (apart : Option SequenceTree) → SeveredUnder n count es m → HasMember count held place m apart → IsMember count (member_tree m apart)
severable_allowed laws n count es held place Empty apart so has = tt
severable_allowed laws n count es held place (Here s) apart so has = own_allowed laws count so.entry.value_place so.entry.value (Here s) s so.says_so refl
severable_allowed laws n count es held place (Apart stated) None so has = absurd has
severable_allowed laws n count es held place (Apart stated) (Some s) so has = as_member count s (whole_allowed laws false count place has.content s has.says_so)

-- ---- the laws

-- three sequences, each after the shared one
parts : SequenceLaws → (place : ℕ) (x : DataItem) (manifest : Manifest) → IsManifest place x manifest → (a b c : SequenceTree) → IsMember (count_said manifest) a → IsMember (count_said manifest) b → IsMember (count_said manifest) c
    → IsPlan (record { shared = tree_or_empty manifest.shared; first = a; second = b; third = c; count = count_said manifest })
parts laws place x manifest is a b c first second third =
    let held = is.common.says_so in
    let common = held.holds.says_so in
    let components = common.components.says_so in
    let inner = entries_of (content_place is.common.entry.value_place held.content) common.map.pairs in
    record {
      some_components = components.some;
      few_components = components.few;
      shared = shared_allowed laws 4 (count_said manifest) inner manifest.shared common.shared;
      first = first;
      second = second;
      third = third;
    }

update : SequenceLaws → (place : ℕ) (x : DataItem) (said : EnvelopeSays) (manifest : Manifest) (members : Members) → IsManifest place x manifest → HasMembers said manifest members → IsPlan (update_tree manifest members)
update laws place x said manifest members is has =
    let count = count_said manifest in
    let es = entries_of place is.map.pairs in
    parts laws place x manifest is _ _ _ (severable_allowed laws 16 count es said.payload_fetch said.payload_fetch_place manifest.payload_fetch members.payload_fetch is.payload_fetch has.payload_fetch)
    (severable_allowed laws 20 count es said.install said.install_place manifest.install members.install is.install has.install)
    (member_allowed laws 7 count es manifest.validate is.validate)

invocation : SequenceLaws → (place : ℕ) (x : DataItem) (manifest : Manifest) → IsManifest place x manifest → IsPlan (invocation_tree manifest)
invocation laws place x manifest is =
    let count = count_said manifest in
    let es = entries_of place is.map.pairs in
    parts laws place x manifest is _ _ _ (member_allowed laws 7 count es manifest.validate is.validate) (member_allowed laws 8 count es manifest.load is.load) (member_allowed laws 9 count es manifest.invoke is.invoke)

-- ---- the order of the members

stands : (held : Option SequenceTree) → StandsFor held (tree_or_empty held)
stands None = record { there = λ t is. absurd cc; absent = λ is. refl }
stands (Some s) = record { there = λ t is. cc; absent = λ is. absurd cc }

member_stands : (member : Member) (apart : Option SequenceTree) → StandsForMember member apart (member_tree member apart)
member_stands Empty apart = record { here = λ t is. absurd cc; elsewhere = λ digest is. absurd cc; absent = λ is. refl }
member_stands (Here s) apart = record { here = λ t is. cc; elsewhere = λ digest is. absurd cc; absent = λ is. absurd cc }
member_stands (Apart stated) apart = record { here = λ t is. absurd cc; elsewhere = λ digest is. stands apart; absent = λ is. absurd cc }

pub procedure_laws : SequenceLaws → ProcedureLaws
procedure_laws laws = record {
  update = update laws;
  invocation = invocation laws;
  update_order = λ manifest members. record {
    shared = stands manifest.shared;
    first = member_stands manifest.payload_fetch members.payload_fetch;
    second = member_stands manifest.install members.install;
    third = stands manifest.validate;
    count = refl;
  };
  invocation_order = λ manifest. record {
    shared = stands manifest.shared;
    first = stands manifest.validate;
    second = stands manifest.load;
    third = stands manifest.invoke;
    count = refl;
  };
}
