-- Laws of the procedures of a manifest of the grammar.
use Rattle.std.specs.Prelude.{◌≡◌, ℕ, length, Option, Some, None}
use Rattle.det_cbor.specs.DataItem.{DataItem}
use Rattle.suit_params.specs.declared.digest.Digest.{Digest}
use Rattle.suit_commands.specs.Allowed.{IsPlan}
use Rattle.suit_commands.specs.Tree.{SequenceTree, NoSteps, PlanTree}
use Rattle.suit_envelope.specs.Envelopes.{EnvelopeSays}
use Rattle.suit_manifest.specs.declared.manifest.Manifest.{Manifest}
use Rattle.suit_manifest.specs.declared.manifest.Member.{Member}
use Rattle.suit_manifest.specs.declared.manifest.Member.TheVariants.{Empty, Here, Apart}
use Rattle.suit_manifest.specs.declared.manifest.Members.{Members}
use Rattle.suit_manifest.specs.Manifests.{IsManifest}
use Rattle.suit_manifest.specs.MembersApart.{HasMembers}
use Rattle.suit_manifest.specs.Procedures.{update_tree, invocation_tree}

-- a procedure has this sequence for an optional one: the sequence itself, or else an empty one
pub record StandsFor (held : Option SequenceTree) (s : SequenceTree) : Type 0 where
  pub there : (t : SequenceTree) → held ≡ Some t → s ≡ t
  pub absent : held ≡ None → s ≡ NoSteps

-- the same for a severable member, given the severed one
pub record StandsForMember (member : Member) (apart : Option SequenceTree) (s : SequenceTree)
    : Type 0 where
  pub here : (t : SequenceTree) → member ≡ Here t → s ≡ t
  pub elsewhere : (digest : Digest) → member ≡ Apart digest → StandsFor apart s
  pub absent : member ≡ Empty → s ≡ NoSteps

-- payload-fetch comes first, install second and validate third
pub record UpdatesInOrder (manifest : Manifest) (members : Members) (plan : PlanTree)
    : Type 0 where
  pub shared : StandsFor manifest.shared plan.shared
  pub first : StandsForMember manifest.payload_fetch members.payload_fetch plan.first
  pub second : StandsForMember manifest.install members.install plan.second
  pub third : StandsFor manifest.validate plan.third
  pub count : plan.count ≡ length manifest.components

-- validate comes first, load second and invoke third
pub record InvokesInOrder (manifest : Manifest) (plan : PlanTree) : Type 0 where
  pub shared : StandsFor manifest.shared plan.shared
  pub first : StandsFor manifest.validate plan.first
  pub second : StandsFor manifest.load plan.second
  pub third : StandsFor manifest.invoke plan.third
  pub count : plan.count ≡ length manifest.components

-- Each procedure has its members in their order, and is one of the grammar; for the update procedure this
-- holds with whatever members an envelope has.
pub record ProcedureLaws : Type 0 where
  pub update : (place : ℕ) (x : DataItem) (said : EnvelopeSays) (manifest : Manifest)
      (members : Members)
      → IsManifest place x manifest → HasMembers said manifest members
      → IsPlan (update_tree manifest members)
  pub invocation : (place : ℕ) (x : DataItem) (manifest : Manifest) → IsManifest place x manifest
      → IsPlan (invocation_tree manifest)
  pub update_order : (manifest : Manifest) (members : Members)
      → UpdatesInOrder manifest members (update_tree manifest members)
  pub invocation_order : (manifest : Manifest)
      → InvokesInOrder manifest (invocation_tree manifest)
