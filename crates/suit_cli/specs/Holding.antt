-- What a file holds, as far as the stages judge it.
use Rattle.std.specs.Prelude.{◌≡◌, ℕ, List}
use Rattle.suit_commands.specs.Tree.{PlanTree}
use Rattle.suit_envelope.specs.Envelopes.{EnvelopeSays}
use Rattle.suit_envelope.specs.Said.{EnvelopeOf}
use Rattle.suit_manifest.specs.declared.manifest.Manifest.{Manifest}
use Rattle.suit_manifest.specs.declared.manifest.Members.{Members}
use Rattle.suit_manifest.specs.MembersApart.{HasMembers}
use Rattle.suit_manifest.specs.Procedures.{update_tree, invocation_tree}
use Rattle.suit_cli.specs.Outside.{Outside}
use Rattle.suit_cli.specs.Inputs.{longest_file, longest_shown, IsRead}
use Rattle.suit_cli.specs.Envelopes.{AreBytes, IsShort, ManifestOf}
use Rattle.suit_cli.specs.Judgement.{IsNarrow}

-- the file has an envelope
pub record HasEnvelope (name : List ℕ) (before : Outside) (said : EnvelopeSays) : Type 0 where
  pub bytes : List ℕ
  pub read : IsRead longest_file name before bytes
  pub are_bytes : AreBytes bytes
  pub envelope : EnvelopeOf bytes said

-- the file has an envelope within the limit, with this manifest
pub record HasManifest (name : List ℕ) (before : Outside) (said : EnvelopeSays)
    (manifest : Manifest) : Type 0 where
  pub in_envelope : HasEnvelope name before said
  pub is_short : IsShort longest_shown said
  pub says : ManifestOf said manifest

-- the envelope's members are there and match, and these are its procedures, within the width that is judged
pub record HasProcedures (name : List ℕ) (before : Outside) (update invocation : PlanTree)
    : Type 0 where
  pub said : EnvelopeSays
  pub manifest : Manifest
  pub members : Members
  pub has_manifest : HasManifest name before said manifest
  pub has_members : HasMembers said manifest members
  pub update_is : update ≡ update_tree manifest members
  pub invocation_is : invocation ≡ invocation_tree manifest
  pub update_narrow : IsNarrow update
  pub invocation_narrow : IsNarrow invocation
