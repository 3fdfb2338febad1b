-- An answer of `show FILE`.
use Rattle.std.proofs.Common.{◌≡◌, ℕ, List, ◌⊎◌, inl, inr, ◌∙◌, refl}
use Rattle.suit_envelope.specs.Envelopes.{EnvelopeSays, map_entries}
use Rattle.suit_envelope.specs.Payloads.{HasPayloads, integrated_payloads}
use Rattle.suit_envelope.specs.Said.{EnvelopeOf}
use Rattle.suit_manifest.specs.declared.manifest.Manifest.{Manifest}
use Rattle.suit_manifest.specs.declared.manifest.Members.{Members}
use Rattle.suit_cli.specs.declared.reply.Object.{Object}
use Rattle.suit_cli.specs.declared.reply.Reply.{Reply}
use Rattle.suit_cli.specs.Outside.{Outside}
use Rattle.suit_cli.specs.Stages.{Says, FaultOf, Goes, Declines, Faults, Ends}
use Rattle.suit_cli.specs.Holding.{HasManifest}
use Rattle.suit_cli.specs.Describing.{IsDescribed}
use Rattle.suit_cli.specs.Commands.{describes_manifest, describes}
use Rattle.suit_cli.specs.CommandCauses.{NoManifest}
use Rattle.suit_cli.specs.DescribingCauses.{DescribingSays, BeforeMembers, AtMembers, AtText, AtDescription}
use Rattle.suit_cli.proofs.OneStage.{one_reply}
use Rattle.suit_cli.proofs.Running.{declining, no_manifest_declines, lack_told, Plain, Reached, reaches}

pub describing_says : (name : List ℕ) (b a : Outside) (r : Reply) → describes name b a (Says r) → DescribingSays name b r
describing_says name b a r answer = of_reached (reaches name describes_manifest b a r answer) where
  of_rest : (said : EnvelopeSays) (manifest : Manifest) (m : Outside) (has : HasManifest name b said manifest) → describes_manifest has.in_envelope.bytes said manifest m a (Says r)
      → DescribingSays name b r
  of_rest said manifest m has (Declines _ d) = AtMembers said manifest has d.1
  of_rest said manifest m has (Goes members m0 _ mem (Declines _ d)) = AtText said manifest members has mem.1 d.1
  of_rest said manifest m has (Goes members m0 _ mem (Goes u m1 _ text (Ends _ same says))) = AtDescription said manifest members has mem.1 text.1 says

  of_reached : NoManifest name b r ⊎ Reached name describes_manifest b a (Says r) → DescribingSays name b r
  of_reached (inl none) = BeforeMembers none
  of_reached (inr at) = of_rest at.said at.manifest at.there at.has at.on

-- the payloads that it has
payloads_of : (bytes : List ℕ) (said : EnvelopeSays) (envelope : EnvelopeOf bytes said) → HasPayloads bytes (integrated_payloads (map_entries envelope.says_so.map))
payloads_of bytes said envelope = record { said = said; envelope = envelope; are = refl }

-- a description is told once
pub one_description : (bytes : List ℕ) (said : EnvelopeSays) (manifest : Manifest) (members : Members) (r q : Reply) → EnvelopeOf bytes said
    → IsDescribed bytes said manifest members r → IsDescribed bytes said manifest members q → q ≡ r
one_description bytes said manifest members r q envelope first second =
    let has = payloads_of bytes said envelope in
    one_reply r q _ _ (first.text _ has) (second.text _ has)

-- it declines, or is done
pub described : (name : List ℕ) (b a : Outside) (r : Reply) → describes name b a (Says r) → Plain r.outcome
described name b a r answer = of_says (describing_says name b a r answer) where
  of_says : DescribingSays name b r → Plain r.outcome
  of_says (BeforeMembers none) = inl (no_manifest_declines name b r none)
  of_says (AtMembers said manifest has lack) = inl (lack_told r lack.fault lack.says)
  of_says (AtText said manifest members has mem other) = inl (declining r _ _ other.says tt)
  of_says (AtDescription said manifest members has mem text says) = inr (says.text _ (payloads_of has.in_envelope.bytes said has.in_envelope.envelope)).outcome_is

-- ---- what it leaves

pub describes_still : (bytes : List ℕ) (said : EnvelopeSays) (manifest : Manifest) (m a : Outside) (r : Reply) → describes_manifest bytes said manifest m a (Says r) → a ≡ m
describes_still bytes said manifest m a r (Declines _ d) = d.0
describes_still bytes said manifest m a r (Goes members m0 _ mem (Declines _ d)) = d.0 ∙ mem.0
describes_still bytes said manifest m a r (Goes members m0 _ mem (Goes u m1 _ text (Ends _ same says))) = same ∙ text.0 ∙ mem.0

pub describes_never_fault : (bytes : List ℕ) (said : EnvelopeSays) (manifest : Manifest) (object : Object) (m a : Outside) → describes_manifest bytes said manifest m a (FaultOf object) → ⊥
describes_never_fault bytes said manifest object m a (Faults _ f) = f
describes_never_fault bytes said manifest object m a (Goes members m0 _ mem (Faults _ f)) = f
describes_never_fault bytes said manifest object m a (Goes members m0 _ mem (Goes _ middle _ _ last)) = elim last [ ]
