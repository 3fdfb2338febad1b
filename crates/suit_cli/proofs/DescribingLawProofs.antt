-- Where `show FILE` stops.
use Rattle.std.proofs.Common.{◌≡◌, ℕ, List, refl}
use Rattle.std.specs.Prelude.{IsTrue}
use Rattle.suit_envelope.specs.Envelopes.{EnvelopeSays}
use Rattle.suit_envelope.specs.EnvelopeLaws.{EnvelopeLaws}
use Rattle.suit_manifest.specs.declared.manifest.Manifest.{Manifest}
use Rattle.suit_manifest.specs.ManifestLaws.{ManifestLaws}
use Rattle.suit_manifest.specs.MembersApart.{HasMembers}
use Rattle.suit_manifest.specs.MembersLaws.{MembersLaws}
use Rattle.describe.specs.MembersThere.{only_there}
use Rattle.suit_cli.specs.declared.reply.Reply.{Reply}
use Rattle.suit_cli.specs.Outside.{Outside}
use Rattle.suit_cli.specs.Describing.{TextDiffers, IsOtherText, IsDescribed}
use Rattle.suit_cli.specs.Envelopes.{IsLack}
use Rattle.suit_cli.specs.Commands.{describes_manifest}
use Rattle.suit_cli.specs.DescribingCauses.{DescribingSays, BeforeMembers, AtMembers, AtText, AtDescription}
use Rattle.suit_cli.specs.DescribingLaws.{DescribingLaws}
use Rattle.suit_cli.proofs.OneCause.{Behind, Stops, Passes, HasOne, just_one}
use Rattle.suit_cli.proofs.OneStage.{one_reply, one_members}
use Rattle.suit_cli.proofs.Running.{InManifest, file_asks, file_faults, has_passed, one_in_manifest, stops_before}
use Rattle.suit_cli.proofs.Describing.{describing_says, one_description, describes_still, describes_never_fault}

one_text : (said : EnvelopeSays) (manifest : Manifest) → HasOne (λ (u : Unit {0}). TextDiffers said manifest.text → ⊥) (IsOtherText said manifest)
one_text said manifest = record { value = λ x y g h. refl; refusal = λ r q g h. one_reply r q _ _ g.says h.says; never = λ x q g h. g h.other }

-- the stages behind the manifest, as the start has them
abbrev Describes : List ℕ → EnvelopeSays → Manifest → Reply → Type 0
Describes bytes said manifest =
    Behind (HasMembers said (only_there said manifest)) (IsLack said (only_there said manifest)) (λ members.
    Behind (λ (u : Unit {0}). TextDiffers said manifest.text → ⊥) (IsOtherText said manifest) (λ u. IsDescribed bytes said manifest members))

describing_stages : (name : List ℕ) (b : Outside) (r : Reply) → DescribingSays name b r → InManifest name b Describes r
describing_stages name b r (BeforeMembers none) = stops_before name b Describes r none
describing_stages name b r (AtMembers said manifest has lack) = has_passed name b Describes r said manifest has (Stops lack)
describing_stages name b r (AtText said manifest taken has mem other) = has_passed name b Describes r said manifest has (Passes taken mem (Stops other))
describing_stages name b r (AtDescription said manifest taken has mem text says) = has_passed name b Describes r said manifest has (Passes taken mem (Passes tt text says))

one_describing : EnvelopeLaws → ManifestLaws → MembersLaws → (name : List ℕ) (b : Outside) → IsTrue b.told → (r q : Reply) → DescribingSays name b r → DescribingSays name b q → q ≡ r
one_describing envelopes manifests members name b told r q first second =
    one_in_manifest envelopes manifests name b told Describes Describes (λ x y. y ≡ x) (λ x y same. same)
    (λ bytes said manifest is. just_one _ _ _ (one_members members bytes said (only_there said manifest) is) (λ taken mem. just_one _ _ _ (one_text said manifest)
    (λ u text x y. one_description bytes said manifest taken x y is)))
    r q (describing_stages name b r first) (describing_stages name b q second)

pub describing_laws : EnvelopeLaws → ManifestLaws → MembersLaws → DescribingLaws
describing_laws envelopes manifests members = record {
  only = λ name b a r answer. describing_says name b a r answer;
  always = λ name b a r q told says answer. one_describing envelopes manifests members name b told r q says (describing_says name b a q answer);
  asks = λ name b a r answer. file_asks name describes_manifest b a r (λ bytes said manifest m on. describes_still bytes said manifest m a r on) answer;
  faults = λ name b a object answer. file_faults name describes_manifest b a (λ bytes said manifest o m f. describes_never_fault bytes said manifest o m a f) object answer;
}
