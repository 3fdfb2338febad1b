-- How a manifest is read, from an item that was judged before.
use Rattle.std.specs.Prelude.{ℕ, false, List, Option, length, Result, Ok, Err}
use Rattle.det_cbor.specs.declared.head.HeadKind.{HeadKind}
use Rattle.det_cbor.specs.declared.head.HeadKind.TheVariants as kinds
use Rattle.det_cbor.specs.HeadReading.{◌>>=◌}
use Rattle.det_cbor.specs.Position.{Position}
use Rattle.suit_params.specs.declared.refusal.Refusal.{Refusal}
use Rattle.suit_params.specs.declared.refusal.Why.TheVariants.{Shape}
use Rattle.suit_params.specs.Refusing.{refused}
use Rattle.suit_params.specs.Reading.{head_from, only_from, content_from, map_from}
use Rattle.suit_params.specs.DigestReading.{digest_at}
use Rattle.suit_params.specs.ParamReading.{text_bytes}
use Rattle.suit_commands.specs.Allowed.{levels_inside}
use Rattle.suit_commands.specs.SequenceReading.{whole_sequence}
use Rattle.suit_commands.specs.Tree.{SequenceTree}
use Rattle.suit_manifest.specs.declared.manifest.Manifest.{Manifest}
use Rattle.suit_manifest.specs.declared.manifest.Member.{Member}
use Rattle.suit_manifest.specs.declared.manifest.Member.TheVariants as members
use Rattle.suit_manifest.specs.declared.manifest.TextMember.{TextMember}
use Rattle.suit_manifest.specs.declared.manifest.TextMember.TheVariants as texts
use Rattle.suit_manifest.specs.declared.later.Later.{Later}
use Rattle.suit_manifest.specs.declared.manifest_map.ManifestValues.{ManifestValues}
use Rattle.suit_manifest.specs.declared.manifest_map.LaterValues.{LaterValues}
use Rattle.suit_manifest.specs.declared.pairs.Pairs.{Pairs}
use Rattle.suit_manifest.specs.Elements.{held_at, only_at}
use Rattle.suit_manifest.specs.MapReading.{needed, may, take_from, end_from}
use Rattle.suit_manifest.specs.CommonReading.{common_at}
use Rattle.suit_manifest.specs.ManifestJudging.{known_version, member_or_empty, text_of, manifest_of}

-- ---- values

abbrev pub number_after : ℕ → ℕ → HeadKind → Result ℕ Refusal
number_after place n kinds.Unsigned = Ok n
number_after place n _ = Err (refused place Shape)

unfoldable pub number_at : Position → Result ℕ Refusal
number_at p = head_from p >>= λ h. number_after p.place h.0.value h.0.kind

abbrev pub version_at : Position → Result ℕ Refusal
version_at p = number_at p >>= known_version p.place

abbrev pub text_after : ℕ → ℕ → Position → HeadKind → Result (List ℕ) Refusal
text_after place n p kinds.Text = text_bytes place n p >>= λ t. Ok t.0
text_after place n p _ = Err (refused place Shape)

unfoldable pub text_at : Position → Result (List ℕ) Refusal
text_at p = head_from p >>= λ h. text_after p.place h.0.value h.1 h.0.kind

abbrev pub member_at : ℕ → Position → Result SequenceTree Refusal
member_at count = held_at (whole_sequence false count levels_inside)

-- an array is read one way, and anything else the other way
abbrev pub array_or : {A : Type 0} → Result A Refusal → Result A Refusal → HeadKind
    → Result A Refusal
array_or array other kinds.Array = array
array_or array other _ = other

abbrev pub apart_at : Position → Result Member Refusal
apart_at p = digest_at p >>= λ d. Ok (members.Apart d)

abbrev pub here_at : ℕ → Position → Result Member Refusal
here_at count p = member_at count p >>= λ s. Ok (members.Here s)

unfoldable pub severed_at : ℕ → Position → Result Member Refusal
severed_at count p = head_from p >>= λ h. array_or (apart_at p) (here_at count p) h.0.kind

abbrev pub text_apart_at : Position → Result TextMember Refusal
text_apart_at p = digest_at p >>= λ d. Ok (texts.Apart d)

abbrev pub text_here_at : Position → Result TextMember Refusal
text_here_at p = content_from p >>= λ c. only_from c.0 >>= λ _. Ok (texts.Here c.0.left)

unfoldable pub text_member_at : Position → Result TextMember Refusal
text_member_at p = head_from p >>= λ h. array_or (text_apart_at p) (text_here_at p) h.0.kind

-- ---- optional values

abbrev pub severed_in : ℕ → Option Position → Result Member Refusal
severed_in count o = may (severed_at count) o >>= λ m. Ok (member_or_empty m)

abbrev pub text_in : Option Position → Result TextMember Refusal
text_in o = may text_member_at o >>= λ m. Ok (text_of m)

-- the values that follow the common part, for this number of components
abbrev pub later_from : ℕ → LaterValues → Result Later Refusal
later_from count v =
    may text_at v.reference >>= λ reference.
    may (member_at count) v.validate >>= λ validate.
    may (member_at count) v.load >>= λ load.
    may (member_at count) v.invoke >>= λ invoke.
    severed_in count v.payload_fetch >>= λ payload_fetch.
    severed_in count v.install >>= λ install.
    text_in v.text >>= λ text.
    Ok
    (record {
      reference = reference;
      validate = validate;
      load = load;
      invoke = invoke;
      payload_fetch = payload_fetch;
      install = install;
      text = text;
    })

-- ---- the map

-- the values that follow the common part, in the order of their keys
abbrev pub later_found : Pairs → Result LaterValues Refusal
later_found s =
    take_from 4 s >>= λ reference.
    take_from 7 reference.1 >>= λ validate.
    take_from 8 validate.1 >>= λ load.
    take_from 9 load.1 >>= λ invoke.
    take_from 16 invoke.1 >>= λ payload_fetch.
    take_from 20 payload_fetch.1 >>= λ install.
    take_from 23 install.1 >>= λ text.
    end_from text.1 >>= λ _.
    Ok
    (record {
      reference = reference.0;
      validate = validate.0;
      load = load.0;
      invoke = invoke.0;
      payload_fetch = payload_fetch.0;
      install = install.0;
      text = text.0;
    })

-- all values of a manifest's map
abbrev pub manifest_found : Pairs → Result ManifestValues Refusal
manifest_found s =
    take_from 1 s >>= λ version. take_from 2 version.1 >>= λ sequence. take_from 3 sequence.1
    >>= λ common. later_found common.1
    >>= λ later. Ok
    (record {
      version = version.0;
      sequence = sequence.0;
      common = common.0;
      later = later;
    })

-- the values of a map at this place
abbrev pub values_from : ℕ → ManifestValues → Result Manifest Refusal
values_from place v =
    needed place 1 v.version >>= λ a.
    needed place 2 v.sequence >>= λ b.
    needed place 3 v.common >>= λ c.
    version_at a >>= λ version.
    number_at b >>= λ n.
    held_at (only_at common_at) c >>= λ common.
    later_from (length common.components) v.later >>= λ later.
    Ok (manifest_of n common later)

abbrev pub pairs_from : ℕ → ℕ → Position → Result Manifest Refusal
pairs_from place pairs p = manifest_found (record { map = p; left = pairs }) >>= values_from place

-- a whole item, read as a manifest
abbrev pub manifest_at : Position → Result Manifest Refusal
manifest_at p = map_from p >>= λ h. pairs_from p.place h.0 h.1

-- bytes as a whole, read as a manifest
abbrev pub manifest_from : Position → Result Manifest Refusal
manifest_from p = only_at manifest_at p
