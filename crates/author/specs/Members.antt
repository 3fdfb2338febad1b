-- Members of a manifest in a description.
use Rattle.std.specs.Prelude.{ℕ, Bool, false, ◌==◌, if◌then◌else◌, List, length, codes, Option, Some, None, is_some, Result, Ok}
use Rattle.std.specs.Str.{bytes_eq}
use Rattle.det_cbor.specs.HeadReading.{◌>>=◌}
use Rattle.det_cbor.specs.Position.{Position, next_item}
use Rattle.serde_json.specs.Data.{Data}
use Rattle.serde_json.specs.Find.{as_object}
use Rattle.json_fields.specs.declared.flaw.Flaw.{Flaw}
use Rattle.json_fields.specs.declared.flaw.FlawKind.TheVariants.{Field}
use Rattle.json_fields.specs.Flaws.{flawed}
use Rattle.json_fields.specs.Values.{hex_of}
use Rattle.json_fields.specs.Objects.{Takes, object_of, required}
use Rattle.suit_params.specs.declared.digest.Digest.{Digest}
use Rattle.suit_commands.specs.Tree.{SequenceTree}
use Rattle.suit_commands.specs.Allowed.{levels_allowed}
use Rattle.suit_manifest.specs.declared.manifest.Member.{Member}
use Rattle.suit_manifest.specs.declared.manifest.Member.TheVariants as members
use Rattle.suit_manifest.specs.declared.manifest.TextMember.{TextMember}
use Rattle.suit_manifest.specs.declared.manifest.TextMember.TheVariants as texts
use Rattle.author.specs.declared.member_fields.DigestField.{DigestField}
use Rattle.author.specs.Scope.{Scope}
use Rattle.author.specs.Commands.{sequence_of}
use Rattle.author.specs.DigestValues.{digest_spelled}

-- the sequence of a member
abbrev pub member_sequence : Scope → Data → Result SequenceTree Flaw
member_sequence scope d = sequence_of scope levels_allowed d

abbrev pub takes_digest : Takes DigestField
takes_digest t key d =
    if bytes_eq key (codes "digest")
    then (digest_spelled d >>= λ digest. Ok (record t { digest = Some digest }))
    else flawed Field

-- `{"digest": HEX}`, for a member that is left out
abbrev pub left_out : Data → Result Digest Flaw
left_out d =
    object_of takes_digest (record { digest = None }) d >>= λ t. required (codes "digest") t.digest

abbrev pub described_member : Scope → Data → Result Member Flaw
described_member scope d =
    if is_some (as_object d)
    then (left_out d >>= λ digest. Ok (members.Apart digest))
    else (member_sequence scope d >>= λ s. Ok (members.Here s))

abbrev pub ends_here : Option (List ℕ × Position) → Bool
ends_here None = false
ends_here (Some next) = length next.1.left == 0

-- the bytes are exactly one item of deterministic CBOR
abbrev pub is_one_item : List ℕ → Bool
is_one_item bytes = ends_here (next_item (record { left = bytes; place = 0 }))

abbrev pub one_item : List ℕ → Result TextMember Flaw
one_item bytes = if is_one_item bytes then Ok (texts.Here bytes) else flawed Field

abbrev pub text_member_of : Data → Result TextMember Flaw
text_member_of d =
    if is_some (as_object d)
    then (left_out d >>= λ digest. Ok (texts.Apart digest))
    else (hex_of d >>= λ bytes. one_item bytes)
