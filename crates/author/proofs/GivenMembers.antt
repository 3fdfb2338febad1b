-- Members that may be severed are those that stand in a description.
use Rattle.std.proofs.Common.{◌≡◌, ℕ, zero, suc, List, Bool, true, false, cond, Option, Some, None, Ok, refl, ◌∙◌}
use Rattle.std.specs.Prelude.{codes, option_and_then}
use Rattle.std.specs.Str.{bytes_eq}
use Rattle.serde_json.specs.Data.{Data, null, boolean, number, string, array, object, Items, no_items, item, Members}
use Rattle.serde_json.specs.Find.{get_member, as_str}
use Rattle.json_fields.specs.declared.flaw.FlawKind.TheVariants.{Field}
use Rattle.json_fields.specs.Flaws.{flawed}
use Rattle.json_fields.specs.Objects.{required}
use Rattle.suit_params.specs.DigestBytes.{as_digest}
use Rattle.suit_params.specs.declared.digest.Digest.{Digest}
use Rattle.suit_commands.specs.Allowed.{levels_allowed}
use Rattle.suit_manifest.specs.declared.manifest.Member.TheVariants as members
use Rattle.suit_manifest.specs.declared.manifest.TextMember.TheVariants as texts
use Rattle.author.specs.declared.member_fields.DigestField.{DigestField}
use Rattle.author.specs.Commands.{sequence_of}
use Rattle.author.specs.GivenCommands.{HasCommandsOf}
use Rattle.author.specs.GivenParts.{bytes_spelled, bytes_under, IsMemberOf, IsTextOf}
use Rattle.author.specs.KeysOnce.{HasKeysOnce, AreKeysOnce}
use Rattle.author.specs.Members.{takes_digest, left_out, described_member, is_one_item, text_member_of}
use Rattle.author.specs.Scope.{Scope}
use Rattle.author.proofs.Found.{pick, one_found}
use Rattle.author.proofs.GivenCommandProofs.{steps_hold}
use Rattle.author.proofs.GivenValues.{Spelled, SpelledDigest, digest_given, hex_spelled}
use Rattle.author.proofs.Keeps.{Holds, WasRead, WasFlawed, holds_bind, holds_required, holds_weaker}

-- ---- the digest of one that is left out

abbrev DigestIs : Option Data → DigestField → Type 0
DigestIs o t = option_and_then as_digest (option_and_then bytes_spelled (option_and_then as_str o)) ≡ t.digest

digest_step : (o : Option Data) (t : DigestField) (k : List ℕ) (d : Data) → HasKeysOnce d → DigestIs o t → Holds (DigestIs (pick k (codes "digest") d o)) (takes_digest t k d)
digest_step o t k d once h = by (bytes_eq k (codes "digest"))
  where
    by : (b : Bool) → Holds (DigestIs (cond b (Some d) o)) (cond b (takes_digest t (codes "digest") d) (takes_digest t (codes "other") d))
    by true = holds_bind (SpelledDigest d) (DigestIs (Some d)) _ _ (digest_given d) (λ digest g. WasRead _ g)
    by false = WasFlawed _

left_out_holds : (ms : Members) → AreKeysOnce ms → Holds (λ digest. option_and_then as_digest (bytes_under (codes "digest") (object ms)) ≡ Some digest) (left_out (object ms))
left_out_holds ms once =
    let P : Digest → Type 0 = λ digest. option_and_then as_digest (bytes_under (codes "digest") (object ms)) ≡ Some digest in
    holds_bind (DigestIs (get_member (codes "digest") ms)) P _ _ (one_found takes_digest DigestIs (codes "digest") digest_step ms (record { digest = None }) once refl) (λ t h.
    holds_weaker (λ x. t.digest ≡ Some x) P (required (codes "digest") t.digest) (holds_required (codes "digest") t.digest) (λ x e. h ∙ e))

-- ---- sequences

sequence_holds : (scope : Scope) (levels : ℕ) (ds : Items) → Holds (HasCommandsOf ds) (sequence_of scope levels (array ds))
sequence_holds scope zero ds = WasFlawed _
sequence_holds scope (suc levels) no_items = WasFlawed _
sequence_holds scope (suc levels) (item d ds) = steps_hold scope levels 0 (item d ds)

-- ---- members

pub member_given : (scope : Scope) (d : Data) → HasKeysOnce d → Holds (IsMemberOf (Some d)) (described_member scope d)
member_given scope (object ms) once =
    holds_bind (λ digest. option_and_then as_digest (bytes_under (codes "digest") (object ms)) ≡ Some digest) (IsMemberOf (Some (object ms))) _ _ (left_out_holds ms once) (λ digest h. WasRead (members.Apart digest) h)
member_given scope (array ds) once =
    holds_bind (HasCommandsOf ds) (IsMemberOf (Some (array ds))) (sequence_of scope levels_allowed (array ds)) _ (sequence_holds scope levels_allowed ds) (λ s h. WasRead (members.Here s) h)
member_given scope null once = WasFlawed _
member_given scope (boolean b) once = WasFlawed _
member_given scope (number n) once = WasFlawed _
member_given scope (string s) once = WasFlawed _

one_item_holds : (digits bytes : List ℕ) (b : Bool) → bytes_spelled digits ≡ Some bytes → Holds (IsTextOf (Some (string digits))) (cond b (Ok (texts.Here bytes)) (flawed Field))
one_item_holds digits bytes true h = WasRead (texts.Here bytes) h
one_item_holds digits bytes false h = WasFlawed _

pub text_given : (d : Data) → HasKeysOnce d → Holds (IsTextOf (Some d)) (text_member_of d)
text_given (object ms) once =
    holds_bind (λ digest. option_and_then as_digest (bytes_under (codes "digest") (object ms)) ≡ Some digest) (IsTextOf (Some (object ms))) _ _ (left_out_holds ms once) (λ digest h. WasRead (texts.Apart digest) h)
text_given (string s) once =
    holds_bind (Spelled (string s)) (IsTextOf (Some (string s))) _ _ (hex_spelled (string s)) (λ bytes h. one_item_holds s bytes (is_one_item bytes) h)
text_given null once = WasFlawed _
text_given (boolean b) once = WasFlawed _
text_given (number n) once = WasFlawed _
text_given (array ds) once = WasFlawed _
