-- Texts and bytes that are read of values.
use Rattle.std.proofs.Common.{◌≡◌, ℕ, List, Option, Some, None, Result, Ok, Err, refl, ap, ◌∙◌}
use Rattle.std.specs.Prelude.{option_and_then}
use Rattle.serde_json.specs.Data.{Data, null, boolean, number, string, array, object}
use Rattle.serde_json.specs.Find.{as_str}
use Rattle.json_fields.specs.declared.flaw.Flaw.{Flaw}
use Rattle.json_fields.specs.declared.flaw.FlawKind.{FlawKind}
use Rattle.json_fields.specs.declared.flaw.FlawKind.TheVariants.{Hex}
use Rattle.json_fields.specs.Flaws.{found_or}
use Rattle.json_fields.specs.Values.{text_of, hex_of}
use Rattle.suit_params.specs.declared.digest.Digest.{Digest}
use Rattle.suit_params.specs.DigestBytes.{as_digest}
use Rattle.author.specs.DigestValues.{digest_spelled}
use Rattle.author.specs.GivenParts.{bytes_spelled}
use Rattle.author.proofs.Keeps.{Holds, WasRead, WasFlawed, held, holds_bind, holds_weaker}

pub same_found : {A : Type 0} (kind : FlawKind) (o : Option A) → Holds (λ x. o ≡ Some x) (found_or kind o)
same_found kind (Some x) = WasRead x refl
same_found kind None = WasFlawed _

pub holds_both : {A : Type 0} (P Q : A → Type 0) (r : Result A Flaw) → Holds P r → Holds Q r → Holds (λ x. P x × Q x) r
holds_both P Q _ (WasRead x h) other = WasRead x (h, held Q (Ok x) x other refl)
holds_both P Q _ (WasFlawed f) other = WasFlawed f

pub text_read : (d : Data) → Holds (λ s. as_str d ≡ Some s) (text_of d)
text_read (string s) = WasRead s refl
text_read null = WasFlawed _
text_read (boolean b) = WasFlawed _
text_read (number n) = WasFlawed _
text_read (array ds) = WasFlawed _
text_read (object ms) = WasFlawed _

-- bytes that the digits of a text spell
abbrev pub Spelled : Data → List ℕ → Type 0
Spelled d bytes = option_and_then bytes_spelled (as_str d) ≡ Some bytes

pub hex_spelled : (d : Data) → Holds (Spelled d) (hex_of d)
hex_spelled (string s) = same_found Hex (bytes_spelled s)
hex_spelled null = WasFlawed _
hex_spelled (boolean b) = WasFlawed _
hex_spelled (number n) = WasFlawed _
hex_spelled (array ds) = WasFlawed _
hex_spelled (object ms) = WasFlawed _

-- and those of a digest
abbrev pub SpelledDigest : Data → Digest → Type 0
SpelledDigest d digest = option_and_then as_digest (option_and_then bytes_spelled (as_str d)) ≡ Some digest

pub digest_given : (d : Data) → Holds (SpelledDigest d) (digest_spelled d)
digest_given d =
    holds_bind (Spelled d) (SpelledDigest d) (hex_of d) _ (hex_spelled d) (λ bytes h.
    holds_weaker _ (SpelledDigest d) _ (same_found Hex (as_digest bytes)) (λ digest e. ap (option_and_then as_digest) h ∙ e))

pub same_read : {A : Type 0} (r : Result A Flaw) → Holds (λ x. r ≡ Ok x) r
same_read (Ok x) = WasRead x refl
same_read (Err f) = WasFlawed f
