-- The text of a description that was written.
use Rattle.std.proofs.Common.{◌≡◌, ◌∙◌, ℕ, List, false, Result, Ok, Err, ap}
use Rattle.std.specs.Prelude.{IfOk, ◌++◌, codes}
use Rattle.std.specs.declared.alloc.AllocError.{AllocError}
use Rattle.serde_json.specs.Data.{Data}
use Rattle.serde_json.specs.Written.{compact_text, has_float}
use Rattle.suit_envelope.specs.Envelopes.{EnvelopeSays}
use Rattle.suit_envelope.specs.Payloads.{HasPayloads}
use Rattle.suit_manifest.specs.declared.manifest.Manifest.{Manifest}
use Rattle.suit_manifest.specs.declared.manifest.Members.{Members}
use Rattle.describe.specs.Again.{HasNoFloat}
use Rattle.describe.specs.Describing.{described_by}
use Rattle.suit_cli.specs.declared.reply.Outcome.TheVariants as outcomes
use Rattle.suit_cli.specs.declared.reply.Reply.{Reply}
use Rattle.suit_cli.specs.Describing.{IsDescribed, IsDescription}
use Rattle.suit_cli.specs.Replies.{IsReply}

pub description_said : {S : Type 0} (bytes_of : S → List ℕ) (r : Result S AllocError) (d : Data) (whole : List ℕ) (said : EnvelopeSays) (m : Manifest) (apart : Members) → HasNoFloat
    → ((payloads : List (List ℕ × List ℕ)) → HasPayloads whole payloads → d ≡ described_by said payloads m apart)
    → IfOk r (λ s. has_float d ≡ false → bytes_of s ≡ compact_text d)
    → IfOk r (λ s. (payloads : List (List ℕ × List ℕ)) → HasPayloads whole payloads → bytes_of s ≡ compact_text (described_by said payloads m apart))
description_said bytes_of (Ok s) d whole said m apart no_float is text =
    λ payloads has. text (ap has_float (is payloads has) ∙ no_float said payloads m apart) ∙ ap compact_text (is payloads has)
description_said bytes_of (Err e) d whole said m apart no_float is text = tt

-- as a line, it is the reply
pub described_line : (whole : List ℕ) (said : EnvelopeSays) (m : Manifest) (apart : Members) (text : List ℕ) (reply : Reply) → IsDescription whole said m apart text
    → IsReply reply outcomes.Done (text ++ codes "\n") → IsDescribed whole said m apart reply
described_line whole said m apart text reply is line = record {
  text = λ payloads has. record { outcome_is = line.outcome_is; text_is = line.text_is ∙ ap (λ (t : List ℕ). t ++ codes "\n") (is payloads has) };
}
