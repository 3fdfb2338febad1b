-- The integrated payloads of an envelope that is made (draft-ietf-suit-manifest-25, section 8.2).
use Rattle.std.specs.Prelude.{◌≡◌, ℕ, List, Ok}
use Rattle.serde_json.specs.Data.{Data}
use Rattle.suit_envelope.specs.Payloads.{HasPayloads}
use Rattle.author.specs.declared.fields.Described.{Described}
use Rattle.author.specs.Descriptions.{described}

-- the bytes are an envelope whose payloads are those of the description, each with its bytes
pub record HoldsPayloadsOf (d : Data) (files : List (List ℕ × List ℕ)) (bytes : List ℕ)
    : Type 0 where
  pub described_as : Described
  pub reads : described files d ≡ Ok described_as
  pub payloads : HasPayloads bytes described_as.payloads
