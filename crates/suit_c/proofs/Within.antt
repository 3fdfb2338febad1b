-- The manifest of an envelope lies in its bytes.
use Rattle.std.specs.Prelude.{◌<◌, ◌≤◌, ◌+◌, ℕ, List, length}
use Rattle.std.proofs.Common.{arith, suc}
use Rattle.suit_envelope.specs.EnvelopeLaws.{EnvelopeLaws}
use Rattle.suit_envelope.specs.Envelopes.{EnvelopeSays}
use Rattle.suit_envelope.specs.Said.{EnvelopeOf}

pub manifest_within : (laws : EnvelopeLaws) (bytes : List ℕ) (said : EnvelopeSays) → EnvelopeOf bytes said → said.manifest_place + length said.manifest ≤ length bytes
manifest_within laws bytes said envelope =
    let ends : said.manifest_place + length said.manifest < suc (length bytes) = (laws.ends bytes said (suc (length bytes)) envelope (omega arith)).manifest in omega (arith, ends)
