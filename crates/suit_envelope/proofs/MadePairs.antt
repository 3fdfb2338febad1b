-- The pairs of an envelope that is made from its parts.
use Rattle.std.proofs.Common.{◌≡◌, ℕ, List, [], ◌∷◌, length, refl, arith}
use Rattle.det_cbor.specs.DataItem.{pair_count}
use Rattle.suit_envelope.specs.Making.{payload_pairs}

pub payload_count : (ps : List (List ℕ × List ℕ)) → pair_count (payload_pairs ps) ≡ length ps
payload_count [] = refl
payload_count (p ∷ ps) = let rest : pair_count (payload_pairs ps) ≡ length ps = payload_count ps in omega (arith, rest)
