use Rattle.std.proofs.Common.{◌≡◌, ◌++◌, drop}
use Rattle.std.specs.List.{AllByRecursion}
use Rattle.det_cbor.specs.DataItem.{spell_pairs}
use Rattle.suit_envelope.specs.Making.{payload_pairs, IsPayload}
use Rattle.suit_envelope.proofs.encode.push_payloads.Given as goal

-- the bytes written so far and the spelling of the rest are the whole spelling, and the rest decides
abbrev pub invariant-loop-key : goal.invariant-loop-key
invariant-loop-key l =
    (l.out ++ spell_pairs (payload_pairs (drop l.key-index l.key-items)) ≡ l.fn.out ++ spell_pairs (payload_pairs l.key-items))
    × (AllByRecursion IsPayload (drop l.key-index l.key-items) → AllByRecursion IsPayload l.key-items)
