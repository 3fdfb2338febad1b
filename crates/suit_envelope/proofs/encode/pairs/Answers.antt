use Rattle.std.proofs.Common.{length, ap, arith}
use Rattle.suit_envelope.specs.Making.{payload_pairs, member_then}
use Rattle.suit_envelope.proofs.MadePairs.{payload_count}
use Rattle.suit_envelope.proofs.encode.pairs.Goals as goal

pub returns : goal.returns
returns c =
    let parts = c.args.parts.now in
    let payloads = payload_pairs parts.payloads in
    let first = c.count.ensures.is 16 (member_then 20 parts.install (member_then 23 parts.text payloads)) in
    let second = c.count-2.ensures.is 20 (member_then 23 parts.text payloads) in
    let third = c.count-3.ensures.is 23 payloads in
    let rest = payload_count parts.payloads in
    let same = ap length c.as_slice.ensures in
    omega (arith, first, second, third, rest, same)
