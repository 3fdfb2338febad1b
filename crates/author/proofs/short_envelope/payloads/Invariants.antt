use Rattle.std.proofs.Common.{◌≡◌, ◌≤◌, ◌+◌, ◌-◌, ◌^◌, drop, min}
use Rattle.author.specs.EnvelopeLengths.{payloads_length}
use Rattle.author.proofs.short_envelope.payloads.Given as goal

abbrev pub invariant-loop-payload : goal.invariant-loop-payload
invariant-loop-payload l =
    (min (l.total + payloads_length (drop l.payload-index l.payload-items)) (2 ^ 64 - 1) ≡ min (payloads_length l.payload-items) (2 ^ 64 - 1)) × (l.total ≤ 2 ^ 64 - 1)
