use Rattle.std.proofs.Common.{◌≡◌, ◌-◌, ℕ, List, Ok}
use Rattle.suit_envelope.specs.Macs.{contents_from}
use Rattle.suit_envelope.proofs.MacScan.{Left}
use Rattle.suit_envelope.proofs.macs.scan.Given as goal

-- the answer for the blocks that are left is the answer for all
abbrev pub invariant-loop : goal.invariant-loop
invariant-loop l = (blocks : List (List ℕ)) → contents_from l.count l.fn.elements ≡ Ok blocks → Left l.key l.payload blocks (l.count - l.counter) l.elements l.first
