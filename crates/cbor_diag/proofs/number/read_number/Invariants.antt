use Rattle.std.proofs.Common.{◌≡◌, drop}
use Rattle.cbor_diag.specs.Reading.{number_at}
use Rattle.cbor_diag.proofs.number.read_number.Given as goal

abbrev pub invariant-loop-place : goal.invariant-loop-place
invariant-loop-place l = number_at l.number (drop l.place l.text) ≡ number_at 0 l.text
