use Rattle.std.proofs.Common.{◌≡◌, ◌-◌, length}
use Rattle.cbor_diag.specs.Reading.{quoted_by, quoted_at}
use Rattle.cbor_diag.proofs.Steps.{with_front}
use Rattle.cbor_diag.proofs.quoted.read_quoted.Given as goal

abbrev pub invariant-loop : goal.invariant-loop
invariant-loop l = with_front l.bytes (quoted_by l.quoted (length l.text - l.counter) l.rest) ≡ quoted_at l.quoted l.text
