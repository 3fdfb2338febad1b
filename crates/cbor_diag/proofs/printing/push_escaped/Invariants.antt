use Rattle.std.proofs.Common.{◌≡◌, ◌++◌, string_bytes, encode_utf8_all}
use Rattle.cbor_diag.specs.Notation.{escaped}
use Rattle.cbor_diag.proofs.printing.push_escaped.Given as goal

abbrev pub invariant-loop-character : goal.invariant-loop-character
invariant-loop-character l = string_bytes l.out ≡ string_bytes l.fn.out ++ escaped (encode_utf8_all l.yielded)
