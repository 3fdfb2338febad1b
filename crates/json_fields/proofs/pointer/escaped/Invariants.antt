use Rattle.std.proofs.Common.{◌≡◌, ◌++◌, drop}
use Rattle.json_fields.specs.Pointers.{escape}
use Rattle.json_fields.proofs.pointer.escaped.Given as goal

abbrev pub invariant-loop-byte : goal.invariant-loop-byte
invariant-loop-byte l = l.bytes.items ++ escape (drop l.byte-index l.byte-items) ≡ escape l.byte-items
