use Rattle.std.proofs.Common.{◌≡◌, ◌++◌, drop}
use Rattle.det_cbor.specs.DataItem.{spell_items}
use Rattle.suit_params.specs.Identifiers.{string_items}
use Rattle.flash_layout.proofs.spelling.put_strings.Given as goal

-- the bytes so far and the rest make the whole
abbrev pub invariant-loop-part : goal.invariant-loop-part
invariant-loop-part l = l.out.items ++ spell_items (string_items (drop l.part-index l.parts)) ≡ l.fn.out.items ++ spell_items (string_items l.fn.parts)
