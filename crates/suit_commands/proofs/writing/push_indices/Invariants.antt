use Rattle.std.proofs.Common.{◌≡◌, ◌++◌, drop}
use Rattle.std.specs.List.{AllByRecursion}
use Rattle.det_cbor.specs.DataItem.{spell_items}
use Rattle.suit_commands.specs.Sequences.{index_items}
use Rattle.suit_commands.specs.SequenceWriting.{IsU64}
use Rattle.suit_commands.proofs.writing.push_indices.Given as goal

-- the bytes written so far and the spelling of the rest are the whole spelling, and the rest decides
abbrev pub invariant-loop-index : goal.invariant-loop-index
invariant-loop-index l =
    (l.out ++ spell_items (index_items (drop l.index-index l.index-items)) ≡ l.fn.out ++ spell_items (index_items l.index-items))
    × (AllByRecursion IsU64 (drop l.index-index l.index-items) → AllByRecursion IsU64 l.index-items)
