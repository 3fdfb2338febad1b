use Rattle.std.proofs.Common.{◌≡◌, ◌-◌, ◌+◌, ◌*◌, length}
use Rattle.cbor_diag.specs.Reading.{items_by, pairs_by, item_at}
use Rattle.cbor_diag.proofs.Steps.{with_front}
use Rattle.cbor_diag.proofs.reading.+read.Given as goal

abbrev pub decreases-read_item : goal.decreases-read_item
decreases-read_item l = 3 * l.levels + 2

abbrev pub decreases-read_marked : goal.decreases-read_marked
decreases-read_marked l = 3 * l.levels + 1

abbrev pub decreases-read_numbered : goal.decreases-read_numbered
decreases-read_numbered l = 3 * l.levels + 1

abbrev pub decreases-read_items : goal.decreases-read_items
decreases-read_items l = 3 * l.levels + 3

abbrev pub decreases-read_pairs : goal.decreases-read_pairs
decreases-read_pairs l = 3 * l.levels + 3

abbrev pub invariant-read_items-loop : goal.invariant-read_items-loop
invariant-read_items-loop l = with_front l.items (items_by (item_at l.levels) (length l.text - l.counter) l.rest) ≡ items_by (item_at l.levels) (length l.text) l.text

abbrev pub invariant-read_pairs-loop : goal.invariant-read_pairs-loop
invariant-read_pairs-loop l = with_front l.pairs (pairs_by (item_at l.levels) (length l.text - l.counter) l.rest) ≡ pairs_by (item_at l.levels) (length l.text) l.text
