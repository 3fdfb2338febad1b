use Rattle.std.proofs.Common.{◌≡◌, ◌-◌, ◌+◌, ◌*◌}
use Rattle.std.specs.Prelude.{None, option_map}
use Rattle.det_cbor.specs.ItemReading.{items_by, pairs_by, item_at}
use Rattle.det_cbor.proofs.ItemAgain.{with_front}
use Rattle.det_cbor.proofs.decoding.+read.Given as goal

abbrev pub decreases-read_item : goal.decreases-read_item
decreases-read_item l = 2 * l.levels

abbrev pub decreases-read_items : goal.decreases-read_items
decreases-read_items l = 2 * l.levels + 1

abbrev pub decreases-read_pairs : goal.decreases-read_pairs
decreases-read_pairs l = 2 * l.levels + 1

abbrev pub invariant-read_items-loop : goal.invariant-read_items-loop
invariant-read_items-loop l = with_front l.items (items_by (item_at l.levels) (l.count - l.counter) l.rest) ≡ items_by (item_at l.levels) l.count l.bytes

abbrev pub invariant-read_pairs-loop : goal.invariant-read_pairs-loop
invariant-read_pairs-loop l =
    with_front l.pairs (pairs_by (item_at l.levels) (option_map (λ b. b.now) l.before) (l.count - l.counter) l.rest) ≡ pairs_by (item_at l.levels) None l.count l.bytes
