use Rattle.std.proofs.Common.{◌≡◌, ◌-◌, ◌+◌, ◌*◌}
use Rattle.std.specs.Prelude.{None, option_map}
use Rattle.det_cbor.specs.ItemSkipping.{skips_by, pair_skips_by, skip_at}
use Rattle.det_cbor.proofs.skip.+skip.Given as goal

abbrev pub decreases-skip_item : goal.decreases-skip_item
decreases-skip_item l = 2 * l.levels

abbrev pub decreases-skip_items : goal.decreases-skip_items
decreases-skip_items l = 2 * l.levels + 1

abbrev pub decreases-skip_pairs : goal.decreases-skip_pairs
decreases-skip_pairs l = 2 * l.levels + 1

abbrev pub invariant-skip_items-loop : goal.invariant-skip_items-loop
invariant-skip_items-loop l = skips_by (skip_at l.levels) (l.count - l.counter) l.rest ≡ skips_by (skip_at l.levels) l.count l.bytes

abbrev pub invariant-skip_pairs-loop : goal.invariant-skip_pairs-loop
invariant-skip_pairs-loop l = pair_skips_by (skip_at l.levels) (option_map (λ b. b.now) l.before) (l.count - l.counter) l.rest ≡ pair_skips_by (skip_at l.levels) None l.count l.bytes
