use Rattle.std.proofs.Common.{◌≡◌, ℕ, ◌<◌, ◌/◌, ◌+◌, ◌-◌, List, length, sym, ap, ◌∙◌, arith}
use native.Mathlib.Numerals.{unary_clauses}
use Rattle.std.specs.Prelude.{None}
use Rattle.std.specs.declared.cmp.Ordering.{Ordering}
use Rattle.suit_envelope.specs.PayloadOrder.{key_order}
use Rattle.suit_envelope.proofs.PayloadPlaces.{put_from, put_behind, put_equal}
use Rattle.suit_envelope.proofs.payload_order.place_of.Goals as goal
use Rattle.suit_envelope.proofs.payload_order.place_of.Goals.{After-key_order}

abbrev middle_of : After-key_order → ℕ
middle_of c = c.loop-low.low + (c.loop-low.high - c.loop-low.low) / 2

-- the middle is in the list, and its key compares like this
in_middle : (c : After-key_order) (o : Ordering) → o ≡ key_order c.args.key.now c.as_str.result.now
    → (middle_of c < length c.args.list.now) × (key_order c.args.key.now c.index-list-middle.result.0 ≡ o)
in_middle c o is = (
  omega (arith, c.loop-low-test.true),
  ap (λ (q : List ℕ × List ℕ). key_order c.args.key.now q.0) c.index-list-middle.is ∙ ap (key_order c.args.key.now) (sym c.as_str.ensures) ∙ sym is,
)

pub returns-in-Equal : goal.returns-in-Equal
returns-in-Equal c =
    let after = (goal.at.returns-in-Equal c).After-key_order in
    let there = in_middle after _ c.in-Equal.ensures in
    let q = c.index-list-middle.result in (
      there.0,
      λ payload. put_equal c.args.list.now (middle_of after) (c.args.key.now, payload) q there.0 c.index-list-middle.is there.1
          (put_from None (c.args.key.now, payload) q c.args.list.now (middle_of after) there.0 c.index-list-middle.is there.1 c.requires),
    )

pub loop-low-preserved : goal.loop-low-preserved
loop-low-preserved c =
    let after = (goal.at.loop-low-preserved c).After-key_order in
    let there = in_middle after _ c.in-Greater.ensures in
    record {
      within = omega (arith, c.loop-low-test.true);
      behind = λ payload. simp unary_clauses (put_behind None (c.args.key.now, payload) c.index-list-middle.result c.args.list.now (middle_of after) there.0 c.index-list-middle.is there.1 c.requires);
      before = c.loop-low.invariant.before;
    }
