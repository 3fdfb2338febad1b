use Rattle.std.proofs.Common.{◌≡◌, ◌≤◌, ◌-◌, ℕ, List, ◌∷◌, ◌++◌, length, take, drop}
use Rattle.suit_envelope.specs.PayloadOrder.{put_payload}
use Rattle.suit_envelope.proofs.payload_order.place_of.Given as goal

-- the payload is put after those before `low`, and before those from `high` on
abbrev pub invariant-loop-low : goal.invariant-loop-low
invariant-loop-low l = record {
  within : (l.low ≤ l.high) × (l.high ≤ length l.list);
  behind : (payload : List ℕ) → put_payload (l.key, payload) l.list ≡ take l.low l.list ++ put_payload (l.key, payload) (drop l.low l.list);
  before : (payload : List ℕ) → put_payload (l.key, payload) (drop l.high l.list) ≡ (l.key, payload) ∷ drop l.high l.list;
}

abbrev pub decreases-loop-low : goal.decreases-loop-low
decreases-loop-low l = l.high - l.low
