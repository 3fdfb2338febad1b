-- The draws of a round. Each is made every time and in this order, even if it decides nothing.
use Rattle.std.specs.Prelude.{ℕ, zero, suc, ◌+◌, ◌*◌, ◌%◌, ◌^◌, ◌==◌, List, [], ◌∷◌, ◌++◌}
use Rattle.conformance.specs.declared.drawing.Drawn.{Drawn}
use Rattle.conformance.specs.Draws.{nth_draw, state_after}
use Rattle.conformance.specs.Shapes.{shape_of}

-- this many bytes, each of them a draw modulo 256
unfoldable pub bytes_drawn : ℕ → ℕ → List ℕ
bytes_drawn zero state = []
bytes_drawn (suc n) state = bytes_drawn n state ++ (nth_draw state n % 256) ∷ []

-- the shape is drawn first, then the length of the payload and its bytes, and then five more draws
abbrev pub length_drawn : ℕ → ℕ
length_drawn state = nth_draw state 1 % 60001

abbrev pub drawn_from : ℕ → Drawn
drawn_from state =
    let n = length_drawn state in
    record {
      shape = shape_of (nth_draw state 0);
      payload = bytes_drawn n (state_after 2 state);
      wrong_payload = nth_draw state (n + 2) % 4 == 0;
      wants_cut = nth_draw state (n + 3) % 2 == 0;
      passes = nth_draw state (n + 4) % 200;
      choice = nth_draw state (n + 5) * 2 ^ 31 + nth_draw state (n + 6);
    }

-- the state after these draws
abbrev pub state_behind : ℕ → ℕ
state_behind state = state_after (length_drawn state + 7) state
