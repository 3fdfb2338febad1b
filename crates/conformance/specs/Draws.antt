-- Draws: a linear congruential generator modulo 2^64, from whose states the upper 31 bits are drawn.
use Rattle.std.specs.Prelude.{ℕ, zero, suc, ◌+◌, ◌*◌, ◌/◌, ◌%◌, ◌^◌}

-- the next state (D. Knuth, The Art of Computer Programming, volume 2, section 3.3.4, for MMIX)
abbrev pub next_state : ℕ → ℕ
next_state state = (state * 6364136223846793005 + 1442695040888963407) % 2 ^ 64

-- the number drawn in a state
abbrev pub draw_of : ℕ → ℕ
draw_of state = state / 2 ^ 33

-- the state after this many draws
unfoldable pub state_after : ℕ → ℕ → ℕ
state_after zero state = state
state_after (suc n) state = next_state (state_after n state)

-- the n-th number that is drawn from a state on, counted from 0
abbrev pub nth_draw : ℕ → ℕ → ℕ
nth_draw state n = draw_of (state_after (suc n) state)
