-- States behind draws.
use Rattle.std.proofs.Common.{◌≡◌, ◌<◌, ℕ, zero, suc, ◌+◌, ◌*◌, ◌/◌, ◌%◌, [], ◌∷◌, ◌++◌, refl, ap, ◌∙◌, arith}
use Rattle.std.proofs.Math.Nat.{mod-eq_of_lt}
use Rattle.conformance.specs.Draws.{draw_of, next_state, nth_draw, state_after}
use Rattle.conformance.specs.Drawing.{bytes_drawn}

-- the same number of draws, written otherwise
as_many : (n m state : ℕ) → n ≡ m → state_after n state ≡ state_after m state
as_many n m state same = ap (λ k. state_after k state) same

-- some draws behind others
pub behind : (n m total state : ℕ) → total ≡ n + m → state_after n (state_after m state) ≡ state_after total state
unfolding state_after
behind zero m total state is = as_many m total state (omega (arith, is))
behind (suc n) m total state is =
    ap next_state (behind n m (n + m) state refl) ∙ as_many (suc (n + m)) total state (omega (arith, is))

-- one draw more
pub one_more : (n total start : ℕ) {state next : ℕ} → total ≡ n + 1 → state ≡ state_after n start → next ≡ next_state state
    → next ≡ state_after total start
unfolding state_after
one_more n total start is before step = step ∙ ap next_state before ∙ as_many (suc n) total start (omega (arith, is))

-- one byte more
pub one_byte_more : (n state : ℕ) → bytes_drawn (n + 1) state ≡ bytes_drawn n state ++ (nth_draw state n % 256) ∷ []
unfolding bytes_drawn
one_byte_more n state = ap (λ k. bytes_drawn k state) {x = n + 1} {y = suc n} (omega arith)

-- the number drawn behind so many draws
pub drawn : (n total start : ℕ) {state number : ℕ} → total ≡ n + 1 → state ≡ state_after total start → number ≡ draw_of state
    → number ≡ nth_draw start n
drawn n total start is before number = number ∙ ap draw_of (before ∙ as_many total (suc n) start (omega (arith, is)))

-- a later one
pub later : (k n total start : ℕ) {state : ℕ} → total ≡ n + k → state ≡ state_after n start
    → nth_draw state k ≡ nth_draw start total
later k n total start is before =
    ap (λ s. nth_draw s k) before ∙ ap draw_of (behind (suc k) n (suc total) start (omega (arith, is)))

-- ---- a number of two draws

-- the upper 31 bits of a number of 64
upper_bits : (n : ℕ) → n % 18446744073709551616 / 8589934592 < 2147483648
upper_bits n = omega arith

-- a number of 31 bits loses none as the upper half of one of 64
kept : (n : ℕ) → n < 2147483648 → n * 2147483648 % 18446744073709551616 ≡ n * 2147483648
kept n small = mod-eq_of_lt (omega (arith, small))

pub upper_half : (state : ℕ) → nth_draw state 0 * 2147483648 % 18446744073709551616 ≡ nth_draw state 0 * 2147483648
unfolding state_after
upper_half state = kept (nth_draw state 0) (upper_bits (state * 6364136223846793005 + 1442695040888963407))
