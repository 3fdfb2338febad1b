-- Ways one after another, in any grouping, and with each number capped.
use Rattle.std.proofs.Common.{◌≡◌, ℕ, zero, suc, ◌+◌, ◌*◌, refl, sym, ◌∙◌, ap, add-zero, add-suc, arith}
use Rattle.suit_commands.specs.Capped.{capped}
use Rattle.suit_commands.specs.Numbers.{Ways, start_ways}
use Rattle.suit_commands.specs.WaysOnce.{capped_ways, ways_then, ways_else, ways_repeated, no_branch}
use Rattle.suit_commands.proofs.Capping.{capped_plus, capped_plus_right, capped_times, capped_small, capped_below}

pub ways_same : (a b : Ways) → a.on ≡ b.on → a.off ≡ b.off → a ≡ b
ways_same a b p q = λ i. record { on = p i; off = q i }

-- ---- regrouped

product_assoc : (a b c : ℕ) → a * b * c ≡ a * (b * c)
product_assoc a b c = grind arith

sum_assoc : (a b c d e : ℕ) → (a + b * c) + (b * d) * e ≡ a + b * (c + d * e)
sum_assoc a b c d e = grind arith

pub then_assoc : (a b c : Ways) → ways_then (ways_then a b) c ≡ ways_then a (ways_then b c)
then_assoc a b c = ways_same _ _ (product_assoc a.on b.on c.on) (sum_assoc a.off a.on b.off b.on c.off)

pub else_assoc : (a b c : Ways) → ways_else (ways_else a b) c ≡ ways_else a (ways_else b c)
else_assoc a b c = ways_same _ _ (sum_assoc a.on a.off b.on b.off c.on) (product_assoc a.off b.off c.off)

pub then_start : (a : Ways) → ways_then a start_ways ≡ a
then_start a = ways_same _ _ (omega arith) (omega arith)

pub start_then : (a : Ways) → ways_then start_ways a ≡ a
start_then a = ways_same _ _ (omega arith) (omega arith)

pub none_else : (a : Ways) → ways_else no_branch a ≡ a
none_else a = ways_same _ _ (omega arith) (omega arith)

pub else_none : (a : Ways) → ways_else a no_branch ≡ a
else_none a = ways_same _ _ (omega arith) (omega arith)

-- ---- capped

pub capped_ways_twice : (a : Ways) → capped_ways (capped_ways a) ≡ capped_ways a
capped_ways_twice a = ways_same _ _ (capped_small _ (capped_below a.on)) (capped_small _ (capped_below a.off))

sum_capped : (a b c : ℕ) → capped (capped a + capped b * capped c) ≡ capped (a + b * c)
sum_capped a b c =
    sym (capped_plus_right (capped a) (capped b * capped c)) ∙ ap (λ (x : ℕ). capped (capped a + x)) (capped_times b c) ∙ capped_plus a (b * c)

pub then_capped : (a b : Ways) → capped_ways (ways_then (capped_ways a) (capped_ways b)) ≡ capped_ways (ways_then a b)
then_capped a b = ways_same _ _ (capped_times a.on b.on) (sum_capped a.off a.on b.off)

pub else_capped : (a b : Ways) → capped_ways (ways_else (capped_ways a) (capped_ways b)) ≡ capped_ways (ways_else a b)
else_capped a b = ways_same _ _ (sum_capped a.on a.off b.on) (capped_times a.off b.off)

-- one of the two parts is capped
pub then_capped_left : (a b : Ways) → capped_ways (ways_then (capped_ways a) b) ≡ capped_ways (ways_then a b)
then_capped_left a b = sym (then_capped (capped_ways a) b) ∙ ap (λ (x : Ways). capped_ways (ways_then x (capped_ways b))) (capped_ways_twice a) ∙ then_capped a b

pub then_capped_right : (a b : Ways) → capped_ways (ways_then a (capped_ways b)) ≡ capped_ways (ways_then a b)
then_capped_right a b = sym (then_capped a (capped_ways b)) ∙ ap (λ (x : Ways). capped_ways (ways_then (capped_ways a) x)) (capped_ways_twice b) ∙ then_capped a b

pub else_capped_left : (a b : Ways) → capped_ways (ways_else (capped_ways a) b) ≡ capped_ways (ways_else a b)
else_capped_left a b = sym (else_capped (capped_ways a) b) ∙ ap (λ (x : Ways). capped_ways (ways_else x (capped_ways b))) (capped_ways_twice a) ∙ else_capped a b

pub else_capped_right : (a b : Ways) → capped_ways (ways_else a (capped_ways b)) ≡ capped_ways (ways_else a b)
else_capped_right a b = sym (else_capped a (capped_ways b)) ∙ ap (λ (x : Ways). capped_ways (ways_else (capped_ways a) x)) (capped_ways_twice b) ∙ else_capped a b

-- ---- arithmetic on 64 bits

pub then_made : (a b : Ways) (on part off : ℕ) → on ≡ capped (a.on * b.on) → part ≡ capped (a.on * b.off) → off ≡ capped (a.off + part)
    → ◌≡◌ {A = Ways} (record { on = on; off = off }) (capped_ways (ways_then a b))
then_made a b on part off on_is part_is off_is = ways_same _ _ on_is (rw (off_is, part_is) (capped_plus_right a.off (a.on * b.off)))

pub else_made : (a b : Ways) (on part off : ℕ) → part ≡ capped (a.off * b.on) → on ≡ capped (a.on + part) → off ≡ capped (a.off * b.off)
    → ◌≡◌ {A = Ways} (record { on = on; off = off }) (capped_ways (ways_else a b))
else_made a b on part off part_is on_is off_is = ways_same _ _ (rw (on_is, part_is) (capped_plus_right a.on (a.off * b.on))) off_is

-- ---- repeated

pub repeated_sum : (m n : ℕ) (a : Ways) → ways_repeated (m + n) a ≡ ways_then (ways_repeated m a) (ways_repeated n a)
repeated_sum m zero a = rw (add-zero m) (sym (then_start (ways_repeated m a)))
repeated_sum m (suc n) a = rw (add-suc m n) (ap (λ (x : Ways). ways_then x a) (repeated_sum m n a) ∙ then_assoc (ways_repeated m a) (ways_repeated n a) a)

-- twice as often
pub repeated_even : (n half : ℕ) (a h whole : Ways) → n ≡ half + half → h ≡ capped_ways (ways_repeated half a) → whole ≡ capped_ways (ways_then h h) → whole ≡ capped_ways (ways_repeated n a)
repeated_even n half a h whole n_is h_is whole_is =
    rw (whole_is, h_is, n_is, repeated_sum half half a) (then_capped (ways_repeated half a) (ways_repeated half a))

-- twice as often, and once more
pub repeated_odd : (n half : ℕ) (a h even whole : Ways) → n ≡ suc (half + half) → h ≡ capped_ways (ways_repeated half a) → even ≡ capped_ways (ways_then h h) → whole ≡ capped_ways (ways_then even a) → whole ≡ capped_ways (ways_repeated n a)
repeated_odd n half a h even whole n_is h_is even_is whole_is =
    let e : even ≡ capped_ways (ways_repeated (half + half) a) = repeated_even (half + half) half a h even refl h_is even_is in
    rw (whole_is, e, n_is) (then_capped_left (ways_repeated (half + half) a) a)
