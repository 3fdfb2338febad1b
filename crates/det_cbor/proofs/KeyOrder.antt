-- Keys compared by their spellings.
use Rattle.std.proofs.Common.{◌≡◌, ℕ, true, List, refl, sym, ap, ◌∙◌}
use Rattle.std.specs.declared.cmp.Ordering.{Ordering}
use Rattle.std.specs.declared.cmp.Ordering.TheVariants.{Less, Equal, Greater}
use Rattle.std.specs.Ordering.{is_lt, is_eq, nat_cmp, ordering_reverse}
use Rattle.std.specs.Cmp.Lexicographic.{slice_cmp, nat_list_cmp_total, texts_ties, same_text}

flipped : (a b : List ℕ) → slice_cmp nat_cmp a b ≡ ordering_reverse (slice_cmp nat_cmp b a)
flipped a b = nat_list_cmp_total.antisymm a b

pub equal_keys : (a b : List ℕ) → slice_cmp nat_cmp a b ≡ Equal → a ≡ b
equal_keys a b e = same_text a b (sym (texts_ties a b ∙ ap is_eq e))

pub same_key : (a : List ℕ) → slice_cmp nat_cmp a a ≡ Equal
same_key a = middle (slice_cmp nat_cmp a a) (flipped a a)
  where
    middle : (o : Ordering) → o ≡ ordering_reverse o → o ≡ Equal
    middle Less e = absurd cc
    middle Equal e = refl
    middle Greater e = absurd cc

pub above_is_below : (a b : List ℕ) → slice_cmp nat_cmp a b ≡ Greater → is_lt (slice_cmp nat_cmp b a) ≡ true
above_is_below a b e = ap is_lt (flipped b a ∙ ap ordering_reverse e)

pub below_is_above : (a b : List ℕ) → is_lt (slice_cmp nat_cmp b a) ≡ true → slice_cmp nat_cmp a b ≡ Greater
below_is_above a b e = flipped a b ∙ ap ordering_reverse (less (slice_cmp nat_cmp b a) e)
  where
    less : (o : Ordering) → is_lt o ≡ true → o ≡ Less
    less Less e = refl
    less Equal e = absurd cc
    less Greater e = absurd cc
