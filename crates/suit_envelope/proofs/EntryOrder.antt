-- The keys of a map ascend, so none occurs twice.
use Rattle.std.proofs.Common.{◌≡◌, ℕ, ◌+◌, true, List, [], ◌∷◌, length, Option, Some, refl, sym, ap, ◌∙◌}
use Rattle.std.specs.List.{AllByRecursion}
use Rattle.std.specs.Ordering.{is_lt, nat_cmp}
use Rattle.std.specs.Cmp.Lexicographic.{slice_cmp, nat_list_cmp_total}
use Rattle.std.specs.declared.cmp.Ordering.{Ordering}
use Rattle.std.specs.declared.cmp.Ordering.TheVariants.{Less, Equal, Greater}
use Rattle.det_cbor.specs.DataItem.{DataPairs, NoPairs, PairThen, spell, IsAbove, ArePairsWithin}
use Rattle.det_cbor.proofs.KeyOrder.{same_key}
use Rattle.suit_envelope.specs.Envelopes.{Entry, entries}

less : (o : Ordering) → is_lt o ≡ true → o ≡ Less
less Less e = refl
less Equal e = absurd cc
less Greater e = absurd cc

pub above_trans : (a b c : List ℕ) → IsAbove (Some a) b → IsAbove (Some b) c → IsAbove (Some a) c
above_trans a b c p q = ap is_lt (nat_list_cmp_total.trans a b c (less (slice_cmp nat_cmp a b) p) (less (slice_cmp nat_cmp b c) q))

pub not_above_itself : (a : List ℕ) → IsAbove (Some a) a → ⊥
not_above_itself a p = let never : is_lt Equal ≡ true = ap is_lt (sym (same_key a)) ∙ p in absurd cc

-- each key sorts above this spelling
abbrev pub AreAbove : List ℕ → List Entry → Type 0
AreAbove a es = AllByRecursion (λ (e : Entry). IsAbove (Some a) (spell e.key)) es

-- each key sorts below the later ones
abbrev pub AreAscending : List Entry → Type 0
AreAscending [] = Unit {0}
AreAscending (e ∷ es) = AreAbove (spell e.key) es × AreAscending es

-- what sorts above b sorts above a
all_above : (levels place : ℕ) (a b : List ℕ) (ps : DataPairs) → ((c : List ℕ) → IsAbove (Some b) c → IsAbove (Some a) c) → ArePairsWithin levels (Some b) ps → AreAbove a (entries place ps)
all_above levels place a b NoPairs further valid = tt
all_above levels place a b (PairThen key value ps) further valid =
    let here = further (spell key) valid.1 in
    (here, all_above levels (place + length (spell key) + length (spell value)) a (spell key) ps (λ c above. above_trans a (spell key) c here above) valid.3)

pub entries_ascend : (levels place : ℕ) (before : Option (List ℕ)) (ps : DataPairs) → ArePairsWithin levels before ps → AreAscending (entries place ps)
entries_ascend levels place before NoPairs valid = tt
entries_ascend levels place before (PairThen key value ps) valid =
    let next = place + length (spell key) + length (spell value) in
    (all_above levels next (spell key) (spell key) ps (λ c above. above) valid.3, entries_ascend levels next (Some (spell key)) ps valid.3)
