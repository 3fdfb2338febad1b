-- The pairs of a map at a position, one after another.
use Rattle.std.proofs.Common.{◌≡◌, ℕ, suc, ◌+◌, ◌++◌, List, Option, Some, refl, subst, ◌∙◌, append_assoc, arith}
use Rattle.det_cbor.specs.DataItem.{DataItem, DataPairs, NoPairs, PairThen, pair_count, spell, spell_pairs, IsValidWithin, ArePairsWithin}
use Rattle.det_cbor.specs.Position.{Position}
use Rattle.suit_params.specs.HeadLaws.{after}

-- the position after a key and its value
abbrev pub after_pair : Position → DataItem → DataItem → List ℕ → Position
after_pair p key value rest = after (after p (spell key) (spell value ++ rest)) (spell value) rest

-- a pair is at a position, before others for which P holds
pub record PairFirst (P : ℕ → Position → DataPairs → Type 0) (levels : ℕ) (p : Position) (key value : DataItem) (ps : DataPairs) (rest : List ℕ) : Type 0 where
  pub key_valid : IsValidWithin levels key
  pub value_valid : IsValidWithin levels value
  pub is : p.left ≡ spell key ++ (spell value ++ rest)
  pub later : P (pair_count ps) (after_pair p key value rest) ps

-- what holds of no pairs, and of a pair before others for which it holds, holds of all pairs
pub by_pairs : (P : ℕ → Position → DataPairs → Type 0) → ((p : Position) → P 0 p NoPairs)
    → ((levels : ℕ) (p : Position) (key value : DataItem) (ps : DataPairs) (rest : List ℕ) → PairFirst P levels p key value ps rest → P (suc (pair_count ps)) p (PairThen key value ps))
    → (levels : ℕ) (p : Position) (before : Option (List ℕ)) (ps : DataPairs) (rest : List ℕ) → ArePairsWithin levels before ps → p.left ≡ spell_pairs ps ++ rest → P (pair_count ps) p ps
by_pairs P none first levels p before NoPairs rest valid is = none p
by_pairs P none first levels p before (PairThen key value ps) rest valid is =
    let others = spell_pairs ps ++ rest in
    let count : suc (pair_count ps) ≡ pair_count ps + 1 = omega arith in
    subst (λ (n : ℕ). P n p (PairThen key value ps)) count (first levels p key value ps others (record {
      key_valid = valid.0;
      value_valid = valid.2;
      is = is ∙ simp append_assoc;
      later = by_pairs P none first levels (after_pair p key value others) (Some (spell key)) ps rest valid.3 refl;
    }))
