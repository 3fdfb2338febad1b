-- The bits of what the sequences of a procedure write, and of its sources.
use Rattle.std.proofs.Common.{◌≡◌, ◌↔◌, ℕ, ◌≤◌, true, false, ◌⊎◌, inl, inr, [], ◌∷◌, Option, Some, sym, ◌∙◌, subst, bit_or}
use Rattle.std.specs.Borrow.{Bor}
use Rattle.suit_commands.specs.declared.reach.Reach.{Reach}
use Rattle.suit_commands.specs.Tree.{SequenceTree, PlanTree}
use Rattle.suit_commands.specs.Bits.{HasBit}
use Rattle.suit_commands.specs.Indexed.{AreIndexed}
use Rattle.suit_commands.specs.Plans.{lent_tree}
use Rattle.suit_commands.specs.Reaches.{no_reach, start_reach, reach_of, Reaches}
use Rattle.suit_commands.specs.Sources.{sources_of}
use Rattle.suit_commands.specs.Targets.{Writes, Swaps, Sources, InSome, IsTarget}
use Rattle.suit_commands.proofs.BitLaws.{or_left, or_right, or_cases, one_bit, one_bit_is}
use Rattle.suit_commands.proofs.ReachLaws.{reach_writes, writes_reach}
use Rattle.suit_commands.proofs.SourceLaws.{sources_to, sources_from}

-- ---- one sequence, before which component 0 is selected

start_bits : (r : Reach) (c : ℕ) → r.start ≡ true → HasBit (bit_or r.fixed 1) c ↔ Reaches r (0 ∷ []) c
start_bits r c start = (
  λ h. elim (or_cases r.fixed 1 c h) [ inl w ↦ inl w | inr w ↦ inr (start, inl (one_bit_is 0 c w)) ],
  λ h. elim h [ inl w ↦ or_left r.fixed 1 c w | inr w ↦ elim w.1 [ inl e ↦ or_right r.fixed 1 c (one_bit 0 c e) | inr n ↦ absurd n ] ],
)

fixed_bits : (r : Reach) (c : ℕ) → r.start ≡ false → HasBit r.fixed c ↔ Reaches r (0 ∷ []) c
fixed_bits r c start = (λ h. inl h, λ h. elim h [ inl w ↦ w | inr w ↦ absurd (let e : true ≡ false = sym w.0 ∙ start in cc) ])

reached_written : (o : Option (Bor SequenceTree)) (s : Bor SequenceTree) (count : ℕ) (r : Reach) → o ≡ Some s → 1 ≤ count → AreIndexed count (lent_tree o) → r ≡ reach_of s.now count start_reach no_reach
    → (c : ℕ) → Reaches r (0 ∷ []) c ↔ Writes (lent_tree o) count (0 ∷ []) c
reached_written o s count r is some indexed made c =
    let indexed2 : AreIndexed count s.now = subst (λ (x : Option (Bor SequenceTree)). AreIndexed count (lent_tree x)) is indexed in (
      λ h. subst (λ (x : Option (Bor SequenceTree)). Writes (lent_tree x) count (0 ∷ []) c) (sym is) (writes_reach s.now count 0 c some indexed2 (subst (λ (x : Reach). Reaches x (0 ∷ []) c) made h)),
      λ h. subst (λ (x : Reach). Reaches x (0 ∷ []) c) (sym made) (reach_writes s.now count 0 c (subst (λ (x : Option (Bor SequenceTree)). Writes (lent_tree x) count (0 ∷ []) c) is h)),
    )

both : {A B C : Type 0} → A ↔ B → B ↔ C → A ↔ C
both p q = (λ a. q.0 (p.0 a), λ c. p.1 (q.1 c))

pub written_start : (o : Option (Bor SequenceTree)) (s : Bor SequenceTree) (count : ℕ) (r : Reach) → o ≡ Some s → 1 ≤ count → AreIndexed count (lent_tree o) → r ≡ reach_of s.now count start_reach no_reach
    → r.start ≡ true → (c : ℕ) → HasBit (bit_or r.fixed 1) c ↔ Writes (lent_tree o) count (0 ∷ []) c
written_start o s count r is some indexed made start c = both (start_bits r c start) (reached_written o s count r is some indexed made c)

pub written_fixed : (o : Option (Bor SequenceTree)) (s : Bor SequenceTree) (count : ℕ) (r : Reach) → o ≡ Some s → 1 ≤ count → AreIndexed count (lent_tree o) → r ≡ reach_of s.now count start_reach no_reach
    → r.start ≡ false → (c : ℕ) → HasBit r.fixed c ↔ Writes (lent_tree o) count (0 ∷ []) c
written_fixed o s count r is some indexed made start c = both (fixed_bits r c start) (reached_written o s count r is some indexed made c)

pub named_sources : (o : Option (Bor SequenceTree)) (s : Bor SequenceTree) (bits : ℕ) → o ≡ Some s → bits ≡ sources_of s.now 0 → (c : ℕ) → HasBit bits c ↔ Sources (lent_tree o) c
named_sources o s bits is made c = (
  λ h. subst (λ (x : Option (Bor SequenceTree)). Sources (lent_tree x) c) (sym is) (sources_from s.now c (subst (λ (x : ℕ). HasBit x c) made h)),
  λ h. subst (λ (x : ℕ). HasBit x c) (sym made) (sources_to s.now c (subst (λ (x : Option (Bor SequenceTree)). Sources (lent_tree x) c) is h)),
)

-- ---- procedures

pub or_two : (x y c : ℕ) {A B : Type 0} → HasBit x c ↔ A → HasBit y c ↔ B → HasBit (bit_or x y) c ↔ (A ⊎ B)
or_two x y c p q = (
  λ h. elim (or_cases x y c h) [ inl w ↦ inl (p.0 w) | inr w ↦ inr (q.0 w) ],
  λ h. elim h [ inl w ↦ or_left x y c (p.1 w) | inr w ↦ or_right x y c (q.1 w) ],
)

pub some_bits : (plan : PlanTree) (has : SequenceTree → ℕ → Type 0) (w x y z : ℕ)
    → ((c : ℕ) → HasBit w c ↔ has plan.shared c) → ((c : ℕ) → HasBit x c ↔ has plan.first c) → ((c : ℕ) → HasBit y c ↔ has plan.second c) → ((c : ℕ) → HasBit z c ↔ has plan.third c)
    → (c : ℕ) → HasBit (bit_or w (bit_or x (bit_or y z))) c ↔ InSome plan (λ s. has s c)
some_bits plan has w x y z p q r s c = or_two w (bit_or x (bit_or y z)) c (p c) (or_two x (bit_or y z) c (q c) (or_two y z c (r c) (s c)))

pub with_sources : (plan : PlanTree) (written sources : ℕ)
    → ((c : ℕ) → HasBit written c ↔ InSome plan (λ s. Writes s plan.count (0 ∷ []) c)) → InSome plan Swaps → ((c : ℕ) → HasBit sources c ↔ InSome plan (λ s. Sources s c))
    → (c : ℕ) → HasBit (bit_or written sources) c ↔ IsTarget plan c
with_sources plan written sources p swaps q c = or_two written sources c (p c) (λ h. (swaps, (q c).0 h), λ h. (q c).1 h.1)
