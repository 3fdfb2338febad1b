-- Lists that a loop makes, one element for each number.
use Rattle.std.proofs.Common.{◌≡◌, ◌+◌, ◌<◌, ◌≤◌, ℕ, zero, suc, add-one, List, [], ◌∷◌, ◌++◌, length, get_or, refl, sym, ap, ◌∙◌, arith}
use Rattle.std.proofs.lemmas.List.FromFn.{length-range_with_len, get_or-range_with_len}
use Rattle.std.specs.List.{range_with_len}
use Rattle.path_checker.specs.declared.judge_plan.facts.Knowledge.{Knowledge}
use Rattle.path_checker.specs.Knowing.{nothing, nothing_known}
use Rattle.path_checker.specs.Small.{AreSmall}

range_suc : (a n : ℕ) → range_with_len a (suc n) ≡ range_with_len a n ++ (a + n) ∷ []
range_suc a zero = let e : a ≡ a + 0 = omega arith in ap (λ (x : ℕ). x ∷ []) e
range_suc a (suc n) =
    let e : (a + 1) + n ≡ a + suc n = omega arith in
    ap (λ (xs : List ℕ). a ∷ xs) (range_suc (a + 1) n ∙ ap (λ (x : ℕ). range_with_len (a + 1) n ++ x ∷ []) e)

pub range_more : (n : ℕ) (held more : List ℕ) → held ≡ range_with_len 0 n → more ≡ held ++ n ∷ [] → more ≡ range_with_len 0 (n + 1)
range_more n held more so_far pushed =
    let e : 0 + n ≡ n = omega arith in
    pushed ∙ ap (λ (xs : List ℕ). xs ++ n ∷ []) so_far ∙ ap (λ (x : ℕ). range_with_len 0 n ++ x ∷ []) (sym e) ∙ sym (range_suc 0 n) ∙ ap (λ (m : ℕ). range_with_len 0 m) (sym (add-one n))

small_from : (a n : ℕ) → a + n ≤ 8 → AreSmall (range_with_len a n)
small_from a zero le = tt
small_from a (suc n) le = (omega (arith, le), small_from (a + 1) n (omega (arith, le)))

pub small_range : (n : ℕ) → n ≤ 8 → AreSmall (range_with_len 0 n)
small_range n le = small_from 0 n (omega (arith, le))

pub small_at : (cs : List ℕ) (i d : ℕ) → AreSmall cs → i < length cs → get_or cs i d < 8
small_at [] i d small lt = absurd (omega arith)
small_at (c ∷ cs) zero d small lt = small.0
small_at (c ∷ cs) (suc i) d small lt = small_at cs i d small.1 (omega arith)

pub range_at : (n i : ℕ) (xs : List ℕ) → range_with_len 0 n ≡ xs → i < length xs → i ≡ get_or xs i i
range_at n i xs is lt =
    let within : i < n = omega (arith, lt, ap length is, length-range_with_len 0 n) in
    let here : get_or (range_with_len 0 n) i i ≡ 0 + i = get_or-range_with_len 0 n i i within in
    let zero_on : 0 + i ≡ i = omega arith in
    sym (ap (λ (ys : List ℕ). get_or ys i i) (sym is) ∙ here ∙ zero_on)

nothing_suc : (n : ℕ) → nothing_known (suc n) ≡ nothing_known n ++ nothing ∷ []
nothing_suc zero = refl
nothing_suc (suc n) = ap (λ (ks : List Knowledge). nothing ∷ ks) (nothing_suc n)

pub nothing_more : (n : ℕ) (held more : List Knowledge) (known : Knowledge) → held ≡ nothing_known n → known ≡ nothing → more ≡ held ++ known ∷ [] → more ≡ nothing_known (n + 1)
nothing_more n held more known so_far none pushed =
    pushed ∙ ap (λ (ks : List Knowledge). ks ++ known ∷ []) so_far ∙ ap (λ (k : Knowledge). nothing_known n ++ k ∷ []) none ∙ sym (nothing_suc n) ∙ ap nothing_known (sym (add-one n))
