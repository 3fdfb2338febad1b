-- Into inner sequences and back, one state after another.
use Rattle.std.proofs.Common.{◌≡◌, ◌<◌, ◌≤◌, ◌+◌, ℕ, zero, suc, Bool, true, false, List, [], ◌∷◌, ◌++◌, length, get_or, set, take, drop, refl, sym, ap, ◌∙◌, append_assoc, arith}
use Rattle.std.proofs.lemmas.List.{append-nil, drop_all, take_all}
use Rattle.path_model.specs.Behaviour.{State}
use Rattle.path_checker.specs.Exploring.{Kept, Stopped, Failures, after_stops}
use Rattle.path_checker.specs.Inner.{entered, all_entered, left, all_left, resumed, hardened, if_soft, if_hard, softly, hardly, exhausted_at, exhausted}
use Rattle.path_checker.proofs.Keeping.{after_none, after_both}

added : {A : Type 0} (n0 n n' front back : List A) → n ≡ n0 ++ front → n' ≡ n ++ back → n' ≡ n0 ++ (front ++ back)
added {A} n0 n n' front back p q = q ∙ ap (λ (x : List A). x ++ back) p ∙ append_assoc n0 front back

left-at : (s : State) (xs : List Kept) (i : ℕ) (d : Kept) → i < length xs
    → set (all_left s (take i xs) ++ drop i xs) i (left s (get_or (all_left s (take i xs) ++ drop i xs) i d)) ≡ all_left s (take (suc i) xs) ++ drop (suc i) xs
left-at s [] i d lt = absurd (omega arith)
left-at s (x ∷ xs) zero d lt = refl
left-at s (x ∷ xs) (suc i) d lt = ap (λ (ks : List Kept). left s x ∷ ks) (left-at s xs i d (omega arith))

pub left_next : (s : State) (xs now : List Kept) (i : ℕ) (d to : Kept) → i < length xs → now ≡ all_left s (take i xs) ++ drop i xs → to ≡ left s (get_or now i d) → set now i to ≡ all_left s (take (i + 1) xs) ++ drop (i + 1) xs
left_next s xs now i d to lt so_far is =
    let on : suc i ≡ i + 1 = omega arith in
    ap (λ (k : Kept). set now i k) is
    ∙ ap (λ (ks : List Kept). set ks i (left s (get_or ks i d))) so_far
    ∙ left-at s xs i d lt
    ∙ ap (λ (n : ℕ). all_left s (take n xs) ++ drop n xs) on

pub left_end : (s : State) (xs now : List Kept) (i : ℕ) → length xs ≤ i → now ≡ all_left s (take i xs) ++ drop i xs → now ≡ all_left s xs
left_end s xs now i le so_far =
    so_far ∙ ap (λ (ks : List Kept). all_left s (take i xs) ++ ks) (drop_all i xs le) ∙ append-nil (all_left s (take i xs)) ∙ ap (λ (ks : List Kept). all_left s ks) (take_all i xs le)

entered-push : (s : State) (c : ℕ) (b : Bool) (ks : List Kept) (k : Kept) → all_entered s c b (ks ++ k ∷ []) ≡ all_entered s c b ks ++ entered s c b k ∷ []
entered-push s c b [] k = refl
entered-push s c b (x ∷ ks) k = ap (λ (ys : List Kept). entered s c b x ∷ ys) (entered-push s c b ks k)

pub entered_step : (s : State) (c : ℕ) (b : Bool) (n n' ys : List Kept) (k made : Kept) → n ≡ all_entered s c b ys → n' ≡ n ++ made ∷ [] → made ≡ entered s c b k → n' ≡ all_entered s c b (ys ++ k ∷ [])
entered_step s c b n n' ys k made so_far pushed is =
    pushed ∙ ap (λ (x : List Kept). x ++ made ∷ []) so_far ∙ ap (λ (x : Kept). all_entered s c b ys ++ x ∷ []) is ∙ sym (entered-push s c b ys k)

exhausted-push : (s : State) (p : ℕ) (ks : List Kept) (k : Kept) → exhausted s p (ks ++ k ∷ []) ≡ exhausted s p ks ++ exhausted_at s p k ∷ []
exhausted-push s p [] k = refl
exhausted-push s p (x ∷ ks) k = ap (λ (ys : List Stopped). exhausted_at s p x ∷ ys) (exhausted-push s p ks k)

pub exhausted_step : (s : State) (p : ℕ) (n0 n n' : Failures) (ys : List Kept) (k : Kept) (made : Stopped) → n ≡ after_stops n0 (exhausted s p ys) → n' ≡ after_stops n (made ∷ []) → made ≡ exhausted_at s p k → n' ≡ after_stops n0 (exhausted s p (ys ++ k ∷ []))
exhausted_step s p n0 n n' ys k made so_far pushed is =
    after_both n0 n n' (exhausted s p ys) (made ∷ []) so_far pushed ∙ ap (λ (x : Stopped). after_stops n0 (exhausted s p ys ++ x ∷ [])) is ∙ ap (after_stops n0) (sym (exhausted-push s p ys k))

softly-push : (s : State) (fs : List Stopped) (f : Stopped) → softly s (fs ++ f ∷ []) ≡ softly s fs ++ if_soft s f f.soft_failure
softly-push s [] f = append-nil (if_soft s f f.soft_failure)
softly-push s (x ∷ fs) f = ap (λ (ys : List Kept). if_soft s x x.soft_failure ++ ys) (softly-push s fs f) ∙ sym (append_assoc (if_soft s x x.soft_failure) (softly s fs) (if_soft s f f.soft_failure))

hardly-push : (s : State) (fs : List Stopped) (f : Stopped) → hardly s (fs ++ f ∷ []) ≡ hardly s fs ++ if_hard s f f.soft_failure
hardly-push s [] f = append-nil (if_hard s f f.soft_failure)
hardly-push s (x ∷ fs) f = ap (λ (ys : List Stopped). if_hard s x x.soft_failure ++ ys) (hardly-push s fs f) ∙ sym (append_assoc (if_hard s x x.soft_failure) (hardly s fs) (if_hard s f f.soft_failure))

-- one failure more

pub softly_next : (s : State) (n0 n n' : List Kept) (ys : List Stopped) (f : Stopped) → n ≡ n0 ++ softly s ys → n' ≡ n ++ if_soft s f f.soft_failure → n' ≡ n0 ++ softly s (ys ++ f ∷ [])
softly_next s n0 n n' ys f so_far pushed = added n0 n n' (softly s ys) (if_soft s f f.soft_failure) so_far pushed ∙ ap (λ (x : List Kept). n0 ++ x) (sym (softly-push s ys f))

pub hardly_next : (s : State) (n0 n n' : Failures) (ys : List Stopped) (f : Stopped) → n ≡ after_stops n0 (hardly s ys) → n' ≡ after_stops n (if_hard s f f.soft_failure) → n' ≡ after_stops n0 (hardly s (ys ++ f ∷ []))
hardly_next s n0 n n' ys f so_far pushed = after_both n0 n n' (hardly s ys) (if_hard s f f.soft_failure) so_far pushed ∙ ap (after_stops n0) (sym (hardly-push s ys f))

pub soft_more : (s : State) (n n' : List Kept) (f : Stopped) (made : Kept) → f.soft_failure ≡ true → made ≡ resumed s f → n' ≡ n ++ made ∷ [] → n' ≡ n ++ if_soft s f f.soft_failure
soft_more s n n' f made soft is pushed = pushed ∙ ap (λ (x : Kept). n ++ x ∷ []) is ∙ ap (λ (b : Bool). n ++ if_soft s f b) (sym soft)

pub soft_same : (s : State) (n : List Kept) (f : Stopped) → f.soft_failure ≡ false → n ≡ n ++ if_soft s f f.soft_failure
soft_same s n f hard = sym (append-nil n) ∙ ap (λ (b : Bool). n ++ if_soft s f b) (sym hard)

pub hard_more : (s : State) (n n' : Failures) (f made : Stopped) → f.soft_failure ≡ false → made ≡ hardened s f → n' ≡ after_stops n (made ∷ []) → n' ≡ after_stops n (if_hard s f f.soft_failure)
hard_more s n n' f made hard is pushed = pushed ∙ ap (λ (x : Stopped). after_stops n (x ∷ [])) is ∙ ap (λ (b : Bool). after_stops n (if_hard s f b)) (sym hard)

pub hard_same : (s : State) (n : Failures) (f : Stopped) → f.soft_failure ≡ true → n ≡ after_stops n (if_hard s f f.soft_failure)
hard_same s n f soft = sym (after_none n) ∙ ap (λ (b : Bool). after_stops n (if_hard s f b)) (sym soft)
