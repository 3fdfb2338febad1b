-- Failed conditions as far as they are kept.
use Rattle.std.proofs.Common.{◌≡◌, ℕ, Bool, true, false, List, [], ◌∷◌, ◌++◌, refl, sym, ap, ◌∙◌, subst, append_assoc, inl, inr}
use Rattle.std.specs.Prelude.{◌⊎◌}
use Rattle.std.proofs.lemmas.List.{append-nil}
use Rattle.path_model.specs.Behaviour.{State}
use Rattle.path_checker.specs.Exploring.{In, Kept, Stopped, Failures, is_kept, keeps, stop_if, all_kept, after_stops}
use Rattle.path_checker.specs.Inner.{if_soft, softly, hardened, if_hard, hardly, exhausted, none_inside}
use Rattle.path_checker.proofs.InnerStates.{In-picked, picked-from}

pub all_kept-append : (soft hard : Bool) (xs ys : List Stopped) → all_kept soft hard (xs ++ ys) ≡ all_kept soft hard xs ++ all_kept soft hard ys
all_kept-append soft hard [] ys = refl
all_kept-append soft hard (x ∷ xs) ys =
    let one : List Stopped = stop_if (is_kept soft hard x.soft_failure) x in
    ap (λ (zs : List Stopped). one ++ zs) (all_kept-append soft hard xs ys) ∙ sym (append_assoc one (all_kept soft hard xs) (all_kept soft hard ys))

abbrev with_items : Failures → List Stopped → Failures
with_items f items = record { items = items; soft = f.soft; hard = f.hard }

-- no failures, with the same choice of which to keep
abbrev pub none_of : Failures → Failures
none_of f = record { items = []; soft = f.soft; hard = f.hard }

pub after_none : (f : Failures) → after_stops f [] ≡ f
after_none f = ap (with_items f) (append-nil f.items)

-- failures that are added in two steps
pub after_both : (f0 f f' : Failures) (xs ys : List Stopped) → f ≡ after_stops f0 xs → f' ≡ after_stops f ys → f' ≡ after_stops f0 (xs ++ ys)
after_both f0 f f' xs ys first second =
    let both : f0.items ++ (all_kept f0.soft f0.hard xs ++ all_kept f0.soft f0.hard ys) ≡ f0.items ++ all_kept f0.soft f0.hard (xs ++ ys) =
    ap (λ (zs : List Stopped). f0.items ++ zs) (sym (all_kept-append f0.soft f0.hard xs ys))
    in
    second ∙ ap (λ (g : Failures). after_stops g ys) first ∙ ap (with_items f0) (append_assoc f0.items (all_kept f0.soft f0.hard xs) (all_kept f0.soft f0.hard ys) ∙ both)

-- ---- all, or none

is_kept-both : (keep b : Bool) → is_kept keep keep b ≡ keep
is_kept-both keep true = refl
is_kept-both keep false = refl

pub all_kept-all : (xs : List Stopped) → all_kept true true xs ≡ xs
all_kept-all [] = refl
all_kept-all (x ∷ xs) = ap (λ (b : Bool). stop_if b x ++ all_kept true true xs) (is_kept-both true x.soft_failure) ∙ ap (λ (ys : List Stopped). x ∷ ys) (all_kept-all xs)

all_kept-none : (xs : List Stopped) → all_kept false false xs ≡ []
all_kept-none [] = refl
all_kept-none (x ∷ xs) = ap (λ (b : Bool). stop_if b x ++ all_kept false false xs) (is_kept-both false x.soft_failure) ∙ all_kept-none xs

-- nothing of these is kept, since no failure is or there are none
pub after_unkept : (f : Failures) (tests : Bool) (xs : List Stopped) → (tests ≡ true → f.soft ≡ false) → (tests ≡ true → f.hard ≡ false) → (tests ≡ false → xs ≡ []) → f ≡ after_stops f xs
after_unkept f true xs soft hard none =
    let kept : all_kept f.soft f.hard xs ≡ [] = ap (λ (b : Bool). all_kept b f.hard xs) (soft refl) ∙ ap (λ (b : Bool). all_kept false b xs) (hard refl) ∙ all_kept-none xs in
    sym (ap (λ (ys : List Stopped). with_items f (f.items ++ ys)) kept ∙ after_none f)
after_unkept f false xs soft hard none = sym (ap (λ (ys : List Stopped). after_stops f ys) (none refl) ∙ after_none f)

-- ---- which are kept

one_in : (x : Stopped) (b : Bool) → b ≡ true → In x (stop_if b x)
one_in x true is = inl refl
one_in x false is = absurd cc

pub In-kept : (soft hard : Bool) (x : Stopped) (xs : List Stopped) → In x xs → is_kept soft hard x.soft_failure ≡ true → In x (all_kept soft hard xs)
In-kept soft hard x xs there is = In-picked (λ y. stop_if (is_kept soft hard y.soft_failure) y) (all_kept soft hard) refl (λ y ys. refl) x x (one_in x (is_kept soft hard x.soft_failure) is) xs there

one_from : (x to : Stopped) (b : Bool) → In to (stop_if b x) → (b ≡ true) × (x ≡ to)
one_from x to true (inl is) = (refl, is)
one_from x to true (inr none) = absurd none
one_from x to false none = absurd none

pub kept-from : (soft hard : Bool) (x : Stopped) (xs : List Stopped) → In x (all_kept soft hard xs) → In x xs × (is_kept soft hard x.soft_failure ≡ true)
kept-from soft hard x xs there =
    let y = picked-from (λ z. stop_if (is_kept soft hard z.soft_failure) z) (all_kept soft hard) refl (λ z zs. refl) x xs there in
    let same = one_from y.0 x (is_kept soft hard y.0.soft_failure) y.2 in
    subst (λ (z : Stopped). In z xs × (is_kept soft hard z.soft_failure ≡ true)) same.1 (y.1, same.0)

pub all_kept-those : (soft hard : Bool) (xs : List Stopped) → ((x : Stopped) → In x xs → is_kept soft hard x.soft_failure ≡ true) → all_kept soft hard xs ≡ xs
all_kept-those soft hard [] each = refl
all_kept-those soft hard (x ∷ xs) each =
    ap (λ (b : Bool). stop_if b x ++ all_kept soft hard xs) (each x (inl refl)) ∙ ap (λ (ys : List Stopped). x ∷ ys) (all_kept-those soft hard xs (λ y there. each y (inr there)))

-- ---- those that are not kept

abbrev other : Bool → Bool
other true = false
other false = true

abbrev pub all_dropped : Bool → Bool → List Stopped → List Stopped
all_dropped soft hard xs = all_kept (other soft) (other hard) xs

is_dropped : (soft hard b : Bool) → is_kept (other soft) (other hard) b ≡ other (is_kept soft hard b)
is_dropped soft hard true = refl
is_dropped soft hard false = refl

either : (b : Bool) → (b ≡ true) ⊎ (b ≡ false)
either true = inl refl
either false = inr refl

pub kept-either : (soft hard : Bool) (x : Stopped) (xs : List Stopped) → In x xs → In x (all_kept soft hard xs) ⊎ In x (all_dropped soft hard xs)
kept-either soft hard x xs there = elim (either (is_kept soft hard x.soft_failure)) [
  | inl is ↦ inl (In-kept soft hard x xs there is)
  | inr is ↦ inr (In-kept (other soft) (other hard) x xs there (is_dropped soft hard x.soft_failure ∙ ap other is))
]

pub dropped-from : (soft hard : Bool) (x : Stopped) (xs : List Stopped) → In x (all_dropped soft hard xs) → In x xs
dropped-from soft hard x xs there = (kept-from (other soft) (other hard) x xs there).0

none_of_one : (soft hard b : Bool) (x : Stopped) (xs : List Stopped) → x.soft_failure ≡ b → all_kept soft hard (stop_if (is_kept (other soft) (other hard) b) x ++ xs) ≡ all_kept soft hard xs
none_of_one true hard true x xs is = refl
none_of_one false hard true x xs is = ap (λ (b : Bool). stop_if (is_kept false hard b) x ++ all_kept false hard xs) is
none_of_one soft true false x xs is = refl
none_of_one soft false false x xs is = ap (λ (b : Bool). stop_if (is_kept soft false b) x ++ all_kept soft false xs) is

pub dropped-kept : (soft hard : Bool) (xs : List Stopped) → all_kept soft hard (all_dropped soft hard xs) ≡ []
dropped-kept soft hard [] = refl
dropped-kept soft hard (x ∷ xs) = none_of_one soft hard x.soft_failure x (all_dropped soft hard xs) refl ∙ dropped-kept soft hard xs

-- ---- inside a sequence

softly-one : (s : State) (hard b : Bool) (x : Stopped) (xs : List Stopped) → x.soft_failure ≡ b → softly s (stop_if (is_kept true hard b) x ++ xs) ≡ if_soft s x b ++ softly s xs
softly-one s hard true x xs is = ap (λ (b : Bool). if_soft s x b ++ softly s xs) is
softly-one s true false x xs is = ap (λ (b : Bool). if_soft s x b ++ softly s xs) is
softly-one s false false x xs is = refl

softly-kept : (s : State) (hard : Bool) (xs : List Stopped) → softly s (all_kept true hard xs) ≡ softly s xs
softly-kept s hard [] = refl
softly-kept s hard (x ∷ xs) = softly-one s hard x.soft_failure x (all_kept true hard xs) refl ∙ ap (λ (ys : List Kept). if_soft s x x.soft_failure ++ ys) (softly-kept s hard xs)

hardly-one : (s : State) (soft b : Bool) (x : Stopped) (xs : List Stopped) → x.soft_failure ≡ b → hardly s (stop_if (is_kept soft true b) x ++ xs) ≡ if_hard s x b ++ hardly s xs
hardly-one s true true x xs is = ap (λ (b : Bool). if_hard s x b ++ hardly s xs) is
hardly-one s false true x xs is = refl
hardly-one s soft false x xs is = ap (λ (b : Bool). if_hard s x b ++ hardly s xs) is

hardly-kept : (s : State) (soft : Bool) (xs : List Stopped) → hardly s (all_kept soft true xs) ≡ hardly s xs
hardly-kept s soft [] = refl
hardly-kept s soft (x ∷ xs) = hardly-one s soft x.soft_failure x (all_kept soft true xs) refl ∙ ap (λ (ys : List Stopped). if_hard s x x.soft_failure ++ ys) (hardly-kept s soft xs)

-- where the outer sequence keeps none of its failures with its own soft failure

drops-one : (s : State) (soft hard b : Bool) (x : Stopped) (xs : List Stopped) → is_kept soft hard s.soft_failure ≡ false → all_kept soft hard (if_hard s x b ++ xs) ≡ all_kept soft hard xs
drops-one s soft hard true x xs never = refl
drops-one s soft hard false x xs never = ap (λ (b : Bool). stop_if b (hardened s x) ++ all_kept soft hard xs) never

drops-hard : (s : State) (soft hard : Bool) (xs : List Stopped) → is_kept soft hard s.soft_failure ≡ false → all_kept soft hard (hardly s xs) ≡ []
drops-hard s soft hard [] never = refl
drops-hard s soft hard (x ∷ xs) never = drops-one s soft hard x.soft_failure x (hardly s xs) never ∙ drops-hard s soft hard xs never

pub drops-exhausted : (s : State) (p : ℕ) (soft hard : Bool) (ks : List Kept) → is_kept soft hard s.soft_failure ≡ false → all_kept soft hard (exhausted s p ks) ≡ []
drops-exhausted s p soft hard [] never = refl
drops-exhausted s p soft hard (k ∷ ks) never =
    ap (λ (b : Bool). stop_if b (record { facts = k.facts; events = k.events; place = p; soft_failure = s.soft_failure }) ++ all_kept soft hard (exhausted s p ks)) never ∙ drops-exhausted s p soft hard ks never

-- what goes on from those kept inside
pub softly-inside : (on : Bool) (f : Failures) (s : State) (xs : List Stopped) → (on ≡ true) ⊎ (keeps f s.soft_failure ≡ true) → softly s (after_stops (none_inside on f s) xs).items ≡ softly s xs
softly-inside true f s xs stay = softly-kept s (keeps f s.soft_failure) xs
softly-inside false f s xs (inl is) = absurd cc
softly-inside false f s xs (inr is) = ap (λ (b : Bool). softly s (all_kept b b xs)) is ∙ softly-kept s true xs

hard_inside : (s : State) (f : Failures) (soft keep : Bool) (xs : List Stopped) → keeps f s.soft_failure ≡ keep → all_kept f.soft f.hard (hardly s (all_kept soft keep xs)) ≡ all_kept f.soft f.hard (hardly s xs)
hard_inside s f soft true xs is = ap (all_kept f.soft f.hard) (hardly-kept s soft xs)
hard_inside s f soft false xs is = drops-hard s f.soft f.hard (all_kept soft false xs) is ∙ sym (drops-hard s f.soft f.hard xs is)

-- and what is passed on
pub hardly-inside : (on : Bool) (f : Failures) (s : State) (xs : List Stopped) → after_stops f (hardly s (after_stops (none_inside on f s) xs).items) ≡ after_stops f (hardly s xs)
hardly-inside true f s xs = ap (λ (ys : List Stopped). with_items f (f.items ++ ys)) (hard_inside s f true (keeps f s.soft_failure) xs refl)
hardly-inside false f s xs = ap (λ (ys : List Stopped). with_items f (f.items ++ ys)) (hard_inside s f (keeps f s.soft_failure) (keeps f s.soft_failure) xs refl)

pub exhausted-inside : (f : Failures) (s : State) (p : ℕ) (ks ls : List Kept) → (keeps f s.soft_failure ≡ true → ks ≡ ls) → after_stops f (exhausted s p ks) ≡ after_stops f (exhausted s p ls)
exhausted-inside f s p ks ls stay = elim (either (keeps f s.soft_failure)) [
  | inl is ↦ ap (λ (ms : List Kept). after_stops f (exhausted s p ms)) (stay is)
  | inr never ↦ ap (λ (ys : List Stopped). with_items f (f.items ++ ys)) (drops-exhausted s p f.soft f.hard ks never ∙ sym (drops-exhausted s p f.soft f.hard ls never))
]
