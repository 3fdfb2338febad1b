-- The first two equal identifiers.
use Rattle.std.proofs.Common.{◌≡◌, ◌≢◌, ℕ, zero, suc, ◌+◌, ◌-◌, ◌<◌, ◌≤◌, Bool, true, false, cond, List, [], length, get_or, Option, Some, None, Ok, Err, refl, sym, ap, subst, ◌∙◌, inl, inr, ◌⊎◌, arith}
use Rattle.std.specs.Prelude.{slice_get, MatchOption}
use Rattle.std.proofs.lemmas.Option.{slice_get-get_or}
use Rattle.det_cbor.specs.DataItem.{DataItems, NoItems, ItemThen, item_count}
use Rattle.det_cbor.specs.HeadReading.{◌>>=◌}
use Rattle.det_cbor.specs.ResultLaws.{bind_ok, same_err}
use Rattle.suit_params.specs.declared.refusal.Refusal.{Refusal}
use Rattle.suit_params.specs.declared.refusal.Why.TheVariants.{TwoAlike}
use Rattle.suit_params.specs.Alike.{HasNoLike, IsFirstLike}
use Rattle.suit_params.specs.Refusing.{refused}
use Rattle.suit_commands.specs.Sequences.{place_after}
use Rattle.suit_manifest.specs.Components.{AreApart, AreAlike, element_place}
use Rattle.suit_manifest.specs.ComponentsJudging.{least, same_id, are_like, first_like, judge_like, judge_apart}
use Rattle.suit_manifest.proofs.AlikeSteps.{same_true, same_itself}

abbrev Ids : Type 0
Ids = List (List (List ℕ))

-- ---- the least number

record IsLeast (test : ℕ → Bool) (n i k : ℕ) : Type 0 where
  from : i ≤ k
  below : k < i + n
  passes : test k ≡ true
  before : (m : ℕ) → i ≤ m → m < k → test m ≡ false

either : (b : Bool) → (b ≡ true) ⊎ (b ≡ false)
either true = inl refl
either false = inr refl

here_or_later : (i m : ℕ) → i ≤ m → (i ≡ m) ⊎ (suc i ≤ m)
here_or_later zero zero le = inl refl
here_or_later zero (suc m) le = inr (omega arith)
here_or_later (suc i) zero le = absurd (omega (arith, le))
here_or_later (suc i) (suc m) le = elim (here_or_later i m (omega (arith, le))) [
  | inl same ↦ inl (ap suc same)
  | inr more ↦ inr (omega (arith, more))
]

least_some : (test : ℕ → Bool) (n i k : ℕ) → least test n i ≡ Some k → IsLeast test n i k
least_some test zero i k e = absurd cc
least_some test (suc n) i k e =
    elim (either (test i)) [
      | inl passes ↦
          let same : i ≡ k = some_same i k (sym (ap (λ (b : Bool). cond b (Some i) (least test n (suc i))) passes) ∙ e) in
          record { from = omega (arith, same); below = omega (arith, same); passes = subst (λ (m : ℕ). test m ≡ true) same passes; before = λ m le lt. absurd (omega (arith, same, le, lt)) }
      | inr fails ↦
          let rest = least_some test n (suc i) k (sym (ap (λ (b : Bool). cond b (Some i) (least test n (suc i))) fails) ∙ e) in
          record {
            from = omega (arith, rest.from);
            below = omega (arith, rest.below);
            passes = rest.passes;
            before = λ m le lt. elim (here_or_later i m le) [
              | inl same ↦ subst (λ (l : ℕ). test l ≡ false) same fails
              | inr more ↦ rest.before m more lt
            ];
          }
    ]
  where
    some_same : (a b : ℕ) → ◌≡◌ {A = Option ℕ} (Some a) (Some b) → a ≡ b
    some_same a b f = cc

least_none : (test : ℕ → Bool) (n i : ℕ) → least test n i ≡ None → (m : ℕ) → i ≤ m → m < i + n → test m ≡ false
least_none test zero i e m le lt = absurd (omega (arith, le, lt))
least_none test (suc n) i e m le lt =
    elim (either (test i)) [
      | inl passes ↦ let never : Some i ≡ None = sym (ap (λ (b : Bool). cond b (Some i) (least test n (suc i))) passes) ∙ e in absurd cc
      | inr fails ↦ elim (here_or_later i m le) [
        | inl same ↦ subst (λ (l : ℕ). test l ≡ false) same fails
        | inr more ↦ least_none test n (suc i) (sym (ap (λ (b : Bool). cond b (Some i) (least test n (suc i))) fails) ∙ e) m more (omega (arith, lt))
      ]
    ]

is_least : (test : ℕ → Bool) (n i k : ℕ) → IsLeast test n i k → least test n i ≡ Some k
is_least test zero i k so = absurd (omega (arith, so.from, so.below))
is_least test (suc n) i k so =
    elim (here_or_later i k so.from) [
      | inl same ↦ ap (λ (b : Bool). cond b (Some i) (least test n (suc i))) (subst (λ (l : ℕ). test l ≡ true) (sym same) so.passes) ∙ ap (λ (l : ℕ). Some l) same
      | inr more ↦ ap (λ (b : Bool). cond b (Some i) (least test n (suc i))) (so.before i (omega arith) (omega (arith, more)))
          ∙ is_least test n (suc i) k (record { from = more; below = omega (arith, so.below); passes = so.passes; before = λ m le lt. so.before m (omega (arith, le)) lt })
    ]

none_least : (test : ℕ → Bool) (n i : ℕ) → ((m : ℕ) → i ≤ m → m < i + n → test m ≡ false) → least test n i ≡ None
none_least test zero i fails = refl
none_least test (suc n) i fails = ap (λ (b : Bool). cond b (Some i) (least test n (suc i))) (fails i (omega arith) (omega arith)) ∙ none_least test n (suc i) (λ m le lt. fails m (omega (arith, le)) (omega (arith, lt)))

-- ---- identifiers by index

like_same : (ids : Ids) (last i : ℕ) → i < length ids → last < length ids → are_like ids last i ≡ true → slice_get ids i ≡ slice_get ids last
like_same ids last i in_i in_last e =
    slice_get-get_or ids i [] in_i ∙ ap (λ (id : List (List ℕ)). Some id) (same_true (get_or ids i []) (get_or ids last []) e) ∙ sym (slice_get-get_or ids last [] in_last)

same_like : (ids : Ids) (last i : ℕ) → i < length ids → last < length ids → slice_get ids i ≡ slice_get ids last → are_like ids last i ≡ true
same_like ids last i in_i in_last e =
    let both : get_or ids i [] ≡ get_or ids last [] = some_same _ _ (sym (slice_get-get_or ids i [] in_i) ∙ e ∙ slice_get-get_or ids last [] in_last) in
    subst (λ (id : List (List ℕ)). same_id (get_or ids i []) id ≡ true) both (same_itself (get_or ids i []))
  where
    some_same : (a b : List (List ℕ)) → ◌≡◌ {A = Option (List (List ℕ))} (Some a) (Some b) → a ≡ b
    some_same a b f = cc

unlike_differ : (ids : Ids) (last i : ℕ) → i < length ids → last < length ids → are_like ids last i ≡ false → slice_get ids i ≢ slice_get ids last
unlike_differ ids last i in_i in_last fails same = let both : true ≡ false = sym (same_like ids last i in_i in_last same) ∙ fails in absurd cc

differ_unlike : (ids : Ids) (last i : ℕ) → i < length ids → last < length ids → slice_get ids i ≢ slice_get ids last → are_like ids last i ≡ false
differ_unlike ids last i in_i in_last differ = elim (either (are_like ids last i)) [
  | inl like ↦ absurd (differ (like_same ids last i in_i in_last like))
  | inr unlike ↦ unlike
]

-- what a search answers
pub first_told : (ids : Ids) (last : ℕ) (found : Option ℕ) → MatchOption found (HasNoLike (λ id. id) ids last) (IsFirstLike (λ id. id) ids last) → found ≡ first_like ids last
first_told ids last None none = sym (none_least (are_like ids last) last 0 (λ m le lt. unlike_there m (omega (arith, lt))))
  where
    unlike_there : (m : ℕ) → m < last → are_like ids last m ≡ false
    unlike_there m lt = elim (either (are_like ids last m)) [
      | inl like ↦ absurd (none m lt [] (same_true (get_or ids m []) (get_or ids last []) like))
      | inr unlike ↦ unlike
    ]
first_told ids last (Some i) so = sym (is_least (are_like ids last) last 0 i (record {
  from = omega arith;
  below = omega (arith, so.below);
  passes = subst (λ (id : List (List ℕ)). same_id (get_or ids i []) id ≡ true) (so.same []) (same_itself (get_or ids i []));
  before = λ m le lt. elim (either (are_like ids last m)) [
    | inl like ↦ absurd (so.least m lt [] (same_true (get_or ids m []) (get_or ids last []) like))
    | inr unlike ↦ unlike
  ];
}))

pub none_apart : (ids : Ids) → ((l : ℕ) → l < length ids → first_like ids l ≡ None) → AreApart ids
none_apart ids none i j lt inside = unlike_differ ids j i (omega (arith, lt, inside)) inside (least_none (are_like ids j) j 0 (none j inside) i (omega arith) (omega (arith, lt)))

pub apart_none : (ids : Ids) → AreApart ids → (l : ℕ) → l < length ids → first_like ids l ≡ None
apart_none ids apart l inside = none_least (are_like ids l) l 0 (λ m le lt. differ_unlike ids l m (omega (arith, lt, inside)) inside (apart m l (omega (arith, lt)) inside))

pub found_alike : (ids : Ids) (i j : ℕ) → j < length ids → first_like ids j ≡ Some i → ((m : ℕ) → m < j → first_like ids m ≡ None) → AreAlike ids i j
found_alike ids i j inside found none =
    let so = least_some (are_like ids j) j 0 i found in
    record {
      below = omega (arith, so.below);
      inside = inside;
      same = like_same ids j i (omega (arith, so.below, inside)) inside so.passes;
      least_second = λ k l lt lt_j. unlike_differ ids l k (omega (arith, lt, lt_j, inside)) (omega (arith, lt_j, inside)) (least_none (are_like ids l) l 0 (none l lt_j) k (omega arith) (omega (arith, lt)));
      least_first = λ k lt. unlike_differ ids j k (omega (arith, lt, so.below, inside)) inside (so.before k (omega arith) lt);
    }

pub alike_found : (ids : Ids) (i j : ℕ) → AreAlike ids i j → (first_like ids j ≡ Some i) × ((m : ℕ) → m < j → first_like ids m ≡ None)
alike_found ids i j two =
    let below = two.below in
    let inside = two.inside in (
      is_least (are_like ids j) j 0 i (record {
        from = omega arith;
        below = omega (arith, below);
        passes = same_like ids j i (omega (arith, below, inside)) inside two.same;
        before = λ m le lt. differ_unlike ids j m (omega (arith, lt, below, inside)) inside (two.least_first m lt);
      }),
      λ m lt. none_least (are_like ids m) m 0 (λ k le lt_m. differ_unlike ids m k (omega (arith, lt_m, lt, inside)) (omega (arith, lt, inside)) (two.least_second k m (omega (arith, lt_m)) lt)),
    )

-- ---- judging all of them

like_ok : (place last : ℕ) (o : Option ℕ) → judge_like place last o ≡ Ok tt → o ≡ None
like_ok place last None e = refl
like_ok place last (Some i) e = absurd cc

pub apart_ok : (ids : Ids) (last place : ℕ) (items : DataItems) → judge_apart ids last place items ≡ Ok tt → (l : ℕ) → last ≤ l → l < last + item_count items → first_like ids l ≡ None
apart_ok ids last place NoItems e l le lt = absurd (omega (arith, le, lt))
apart_ok ids last place (ItemThen x others) e l le lt =
    bind_ok (judge_like place last (first_like ids last)) _ tt e (λ done is f. elim (here_or_later last l le) [
      | inl same ↦ subst (λ (m : ℕ). first_like ids m ≡ None) same (like_ok place last (first_like ids last) is)
      | inr more ↦ apart_ok ids (suc last) (place_after place x) others f l more (omega (arith, lt))
    ])

pub apart_again : (ids : Ids) (last place : ℕ) (items : DataItems) → ((l : ℕ) → last ≤ l → l < last + item_count items → first_like ids l ≡ None) → judge_apart ids last place items ≡ Ok tt
apart_again ids last place NoItems none = refl
apart_again ids last place (ItemThen x others) none =
    rw (none last (omega arith) (omega arith)) (apart_again ids (suc last) (place_after place x) others (λ l le lt. none l (omega (arith, le)) (omega (arith, lt))))

pub record FirstAlike (ids : Ids) (last place : ℕ) (items : DataItems) (r : Refusal) : Type 0 where
  pub first : ℕ
  pub second : ℕ
  pub from : last ≤ second
  pub below : second < last + item_count items
  pub found : first_like ids second ≡ Some first
  pub none : (m : ℕ) → last ≤ m → m < second → first_like ids m ≡ None
  pub is : r ≡ refused (element_place place items (second - last)) (TwoAlike first second)

pub apart_err : (ids : Ids) (last place : ℕ) (items : DataItems) (r : Refusal) → judge_apart ids last place items ≡ Err r → FirstAlike ids last place items r
apart_err ids last place NoItems r e = absurd cc
apart_err ids last place (ItemThen x others) r e = by_like (first_like ids last) refl e (λ f. apart_err ids (suc last) (place_after place x) others r f)
  where
    by_like : (o : Option ℕ) → first_like ids last ≡ o → (judge_like place last o >>= λ _. judge_apart ids (suc last) (place_after place x) others) ≡ Err r
        → (judge_apart ids (suc last) (place_after place x) others ≡ Err r → FirstAlike ids (suc last) (place_after place x) others r) → FirstAlike ids last place (ItemThen x others) r
    by_like None is f later =
        let rest = later f in
        let one : rest.second - last ≡ suc (rest.second - suc last) = omega (arith, rest.from) in
        record {
          first = rest.first;
          second = rest.second;
          from = omega (arith, rest.from);
          below = omega (arith, rest.below);
          found = rest.found;
          none = λ m le lt. elim (here_or_later last m le) [
            | inl same ↦ subst (λ (l : ℕ). first_like ids l ≡ None) same is
            | inr more ↦ rest.none m more lt
          ];
          is = rest.is ∙ ap (λ (k : ℕ). refused (element_place place (ItemThen x others) k) (TwoAlike rest.first rest.second)) (sym one);
        }
    by_like (Some i) is f later =
        let itself : last - last ≡ 0 = omega arith in
        record {
          first = i;
          second = last;
          from = omega arith;
          below = omega arith;
          found = is;
          none = λ m le lt. absurd (omega (arith, le, lt));
          is = sym (same_err _ r f) ∙ ap (λ (k : ℕ). refused (element_place place (ItemThen x others) k) (TwoAlike i last)) (sym itself);
        }

pub apart_refused : (ids : Ids) (last place : ℕ) (items : DataItems) (i j : ℕ) → last ≤ j → j < last + item_count items → first_like ids j ≡ Some i → ((m : ℕ) → last ≤ m → m < j → first_like ids m ≡ None)
    → judge_apart ids last place items ≡ Err (refused (element_place place items (j - last)) (TwoAlike i j))
apart_refused ids last place NoItems i j le lt found none = absurd (omega (arith, le, lt))
apart_refused ids last place (ItemThen x others) i j le lt found none =
    elim (here_or_later last j le) [
      | inl same ↦ here same
      | inr more ↦
          let one : j - last ≡ suc (j - suc last) = omega (arith, more) in
          rw (none last (omega arith) (omega (arith, more)), one) (apart_refused ids (suc last) (place_after place x) others i j more (omega (arith, lt)) found (λ m at below. none m (omega (arith, at)) below))
    ]
  where
    here : last ≡ j → judge_apart ids last place (ItemThen x others) ≡ Err (refused (element_place place (ItemThen x others) (j - last)) (TwoAlike i j))
    here same =
        let itself : j - last ≡ 0 = omega (arith, same) in
        rw itself (ap (λ (o : Option ℕ). judge_like place last o >>= λ _. judge_apart ids (suc last) (place_after place x) others) (ap (first_like ids) same ∙ found) ∙ ap (λ (l : ℕ). Err (refused place (TwoAlike i l))) same)
