-- The runs of the procedure of two components.
use Rattle.std.proofs.Common.{◌≡◌, ◌<◌, ℕ, suc, true, false, List, [], ◌∷◌, ◌++◌, Some, None, refl, sym, ap, subst, ◌∙◌, arith, inl, inr, ◌⊎◌}
use Rattle.std.specs.Prelude.{◌↔◌}
use Rattle.suit_params.specs.declared.digest.Digest.{Digest}
use Rattle.suit_params.specs.declared.param.Param.TheVariants as params
use Rattle.suit_params.specs.declared.param.ParamKey.TheVariants as keys
use Rattle.suit_params.specs.InForce.{Parameters, none_in_force, with_param, in_force}
use Rattle.suit_commands.specs.declared.kinds.TestKind.TheVariants as tests
use Rattle.suit_commands.specs.declared.kinds.ActKind.TheVariants as acts
use Rattle.suit_commands.specs.Tree.{NoSteps}
use Rattle.path_model.specs.declared.identity.Identity.{Identity}
use Rattle.path_model.specs.declared.event.Event.{Event}
use Rattle.path_model.specs.declared.event.Event.TheVariants.{Set, Matched, Missed, Invoked, Failed}
use Rattle.path_model.specs.Behaviour.{State, Ending, Done, Condition, Directive, IsFailure, Behaviour, Then, Each}
use Rattle.path_model.specs.Conditions.{Tests}
use Rattle.path_model.specs.Directives.{Overrides, Acts}
use Rattle.path_model.specs.Runs.{Runs}
use Rattle.path_model.specs.Path.{start_state, Starts, RunsPlan, first_state}
use Rattle.path_model.specs.ParameterLaws.{IsWhole}
use Rattle.path_model.specs.TwoComponents.{set_both, match_first, invoke_second, two_components, both_told, missed_run, matched_run, launched_run, unlaunched_run, IsDone, TwoComponentsRun}
use Rattle.path_model.proofs.ParameterLaws.{stays_whole, starts_empty, override_replaces, override_keeps}
use Rattle.path_model.proofs.CommandLaws.{match_is_free, invokes_tell}
use Rattle.path_model.proofs.RunLaws.{once, of_once}

-- ---- what follows a first that ends in one way

state_or : State → Ending → State
state_or s (Done t) = t
state_or s (Condition p soft) = s
state_or s (Directive p) = s

pub same_state : (s t : State) → Done s ≡ Done t → s ≡ t
unfolding state_or
same_state s t same = ap (state_or s) same

Only : (List Event → Ending → Type 0) → List Event → State → Type 0
Only first told next = (es : List Event) (e : Ending) → first es e → (es ≡ told) × (e ≡ Done next)

Rest : List Event → (List Event → Ending → Type 0) → List Event → Ending → Type 0
Rest told second es e = (after : List Event) × (es ≡ told ++ after) × second after e

then_only : (first second : Behaviour) (s : State) (told : List Event) (next : State) → Only (first s) told next → (es : List Event) (e : Ending) → Then first second s es e → Rest told (second next) es e
unfolding Only Rest
then_only first second s told next only es e run =
    elim run [
      | inl (failed, one) ↦ absurd (subst IsFailure (only es e one).1 failed)
      | inr (m, b, a, is, one, others) ↦
          let known = only b (Done m) one in
          (a, is ∙ ap (λ (xs : List Event). xs ++ a) known.0, subst (λ (t : State). second t a e) (same_state m next known.1) others)
    ]

-- ---- the parameters that the shared sequence sets

both_in : Digest → Parameters → Parameters
both_in d p = with_param (with_param p 0 (params.Digest d)) 1 (params.Digest d)

record Holds (d : Digest) (p : Parameters) : Type 0 where
  whole : IsWhole p
  first : in_force p 0 keys.Digest ≡ Some (params.Digest d)
  second : in_force p 1 keys.Digest ≡ Some (params.Digest d)
  no_size : in_force p 0 keys.Size ≡ None
  nor_size : in_force p 1 keys.Size ≡ None

record Sizeless (p : Parameters) : Type 0 where
  whole : IsWhole p
  no_size : in_force p 0 keys.Size ≡ None
  nor_size : in_force p 1 keys.Size ≡ None

apart : (other c : ℕ) → (other ≡ c) × (keys.Size ≡ keys.Digest) → ⊥
apart other c (same, key) = absurd cc

other_component : (other c : ℕ) → suc other ≡ c → (other ≡ c) × (keys.Digest ≡ keys.Digest) → ⊥
other_component other c next (same, key) = absurd (omega arith)

holds : (d : Digest) (p : Parameters) → Sizeless p → Holds d (both_in d p)
unfolding both_in
holds d p is =
    let q = with_param p 0 (params.Digest d) in
    let whole_q = stays_whole.next p 0 (params.Digest d) is.whole in
    let two : 0 < 8 = omega arith in
    let three : 1 < 8 = omega arith in
    record {
      whole = stays_whole.next q 1 (params.Digest d) whole_q;
      first = override_keeps q 1 0 (params.Digest d) keys.Digest whole_q three two (other_component 0 1 refl) ∙ override_replaces p 0 (params.Digest d) is.whole two;
      second = override_replaces q 1 (params.Digest d) whole_q three;
      no_size = override_keeps q 1 0 (params.Digest d) keys.Size whole_q three two (apart 0 1) ∙ override_keeps p 0 0 (params.Digest d) keys.Size is.whole two two (apart 0 0) ∙ is.no_size;
      nor_size = override_keeps q 1 1 (params.Digest d) keys.Size whole_q three three (apart 1 1) ∙ override_keeps p 0 1 (params.Digest d) keys.Size is.whole two three (apart 1 0) ∙ is.nor_size;
    }

sizeless : (d : Digest) (p : Parameters) → Holds d p → Sizeless p
sizeless d p is = record { whole = is.whole; no_size = is.no_size; nor_size = is.nor_size }

none_sizeless : Sizeless none_in_force
none_sizeless = record { whole = stays_whole.first; no_size = starts_empty 0 keys.Size; nor_size = starts_empty 1 keys.Size }

-- ---- the shared sequence

after_shared : Digest → State → State
after_shared d s = record { parameters = both_in d s.parameters; selection = 0 ∷ 1 ∷ []; soft_failure = false }

module _ (d : Digest) (ids : List Identity) where
  shared_run : (s : State) → Starts (set_both d) (two_components d) ids s (both_told d) (Done (after_shared d s))
  unfolding after_shared both_in
  shared_run s =
      let t = start_state s in
      let both : State = record { parameters = t.parameters; selection = 0 ∷ 1 ∷ []; soft_failure = false } in
      let one : State = record { parameters = with_param t.parameters 0 (params.Digest d); selection = 0 ∷ 1 ∷ []; soft_failure = false } in
      let two = after_shared d s in
      inr (
        both,
        [],
        both_told d,
        refl,
        (refl, refl),
        inr (
          two,
          both_told d,
          [],
          refl,
          inr (
            one,
            Set 0 (params.Digest d) ∷ [],
            Set 1 (params.Digest d) ∷ [],
            refl,
            (refl, refl),
            inr (two, Set 1 (params.Digest d) ∷ [], [], refl, (refl, refl), (refl, refl)),
          ),
          (refl, refl),
        ),
      )

  shared_only : (s : State) → Only (Starts (set_both d) (two_components d) ids s) (both_told d) (after_shared d s)
  unfolding Only Rest after_shared both_in
  shared_only s es e run =
      let t = start_state s in
      let at = Overrides (params.Digest d ∷ []) in
      let both : State = record { parameters = t.parameters; selection = 0 ∷ 1 ∷ []; soft_failure = false } in
      let one : State = record { parameters = with_param t.parameters 0 (params.Digest d); selection = 0 ∷ 1 ∷ []; soft_failure = false } in
      let two = after_shared d s in
      let steps = then_only (λ x. λ xs. λ end. (xs ≡ []) × (end ≡ Done both)) (λ x. Then (λ y. Each at y.selection y) (Runs NoSteps ids 2) x) t [] both (λ xs end is. is) es e run in
      let each_only : Only (Each at (0 ∷ 1 ∷ []) both) (both_told d) two = λ xs end all.
      let first = then_only (at 0) (Each at (1 ∷ [])) both (Set 0 (params.Digest d) ∷ []) one (λ ys f is. is) xs end all in
      let last = of_once at 1 one first.0 end first.2 in
      (first.1 ∙ ap (λ (more : List Event). Set 0 (params.Digest d) ∷ more) last.0, last.1)
      in
      let whole = then_only (λ y. Each at y.selection y) (Runs NoSteps ids 2) both (both_told d) two each_only steps.0 e steps.2 in
      (steps.1 ∙ whole.1 ∙ ap (λ (more : List Event). both_told d ++ more) whole.2.0, whole.2.1)

  -- ---- the first member, where the digest is in force

  alone : (command : Behaviour) (s : State) (es : List Event) (e : Ending) → command s es e → Then command (Runs NoSteps ids 2) s es e
  alone command s es e run = once (λ c. command) 0 s es e run

  of_alone : (command : Behaviour) (s : State) (es : List Event) (e : Ending) → Then command (Runs NoSteps ids 2) s es e → command s es e
  of_alone command s es e run = of_once (λ c. command) 0 s es e run

  first_test : (s : State) (es : List Event) (e : Ending) → Tests tests.ImageMatch ids 30 0 (start_state s) es e → Starts match_first (two_components d) ids s es e
  first_test s es e run =
      let t = start_state s in
      let at = Tests tests.ImageMatch ids 30 in
      alone (λ y. Each at y.selection y) t es e (once at 0 t es e run)

  of_first_test : (s : State) (es : List Event) (e : Ending) → Starts match_first (two_components d) ids s es e → Tests tests.ImageMatch ids 30 0 (start_state s) es e
  of_first_test s es e run =
      let t = start_state s in
      let at = Tests tests.ImageMatch ids 30 in
      of_once at 0 t es e (of_alone (λ y. Each at y.selection y) t es e run)

  -- ---- the third member

  at_second : State → State
  at_second s = record { parameters = s.parameters; selection = 1 ∷ []; soft_failure = false }

  third_act : (s : State) (es : List Event) (e : Ending) → Acts acts.Invoke 50 1 (at_second s) es e → Starts invoke_second (two_components d) ids s es e
  unfolding at_second
  third_act s es e run =
      let at = Acts acts.Invoke 50 in
      inr (at_second s, [], es, refl, (refl, refl), alone (λ y. Each at y.selection y) (at_second s) es e (once at 1 (at_second s) es e run))

  of_third_act : (s : State) (es : List Event) (e : Ending) → Starts invoke_second (two_components d) ids s es e → Acts acts.Invoke 50 1 (at_second s) es e
  unfolding at_second Only Rest
  of_third_act s es e run =
      let at = Acts acts.Invoke 50 in
      let t = start_state s in
      let u = at_second s in
      let rest = then_only (λ x. λ xs. λ end. (xs ≡ []) × (end ≡ Done u)) (Then (λ y. Each at y.selection y) (Runs NoSteps ids 2)) t [] u (λ xs end is. is) es e run in
      let act = of_once at 1 u rest.0 e (of_alone (λ y. Each at y.selection y) u rest.0 e rest.2) in
      subst (λ (xs : List Event). Acts acts.Invoke 50 1 u xs e) (sym rest.1) act

  -- ---- the states between

  s1 : State
  s1 = after_shared d first_state

  s3 : State
  s3 = after_shared d (start_state s1)

  s5 : State
  s5 = after_shared d (start_state s3)

  h1 : Holds d s1.parameters
  unfolding s1 after_shared
  h1 = holds d none_in_force none_sizeless

  h3 : Holds d s3.parameters
  unfolding s3 after_shared
  h3 = holds d s1.parameters (sizeless d s1.parameters h1)

  h5 : Holds d s5.parameters
  unfolding s5 after_shared
  h5 = holds d s3.parameters (sizeless d s3.parameters h3)

  first_ends : (es : List Event) (e : Ending) → Tests tests.ImageMatch ids 30 0 (start_state s1) es e
      ↔ (((es ≡ Matched 0 d None ∷ []) × (e ≡ Done (start_state s1))) ⊎ ((es ≡ Missed 0 ∷ Failed 30 ∷ []) × (e ≡ Condition 30 false)))
  first_ends es e = match_is_free ids 30 0 d None (start_state s1) es e h1.first h1.no_size

  third_ends : (es : List Event) (e : Ending) → Acts acts.Invoke 50 1 (at_second s5) es e
      ↔ (((es ≡ Invoked 1 (Some d) None true ∷ []) × (e ≡ Done (at_second s5))) ⊎ ((es ≡ Invoked 1 (Some d) None false ∷ Failed 50 ∷ []) × (e ≡ Directive 50)))
  unfolding at_second
  third_ends es e = invokes_tell 50 1 (Some d) None (at_second s5) es e h5.second h5.nor_size

  Shared : Behaviour
  Shared = Starts (set_both d) (two_components d) ids

  r5 : Behaviour
  r5 = Then Shared (Starts invoke_second (two_components d) ids)

  r4 : Behaviour
  r4 = Then (Starts NoSteps (two_components d) ids) r5

  r3 : Behaviour
  r3 = Then Shared r4

  r2 : Behaviour
  r2 = Then (Starts match_first (two_components d) ids) r3

  -- ---- each of the three is a run

  invoked_after : (told : List Event) (e : Ending) → Acts acts.Invoke 50 1 (at_second s5) told e → r3 (start_state s1) (both_told d ++ (both_told d ++ told)) e
  unfolding r3 r4 r5 Shared s3 s5
  invoked_after told e run =
      inr (
        s3,
        both_told d,
        both_told d ++ told,
        refl,
        shared_run (start_state s1),
        inr (
          start_state s3,
          [],
          both_told d ++ told,
          refl,
          (refl, refl),
          inr (s5, both_told d, told, refl, shared_run (start_state s3), third_act s5 told e run),
        ),
      )

  whole_invoked : (told : List Event) (e : Ending) → Acts acts.Invoke 50 1 (at_second s5) told e → RunsPlan (two_components d) ids first_state (matched_run d ++ told) e
  unfolding r3 r4 r5 Shared s1
  whole_invoked told e run =
      inr (
        s1,
        both_told d,
        Matched 0 d None ∷ (both_told d ++ (both_told d ++ told)),
        refl,
        shared_run first_state,
        inr (
          start_state s1,
          Matched 0 d None ∷ [],
          both_told d ++ (both_told d ++ told),
          refl,
          first_test s1 (Matched 0 d None ∷ []) (Done (start_state s1)) ((first_ends (Matched 0 d None ∷ []) (Done (start_state s1))).1 (inl (refl, refl))),
          invoked_after told e run,
        ),
      )

  whole_missed : RunsPlan (two_components d) ids first_state (missed_run d) (Condition 30 false)
  unfolding s1
  whole_missed =
      let told : List Event = Missed 0 ∷ Failed 30 ∷ [] in
      inr (s1, both_told d, told, refl, shared_run first_state, inl (tt, first_test s1 told (Condition 30 false) ((first_ends told (Condition 30 false)).1 (inr (refl, refl)))))

  -- ---- and no other is

  Ends : List Event → Ending → Type 0
  Ends es e = ((es ≡ missed_run d) × (e ≡ Condition 30 false)) ⊎ (((es ≡ launched_run d) × IsDone e) ⊎ ((es ≡ unlaunched_run d) × (e ≡ Directive 50)))

  only_after : (es : List Event) (e : Ending) → r3 (start_state s1) es e
      → ((es ≡ both_told d ++ (both_told d ++ Invoked 1 (Some d) None true ∷ [])) × IsDone e)
      ⊎ ((es ≡ both_told d ++ (both_told d ++ Invoked 1 (Some d) None false ∷ Failed 50 ∷ [])) × (e ≡ Directive 50))
  unfolding r3 r4 r5 Shared s3 s5 Only Rest
  only_after es e run =
      let third = Starts invoke_second (two_components d) ids in
      let no_member = Starts NoSteps (two_components d) ids in
      let one = then_only Shared r4 (start_state s1) (both_told d) s3 (shared_only (start_state s1)) es e run in
      let none = then_only no_member r5 s3 [] (start_state s3) (λ xs end is. is) one.0 e one.2 in
      let two = then_only Shared third (start_state s3) (both_told d) s5 (shared_only (start_state s3)) none.0 e none.2 in
      let whole : es ≡ both_told d ++ (both_told d ++ two.0) = one.1 ∙ ap (λ (more : List Event). both_told d ++ more) (none.1 ∙ two.1) in
      let onto = λ (told : List Event) (is : two.0 ≡ told). whole ∙ ap (λ (more : List Event). both_told d ++ (both_told d ++ more)) is in
      elim ((third_ends two.0 e).0 (of_third_act s5 two.0 e two.2)) [
        | inl (is, done) ↦ inl (onto (Invoked 1 (Some d) None true ∷ []) is, subst IsDone (sym done) tt)
        | inr (is, ended) ↦ inr (onto (Invoked 1 (Some d) None false ∷ Failed 50 ∷ []) is, ended)
      ]

  only_these : (es : List Event) (e : Ending) → RunsPlan (two_components d) ids first_state es e → Ends es e
  unfolding r2 r3 r4 r5 Shared s1 Only Rest Ends
  only_these es e run =
      let one = then_only Shared r2 first_state (both_told d) s1 (shared_only first_state) es e run in
      elim one.2 [
        | inl (failed, test) ↦ elim ((first_ends one.0 e).0 (of_first_test s1 one.0 e test)) [
          | inl (is, done) ↦ absurd (subst IsFailure done failed)
          | inr (is, missed) ↦ inl (one.1 ∙ ap (λ (more : List Event). both_told d ++ more) is, missed)
        ]
        | inr (m, b, a, is, test, others) ↦ elim ((first_ends b (Done m)).0 (of_first_test s1 b (Done m) test)) [
          | inr (bad, failed) ↦ absurd cc
          | inl (told, done) ↦
              let rest = only_after a e (subst (λ (t : State). r3 t a e) (same_state m (start_state s1) done) others) in
              let whole : es ≡ both_told d ++ (Matched 0 d None ∷ a) =
              one.1 ∙ ap (λ (more : List Event). both_told d ++ more) (is ∙ ap (λ (xs : List Event). xs ++ a) told)
              in
              let onto = λ (end : List Event) (same : a ≡ end). whole ∙ ap (λ (xs : List Event). both_told d ++ (Matched 0 d None ∷ xs)) same in
              elim rest [
                | inl (same, launched) ↦ inr (inl (onto (both_told d ++ (both_told d ++ Invoked 1 (Some d) None true ∷ [])) same, launched))
                | inr (same, ended) ↦ inr (inr (onto (both_told d ++ (both_told d ++ Invoked 1 (Some d) None false ∷ Failed 50 ∷ [])) same, ended))
              ]
        ]
      ]

pub two_components_run : TwoComponentsRun
unfolding Ends at_second
two_components_run d ids = record {
  only = λ es e run. only_these d ids es e run;
  missed = whole_missed d ids;
  launched = (
    Done (at_second d ids (s5 d ids)),
    whole_invoked d ids (Invoked 1 (Some d) None true ∷ []) (Done (at_second d ids (s5 d ids)))
        ((third_ends d ids (Invoked 1 (Some d) None true ∷ []) (Done (at_second d ids (s5 d ids)))).1 (inl (refl, refl))),
    tt,
  );
  unlaunched =
      whole_invoked d ids (Invoked 1 (Some d) None false ∷ Failed 50 ∷ []) (Directive 50)
      ((third_ends d ids (Invoked 1 (Some d) None false ∷ Failed 50 ∷ []) (Directive 50)).1 (inr (refl, refl)));
}
