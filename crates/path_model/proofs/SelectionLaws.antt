-- The laws of selections, and of commands that are done for each selected component.
use Rattle.std.proofs.Common.{◌≡◌, ℕ, Bool, true, false, List, [], ◌∷◌, get_or, Option, Some, None, refl, sym, ap, subst, ◌∙◌, arith, inl, inr}
use Rattle.std.specs.Prelude.{◌↔◌, slice_get}
use Rattle.std.specs.List.{range_with_len}
use Rattle.std.proofs.lemmas.List.FromFn.{length-range_with_len, get_or-range_with_len}
use Rattle.std.proofs.lemmas.Option.{slice_get-get_or}
use Rattle.suit_params.specs.declared.digest.Digest.{Digest}
use Rattle.suit_params.specs.declared.param.Param.{Param}
use Rattle.suit_params.specs.declared.param.ParamKey.TheVariants as keys
use Rattle.suit_params.specs.InForce.{with_param, in_force, identifier_of, number_of, bytes_of, digest_in, size_in}
use Rattle.path_model.specs.declared.identity.Identity.{Identity}
use Rattle.path_model.specs.declared.event.Event.{Event}
use Rattle.path_model.specs.declared.event.Event.TheVariants.{Tried, Wrote}
use Rattle.suit_commands.specs.declared.kinds.TestKind.{TestKind}
use Rattle.suit_commands.specs.declared.kinds.TestKind.TheVariants as tests
use Rattle.suit_commands.specs.declared.kinds.ActKind.{ActKind}
use Rattle.suit_commands.specs.declared.kinds.ActKind.TheVariants as acts
use Rattle.suit_commands.specs.Tree.{Test, Act, Index, Override, TryEach, RunSequence, BranchesTree, NoBranches, BranchThen, NullThen}
use Rattle.path_model.specs.Behaviour.{State, Ending, Done, Condition, Directive, IsFailure, Behaviour, EachSelected, Each}
use Rattle.path_model.specs.Conditions.{IsMet, IsUnmet, Compares, Matches, ChecksContent, Tests, vendor_of, class_of, device_of, slot_of}
use Rattle.path_model.specs.Directives.{soft_after, after_override, Overrides, Writes, Acts}
use Rattle.path_model.specs.Runs.{after_run, after_branch, RunsInner, Runs, Tries}
use Rattle.path_model.specs.Turns.{Course, InTurn, with_selected, putting_back}
use Rattle.path_model.specs.SelectionLaws.{Selections, IndexSelects, SelectionKept, OneSelected, NoneSelected, MoreSelected}
use Rattle.path_model.proofs.CommandLaws.{conditions_end}
use Rattle.path_model.proofs.Turns.{of_then, to_then}
use Rattle.path_model.proofs.RunLaws.{once, of_once, at_sole, of_sole}

-- ---- selections

pub selections : Selections
selections = record {
  one = λ component count. refl;
  listed = λ components count. refl;
  all_number = λ count. length-range_with_len 0 count;
  all_ascend = λ count component lt.
      let there = slice_get-get_or (range_with_len 0 count) component 0 (omega (arith, length-range_with_len 0 count)) in
      let same : get_or (range_with_len 0 count) component 0 ≡ component = omega (arith, get_or-range_with_len 0 count component 0 lt) in
      there ∙ ap Some same;
}

pub index_selects : IndexSelects
index_selects selection ids count place s es e = (λ run. run, λ is. is)

-- ---- commands at one component neither read the selection nor change it

record IsApart (at : ℕ → Behaviour) : Type 0 where
  keeps : (c : ℕ) (s : State) (es : List Event) (e : Ending) → at c s es e → putting_back s.selection e ≡ e
  blind : (c : ℕ) (s : State) (cs : List ℕ) (es : List Event) (e : Ending) → at c s es e → at c (with_selected s cs) es (putting_back cs e)

back_done : (s : State) (e : Ending) → e ≡ Done s → putting_back s.selection e ≡ e
back_done s e is = ap (putting_back s.selection) is ∙ sym is

back_failed : (cs : List ℕ) (p : ℕ) (soft : Bool) (e : Ending) → e ≡ Condition p soft → putting_back cs e ≡ e
back_failed cs p soft e is = ap (putting_back cs) is ∙ sym is

back_ended : (cs : List ℕ) (p : ℕ) (e : Ending) → e ≡ Directive p → putting_back cs e ≡ e
back_ended cs p e is = ap (putting_back cs) is ∙ sym is

-- ---- conditions

passes_blind : (event : Event) (s : State) (cs : List ℕ) (es : List Event) (e : Ending) → IsMet event s es e → IsMet event (with_selected s cs) es (putting_back cs e)
passes_blind event s cs es e (is, done) = (is, ap (putting_back cs) done)

fails_blind : (p : ℕ) (event : Event) (s : State) (cs : List ℕ) (es : List Event) (e : Ending) → IsUnmet p event s es e → IsUnmet p event (with_selected s cs) es (putting_back cs e)
fails_blind p event s cs es e (is, failed) = (is, ap (putting_back cs) failed)

compares_blind : {A : Type 0} (p : ℕ) (kind : TestKind) (c : ℕ) (wanted own : Option A) (s : State) (cs : List ℕ) (es : List Event) (e : Ending) → Compares p kind c wanted own s es e → Compares p kind c wanted own (with_selected s cs) es (putting_back cs e)
compares_blind p kind c wanted own s cs es e run =
    elim run [
      | inl (same, passed) ↦ inl (same, passes_blind (Tried c kind true) s cs es e passed)
      | inr (differs, failed) ↦ inr (differs, fails_blind p (Tried c kind false) s cs es e failed)
    ]

matches_blind : (p c : ℕ) (digest : Option Digest) (size : Option ℕ) (s : State) (cs : List ℕ) (es : List Event) (e : Ending) → Matches p c digest size s es e → Matches p c digest size (with_selected s cs) es (putting_back cs e)
matches_blind p c None size s cs es e (is, failed) = (is, ap (putting_back cs) failed)
matches_blind p c (Some digest) size s cs es e run =
    elim run [
      | inl (is, done) ↦ inl (is, ap (putting_back cs) done)
      | inr (is, failed) ↦ inr (is, ap (putting_back cs) failed)
    ]

content_blind : (p c : ℕ) (content : Option (List ℕ)) (s : State) (cs : List ℕ) (es : List Event) (e : Ending) → ChecksContent p c content s es e → ChecksContent p c content (with_selected s cs) es (putting_back cs e)
content_blind p c None s cs es e (is, failed) = (is, ap (putting_back cs) failed)
content_blind p c (Some content) s cs es e run =
    elim run [
      | inl (is, done) ↦ inl (is, ap (putting_back cs) done)
      | inr (is, failed) ↦ inr (is, ap (putting_back cs) failed)
    ]

tests_keep : (kind : TestKind) (ids : List Identity) (p c : ℕ) (s : State) (es : List Event) (e : Ending) → Tests kind ids p c s es e → putting_back s.selection e ≡ e
tests_keep kind ids p c s es e run =
    elim (conditions_end kind ids p c s es e run) [
      | inl end ↦ back_done s e end.passed.1
      | inr (is, failed) ↦ back_failed s.selection p s.soft_failure e failed
    ]

tests_blind : (kind : TestKind) (ids : List Identity) (p c : ℕ) (s : State) (cs : List ℕ) (es : List Event) (e : Ending) → Tests kind ids p c s es e → Tests kind ids p c (with_selected s cs) es (putting_back cs e)
tests_blind tests.Vendor ids p c s cs es e run = compares_blind p tests.Vendor c (identifier_of (in_force s.parameters c keys.Vendor)) (vendor_of (slice_get ids c)) s cs es e run
tests_blind tests.Class ids p c s cs es e run = compares_blind p tests.Class c (identifier_of (in_force s.parameters c keys.Class)) (class_of (slice_get ids c)) s cs es e run
tests_blind tests.Device ids p c s cs es e run = compares_blind p tests.Device c (identifier_of (in_force s.parameters c keys.Device)) (device_of (slice_get ids c)) s cs es e run
tests_blind tests.Slot ids p c s cs es e run = compares_blind p tests.Slot c (number_of (in_force s.parameters c keys.Slot)) (slot_of (slice_get ids c)) s cs es e run
tests_blind tests.ImageMatch ids p c s cs es e run = matches_blind p c (digest_in s.parameters c) (size_in s.parameters c) s cs es e run
tests_blind tests.CheckContent ids p c s cs es e run = content_blind p c (bytes_of (in_force s.parameters c keys.Content)) s cs es e run
tests_blind tests.Abort ids p c s cs es e (is, failed) = (is, ap (putting_back cs) failed)

tests_apart : (kind : TestKind) (ids : List Identity) (p : ℕ) → IsApart (Tests kind ids p)
tests_apart kind ids p = record { keeps = λ c s es e run. tests_keep kind ids p c s es e run; blind = λ c s cs es e run. tests_blind kind ids p c s cs es e run }

-- ---- directives

writes_blind : {A : Type 0} (p : ℕ) (held : Option A) (w : A → List Event) (s : State) (cs : List ℕ) (es : List Event) (e : Ending) → Writes p held w s es e → Writes p held w (with_selected s cs) es (putting_back cs e)
writes_blind p None w s cs es e (is, ended) = (is, ap (putting_back cs) ended)
writes_blind p (Some value) w s cs es e run =
    elim run [
      | inl (is, done) ↦ inl (is, ap (putting_back cs) done)
      | inr (is, ended) ↦ inr (is, ap (putting_back cs) ended)
    ]

writes_keep : {A : Type 0} (p : ℕ) (held : Option A) (w : A → List Event) (s : State) (es : List Event) (e : Ending) → Writes p held w s es e → putting_back s.selection e ≡ e
writes_keep p None w s es e (is, ended) = back_ended s.selection p e ended
writes_keep p (Some value) w s es e run =
    elim run [
      | inl (is, done) ↦ back_done s e done
      | inr (is, ended) ↦ back_ended s.selection p e ended
    ]

acts_keep : (kind : ActKind) (p c : ℕ) (s : State) (es : List Event) (e : Ending) → Acts kind p c s es e → putting_back s.selection e ≡ e
acts_keep acts.Write p c s es e run = writes_keep p (bytes_of (in_force s.parameters c keys.Content)) (λ content. Wrote c ∷ []) s es e run
acts_keep acts.Fetch p c s es e run = writes_keep p (bytes_of (in_force s.parameters c keys.Uri)) (λ uri. Wrote c ∷ []) s es e run
acts_keep acts.Copy p c s es e run = writes_keep p (number_of (in_force s.parameters c keys.Source)) (λ source. Wrote c ∷ []) s es e run
acts_keep acts.Swap p c s es e run = writes_keep p (number_of (in_force s.parameters c keys.Source)) (λ source. Wrote c ∷ Wrote source ∷ []) s es e run
acts_keep acts.Invoke p c s es e run =
    elim run [
      | inl (is, done) ↦ back_done s e done
      | inr (is, ended) ↦ back_ended s.selection p e ended
    ]

acts_blind : (kind : ActKind) (p c : ℕ) (s : State) (cs : List ℕ) (es : List Event) (e : Ending) → Acts kind p c s es e → Acts kind p c (with_selected s cs) es (putting_back cs e)
acts_blind acts.Write p c s cs es e run = writes_blind p (bytes_of (in_force s.parameters c keys.Content)) (λ content. Wrote c ∷ []) s cs es e run
acts_blind acts.Fetch p c s cs es e run = writes_blind p (bytes_of (in_force s.parameters c keys.Uri)) (λ uri. Wrote c ∷ []) s cs es e run
acts_blind acts.Copy p c s cs es e run = writes_blind p (number_of (in_force s.parameters c keys.Source)) (λ source. Wrote c ∷ []) s cs es e run
acts_blind acts.Swap p c s cs es e run = writes_blind p (number_of (in_force s.parameters c keys.Source)) (λ source. Wrote c ∷ Wrote source ∷ []) s cs es e run
acts_blind acts.Invoke p c s cs es e run =
    elim run [
      | inl (is, done) ↦ inl (is, ap (putting_back cs) done)
      | inr (is, ended) ↦ inr (is, ap (putting_back cs) ended)
    ]

acts_apart : (kind : ActKind) (p : ℕ) → IsApart (Acts kind p)
acts_apart kind p = record { keeps = λ c s es e run. acts_keep kind p c s es e run; blind = λ c s cs es e run. acts_blind kind p c s cs es e run }

-- ---- overrides

next_state : State → ℕ → Param → State
next_state s c param = record { parameters = with_param s.parameters c param; selection = s.selection; soft_failure = soft_after s.soft_failure param }

override_keeps_selection : (s : State) (c : ℕ) (list : List Param) → (after_override s c list).selection ≡ s.selection
unfolding next_state
override_keeps_selection s c [] = refl
override_keeps_selection s c (param ∷ list) = override_keeps_selection (next_state s c param) c list

override_blind : (s : State) (cs : List ℕ) (c : ℕ) (list : List Param) → with_selected (after_override s c list) cs ≡ after_override (with_selected s cs) c list
unfolding next_state
override_blind s cs c [] = refl
override_blind s cs c (param ∷ list) = override_blind (next_state s c param) cs c list

overrides_apart : (list : List Param) → IsApart (Overrides list)
overrides_apart list = record {
  keeps = λ c s es e run.
      ap (putting_back s.selection) run.1
      ∙ ap (λ (cs : List ℕ). Done (with_selected (after_override s c list) cs)) (sym (override_keeps_selection s c list)) ∙ sym run.1;
  blind = λ c s cs es e run. (run.0, ap (putting_back cs) run.1 ∙ ap Done (override_blind s cs c list));
}

-- ---- run sequence and try each

after_run_keeps : (s : State) (end : Ending) → putting_back s.selection (after_run s end) ≡ after_run s end
after_run_keeps s (Done t) = refl
after_run_keeps s (Condition p true) = refl
after_run_keeps s (Condition p false) = refl
after_run_keeps s (Directive p) = refl

after_run_blind : (s : State) (cs : List ℕ) (end : Ending) → putting_back cs (after_run s end) ≡ after_run (with_selected s cs) end
after_run_blind s cs (Done t) = refl
after_run_blind s cs (Condition p true) = refl
after_run_blind s cs (Condition p false) = refl
after_run_blind s cs (Directive p) = refl

inner_apart : (inner : Behaviour) → IsApart (RunsInner inner)
inner_apart inner = record {
  keeps = λ c s es e run. ap (putting_back s.selection) run.2 ∙ after_run_keeps s run.0 ∙ sym run.2;
  blind = λ c s cs es e run. (run.0, run.1, ap (putting_back cs) run.2 ∙ after_run_blind s cs run.0);
}

after_branch_keeps : (s : State) (end : Ending) → putting_back s.selection (after_branch s end) ≡ after_branch s end
after_branch_keeps s (Done t) = refl
after_branch_keeps s (Condition p soft) = refl
after_branch_keeps s (Directive p) = refl

after_branch_blind : (s : State) (cs : List ℕ) (end : Ending) → putting_back cs (after_branch s end) ≡ after_branch (with_selected s cs) end
after_branch_blind s cs (Done t) = refl
after_branch_blind s cs (Condition p soft) = refl
after_branch_blind s cs (Directive p) = refl

tries_keep : (branches : BranchesTree) (ids : List Identity) (count p c : ℕ) (s : State) (es : List Event) (e : Ending) → Tries branches ids count p c s es e → putting_back s.selection e ≡ e
tries_keep NoBranches ids count p c s es e (none, failed) = back_failed s.selection p s.soft_failure e failed
tries_keep (NullThen rest) ids count p c s es e (none, done) = back_done s e done
tries_keep (BranchThen inner rest) ids count p c s es e run =
    elim run [
      | inl (end, one, stays, is) ↦ ap (putting_back s.selection) is ∙ after_branch_keeps s end ∙ sym is
      | inr (end, before, after, is, one, soft, others) ↦ tries_keep rest ids count p c s after e others
    ]

tries_blind : (branches : BranchesTree) (ids : List Identity) (count p c : ℕ) (s : State) (cs : List ℕ) (es : List Event) (e : Ending) → Tries branches ids count p c s es e → Tries branches ids count p c (with_selected s cs) es (putting_back cs e)
tries_blind NoBranches ids count p c s cs es e (none, failed) = (none, ap (putting_back cs) failed)
tries_blind (NullThen rest) ids count p c s cs es e (none, done) = (none, ap (putting_back cs) done)
tries_blind (BranchThen inner rest) ids count p c s cs es e run =
    elim run [
      | inl (end, one, stays, is) ↦ inl (end, one, stays, ap (putting_back cs) is ∙ after_branch_blind s cs end)
      | inr (end, before, after, is, one, soft, others) ↦ inr (end, before, after, is, one, soft, tries_blind rest ids count p c s cs after e others)
    ]

tries_apart : (branches : BranchesTree) (ids : List Identity) (count p : ℕ) → IsApart (Tries branches ids count p)
tries_apart branches ids count p = record {
  keeps = λ c s es e run. tries_keep branches ids count p c s es e run;
  blind = λ c s cs es e run. tries_blind branches ids count p c s cs es e run;
}

-- ---- for each of several components

selection_of : Ending → List ℕ → List ℕ
selection_of (Done t) cs = t.selection
selection_of (Condition p soft) cs = cs
selection_of (Directive p) cs = cs

state_of : Ending → State → State
state_of (Done t) s = t
state_of (Condition p soft) s = s
state_of (Directive p) s = s

selection_is : (cs : List ℕ) (t : State) → putting_back cs (Done t) ≡ Done t → cs ≡ t.selection
unfolding selection_of
selection_is cs t is = ap (λ (e : Ending). selection_of e cs) is

state_is : (cs : List ℕ) (t : State) → putting_back cs (Done t) ≡ Done t → with_selected t cs ≡ t
unfolding state_of
state_is cs t is = ap (λ (e : Ending). state_of e t) is

each_keeps : (at : ℕ → Behaviour) → IsApart at → (cs : List ℕ) (s : State) (es : List Event) (e : Ending) → Each at cs s es e → putting_back s.selection e ≡ e
each_keeps at apart [] s es e (none, done) = back_done s e done
each_keeps at apart (c ∷ cs) s es e run =
    elim run [
      | inl (failed, one) ↦ apart.keeps c s es e one
      | inr (m, b, a, is, one, others) ↦
          let same = selection_is s.selection m (apart.keeps c s b (Done m) one) in
          subst (λ (xs : List ℕ). putting_back xs e ≡ e) (sym same) (each_keeps at apart cs m a e others)
    ]

still_failure : (cs : List ℕ) (e : Ending) → IsFailure e → IsFailure (putting_back cs e)
still_failure cs (Done t) failed = failed
still_failure cs (Condition p soft) failed = failed
still_failure cs (Directive p) failed = failed

each_blind : (at : ℕ → Behaviour) → IsApart at → (rest : List ℕ) (s : State) (cs : List ℕ) (es : List Event) (e : Ending) → Each at rest s es e → Each at rest (with_selected s cs) es (putting_back cs e)
each_blind at apart [] s cs es e (none, done) = (none, ap (putting_back cs) done)
each_blind at apart (c ∷ rest) s cs es e run =
    elim run [
      | inl (failed, one) ↦ inl (still_failure cs e failed, apart.blind c s cs es e one)
      | inr (m, b, a, is, one, others) ↦ inr (with_selected m cs, b, a, is, apart.blind c s cs b (Done m) one, each_blind at apart rest m cs a e others)
    ]

-- ---- none, or a first and a rest

For : (ℕ → Behaviour) → List ℕ → List ℕ → State → Course
For at cs whole s es e = (end : Ending) × EachSelected at (with_selected s cs) es end × (e ≡ putting_back whole end)

none_done : (at : ℕ → Behaviour) (s : State) (es : List Event) (e : Ending) → s.selection ≡ [] → EachSelected at s es e ↔ ((es ≡ []) × (e ≡ Done s))
none_done at s es e none = (
  λ run. subst (λ (cs : List ℕ). Each at cs s es e) none run,
  λ is. subst (λ (cs : List ℕ). Each at cs s es e) (sym none) is,
)

module _ (at : ℕ → Behaviour) (apart : IsApart at) (s : State) (c : ℕ) (rest : List ℕ) (es : List Event) (e : Ending) (more : s.selection ≡ c ∷ rest) where
  alone : (xs : List Event) (end : Ending) → at c s xs end → EachSelected at (with_selected s (c ∷ [])) xs (putting_back (c ∷ []) end)
  alone xs end one = once at c (with_selected s (c ∷ [])) xs (putting_back (c ∷ []) end) (apart.blind c s (c ∷ []) xs end one)

  whole_back : (xs : List Event) (end : Ending) → EachSelected at (with_selected s (c ∷ [])) xs end → at c s xs (putting_back s.selection end)
  whole_back xs end one = apart.blind c (with_selected s (c ∷ [])) s.selection xs end (of_once at c (with_selected s (c ∷ [])) xs end one)

  to_parts : EachSelected at s es e → InTurn (For at (c ∷ []) s.selection s) (For at rest s.selection) es e
  unfolding For
  to_parts run =
      elim (of_then (at c) (Each at rest) s es e (subst (λ (cs : List ℕ). Each at cs s es e) more run)) [
        | inl failed ↦ elim failed [
          | inl (p, soft, one, is) ↦ inl (inl (p, soft, (Condition p soft, alone es (Condition p soft) one, refl), is))
          | inr (p, one, is) ↦ inl (inr (p, (Directive p, alone es (Directive p) one, refl), is))
        ]
        | inr (m, b, a, is, one, others) ↦
            let kept = selection_is s.selection m (apart.keeps c s b (Done m) one) in
            let stays : putting_back s.selection e ≡ e = subst (λ (xs : List ℕ). putting_back xs e ≡ e) (sym kept) (each_keeps at apart rest m a e others) in
            inr (
              with_selected m s.selection,
              b,
              a,
              is,
              (Done (with_selected m (c ∷ [])), alone b (Done m) one, refl),
              (putting_back rest e, each_blind at apart rest m rest a e others, sym stays ∙ sym (twice s.selection rest e)),
            )
      ]
    where
      twice : (cs ds : List ℕ) (end : Ending) → putting_back cs (putting_back ds end) ≡ putting_back cs end
      twice cs ds (Done t) = refl
      twice cs ds (Condition p soft) = refl
      twice cs ds (Directive p) = refl

  from_parts : InTurn (For at (c ∷ []) s.selection s) (For at rest s.selection) es e → EachSelected at s es e
  unfolding For
  from_parts turns =
      subst (λ (cs : List ℕ). Each at cs s es e) (sym more)
      (to_then (at c) (Each at rest) s es e (elim turns [
        | inl failed ↦ elim failed [
          | inl (p, soft, (end, one, same), is) ↦ inl (inl (p, soft, subst (λ (f : Ending). at c s es f) (sym same) (whole_back es end one), is))
          | inr (p, (end, one, same), is) ↦ inl (inr (p, subst (λ (f : Ending). at c s es f) (sym same) (whole_back es end one), is))
        ]
        | inr (m, b, a, is, (end, one, same), (last, others, end_is)) ↦
            let first : at c s b (Done m) = subst (λ (f : Ending). at c s b f) (sym same) (whole_back b end one) in
            let kept : with_selected m s.selection ≡ m = state_is s.selection m (apart.keeps c s b (Done m) first) in
            let second : Each at rest (with_selected m s.selection) a (putting_back s.selection last) = each_blind at apart rest (with_selected m rest) s.selection a last others in
            inr (m, b, a, is, first, subst (λ (f : Ending). Each at rest m a f) (sym end_is) (subst (λ (t : State). Each at rest t a (putting_back s.selection last)) kept second))
      ]))

  parts : EachSelected at s es e ↔ InTurn (For at (c ∷ []) s.selection s) (For at rest s.selection) es e
  parts = (to_parts, from_parts)

-- ---- the laws

pub one_selected : OneSelected
one_selected ids count p c s es e sole = record {
  test = λ kind report. (λ run. of_sole (Tests kind ids p) c s es e sole run, λ one. at_sole (Tests kind ids p) c s es e sole one);
  act = λ kind report. (λ run. of_sole (Acts kind p) c s es e sole run, λ one. at_sole (Acts kind p) c s es e sole one);
  override = λ list. (λ run. of_sole (Overrides list) c s es e sole run, λ one. at_sole (Overrides list) c s es e sole one);
}

pub none_selected : NoneSelected
none_selected (Test kind report) ids count p s es e each none = none_done (Tests kind ids p) s es e none
none_selected (Act kind report) ids count p s es e each none = none_done (Acts kind p) s es e none
none_selected (Index selection) ids count p s es e each none = absurd each
none_selected (Override list) ids count p s es e each none = none_done (Overrides list) s es e none
none_selected (TryEach branches) ids count p s es e each none = none_done (Tries branches ids count p) s es e none
none_selected (RunSequence inner) ids count p s es e each none = none_done (RunsInner (Runs inner ids count)) s es e none

pub more_selected : MoreSelected
unfolding For
more_selected (Test kind report) ids count p c rest s es e each more = parts (Tests kind ids p) (tests_apart kind ids p) s c rest es e more
more_selected (Act kind report) ids count p c rest s es e each more = parts (Acts kind p) (acts_apart kind p) s c rest es e more
more_selected (Index selection) ids count p c rest s es e each more = absurd each
more_selected (Override list) ids count p c rest s es e each more = parts (Overrides list) (overrides_apart list) s c rest es e more
more_selected (TryEach branches) ids count p c rest s es e each more = parts (Tries branches ids count p) (tries_apart branches ids count p) s c rest es e more
more_selected (RunSequence inner) ids count p c rest s es e each more = parts (RunsInner (Runs inner ids count)) (inner_apart (Runs inner ids count)) s c rest es e more

kept_by : (at : ℕ → Behaviour) → IsApart at → (s t : State) (es : List Event) → EachSelected at s es (Done t) → t.selection ≡ s.selection
kept_by at apart s t es run = sym (selection_is s.selection t (each_keeps at apart s.selection s es (Done t) run))

pub selection_kept : SelectionKept
unfolding selection_of
selection_kept (Test kind report) ids count p s t es run = kept_by (Tests kind ids p) (tests_apart kind ids p) s t es run
selection_kept (Act kind report) ids count p s t es run = kept_by (Acts kind p) (acts_apart kind p) s t es run
selection_kept (Index selection) ids count p s t es (none, done) = ap (λ (e : Ending). selection_of e []) done
selection_kept (Override list) ids count p s t es run = kept_by (Overrides list) (overrides_apart list) s t es run
selection_kept (TryEach branches) ids count p s t es run = kept_by (Tries branches ids count p) (tries_apart branches ids count p) s t es run
selection_kept (RunSequence inner) ids count p s t es run = kept_by (RunsInner (Runs inner ids count)) (inner_apart (Runs inner ids count)) s t es run
