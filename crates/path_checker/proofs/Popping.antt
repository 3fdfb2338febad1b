-- A loop that takes states from the end of a list, and what one command is.
use Rattle.std.proofs.Common.{◌≡◌, ℕ, ◌+◌, ◌<◌, Bool, true, false, add-one, List, [], ◌∷◌, ◌++◌, length, get_or, drop, refl, sym, ap, ◌∙◌, subst, append_assoc, inl, inr, arith}
use Rattle.std.proofs.Math.Seq.{drop-cons}
use Rattle.std.proofs.lemmas.Bool.Decides.{eqb_tells}
use Rattle.std.specs.Prelude.{◌==◌}
use Rattle.std.proofs.lemmas.List.{append-nil}
use Rattle.suit_commands.specs.declared.command.Command.{Command}
use Rattle.suit_commands.specs.declared.command.Command.TheVariants as commands
use Rattle.suit_commands.specs.declared.selection.Selection.{Selection}
use Rattle.suit_commands.specs.Tree.{CommandTree, Index}
use Rattle.suit_commands.specs.View.{command_tree}
use Rattle.path_model.specs.declared.identity.Identity.{Identity}
use Rattle.path_model.specs.declared.event.Event.{Event}
use Rattle.path_model.specs.Behaviour.{State, Ending, Done, Directive}
use Rattle.path_model.specs.Following.{CoveredFrom, SameMatches}
use Rattle.path_model.proofs.Following.{same_matches}
use Rattle.path_model.proofs.RunLaws.{at_sole, of_sole}
use Rattle.path_checker.specs.declared.judge_plan.facts.Knowledge.{Knowledge}
use Rattle.path_checker.specs.declared.judge_plan.halt.Halt.{Halt}
use Rattle.path_checker.specs.Exploring.{Course, In, Kept, Stopped, Failures, after_stops, Found, Reaches, Explores, Uncovers, Uncovered, Adds}
use Rattle.path_checker.specs.Steps.{At, AtEach}
use Rattle.path_checker.specs.Halting.{Halts}
use Rattle.path_checker.proofs.Membership.{In-right}
use Rattle.path_checker.proofs.Exploring.{then_course, Explores-none, Explores-one}
use Rattle.path_checker.proofs.Keeping.{after_none, after_both}
use Rattle.path_checker.proofs.Uncovering.{Uncovered-lift}
use Rattle.path_checker.proofs.Carrying.{Explores-more}
use Rattle.path_checker.proofs.Leaves.{Same, Explores-same}
use Rattle.path_checker.proofs.Walking.{Halts-lift, does_course, Walks, Walks-then, Walks-halt}

pub record Pops (course : Course) (from : List Kept) (failed0 : Failures) (now next : List Kept) (failed : Failures) : Type 0 where
  pub gone : List Kept
  pub added : List Stopped
  pub from_is : from ≡ now ++ gone
  pub failed_is : failed ≡ after_stops failed0 added
  pub explores : Explores course gone next added

-- at first no state is taken
pub Pops-start : (course : Course) (from : List Kept) (failed0 : Failures) (next : List Kept) → next ≡ [] → Pops course from failed0 from next failed0
Pops-start course from failed0 next none = record {
  gone = [];
  added = [];
  from_is = sym (append-nil from);
  failed_is = sym (after_none failed0);
  explores = subst (λ (n : List Kept). Explores course [] n []) (sym none) (Explores-none course);
}

module _ (course : Course) (from : List Kept) (failed0 : Failures) (old rest next : List Kept) (failed : Failures) (k : Kept) (w : Pops course from failed0 old next failed) (popped : old ≡ rest ++ k ∷ []) where
  pub pops-is : from ≡ rest ++ (k ∷ w.gone)
  pops-is = w.from_is ∙ ap (λ (x : List Kept). x ++ w.gone) popped ∙ append_assoc rest (k ∷ []) w.gone

  pub Pops-step : (next' : List Kept) (failed' : Failures) → Adds course (k ∷ []) next next' failed failed' → Pops course from failed0 rest next' failed'
  Pops-step next' failed' a = record {
    gone = k ∷ w.gone;
    added = w.added ++ a.failed;
    from_is = pops-is;
    failed_is = after_both failed0 failed failed' w.added a.failed w.failed_is a.failed_is;
    explores = subst (λ (n : List Kept). Explores course (k ∷ w.gone) n (w.added ++ a.failed)) (sym a.next_is) (Explores-more course k w.gone next a.done w.added a.failed w.explores a.explores);
  }

  pub Pops-halt : (h : Halt) → Halts course (k ∷ []) h → Halts course from h
  Pops-halt h u = Halts-lift course course (k ∷ []) from (λ facts events x. here facts events x) h u
    where
      here : (facts : List Knowledge) (events : List Event) → Uncovers course (k ∷ []) facts events → Uncovers course from facts events
      here facts events (k', inl p, v) = (k', subst (In k') (sym pops-is) (In-right k' rest (k ∷ w.gone) (inl p)), v)
      here facts events (k', inr n, v) = absurd n

-- the same lists, in other memory
pub Pops-moved : (course : Course) (from : List Kept) (failed0 : Failures) (old rest rest' next next' : List Kept) (failed : Failures) (k : Kept) → Pops course from failed0 old next failed → old ≡ rest ++ k ∷ [] → rest' ≡ rest → next' ≡ next → Pops course from failed0 old next' failed × (old ≡ rest' ++ k ∷ [])
Pops-moved course from failed0 old rest rest' next next' failed k w popped rest_is next_is = (
  subst (λ (n : List Kept). Pops course from failed0 old n failed) (sym next_is) w,
  popped ∙ ap (λ (x : List Kept). x ++ k ∷ []) (sym rest_is),
)

-- where all states are taken
pub Pops-end : (course : Course) (from : List Kept) (failed0 : Failures) (now next : List Kept) (failed : Failures) → Pops course from failed0 now next failed → now ≡ [] → Adds course from [] next failed0 failed
Pops-end course from failed0 now next failed w none =
    let all : from ≡ w.gone = w.from_is ∙ ap (λ (x : List Kept). x ++ w.gone) none in
    record {
      done = next;
      failed = w.added;
      next_is = refl;
      failed_is = w.failed_is;
      explores = subst (λ (x : List Kept). Explores course x next w.added) (sym all) w.explores;
    }

-- an empty list has no elements
pub not_empty : (n : ℕ) (empty : Bool) → empty ≡ (n == 0) → empty ≡ true → 0 < n → ⊥
not_empty n empty is there lt = elim (eqb_tells n 0) [
  | inl h ↦ absurd (omega (arith, h.1, lt))
  | inr h ↦ let never : true ≡ false = sym there ∙ is ∙ h.0 in absurd cc
]

pub none_left : (xs : List Kept) → (0 < length xs → ⊥) → xs ≡ []
none_left [] h = refl
none_left (x ∷ xs) h = absurd (h (omega arith))

-- ---- a command is its parts at each component that is selected

-- with one component selected, the command is done at that one
pub each_sole : (cmd : CommandTree) (count p c : ℕ) (k : Kept) → k.state.selection ≡ c ∷ [] → Same k (At cmd count p c) (AtEach cmd count p k.state.selection)
each_sole cmd count p c k sole = record {
  there = λ ids al es e r. at_sole (λ d. At cmd count p d ids) c k.state es e sole r;
  back = λ ids al es e r. of_sole (λ d. At cmd count p d ids) c k.state es e sole r;
}

pub does_each : (cmd : Command) → ((s : Selection) → cmd ≡ commands.Index s → ⊥) → (count p : ℕ) (k : Kept) → Same k (AtEach (command_tree cmd) count p k.state.selection) (does_course (command_tree cmd) count p)
does_each (commands.Test kind report) other count p k = record { there = λ ids al es e r. r; back = λ ids al es e r. r }
does_each (commands.Act kind report) other count p k = record { there = λ ids al es e r. r; back = λ ids al es e r. r }
does_each (commands.Index s) other count p k = absurd (other s refl)
does_each (commands.Override list) other count p k = record { there = λ ids al es e r. r; back = λ ids al es e r. r }
does_each (commands.TryEach _) other count p k = record { there = λ ids al es e r. r; back = λ ids al es e r. r }
does_each (commands.Run inner) other count p k = record { there = λ ids al es e r. r; back = λ ids al es e r. r }

pub Adds-same : (k : Kept) (a b : Course) (n n' : List Kept) (f f' : Failures) → Same k a b → Adds a (k ∷ []) n n' f f' → Adds b (k ∷ []) n n' f f'
Adds-same k a b n n' f f' same x = record { done = x.done; failed = x.failed; next_is = x.next_is; failed_is = x.failed_is; explores = Explores-same k a b x.done x.failed same x.explores }

pub Halts-same : (k : Kept) (a b : Course) → Same k a b → (h : Halt) → Halts a (k ∷ []) h → Halts b (k ∷ []) h
Halts-same k a b same h u = Halts-lift a b (k ∷ []) (k ∷ []) here h u
  where
    one : (facts : List Knowledge) (events : List Event) → Uncovered a k facts events → Uncovered b k facts events
    one facts events v = Uncovered-lift a b k k facts events refl refl (λ ids al es place r. same.there ids al es (Directive place) r) v

    here : (facts : List Knowledge) (events : List Event) → Uncovers a (k ∷ []) facts events → Uncovers b (k ∷ []) facts events
    here facts events (k', inl q, v) = (k, inl refl, one facts events (subst (λ (x : Kept). Uncovered a x facts events) (sym q) v))
    here facts events (k', inr n, v) = absurd n

-- ---- a state changes, and nothing happens

pub Explores-becomes : (course : Course) (k : Kept) (s : State) → ((ids : List Identity) (es : List Event) (e : Ending) → course ids k.state es e → (es ≡ []) × (e ≡ Done s)) → ((ids : List Identity) → course ids k.state [] (Done s))
    → Explores course (k ∷ []) (record { facts = k.facts; events = k.events; state = s } ∷ []) []
Explores-becomes course k s only does =
    let to : Kept = record { facts = k.facts; events = k.events; state = s } in
    Explores-one course k (to ∷ []) [] (record {
      complete = λ ids al es e r.
          let x = only ids es e r in
          let f : CoveredFrom k.events [] × Found k ids [] (to ∷ []) [] (Done s) = (tt, (to, inl refl, al, refl, subst (SameMatches k.events) (sym (append-nil k.events)) (same_matches k.events))) in
          subst (λ (es' : List Event). CoveredFrom k.events es' × Found k ids es' (to ∷ []) [] e) (sym x.0) (subst (λ (e' : Ending). CoveredFrom k.events [] × Found k ids [] (to ∷ []) [] e') (sym x.1) f);
      reached = λ y h. elim h [
        | inl q ↦ subst (λ (y : Kept). Reaches course k y.facts y.events (Done y.state)) q (record { since = []; parts = sym (append-nil k.events); covered = tt; count = refl; path = λ ids al. (al, does ids) })
        | inr n ↦ absurd n
      ];
      stopped = λ y h. absurd h;
    })

-- ---- a walk over the components that are selected

module _ (cmd : CommandTree) (count p : ℕ) (cs : List ℕ) (i : ℕ) (c : ℕ) (lt : i < length cs) (is : c ≡ get_or cs i c) (whole : Course) (from now : List Kept) (failed0 failed : Failures) (w : Walks whole from failed0 (AtEach cmd count p (drop i cs)) now failed) where
  at_each : Walks whole from failed0 (then_course (At cmd count p c) (AtEach cmd count p (drop (i + 1) cs))) now failed
  at_each =
      let e : AtEach cmd count p (drop i cs) ≡ then_course (At cmd count p c) (AtEach cmd count p (drop (i + 1) cs)) =
      ap (AtEach cmd count p) (drop-cons cs i c lt)
      ∙ ap (λ (m : ℕ). then_course (At cmd count p (get_or cs i c)) (AtEach cmd count p (drop m cs))) (sym (add-one i))
      ∙ ap (λ (d : ℕ). then_course (At cmd count p d) (AtEach cmd count p (drop (i + 1) cs))) (sym is)
      in
      subst (λ (r : Course). Walks whole from failed0 r now failed) e w

  pub Each-step : (mid : List Kept) (failed' : Failures) → Adds (At cmd count p c) now [] mid failed failed' → Walks whole from failed0 (AtEach cmd count p (drop (i + 1) cs)) mid failed'
  Each-step mid failed' a = Walks-then whole (At cmd count p c) (AtEach cmd count p (drop (i + 1) cs)) from now mid failed0 failed failed' at_each a

  pub Each-stops : (h : Halt) → Halts (At cmd count p c) now h → Halts whole from h
  Each-stops h u = Walks-halt whole (At cmd count p c) (AtEach cmd count p (drop (i + 1) cs)) from now failed0 failed at_each h u
