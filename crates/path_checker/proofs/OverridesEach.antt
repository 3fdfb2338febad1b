-- An override at each of some components is one step.
use Rattle.std.proofs.Common.{◌≡◌, ℕ, Bool, List, [], ◌∷◌, ◌++◌, refl, sym, subst, append_assoc}
use Rattle.std.proofs.lemmas.List.{append-nil}
use Rattle.suit_params.specs.declared.param.Param.{Param}
use Rattle.suit_params.specs.InForce.{Parameters, overridden}
use Rattle.path_model.specs.declared.event.Event.{Event}
use Rattle.path_model.specs.Behaviour.{Each}
use Rattle.path_model.specs.Directives.{Overrides, set_events}
use Rattle.path_checker.specs.Exploring.{Course, Kept, Explores, kept_of, state_of}
use Rattle.path_checker.specs.declared.judge_plan.facts.Knowledge.{Knowledge}
use Rattle.path_checker.specs.Happening.{sets_at}
use Rattle.path_checker.specs.Steps.{soft_after_all, overridden_at, soft_at}
use Rattle.path_checker.proofs.Exploring.{then_course, Explores-then}
use Rattle.path_checker.proofs.Carrying.{nothing_course, Explores-nothing}
use Rattle.path_checker.proofs.DirectiveLeaves.{Adds-overrides}
use Rattle.path_checker.proofs.Passing.{Explores-added}

-- the state after an override at some components
abbrev pub set_at : Kept → List ℕ → List Param → Kept
set_at k cs list = record { facts = k.facts; events = k.events ++ sets_at cs list; state = record { parameters = overridden_at k.state.parameters cs list; selection = k.state.selection; soft_failure = soft_at k.state.soft_failure cs list } }

set_once : Kept → ℕ → List Param → Kept
set_once k c list = record { facts = k.facts; events = k.events ++ set_events c list; state = record { parameters = overridden k.state.parameters c list; selection = k.state.selection; soft_failure = soft_after_all k.state.soft_failure list } }

abbrev pub each_override : List ℕ → List Param → Course
each_override cs list ids = Each (λ c. Overrides list c) cs

pub Explores-set : (list : List Param) (cs : List ℕ) (k : Kept) → Explores (each_override cs list) (k ∷ []) (set_at k cs list ∷ []) []
unfolding set_once
Explores-set list [] k =
    subst (λ (es : List Event). Explores nothing_course (k ∷ []) (record { facts = k.facts; events = es; state = k.state } ∷ []) []) (sym (append-nil k.events)) (Explores-nothing (k ∷ []))
Explores-set list (c ∷ cs) k =
    let one = set_once k c list in
    let first : Explores (λ ids. Overrides list c) (k ∷ []) (one ∷ []) [] = Explores-added (λ ids. Overrides list c) (k ∷ []) (one ∷ []) (Adds-overrides list c k one [] (one ∷ []) refl refl) in
    let all : Explores (then_course (λ ids. Overrides list c) (each_override cs list)) (k ∷ []) (set_at one cs list ∷ []) [] =
    Explores-then (λ ids. Overrides list c) (each_override cs list) (k ∷ []) (one ∷ []) (set_at one cs list ∷ []) [] [] first (Explores-set list cs one)
    in
    subst (λ (es : List Event). Explores (then_course (λ ids. Overrides list c) (each_override cs list)) (k ∷ []) (record { facts = k.facts; events = es; state = (set_at one cs list).state } ∷ []) []) (append_assoc k.events (set_events c list) (sets_at cs list)) all

pub Explores-sets : (list : List Param) (k : Kept) (facts : List Knowledge) (events events' : List Event) (ps ps' : Parameters) (cs : List ℕ) (soft soft' : Bool) → kept_of facts events (state_of ps cs soft) ≡ k → events' ≡ events ++ sets_at cs list → ps' ≡ overridden_at ps cs list → soft' ≡ soft_at soft cs list
    → Explores (each_override k.state.selection list) (k ∷ []) (kept_of facts events' (state_of ps' cs soft') ∷ []) []
Explores-sets list k facts events events' ps ps' cs soft soft' is told set softly =
    let to : Kept = kept_of facts events' (state_of ps' cs soft') in
    let from : Kept = kept_of facts events (state_of ps cs soft) in
    let made : to ≡ set_at from cs list = rw (told, set, softly) refl in
    subst (λ (x : Kept). Explores (each_override x.state.selection list) (x ∷ []) (to ∷ []) []) is (subst (λ (x : Kept). Explores (each_override cs list) (from ∷ []) (x ∷ []) []) (sym made) (Explores-set list cs from))
