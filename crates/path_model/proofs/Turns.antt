-- One after another: the forms of the definitions and those of the laws.
use Rattle.std.proofs.Common.{List, refl, sym, subst, inl, inr}
use Rattle.path_model.specs.declared.event.Event.{Event}
use Rattle.path_model.specs.Behaviour.{State, Ending, Done, Condition, Directive, Behaviour, Then}
use Rattle.path_model.specs.Turns.{Course, InTurn}

pub of_then : (first second : Behaviour) (s : State) (es : List Event) (e : Ending) → Then first second s es e → InTurn (first s) second es e
of_then first second s es (Done t) run = elim run [ inl (failed, one) ↦ absurd failed | inr both ↦ inr both ]
of_then first second s es (Condition p soft) run = elim run [ inl (failed, one) ↦ inl (inl (p, soft, one, refl)) | inr both ↦ inr both ]
of_then first second s es (Directive p) run = elim run [ inl (failed, one) ↦ inl (inr (p, one, refl)) | inr both ↦ inr both ]

pub to_then : (first second : Behaviour) (s : State) (es : List Event) (e : Ending) → InTurn (first s) second es e → Then first second s es e
to_then first second s es e run =
    elim run [
      | inl failed ↦ elim failed [
        | inl (p, soft, one, is) ↦ subst (λ (end : Ending). Then first second s es end) (sym is) (inl (tt, one))
        | inr (p, one, is) ↦ subst (λ (end : Ending). Then first second s es end) (sym is) (inl (tt, one))
      ]
      | inr both ↦ inr both
    ]

-- another second
pub turn_map : (first : Course) (second other : State → Course) → ((s : State) (es : List Event) (e : Ending) → second s es e → other s es e)
    → (es : List Event) (e : Ending) → InTurn first second es e → InTurn first other es e
turn_map first second other map es e run =
    elim run [
      | inl failed ↦ inl failed
      | inr (m, b, a, is, one, others) ↦ inr (m, b, a, is, one, map m a e others)
    ]
