-- How plays end: by themselves, and where a fault cut them by the fault.
use Rattle.std.proofs.Common.{◌≡◌, ℕ, true, false, List, Option, refl, ap, ◌∙◌, inl, inr}
use Rattle.suit_commands.specs.declared.kinds.TestKind.{TestKind}
use Rattle.suit_commands.specs.declared.kinds.ActKind.{ActKind}
use Rattle.suit_commands.specs.Tree.{PlanTree}
use Rattle.path_model.specs.declared.event.Event.{Event}
use Rattle.path_model.specs.declared.cause.Cause.{Cause}
use Rattle.path_model.specs.Behaviour.{State, Ending, Done, Condition, Directive}
use Rattle.path_model.specs.Runs.{entry_state, after_run}
use Rattle.path_model.specs.Settings.{Setting}
use Rattle.path_model.specs.Plays.{Outcome, Play, going_on, NextIsCut, in_turn, after_trying, OtherIsCut, procedure}
use Rattle.path_model.specs.PlayLaws.{EndsSo, EndsByFault}
use Rattle.path_model.proofs.Members.{OfParts, procedure_of}

after_run_ends : (s : State) (e : Ending) (c : Option Cause) → EndsSo e c → EndsSo (after_run s e) c
after_run_ends s (Done t) c h = h
after_run_ends s (Condition p true) c h = h
after_run_ends s (Condition p false) c h = h
after_run_ends s (Directive p) c h = h

module _ (World : Type 0) (setting : Setting) where
  pub record Ends (play : Play World) : Type 0 where
    pub whole : (s : State) (w : World) → EndsSo (play.comes s w).ending (play.comes s w).cause
    pub cut : (s : State) (w : World) (o : Outcome World) → play.IsCut s w o → EndsByFault setting o.ending o.cause

  fault_as : (o later : Outcome World) → o.ending ≡ later.ending → o.cause ≡ later.cause → EndsByFault setting later.ending later.cause → EndsByFault setting o.ending o.cause
  fault_as o later e c h = record { place = h.place; why = h.why; fault = h.fault; ends = e ∙ h.ends; named = c ∙ h.named }

  module _ (after : Play World) (g : Ends after) where
    goes : (es : List Event) (c : Option Cause) (w : World) (e : Ending) → EndsSo e c → EndsSo (going_on World after.comes es c w e).ending (going_on World after.comes es c w e).cause
    goes es c w (Done t) h = g.whole t w
    goes es c w (Condition p soft) h = h
    goes es c w (Directive p) h = h

    goes_cut : (es : List Event) (w : World) (e : Ending) (o : Outcome World) → NextIsCut World after.IsCut es w e o → EndsByFault setting o.ending o.cause
    goes_cut es w (Done t) o (later, cut, is) =
        fault_as o later (ap (λ (x : Outcome World). x.ending) is) (ap (λ (x : Outcome World). x.cause) is) (g.cut t w later cut)
    goes_cut es w (Condition p soft) o cut = absurd cut
    goes_cut es w (Directive p) o cut = absurd cut

    tries : (s : State) (es : List Event) (c : Option Cause) (w : World) (e : Ending) → EndsSo e c → EndsSo (after_trying World s after.comes es c w e).ending (after_trying World s after.comes es c w e).cause
    tries s es c w (Condition p true) h = g.whole s w
    tries s es c w (Condition p false) h = h
    tries s es c w (Done t) h = h
    tries s es c w (Directive p) h = h

    tries_cut : (s : State) (es : List Event) (w : World) (e : Ending) (o : Outcome World) → OtherIsCut World s after.IsCut es w e o → EndsByFault setting o.ending o.cause
    tries_cut s es w (Condition p true) o (later, cut, is) =
        fault_as o later (ap (λ (x : Outcome World). x.ending) is) (ap (λ (x : Outcome World). x.cause) is) (g.cut s w later cut)
    tries_cut s es w (Condition p false) o cut = absurd cut
    tries_cut s es w (Done t) o cut = absurd cut
    tries_cut s es w (Directive p) o cut = absurd cut

  turn_ends : (one after : Play World) → Ends one → Ends after → Ends (in_turn World one after)
  turn_ends one after f g = record {
    whole = λ s w. let o = one.comes s w in goes after g o.events o.cause o.world o.ending (f.whole s w);
    cut = λ s w o cut. let a = one.comes s w in elim cut [
      | inl now ↦ f.cut s w o now
      | inr later ↦ goes_cut after g a.events a.world a.ending o later
    ];
  }

  parts : OfParts World Ends
  parts = record {
    silent = λ next. record { whole = λ s w. refl; cut = λ s w o cut. absurd cut };
    override = λ list c. record { whole = λ s w. refl; cut = λ s w o cut. absurd cut };
    none_left = λ p. record { whole = λ s w. refl; cut = λ s w o cut. absurd cut };
    turn = turn_ends;
    moved = λ at from f. record { whole = λ s w. (f s).whole (from s) w; cut = λ s w o cut. (f s).cut (from s) w o cut };
    inner = λ body f c. record {
      whole = λ s w. let o = body.comes (entry_state s c false) w in after_run_ends s o.ending o.cause (f.whole (entry_state s c false) w);
      cut = λ s w o cut. f.cut (entry_state s c false) w o cut;
    };
    branch = λ body others f g c. record {
      whole = λ s w. let t = entry_state s c true in let o = body.comes t w in tries others g s o.events o.cause o.world o.ending (f.whole t w);
      cut = λ s w o cut. let t = entry_state s c true in let a = body.comes t w in elim cut [
        | inl now ↦ f.cut t w o now
        | inr later ↦ tries_cut others g s a.events a.world a.ending o later
      ];
    };
  }

  pub procedure_ends : (tests : TestKind → ℕ → ℕ → Play World) (acts : ActKind → ℕ → ℕ → Play World) (count : ℕ) → ((kind : TestKind) (p c : ℕ) → Ends (tests kind p c))
      → ((kind : ActKind) (p c : ℕ) → Ends (acts kind p c)) → (plan : PlanTree) → Ends (procedure World tests acts count plan)
  procedure_ends = procedure_of World Ends parts
