-- A relation of worlds that each step of a play keeps leads from the first world to the last, and from the world that a
-- fault left to the one that the play would have left.
use Rattle.std.proofs.Common.{◌≡◌, ℕ, true, false, List, Option, sym, ap, subst, inl, inr}
use Rattle.suit_commands.specs.declared.kinds.TestKind.{TestKind}
use Rattle.suit_commands.specs.declared.kinds.ActKind.{ActKind}
use Rattle.suit_commands.specs.Tree.{PlanTree}
use Rattle.path_model.specs.declared.event.Event.{Event}
use Rattle.path_model.specs.declared.cause.Cause.{Cause}
use Rattle.path_model.specs.Behaviour.{State, Ending, Done, Condition, Directive}
use Rattle.path_model.specs.Runs.{entry_state}
use Rattle.path_model.specs.Plays.{Outcome, Play, going_on, NextIsCut, in_turn, after_trying, OtherIsCut, procedure}
use Rattle.path_model.proofs.Members.{OfParts, procedure_of}

module _ (World : Type 0) (R : World → World → Type 0) (same : (w : World) → R w w) (next : (a b c : World) → R a b → R b c → R a c) where
  pub record Leads (play : Play World) : Type 0 where
    pub whole : (s : State) (w : World) → R w (play.comes s w).world
    pub cut : (s : State) (w : World) (o : Outcome World) → play.IsCut s w o → R o.world (play.comes s w).world

  left_by : (o later : Outcome World) (w : World) → o.world ≡ later.world → R later.world w → R o.world w
  left_by o later w is r = subst (λ (v : World). R v w) (sym is) r

  module _ (after : Play World) (g : Leads after) where
    goes : (es : List Event) (c : Option Cause) (w : World) (e : Ending) → R w (going_on World after.comes es c w e).world
    goes es c w (Done t) = g.whole t w
    goes es c w (Condition p soft) = same w
    goes es c w (Directive p) = same w

    goes_cut : (es : List Event) (c : Option Cause) (w : World) (e : Ending) (o : Outcome World) → NextIsCut World after.IsCut es w e o → R o.world (going_on World after.comes es c w e).world
    goes_cut es c w (Done t) o (later, cut, is) = left_by o later (after.comes t w).world (ap (λ (x : Outcome World). x.world) is) (g.cut t w later cut)
    goes_cut es c w (Condition p soft) o cut = absurd cut
    goes_cut es c w (Directive p) o cut = absurd cut

    tries : (s : State) (es : List Event) (c : Option Cause) (w : World) (e : Ending) → R w (after_trying World s after.comes es c w e).world
    tries s es c w (Condition p true) = g.whole s w
    tries s es c w (Condition p false) = same w
    tries s es c w (Done t) = same w
    tries s es c w (Directive p) = same w

    tries_cut : (s : State) (es : List Event) (c : Option Cause) (w : World) (e : Ending) (o : Outcome World) → OtherIsCut World s after.IsCut es w e o → R o.world (after_trying World s after.comes es c w e).world
    tries_cut s es c w (Condition p true) o (later, cut, is) = left_by o later (after.comes s w).world (ap (λ (x : Outcome World). x.world) is) (g.cut s w later cut)
    tries_cut s es c w (Condition p false) o cut = absurd cut
    tries_cut s es c w (Done t) o cut = absurd cut
    tries_cut s es c w (Directive p) o cut = absurd cut

  turn_leads : (one after : Play World) → Leads one → Leads after → Leads (in_turn World one after)
  turn_leads one after f g = record {
    whole = λ s w. let o = one.comes s w in
        next w o.world (going_on World after.comes o.events o.cause o.world o.ending).world (f.whole s w) (goes after g o.events o.cause o.world o.ending);
    cut = λ s w o cut. let a = one.comes s w in elim cut [
      | inl now ↦ next o.world a.world (going_on World after.comes a.events a.cause a.world a.ending).world (f.cut s w o now) (goes after g a.events a.cause a.world a.ending)
      | inr later ↦ goes_cut after g a.events a.cause a.world a.ending o later
    ];
  }

  parts : OfParts World Leads
  parts = record {
    silent = λ next. record { whole = λ s w. same w; cut = λ s w o cut. absurd cut };
    override = λ list c. record { whole = λ s w. same w; cut = λ s w o cut. absurd cut };
    none_left = λ p. record { whole = λ s w. same w; cut = λ s w o cut. absurd cut };
    turn = turn_leads;
    moved = λ at from f. record { whole = λ s w. (f s).whole (from s) w; cut = λ s w o cut. (f s).cut (from s) w o cut };
    inner = λ body f c. record {
      whole = λ s w. f.whole (entry_state s c false) w;
      cut = λ s w o cut. f.cut (entry_state s c false) w o cut;
    };
    branch = λ body others f g c. record {
      whole = λ s w. let t = entry_state s c true in let o = body.comes t w in
          next w o.world (after_trying World s others.comes o.events o.cause o.world o.ending).world (f.whole t w) (tries others g s o.events o.cause o.world o.ending);
      cut = λ s w o cut. let t = entry_state s c true in let a = body.comes t w in elim cut [
        | inl now ↦ next o.world a.world (after_trying World s others.comes a.events a.cause a.world a.ending).world (f.cut t w o now) (tries others g s a.events a.cause a.world a.ending)
        | inr later ↦ tries_cut others g s a.events a.cause a.world a.ending o later
      ];
    };
  }

  pub procedure_leads : (tests : TestKind → ℕ → ℕ → Play World) (acts : ActKind → ℕ → ℕ → Play World) (count : ℕ) → ((kind : TestKind) (p c : ℕ) → Leads (tests kind p c))
      → ((kind : ActKind) (p c : ℕ) → Leads (acts kind p c)) → (plan : PlanTree) → Leads (procedure World tests acts count plan)
  procedure_leads = procedure_of World Leads parts
