-- With nothing to recall, a recalled play comes to what the play on the device comes to.
use Rattle.std.proofs.Common.{◌≡◌, ℕ, Bool, true, false, List, [], Option, Some, None, refl, sym, ap, subst}
use Rattle.suit_commands.specs.Tree.{PlanTree}
use Rattle.path_model.specs.declared.event.Event.{Event}
use Rattle.path_model.specs.declared.cause.Cause.{Cause}
use Rattle.path_model.specs.Behaviour.{State, Ending, Done, Condition, Directive}
use Rattle.path_model.specs.Path.{first_state}
use Rattle.path_model.specs.Runs.{entry_state, after_run}
use Rattle.path_model.specs.OneRun.{FreeStep}
use Rattle.path_model.specs.Settings.{Setting}
use Rattle.path_model.specs.Plays.{Outcome, Play, behind, going_on, after_trying}
use Rattle.path_model.specs.DevicePlays.{Device, condition_play, directive_play, plan_play, first_device}
use Rattle.path_model.specs.RecalledPlays.{Recalling, recalling, step_comes, free_test, free_act, recalled_test, recalled_act, recalled_condition, recalled_directive, recalled_play}
use Rattle.path_model.specs.ResumeLaws.{ComesToPlayed, recalled_from}
use Rattle.path_model.proofs.MembersOfTwo.{OfBoth, procedure_of}

-- without the outcomes
abbrev pub on_device : Outcome Recalling → Outcome Device
on_device o = record { events = o.events; ending = o.ending; cause = o.cause; world = o.world.device }

-- it comes to the same on the device, and nothing is left to recall
record ComesTo (o : Outcome Recalling) (p : Outcome Device) : Type 0 where
  is : on_device o ≡ p
  left : o.world.left ≡ []

abbrev Follows : Play Recalling → Play Device → Type 0
Follows r p = (s : State) (kept : List Bool) (d : Device) → ComesTo (r.comes s (recalling [] kept d)) (p.comes s d)

emptied : (r : Play Recalling) (p : Play Device) → Follows r p → (s : State) (w : Recalling) → w.left ≡ [] → ComesTo (r.comes s w) (p.comes s w.device)
emptied r p f s w none = subst (λ (l : List Bool). ComesTo (r.comes s (recalling l w.kept w.device)) (p.comes s w.device)) (sym none) (f s w.kept w.device)

module _ (b : Play Recalling) (y : Play Device) (g : Follows b y) where
  goes : (es : List Event) (c : Option Cause) (w : Recalling) (e : Ending) → w.left ≡ [] → ComesTo (going_on Recalling b.comes es c w e) (going_on Device y.comes es c w.device e)
  goes es c w (Done t) none = let o = emptied b y g t w none in record { is = ap (λ (x : Outcome Device). behind Device es x) o.is; left = o.left }
  goes es c w (Condition p soft) none = record { is = refl; left = none }
  goes es c w (Directive p) none = record { is = refl; left = none }

  tries : (s : State) (es : List Event) (c : Option Cause) (w : Recalling) (e : Ending) → w.left ≡ [] → ComesTo (after_trying Recalling s b.comes es c w e) (after_trying Device s y.comes es c w.device e)
  tries s es c w (Condition p true) none = let o = emptied b y g s w none in record { is = ap (λ (x : Outcome Device). behind Device es x) o.is; left = o.left }
  tries s es c w (Condition p false) none = record { is = refl; left = none }
  tries s es c w (Done t) none = record { is = refl; left = none }
  tries s es c w (Directive p) none = record { is = refl; left = none }

parts : OfBoth Recalling Device Follows
parts = record {
  silent = λ next s n d. record { is = refl; left = refl };
  override = λ list c s n d. record { is = refl; left = refl };
  none_left = λ p s n d. record { is = refl; left = refl };
  turn = λ a b x y f g s n d. let o = a.comes s (recalling [] n d) in let h = f s n d in
      subst (λ (p : Outcome Device). ComesTo (going_on Recalling b.comes o.events o.cause o.world o.ending) (going_on Device y.comes p.events p.cause p.world p.ending)) h.is (goes b y g o.events o.cause o.world o.ending h.left);
  moved = λ a x from f s n d. f s (from s) n d;
  inner = λ a x f c s n d. let h = f (entry_state s c false) n d in
      record { is = ap (λ (p : Outcome Device). record { events = p.events; ending = after_run s p.ending; cause = p.cause; world = p.world }) h.is; left = h.left };
  branch = λ a b x y f g c s n d. let t = entry_state s c true in let o = a.comes t (recalling [] n d) in let h = f t n d in
      subst (λ (p : Outcome Device). ComesTo (after_trying Recalling s b.comes o.events o.cause o.world o.ending) (after_trying Device s y.comes p.events p.cause p.world p.ending)) h.is (tries b y g s o.events o.cause o.world o.ending h.left);
}

step_over : (recalled : FreeStep → Bool → Recalling → Outcome Recalling) (done : Outcome Device) (kept : List Bool) (d : Device) (free : Option FreeStep) → ComesTo (step_comes recalled done (recalling [] kept d) free) done
step_over recalled done kept d None = record { is = refl; left = refl }
step_over recalled done kept d (Some step) = record { is = refl; left = refl }

plan_follows : (plan : PlanTree) (setting : Setting) → Follows (recalled_play plan setting) (plan_play plan setting)
plan_follows plan setting =
    procedure_of Recalling Device Follows parts (recalled_condition setting) (recalled_directive setting) (condition_play setting) (directive_play setting) plan.count
    (λ kind p c s n d. step_over (λ step. recalled_test p step s) ((condition_play setting kind p c).comes s d) n d (free_test kind p c s))
    (λ kind p c s n d. step_over (λ step. recalled_act p step s) ((directive_play setting kind p c).comes s d) n d (free_act kind p c s)) plan

pub fresh : (plan : PlanTree) (setting : Setting) (contents : List (List ℕ)) → ComesToPlayed plan setting contents (recalled_from plan setting [] (first_device contents))
fresh plan setting contents =
    let same = (plan_follows plan setting first_state [] (first_device contents)).is in
    record {
      events = ap (λ (o : Outcome Device). o.events) same;
      ending = ap (λ (o : Outcome Device). o.ending) same;
      cause = ap (λ (o : Outcome Device). o.cause) same;
      device = ap (λ (o : Outcome Device). o.world) same;
    }
