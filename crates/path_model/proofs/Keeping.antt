-- Where a fault falls in a recalled play, it is a path so far. With nothing to recall it falls where it does on the
-- device.
use Rattle.std.proofs.Common.{◌≡◌, ℕ, Bool, true, false, List, [], ◌∷◌, Option, Some, None, refl, sym, ap, subst, ◌∙◌, inl, inr}
use Rattle.std.specs.Prelude.{IsTrue, option_map}
use Rattle.std.proofs.lemmas.List.{append-nil}
use Rattle.suit_params.specs.declared.param.ParamKey.TheVariants as keys
use Rattle.suit_params.specs.InForce.{in_force, number_of, bytes_of}
use Rattle.suit_commands.specs.declared.kinds.TestKind.{TestKind}
use Rattle.suit_commands.specs.declared.kinds.ActKind.{ActKind}
use Rattle.suit_commands.specs.declared.kinds.ActKind.TheVariants as acts
use Rattle.suit_commands.specs.Tree.{PlanTree}
use Rattle.path_model.specs.declared.event.Event.{Event}
use Rattle.path_model.specs.declared.event.Event.TheVariants.{Wrote}
use Rattle.path_model.specs.declared.cause.Cause.{Cause}
use Rattle.path_model.specs.Behaviour.{State, Ending, Done, Condition, Directive, Behaviour}
use Rattle.path_model.specs.Conditions.{Tests}
use Rattle.path_model.specs.Directives.{Writes, Acts}
use Rattle.path_model.specs.OneRun.{FreeStep, WriteStep, SwapStep, failed_told}
use Rattle.path_model.specs.Path.{RunsPlan, first_state}
use Rattle.path_model.specs.Runs.{entry_state, after_run}
use Rattle.path_model.specs.Settings.{Setting}
use Rattle.path_model.specs.Plays.{Outcome, Play, behind, going_on, NextIsCut, after_trying, OtherIsCut}
use Rattle.path_model.specs.DevicePlays.{Device, condition_play, directive_play, plan_play, first_device, played, IsFaulted}
use Rattle.path_model.specs.RecalledPlays.{Recalling, recalling, as_recalling, free_test, free_act, recalled_test, recalled_act, recalled_condition, recalled_directive, recalled_play, step_comes}
use Rattle.path_model.specs.KeepingPlays.{CutInStep, StepIsCut, IsLateTest, IsLateAct, keeping_condition, keeping_directive, keeping_play, first_recalling, on_device, KeepingLaws}
use Rattle.path_model.proofs.DeviceLeaves.{tests_follow, acts_follow, begins_all}
use Rattle.path_model.proofs.MembersOfTwo.{OfBoth, procedure_of}
use Rattle.path_model.proofs.PlaysRun.{Begins, Follows, procedure_follows}
use Rattle.path_model.proofs.RecalledRuns.{conditions_run, directives_run}

-- ---- it comes to what the recalled play does

abbrev Same : Play Recalling → Play Recalling → Type 0
Same a x = (s : State) (w : Recalling) → a.comes s w ≡ x.comes s w

same_parts : OfBoth Recalling Recalling Same
same_parts = record {
  silent = λ next s w. refl;
  override = λ list c s w. refl;
  none_left = λ p s w. refl;
  turn = λ a b x y f g s w. subst (λ (o : Outcome Recalling). going_on Recalling b.comes (a.comes s w).events (a.comes s w).cause (a.comes s w).world (a.comes s w).ending ≡ going_on Recalling y.comes o.events o.cause o.world o.ending) (f s w)
      (goes b y g (a.comes s w).events (a.comes s w).cause (a.comes s w).world (a.comes s w).ending);
  moved = λ a x from f s w. f s (from s) w;
  inner = λ a x f c s w. ap (λ (o : Outcome Recalling). record { events = o.events; ending = after_run s o.ending; cause = o.cause; world = o.world }) (f (entry_state s c false) w);
  branch = λ a b x y f g c s w. let t = entry_state s c true in
      subst (λ (o : Outcome Recalling). after_trying Recalling s b.comes (a.comes t w).events (a.comes t w).cause (a.comes t w).world (a.comes t w).ending ≡ after_trying Recalling s y.comes o.events o.cause o.world o.ending) (f t w)
      (tries b y g s (a.comes t w).events (a.comes t w).cause (a.comes t w).world (a.comes t w).ending);
}
  where
    goes : (b y : Play Recalling) → Same b y → (es : List Event) (c : Option Cause) (w : Recalling) (e : Ending) → going_on Recalling b.comes es c w e ≡ going_on Recalling y.comes es c w e
    goes b y g es c w (Done t) = ap (λ (o : Outcome Recalling). behind Recalling es o) (g t w)
    goes b y g es c w (Condition p soft) = refl
    goes b y g es c w (Directive p) = refl

    tries : (b y : Play Recalling) → Same b y → (s : State) (es : List Event) (c : Option Cause) (w : Recalling) (e : Ending) → after_trying Recalling s b.comes es c w e ≡ after_trying Recalling s y.comes es c w e
    tries b y g s es c w (Condition p true) = ap (λ (o : Outcome Recalling). behind Recalling es o) (g s w)
    tries b y g s es c w (Condition p false) = refl
    tries b y g s es c w (Done t) = refl
    tries b y g s es c w (Directive p) = refl

pub same_comes : (may_fail : Bool) (plan : PlanTree) (setting : Setting) (s : State) (w : Recalling) → (keeping_play may_fail plan setting).comes s w ≡ (recalled_play plan setting).comes s w
same_comes may_fail plan setting =
    procedure_of Recalling Recalling Same same_parts (keeping_condition may_fail setting) (keeping_directive may_fail setting) (recalled_condition setting) (recalled_directive setting) plan.count
    (λ kind p c s w. refl) (λ kind p c s w. refl) plan

-- ---- it is a run, and a path so far

module _ (run : Behaviour) (play : Play Device) (follows : Follows Device run play) (s : State) (w : Recalling) (o : Outcome Recalling) (IsLate : FreeStep → Outcome Recalling → Type 0) where
  in_step : CutInStep (play.IsCut s w.device) w o → Begins run s o.events
  in_step (cut, now, is) = subst (λ (x : Outcome Recalling). Begins run s x.events) (sym is) (follows.cut s w.device cut now)

  step_begins : (free : Option FreeStep) → ((step : FreeStep) → free ≡ Some step → IsLate step o → Begins run s o.events) → StepIsCut (play.IsCut s w.device) IsLate w o free → Begins run s o.events
  step_begins None late cut = in_step cut
  step_begins (Some step) late (none, cut) = elim cut [
    | inl now ↦ in_step now
    | inr later ↦ late step refl later
  ]

-- a directive that was cut late told what its failure does
abbrev FailsAs : (List Event → Ending → Type 0) → ℕ → Option FreeStep → Type 0
FailsAs R p None = Unit {0}
FailsAs R p (Some step) = R (failed_told step) (Directive p)

write_fails : (A : Type 0) (p c : ℕ) (s : State) (o : Option A) → FailsAs (Writes p o (λ x. Wrote c ∷ []) s) p (option_map (λ x. WriteStep c p) o)
write_fails A p c s None = tt
write_fails A p c s (Some x) = inr (refl, refl)

swap_fails : (p c : ℕ) (s : State) (o : Option ℕ) → FailsAs (Writes p o (λ source. Wrote c ∷ Wrote source ∷ []) s) p (option_map (λ source. SwapStep c source p) o)
swap_fails p c s None = tt
swap_fails p c s (Some source) = inr (refl, refl)

act_fails : (kind : ActKind) (p c : ℕ) (s : State) → FailsAs (Acts kind p c s) p (free_act kind p c s)
act_fails acts.Write p c s = write_fails (List ℕ) p c s (bytes_of (in_force s.parameters c keys.Content))
act_fails acts.Fetch p c s = write_fails (List ℕ) p c s (bytes_of (in_force s.parameters c keys.Uri))
act_fails acts.Copy p c s = write_fails ℕ p c s (number_of (in_force s.parameters c keys.Source))
act_fails acts.Swap p c s = swap_fails p c s (number_of (in_force s.parameters c keys.Source))
act_fails acts.Invoke p c s = inr (refl, refl)

act_fails_as : (kind : ActKind) (p c : ℕ) (s : State) (step : FreeStep) → free_act kind p c s ≡ Some step → Acts kind p c s (failed_told step) (Directive p)
act_fails_as kind p c s step is = subst (FailsAs (Acts kind p c s) p) is (act_fails kind p c s)

module _ (may_fail : Bool) (setting : Setting) where
  conditions_keep : (kind : TestKind) (p c : ℕ) → Follows Recalling (Tests kind setting.identities p c) (keeping_condition may_fail setting kind p c)
  conditions_keep kind p c =
      let run : Behaviour = Tests kind setting.identities p c in
      record {
        whole = (conditions_run setting kind p c).whole;
        cut = λ s w o cut. let all = (recalled_condition setting kind p c).comes s w in
            step_begins run (condition_play setting kind p c) (tests_follow setting kind p c) s w o (IsLateTest may_fail p w ((condition_play setting kind p c).comes s w.device)) (free_test kind p c s)
            (λ step is late. begins_all run s o.events all.events all.ending ((conditions_run setting kind p c).whole s w) (ap (λ (x : Outcome Recalling). x.events) late.1)) cut;
      }

  directives_keep : (kind : ActKind) (p c : ℕ) → Follows Recalling (Acts kind p c) (keeping_directive may_fail setting kind p c)
  directives_keep kind p c =
      let run : Behaviour = Acts kind p c in
      record {
        whole = (directives_run setting kind p c).whole;
        cut = λ s w o cut.
            step_begins run (directive_play setting kind p c) (acts_follow setting kind p c) s w o (IsLateAct may_fail p w ((directive_play setting kind p c).comes s w.device)) (free_act kind p c s)
            (λ step is late. record {
              rest = [];
              ending = Directive p;
              is = subst (λ (es : List Event). run s es (Directive p)) (sym (append-nil o.events ∙ ap (λ (x : Outcome Recalling). x.events) late.2)) (act_fails_as kind p c s step is);
            }) cut;
      }

  plan_keeps : (plan : PlanTree) → Follows Recalling (RunsPlan plan setting.identities) (keeping_play may_fail plan setting)
  plan_keeps plan = procedure_follows Recalling plan setting.identities (keeping_condition may_fail setting) (keeping_directive may_fail setting) conditions_keep directives_keep

-- ---- with nothing to recall

-- on the device it comes to the same and is cut as that one is, and nothing is left to recall
record ComesTo (o : Outcome Recalling) (p : Outcome Device) : Type 0 where
  is : on_device o ≡ p
  left : o.world.left ≡ []

record Lifts (r : Play Recalling) (p : Play Device) : Type 0 where
  whole : (s : State) (kept : List Bool) (d : Device) → ComesTo (r.comes s (recalling [] kept d)) (p.comes s d)
  cut : (s : State) (kept : List Bool) (d : Device) (o : Outcome Recalling) → r.IsCut s (recalling [] kept d) o → p.IsCut s d (on_device o)

emptied : (r : Play Recalling) (p : Play Device) → Lifts r p → (s : State) (w : Recalling) → w.left ≡ [] → ComesTo (r.comes s w) (p.comes s w.device)
emptied r p f s w none = subst (λ (l : List Bool). ComesTo (r.comes s (recalling l w.kept w.device)) (p.comes s w.device)) (sym none) (f.whole s w.kept w.device)

emptied_cut : (r : Play Recalling) (p : Play Device) → Lifts r p → (s : State) (w : Recalling) → w.left ≡ [] → (o : Outcome Recalling) → r.IsCut s w o → p.IsCut s w.device (on_device o)
emptied_cut r p f s w none o cut = f.cut s w.kept w.device o (subst (λ (l : List Bool). r.IsCut s (recalling l w.kept w.device) o) none cut)

module _ (b : Play Recalling) (y : Play Device) (g : Lifts b y) where
  goes : (es : List Event) (c : Option Cause) (w : Recalling) (e : Ending) → w.left ≡ [] → ComesTo (going_on Recalling b.comes es c w e) (going_on Device y.comes es c w.device e)
  goes es c w (Done t) none = let o = emptied b y g t w none in record { is = ap (λ (x : Outcome Device). behind Device es x) o.is; left = o.left }
  goes es c w (Condition p soft) none = record { is = refl; left = none }
  goes es c w (Directive p) none = record { is = refl; left = none }

  goes_cut : (es : List Event) (w : Recalling) (e : Ending) (o : Outcome Recalling) → w.left ≡ [] → NextIsCut Recalling b.IsCut es w e o → NextIsCut Device y.IsCut es w.device e (on_device o)
  goes_cut es w (Done t) o none (later, cut, is) = (on_device later, emptied_cut b y g t w none later cut, ap on_device is)
  goes_cut es w (Condition p soft) o none cut = absurd cut
  goes_cut es w (Directive p) o none cut = absurd cut

  tries : (s : State) (es : List Event) (c : Option Cause) (w : Recalling) (e : Ending) → w.left ≡ [] → ComesTo (after_trying Recalling s b.comes es c w e) (after_trying Device s y.comes es c w.device e)
  tries s es c w (Condition p true) none = let o = emptied b y g s w none in record { is = ap (λ (x : Outcome Device). behind Device es x) o.is; left = o.left }
  tries s es c w (Condition p false) none = record { is = refl; left = none }
  tries s es c w (Done t) none = record { is = refl; left = none }
  tries s es c w (Directive p) none = record { is = refl; left = none }

  tries_cut : (s : State) (es : List Event) (w : Recalling) (e : Ending) (o : Outcome Recalling) → w.left ≡ [] → OtherIsCut Recalling s b.IsCut es w e o → OtherIsCut Device s y.IsCut es w.device e (on_device o)
  tries_cut s es w (Condition p true) o none (later, cut, is) = (on_device later, emptied_cut b y g s w none later cut, ap on_device is)
  tries_cut s es w (Condition p false) o none cut = absurd cut
  tries_cut s es w (Done t) o none cut = absurd cut
  tries_cut s es w (Directive p) o none cut = absurd cut

parts : OfBoth Recalling Device Lifts
parts = record {
  silent = λ next. record { whole = λ s n d. record { is = refl; left = refl }; cut = λ s n d o cut. cut };
  override = λ list c. record { whole = λ s n d. record { is = refl; left = refl }; cut = λ s n d o cut. cut };
  none_left = λ p. record { whole = λ s n d. record { is = refl; left = refl }; cut = λ s n d o cut. cut };
  turn = λ a b x y f g. record {
    whole = λ s n d. let o = a.comes s (recalling [] n d) in let h = f.whole s n d in
        subst (λ (p : Outcome Device). ComesTo (going_on Recalling b.comes o.events o.cause o.world o.ending) (going_on Device y.comes p.events p.cause p.world p.ending)) h.is (goes b y g o.events o.cause o.world o.ending h.left);
    cut = λ s n d r cut. let o = a.comes s (recalling [] n d) in let h = f.whole s n d in elim cut [
      | inl now ↦ inl (f.cut s n d r now)
      | inr later ↦ inr (subst (λ (p : Outcome Device). NextIsCut Device y.IsCut p.events p.world p.ending (on_device r)) h.is (goes_cut b y g o.events o.world o.ending r h.left later))
    ];
  };
  moved = λ a x from f. record { whole = λ s n d. (f s).whole (from s) n d; cut = λ s n d o cut. (f s).cut (from s) n d o cut };
  inner = λ a x f c. record {
    whole = λ s n d. let h = f.whole (entry_state s c false) n d in
        record { is = ap (λ (p : Outcome Device). record { events = p.events; ending = after_run s p.ending; cause = p.cause; world = p.world }) h.is; left = h.left };
    cut = λ s n d o cut. f.cut (entry_state s c false) n d o cut;
  };
  branch = λ a b x y f g c. record {
    whole = λ s n d. let t = entry_state s c true in let o = a.comes t (recalling [] n d) in let h = f.whole t n d in
        subst (λ (p : Outcome Device). ComesTo (after_trying Recalling s b.comes o.events o.cause o.world o.ending) (after_trying Device s y.comes p.events p.cause p.world p.ending)) h.is (tries b y g s o.events o.cause o.world o.ending h.left);
    cut = λ s n d r cut. let t = entry_state s c true in let o = a.comes t (recalling [] n d) in let h = f.whole t n d in elim cut [
      | inl now ↦ inl (f.cut t n d r now)
      | inr later ↦ inr (subst (λ (p : Outcome Device). OtherIsCut Device s y.IsCut p.events p.world p.ending (on_device r)) h.is (tries_cut b y g s o.events o.world o.ending r h.left later))
    ];
  };
}

step_over : (recalled : FreeStep → Bool → Recalling → Outcome Recalling) (done : Outcome Device) (kept : List Bool) (d : Device) (free : Option FreeStep) → ComesTo (step_comes recalled done (recalling [] kept d) free) done
step_over recalled done kept d None = record { is = refl; left = refl }
step_over recalled done kept d (Some step) = record { is = refl; left = refl }

cut_over : (IsCut : Outcome Device → Type 0) (IsLate : FreeStep → Outcome Recalling → Type 0) (w : Recalling) (o : Outcome Recalling) (free : Option FreeStep)
    → ((step : FreeStep) → IsLate step o → ⊥) → StepIsCut IsCut IsLate w o free → IsCut (on_device o)
cut_over IsCut IsLate w o None never (cut, now, is) = subst IsCut (sym (ap on_device is)) now
cut_over IsCut IsLate w o (Some step) never (none, cut) = elim cut [
  | inl (p, now, is) ↦ subst IsCut (sym (ap on_device is)) now
  | inr late ↦ absurd (never step late)
]

plan_lifts : (plan : PlanTree) (setting : Setting) → Lifts (keeping_play false plan setting) (plan_play plan setting)
plan_lifts plan setting =
    procedure_of Recalling Device Lifts parts (keeping_condition false setting) (keeping_directive false setting) (condition_play setting) (directive_play setting) plan.count
    (λ kind p c. record {
      whole = λ s n d. step_over (λ step. recalled_test p step s) ((condition_play setting kind p c).comes s d) n d (free_test kind p c s);
      cut = λ s n d o cut. cut_over ((condition_play setting kind p c).IsCut s d) (IsLateTest false p (recalling [] n d) ((condition_play setting kind p c).comes s d)) (recalling [] n d) o (free_test kind p c s) (λ step late. never late.0) cut;
    })
    (λ kind p c. record {
      whole = λ s n d. step_over (λ step. recalled_act p step s) ((directive_play setting kind p c).comes s d) n d (free_act kind p c s);
      cut = λ s n d o cut. cut_over ((directive_play setting kind p c).IsCut s d) (IsLateAct false p (recalling [] n d) ((directive_play setting kind p c).comes s d)) (recalling [] n d) o (free_act kind p c s) (λ step late. never late.0) cut;
    }) plan
  where
    never : IsTrue false → ⊥
    never t = cc

pub keeping_laws : KeepingLaws
keeping_laws = record {
  recalled = same_comes;
  runs = λ may_fail plan setting w. (plan_keeps may_fail setting plan).whole first_state w;
  paths = λ may_fail plan setting w o cut. let b = (plan_keeps may_fail setting plan).cut first_state w o cut in record { rest = b.rest; ending = b.ending; run = b.is };
  plain = λ may_fail plan setting contents.
      ap on_device (same_comes may_fail plan setting first_state (first_recalling [] contents))
      ∙ ap on_device (sym (same_comes false plan setting first_state (first_recalling [] contents)))
      ∙ ((plan_lifts plan setting).whole first_state [] (first_device contents)).is;
  plain_cut = λ plan setting contents o cut. (plan_lifts plan setting).cut first_state [] (first_device contents) o cut;
}
