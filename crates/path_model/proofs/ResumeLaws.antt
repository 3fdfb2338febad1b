-- A procedure that lost its power, and is given again with the outcomes so far, comes to what it comes to without a
-- loss.
use Rattle.std.proofs.Common.{◌≡◌, ℕ, Bool, List, [], Option, Some, None, inl, inr, refl, sym, ◌∙◌, ap, subst}
use Rattle.std.proofs.lemmas.List.{append-nil}
use Rattle.suit_commands.specs.declared.kinds.ActKind.{ActKind}
use Rattle.suit_commands.specs.declared.kinds.ActKind.TheVariants as acts
use Rattle.suit_commands.specs.Tree.{CommandTree, PlanTree}
use Rattle.suit_commands.specs.Targets.{InSome}
use Rattle.suit_commands.specs.Touches.{HasAct, CommandHasAct}
use Rattle.path_model.specs.Behaviour.{State, Done}
use Rattle.path_model.specs.Path.{first_state}
use Rattle.path_model.specs.OneRun.{FreeStep, WriteStep}
use Rattle.path_model.specs.Settings.{Setting}
use Rattle.path_model.specs.Plays.{Outcome, Play}
use Rattle.path_model.specs.DevicePlays.{Device, with_content, played}
use Rattle.path_model.specs.RecalledPlays.{Recalling, recalling, free_test, free_act, LossLeaves, StepIsLost, recalled_condition, recalled_directive, recalled_command, recalled_play}
use Rattle.path_model.specs.ResumeLaws.{EndsUnfailed, with_world, Resumes, MayLose, InvokesNothing, recalled_from, LosesPower, Lost, Never, Again, ComesToPlayed, ResumeLaws}
use Rattle.path_model.proofs.Members.{command_of, procedure_of_acts}
use Rattle.path_model.proofs.KeptFew.{bounded}
use Rattle.path_model.proofs.RecalledRuns.{plan_runs}
use Rattle.path_model.proofs.Resuming.{parts}
use Rattle.path_model.proofs.StepsResume.{conditions_resume, directives_resume}
use Rattle.path_model.proofs.Unrecalled.{fresh}

-- a directive of a kind that stands where no invoke stands
no_invoke : (Has : ActKind → Type 0) → (Has acts.Invoke → ⊥) → (kind : ActKind) → Has kind → kind ≡ acts.Invoke → ⊥
no_invoke Has none kind has is = none (subst Has is has)

commands_resume : (setting : Setting) (count : ℕ) (command : CommandTree) (place : ℕ) → (CommandHasAct acts.Invoke command → ⊥) → Resumes (recalled_command setting count command place)
commands_resume setting count command place none =
    command_of Recalling Resumes parts (recalled_condition setting) (recalled_directive setting) count (conditions_resume setting) command place
    (λ kind has p c. directives_resume setting kind p c (no_invoke (λ k. CommandHasAct k command) none kind has))

procedures_resume : (plan : PlanTree) (setting : Setting) → InvokesNothing plan → Resumes (recalled_play plan setting)
procedures_resume plan setting none =
    procedure_of_acts Recalling Resumes parts (recalled_condition setting) (recalled_directive setting) plan.count (conditions_resume setting) plan
    (λ kind has p c. directives_resume setting kind p c (no_invoke (λ k. InSome plan (HasAct k)) none kind has))

module _ (plan : PlanTree) (setting : Setting) (contents : List (List ℕ)) (none : InvokesNothing plan) (unfailed : EndsUnfailed (played plan setting contents).ending) where
  -- given again after one loss it comes to the same
  once : (kept : List Bool) (device : Device) (kept_now : List Bool) (device_now : Device) → ComesToPlayed plan setting contents (recalled_from plan setting kept device)
      → LosesPower plan setting kept device kept_now device_now → ComesToPlayed plan setting contents (recalled_from plan setting kept_now device_now)
  once kept device kept_now device_now comes (inl (lost, cut, kept_is, device_is)) =
      let goes : EndsUnfailed (recalled_from plan setting kept device).ending = subst EndsUnfailed (sym comes.ending) unfailed in
      let resumed = (procedures_resume plan setting none).lost first_state (recalling kept [] device) lost goes cut in
      let same : recalled_from plan setting kept_now device_now ≡ recalled_from plan setting kept device =
      ap (λ (l : List Bool). recalled_from plan setting l device_now) (kept_is ∙ resumed.kept)
      ∙ ap (λ (d : Device). recalled_from plan setting resumed.own d) device_is
      ∙ resumed.same in
      subst (ComesToPlayed plan setting contents) (sym same) comes
  once kept device kept_now device_now comes (inr (kept_is, device_is)) =
      let goes : EndsUnfailed (recalled_from plan setting kept device).ending = subst EndsUnfailed (sym comes.ending) unfailed in
      let whole = (procedures_resume plan setting none).whole first_state (recalling kept [] device) goes in
      let same : recalled_from plan setting kept_now device_now ≡ with_world (recalled_from plan setting kept device) [] device_now =
      ap (λ (l : List Bool). recalled_from plan setting l device_now) (kept_is ∙ whole.kept ∙ sym (append-nil whole.own))
      ∙ whole.same [] device_now in
      subst (ComesToPlayed plan setting contents) (sym same) (record { events = comes.events; ending = comes.ending; cause = comes.cause; device = device_is ∙ comes.device })

  resumed : (kept : List Bool) (device : Device) → Lost plan setting contents kept device → ComesToPlayed plan setting contents (recalled_from plan setting kept device)
  resumed kept device Never = fresh plan setting contents
  resumed kept device (Again k d kept_now device_now before loses) = once k d kept_now device_now (resumed k d before) loses

-- ---- power may be lost in each free step

may_lose : (play : Play Recalling) (state : State) (free : Option FreeStep) (step : FreeStep) (kept : List Bool) (device left : Device)
    → ((lost : Outcome Recalling) → StepIsLost (recalling [] kept device) lost free → play.IsCut state (recalling [] kept device) lost) → free ≡ Some step → LossLeaves step device left → MayLose play state kept device left
may_lose play state free step kept device left cut is leaves =
    let lost : Outcome Recalling = record { events = []; ending = Done state; cause = None; world = recalling [] kept left } in
    (lost, cut lost (subst (StepIsLost (recalling [] kept device) lost) (sym is) (refl, refl, refl, refl, leaves)), refl)

pub resume_laws : ResumeLaws
resume_laws = record {
  conditions_lost = λ setting kind p c s step kept d left is leaves. may_lose (recalled_condition setting kind p c) s (free_test kind p c s) step kept d left (λ lost cut. cut) is leaves;
  directives_lost = λ setting kind p c s step kept d left is leaves. may_lose (recalled_directive setting kind p c) s (free_act kind p c s) step kept d left (λ lost cut. cut) is leaves;
  writes_lost = λ setting kind p c s kept d bytes is. may_lose (recalled_directive setting kind p c) s (free_act kind p c s) (WriteStep c p) kept d (with_content d c bytes) (λ lost cut. cut) is (bytes, refl);
  runs = λ plan setting kept d. (plan_runs setting plan).whole first_state (recalling kept [] d);
  paths = λ plan setting kept d lost cut. let b = (plan_runs setting plan).cut first_state (recalling kept [] d) lost cut in record { rest = b.rest; ending = b.ending; run = b.is };
  bounded = bounded;
  commands = commands_resume;
  procedures = procedures_resume;
  fresh = fresh;
  resumed = λ plan setting contents kept device none unfailed lost. resumed plan setting contents none unfailed kept device lost;
}
