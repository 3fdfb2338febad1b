-- A play that goes on where it lost its power comes to what it comes to without a loss, where its parts do so.
use Rattle.std.proofs.Common.{◌≡◌, ⊎_elim, ℕ, Bool, true, false, List, [], ◌++◌, Option, refl, sym, ◌∙◌, ap, subst, append_assoc}
use Rattle.std.proofs.lemmas.List.{append-nil}
use Rattle.path_model.specs.declared.event.Event.{Event}
use Rattle.path_model.specs.declared.cause.Cause.{Cause}
use Rattle.path_model.specs.Behaviour.{State, Ending, Done, Condition, Directive}
use Rattle.path_model.specs.Runs.{entry_state, after_run, after_branch}
use Rattle.path_model.specs.Plays.{Outcome, Play, behind, going_on, NextIsCut, in_turn, running_inner, trying_branch, after_trying, OtherIsCut}
use Rattle.path_model.specs.DevicePlays.{Device}
use Rattle.path_model.specs.RecalledPlays.{Recalling, recalling}
use Rattle.path_model.specs.ResumeLaws.{EndsUnfailed, with_world, IsRecalled, IsResumed, Resumes}
use Rattle.path_model.proofs.Members.{OfParts}

abbrev W : Type 0
W = Recalling

abbrev O : Type 0
O = Outcome Recalling

abbrev out : List Event → Ending → Option Cause → W → O
out events ending cause world = record { events = events; ending = ending; cause = cause; world = world }

-- ---- one after another

module _ (first second : Play W) (f : Resumes first) (g : Resumes second) where
  abbrev next : O → O
  next o = going_on W second.comes o.events o.cause o.world o.ending

  goes_first : (es : List Event) (e : Ending) (c : Option Cause) (w : W) → EndsUnfailed (next (out es e c w)).ending → EndsUnfailed e
  goes_first es (Done t) c w h = tt
  goes_first es (Condition p soft) c w h = tt
  goes_first es (Directive p) c w h = h

  over_by : (s : State) (w : W) (o : O) → first.comes s w ≡ o → IsRecalled first s w → (es : List Event) (e : Ending) (c : Option Cause) (after : W)
      → o ≡ out es e c after → EndsUnfailed (next (out es e c after)).ending → IsRecalled (in_turn W first second) s w
  over_by s w o is one es e c after same goes = by_ending e same goes
    where
      by_ending : (e : Ending) → o ≡ out es e c after → EndsUnfailed (next (out es e c after)).ending → IsRecalled (in_turn W first second) s w
      by_ending (Done t) same goes =
          let at : first.comes s w ≡ out es (Done t) c after = is ∙ same in
          let later = g.whole t after goes in
          let kept : after.kept ≡ w.kept ++ one.own = subst (λ (x : O). x.world.kept ≡ w.kept ++ one.own) at one.kept in
          record {
            own = one.own ++ later.own;
            kept = ap (λ (x : O). (next x).world.kept) at ∙ later.kept ∙ ap (λ (l : List Bool). l ++ later.own) kept ∙ append_assoc w.kept one.own later.own;
            same = λ rest device.
                ap (λ (l : List Bool). next (first.comes s (recalling l w.kept device))) (append_assoc one.own later.own rest)
                ∙ ap next (one.same (later.own ++ rest) device)
                ∙ ap (λ (x : O). next (with_world x (later.own ++ rest) device)) at
                ∙ ap (behind W es) (later.same rest device)
                ∙ ap (λ (x : O). with_world (next x) rest device) (sym at);
          }
      by_ending (Condition p soft) same goes =
          let at : first.comes s w ≡ out es (Condition p soft) c after = is ∙ same in
          record {
            own = one.own;
            kept = ap (λ (x : O). (next x).world.kept) at ∙ subst (λ (x : O). x.world.kept ≡ w.kept ++ one.own) at one.kept;
            same = λ rest device. ap next (one.same rest device) ∙ ap (λ (x : O). next (with_world x rest device)) at ∙ ap (λ (x : O). with_world (next x) rest device) (sym at);
          }
      by_ending (Directive p) same goes = absurd goes

  at_by : (s : State) (w : W) (lost : O) → IsRecalled first s w → (es : List Event) (e : Ending) (c : Option Cause) (after : W)
      → first.comes s w ≡ out es e c after → EndsUnfailed (next (out es e c after)).ending → NextIsCut W second.IsCut es after e lost → IsResumed (in_turn W first second) s w lost
  at_by s w lost one es (Done t) c after at goes (later, cut, is) =
      let resumed = g.lost t after later goes cut in
      let kept : after.kept ≡ w.kept ++ one.own = subst (λ (x : O). x.world.kept ≡ w.kept ++ one.own) at one.kept in
      record {
        own = one.own ++ resumed.own;
        kept = ap (λ (x : O). x.world.kept) is ∙ resumed.kept ∙ ap (λ (l : List Bool). l ++ resumed.own) kept ∙ append_assoc w.kept one.own resumed.own;
        same = ap (λ (d : Device). next (first.comes s (recalling (one.own ++ resumed.own) w.kept d))) (ap (λ (x : O). x.world.device) is)
            ∙ ap next (one.same resumed.own later.world.device)
            ∙ ap (λ (x : O). next (with_world x resumed.own later.world.device)) at
            ∙ ap (behind W es) resumed.same
            ∙ ap next (sym at);
      }
  at_by s w lost one es (Condition p soft) c after at goes cut = absurd cut
  at_by s w lost one es (Directive p) c after at goes cut = absurd cut

  pub turn_resumes : Resumes (in_turn W first second)
  turn_resumes = record {
    whole = λ s w goes. let o = first.comes s w in over_by s w o refl (f.whole s w (goes_first o.events o.ending o.cause o.world goes)) o.events o.ending o.cause o.world refl goes;
    lost = λ s w lost goes cut. let o = first.comes s w in
        ⊎_elim (λ now. let r = f.lost s w lost (goes_first o.events o.ending o.cause o.world goes) now in record { own = r.own; kept = r.kept; same = ap next r.same })
        (λ later. at_by s w lost (f.whole s w (goes_first o.events o.ending o.cause o.world goes)) o.events o.ending o.cause o.world refl goes later) cut;
  }

-- ---- one branch, and then the others

module _ (body others : Play W) (f : Resumes body) (g : Resumes others) (c : ℕ) where
  abbrev then : State → O → O
  then s o = after_trying W s others.comes o.events o.cause o.world o.ending

  goes_body : (s : State) (es : List Event) (e : Ending) (k : Option Cause) (w : W) → EndsUnfailed (then s (out es e k w)).ending → EndsUnfailed e
  goes_body s es (Done t) k w h = tt
  goes_body s es (Condition p soft) k w h = tt
  goes_body s es (Directive p) k w h = h

  -- the branch alone decides
  alone : (s : State) (w : W) → IsRecalled body (entry_state s c true) w → (es : List Event) (e : Ending) (k : Option Cause) (after : W)
      → body.comes (entry_state s c true) w ≡ out es e k after
      → ((x : W) → then s (out es e k x) ≡ out es (after_branch s e) k x)
      → IsRecalled (trying_branch W body others c) s w
  alone s w one es e k after at decides = record {
    own = one.own;
    kept = ap (λ (x : O). (then s x).world.kept) at ∙ ap (λ (x : O). x.world.kept) (decides after) ∙ subst (λ (x : O). x.world.kept ≡ w.kept ++ one.own) at one.kept;
    same = λ rest device. ap (then s) (one.same rest device) ∙ ap (λ (x : O). then s (with_world x rest device)) at
        ∙ decides (recalling rest after.kept device) ∙ ap (λ (x : O). with_world x rest device) (sym (decides after))
        ∙ ap (λ (x : O). with_world (then s x) rest device) (sym at);
  }

  branch_over : (s : State) (w : W) → IsRecalled body (entry_state s c true) w → (es : List Event) (e : Ending) (k : Option Cause) (after : W)
      → body.comes (entry_state s c true) w ≡ out es e k after → EndsUnfailed (then s (out es e k after)).ending → IsRecalled (trying_branch W body others c) s w
  branch_over s w one es (Condition p true) k after at goes =
      let later = g.whole s after goes in
      let kept : after.kept ≡ w.kept ++ one.own = subst (λ (x : O). x.world.kept ≡ w.kept ++ one.own) at one.kept in
      record {
        own = one.own ++ later.own;
        kept = ap (λ (x : O). (then s x).world.kept) at ∙ later.kept ∙ ap (λ (l : List Bool). l ++ later.own) kept ∙ append_assoc w.kept one.own later.own;
        same = λ rest device.
            ap (λ (l : List Bool). then s (body.comes (entry_state s c true) (recalling l w.kept device))) (append_assoc one.own later.own rest)
            ∙ ap (then s) (one.same (later.own ++ rest) device)
            ∙ ap (λ (x : O). then s (with_world x (later.own ++ rest) device)) at
            ∙ ap (behind W es) (later.same rest device)
            ∙ ap (λ (x : O). with_world (then s x) rest device) (sym at);
      }
  branch_over s w one es (Condition p false) k after at goes = alone s w one es (Condition p false) k after at (λ x. refl)
  branch_over s w one es (Done t) k after at goes = alone s w one es (Done t) k after at (λ x. refl)
  branch_over s w one es (Directive p) k after at goes = absurd goes

  branch_at : (s : State) (w : W) (lost : O) → IsRecalled body (entry_state s c true) w → (es : List Event) (e : Ending) (k : Option Cause) (after : W)
      → body.comes (entry_state s c true) w ≡ out es e k after → EndsUnfailed (then s (out es e k after)).ending → OtherIsCut W s others.IsCut es after e lost
      → IsResumed (trying_branch W body others c) s w lost
  branch_at s w lost one es (Condition p true) k after at goes (later, cut, is) =
      let resumed = g.lost s after later goes cut in
      let kept : after.kept ≡ w.kept ++ one.own = subst (λ (x : O). x.world.kept ≡ w.kept ++ one.own) at one.kept in
      record {
        own = one.own ++ resumed.own;
        kept = ap (λ (x : O). x.world.kept) is ∙ resumed.kept ∙ ap (λ (l : List Bool). l ++ resumed.own) kept ∙ append_assoc w.kept one.own resumed.own;
        same = ap (λ (d : Device). then s (body.comes (entry_state s c true) (recalling (one.own ++ resumed.own) w.kept d))) (ap (λ (x : O). x.world.device) is)
            ∙ ap (then s) (one.same resumed.own later.world.device)
            ∙ ap (λ (x : O). then s (with_world x resumed.own later.world.device)) at
            ∙ ap (behind W es) resumed.same
            ∙ ap (then s) (sym at);
      }
  branch_at s w lost one es (Condition p false) k after at goes cut = absurd cut
  branch_at s w lost one es (Done t) k after at goes cut = absurd cut
  branch_at s w lost one es (Directive p) k after at goes cut = absurd cut

  pub branch_resumes : Resumes (trying_branch W body others c)
  branch_resumes = record {
    whole = λ s w goes. let o = body.comes (entry_state s c true) w in
        branch_over s w (f.whole (entry_state s c true) w (goes_body s o.events o.ending o.cause o.world goes)) o.events o.ending o.cause o.world refl goes;
    lost = λ s w lost goes cut. let o = body.comes (entry_state s c true) w in let sure = goes_body s o.events o.ending o.cause o.world goes in
        ⊎_elim (λ now. let r = f.lost (entry_state s c true) w lost sure now in record { own = r.own; kept = r.kept; same = ap (then s) r.same })
        (λ later. branch_at s w lost (f.whole (entry_state s c true) w sure) o.events o.ending o.cause o.world refl goes later) cut;
  }

-- ---- run sequence

module _ (body : Play W) (f : Resumes body) (c : ℕ) where
  abbrev ended : State → O → O
  ended s o = out o.events (after_run s o.ending) o.cause o.world

  goes_inner : (s : State) (e : Ending) → EndsUnfailed (after_run s e) → EndsUnfailed e
  goes_inner s (Done t) h = tt
  goes_inner s (Condition p soft) h = tt
  goes_inner s (Directive p) h = h

  pub inner_resumes : Resumes (running_inner W body c)
  inner_resumes = record {
    whole = λ s w goes. let r = f.whole (entry_state s c false) w (goes_inner s (body.comes (entry_state s c false) w).ending goes) in
        record { own = r.own; kept = r.kept; same = λ rest device. ap (ended s) (r.same rest device) };
    lost = λ s w lost goes cut. let r = f.lost (entry_state s c false) w lost (goes_inner s (body.comes (entry_state s c false) w).ending goes) cut in
        record { own = r.own; kept = r.kept; same = ap (ended s) r.same };
  }

-- ---- what tells no outcome

pub parts : OfParts W Resumes
parts = record {
  silent = λ move. record {
    whole = λ s w goes. record { own = []; kept = sym (append-nil w.kept); same = λ rest device. refl };
    lost = λ s w lost goes cut. absurd cut;
  };
  override = λ list c. record {
    whole = λ s w goes. record { own = []; kept = sym (append-nil w.kept); same = λ rest device. refl };
    lost = λ s w lost goes cut. absurd cut;
  };
  none_left = λ p. record {
    whole = λ s w goes. record { own = []; kept = sym (append-nil w.kept); same = λ rest device. refl };
    lost = λ s w lost goes cut. absurd cut;
  };
  turn = turn_resumes;
  moved = λ at from f. record {
    whole = λ s w goes. let r = (f s).whole (from s) w goes in record { own = r.own; kept = r.kept; same = r.same };
    lost = λ s w lost goes cut. let r = (f s).lost (from s) w lost goes cut in record { own = r.own; kept = r.kept; same = r.same };
  };
  inner = inner_resumes;
  branch = branch_resumes;
}
