-- Inner sequences, and the sequences of a try each.
use Rattle.std.proofs.Common.{◌≡◌, ℕ, true, false, Some, Result, Ok, Err, refl, sym, ap, subst, ◌∙◌, inl, inr}
use Rattle.path_model.specs.declared.cause.Cause.{Cause}
use Rattle.path_model.specs.declared.cause.Cause.TheVariants as causes
use Rattle.path_model.specs.Behaviour.{State, Ending, Done, Condition, Directive}
use Rattle.path_model.specs.Runs.{entry_state, completed_state, after_run}
use Rattle.path_model.specs.Plays.{Outcome, Play, behind, running_inner, after_trying, OtherIsCut, trying_branch}
use Rattle.path_model.specs.RecalledPlays.{Recalling}
use Rattle.step_machine.specs.declared.stop.Stop.{Stop}
use Rattle.step_machine.specs.declared.stop.Stop.TheVariants as stops
use Rattle.step_machine.specs.Directives.{Stops, IsCutSo}
use Rattle.step_machine.specs.Comes.{Comes}
use Rattle.step_machine.specs.Parts.{passed_on}
use Rattle.step_machine.proofs.Composing.{comes_by, stops_as}

-- ---- run sequence

module _ (inner : Play Recalling) (c : ℕ) (s : State) (w : Recalling) where
  ran : Play Recalling
  ran = running_inner Recalling inner c

  pub run_completes : (t : State) (v : Recalling) → Comes inner (entry_state s c false) w (Ok tt) t v → Comes (running_inner Recalling inner c) s w (Ok tt) (completed_state s t) v
  run_completes t v (ends, is) = (ap (after_run s) ends, is)

  pub run_fails_softly : (p : ℕ) (t : State) (v : Recalling) → Comes inner (entry_state s c false) w (Err (stops.Condition p true)) t v → Comes (running_inner Recalling inner c) s w (Ok tt) s v
  run_fails_softly p t v (ends, is) = (ap (after_run s) ends, is)

  run_stops : (p : ℕ) (cause : Cause) (v : Recalling) → Stops p cause v (inner.comes (entry_state s c false) w) → Stops p cause v ((running_inner Recalling inner c).comes s w)
  run_stops p cause v h = record { ending = ap (after_run s) h.ending; named = h.named; world = h.world }

  run_cut : (p : ℕ) (cause : Cause) (v : Recalling) → IsCutSo inner p (entry_state s c false) w cause v → IsCutSo (running_inner Recalling inner c) p s w cause v
  run_cut p cause v h = record { outcome = h.outcome; cut = h.cut; stops = h.stops }

  pub run_passes_on : (stop out : Stop) (t u : State) (v : Recalling) → passed_on stop s.soft_failure ≡ Some out → Comes inner (entry_state s c false) w (Err stop) t v → Comes (running_inner Recalling inner c) s w (Err out) u v
  run_passes_on (stops.Condition p true) out t u v e h = absurd cc
  run_passes_on (stops.Condition p false) out t u v e (ends, is) =
      let same : stops.Condition p s.soft_failure ≡ out = cc in
      subst (λ (o : Stop). Comes (running_inner Recalling inner c) s w (Err o) u v) same (ap (after_run s) ends, is)
  run_passes_on (stops.Directive p cause) out t u v e h =
      let same : stops.Directive p cause ≡ out = cc in
      subst (λ (o : Stop). Comes (running_inner Recalling inner c) s w (Err o) u v) same (passes cause h)
    where
      passes : (why : Cause) → Comes inner (entry_state s c false) w (Err (stops.Directive p why)) t v → Comes (running_inner Recalling inner c) s w (Err (stops.Directive p why)) u v
      passes causes.HostFault x = run_cut p causes.HostFault v x
      passes causes.FlashFault x = run_cut p causes.FlashFault v x
      passes causes.LaunchFault x = run_cut p causes.LaunchFault v x
      passes why x = run_stops p why v x

-- ---- try each

module _ (inner others : Play Recalling) (c : ℕ) (s : State) (w : Recalling) where
  tries : Play Recalling
  tries = trying_branch Recalling inner others c

  goes_on : (end : Ending) → (inner.comes (entry_state s c true) w).ending ≡ end
      → (trying_branch Recalling inner others c).comes s w
      ≡ (let o = inner.comes (entry_state s c true) w in after_trying Recalling s others.comes o.events o.cause o.world end)
  goes_on end ends = let o = inner.comes (entry_state s c true) w in ap (after_trying Recalling s others.comes o.events o.cause o.world) ends

  pub try_completes : (t : State) (v : Recalling) → Comes inner (entry_state s c true) w (Ok tt) t v → Comes (trying_branch Recalling inner others c) s w (Ok tt) (completed_state s t) v
  try_completes t v (ends, is) =
      let e = goes_on (Done t) ends in
      (ap (λ (o : Outcome Recalling). o.ending) e, ap (λ (o : Outcome Recalling). o.world) e ∙ is)

  try_stops : (p : ℕ) (cause : Cause) (v : Recalling) → Stops p cause v (inner.comes (entry_state s c true) w) → Stops p cause v ((trying_branch Recalling inner others c).comes s w)
  try_stops p cause v h =
      let e = goes_on (Directive p) h.ending in
      record {
        ending = ap (λ (o : Outcome Recalling). o.ending) e;
        named = ap (λ (o : Outcome Recalling). o.cause) e ∙ h.named;
        world = ap (λ (o : Outcome Recalling). o.world) e ∙ h.world;
      }

  try_cut : (p : ℕ) (cause : Cause) (v : Recalling) → IsCutSo inner p (entry_state s c true) w cause v → IsCutSo (trying_branch Recalling inner others c) p s w cause v
  try_cut p cause v h = record { outcome = h.outcome; cut = inl h.cut; stops = h.stops }

  pub try_passes_on : (stop out : Stop) (t u : State) (v : Recalling) → passed_on stop s.soft_failure ≡ Some out → Comes inner (entry_state s c true) w (Err stop) t v → Comes (trying_branch Recalling inner others c) s w (Err out) u v
  try_passes_on (stops.Condition p true) out t u v e h = absurd cc
  try_passes_on (stops.Condition p false) out t u v e (ends, is) =
      let same : stops.Condition p s.soft_failure ≡ out = cc in
      let g = goes_on (Condition p false) ends in
      subst (λ (o : Stop). Comes (trying_branch Recalling inner others c) s w (Err o) u v) same (ap (λ (o : Outcome Recalling). o.ending) g, ap (λ (o : Outcome Recalling). o.world) g ∙ is)
  try_passes_on (stops.Directive p cause) out t u v e h =
      let same : stops.Directive p cause ≡ out = cc in
      subst (λ (o : Stop). Comes (trying_branch Recalling inner others c) s w (Err o) u v) same (passes cause h)
    where
      passes : (why : Cause) → Comes inner (entry_state s c true) w (Err (stops.Directive p why)) t v → Comes (trying_branch Recalling inner others c) s w (Err (stops.Directive p why)) u v
      passes causes.HostFault x = try_cut p causes.HostFault v x
      passes causes.FlashFault x = try_cut p causes.FlashFault v x
      passes causes.LaunchFault x = try_cut p causes.LaunchFault v x
      passes why x = try_stops p why v x

  -- the branch failed softly, and the others come to this
  module _ (q : ℕ) (v : Recalling) (ends : (inner.comes (entry_state s c true) w).ending ≡ Condition q true) (left : (inner.comes (entry_state s c true) w).world ≡ v) where
    tried : (trying_branch Recalling inner others c).comes s w ≡ behind Recalling (inner.comes (entry_state s c true) w).events (others.comes s v)
    tried =
        let o = inner.comes (entry_state s c true) w in
        goes_on (Condition q true) ends ∙ ap (λ (u : Recalling). behind Recalling o.events (others.comes s u)) left

    others_stop : (p : ℕ) (cause : Cause) (u : Recalling) → Stops p cause u (others.comes s v) → Stops p cause u ((trying_branch Recalling inner others c).comes s w)
    others_stop p cause u h =
        stops_as p cause u ((trying_branch Recalling inner others c).comes s w) (others.comes s v) (ap (λ (x : Outcome Recalling). x.ending) tried) (ap (λ (x : Outcome Recalling). x.cause) tried) (ap (λ (x : Outcome Recalling). x.world) tried) h

    others_cut : (p : ℕ) (cause : Cause) (u : Recalling) → IsCutSo others p s v cause u → IsCutSo (trying_branch Recalling inner others c) p s w cause u
    others_cut p cause u h =
        let o = inner.comes (entry_state s c true) w in
        let told : Outcome Recalling = behind Recalling o.events h.outcome in
        record {
          outcome = told;
          cut = inr (subst (λ (e : Ending). OtherIsCut Recalling s others.IsCut o.events o.world e told) (sym ends) (h.outcome, subst (λ (x : Recalling). others.IsCut s x h.outcome) (sym left) h.cut, refl));
          stops = stops_as p cause u told h.outcome refl refl refl h.stops;
        }

    pub others_come : (r : Result (Unit {0}) Stop) (t : State) (u : Recalling) → Comes others s v r t u → Comes (trying_branch Recalling inner others c) s w r t u
    others_come r t u h =
        comes_by others (trying_branch Recalling inner others c) s s v w (ap (λ (o : Outcome Recalling). o.ending) tried) (ap (λ (o : Outcome Recalling). o.world) tried) others_stop others_cut r t u h
