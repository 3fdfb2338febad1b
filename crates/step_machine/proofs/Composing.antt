-- How plays of parts compose, where no events are kept.
use Rattle.std.proofs.Common.{◌≡◌, ℕ, Ok, Err, refl, sym, ap, subst, ◌∙◌, inl, inr}
use Rattle.std.specs.Prelude.{Result}
use Rattle.path_model.specs.declared.cause.Cause.{Cause}
use Rattle.path_model.specs.declared.cause.Cause.TheVariants as causes
use Rattle.path_model.specs.Behaviour.{State, Ending, Done}
use Rattle.path_model.specs.Plays.{Outcome, Play, behind, going_on, NextIsCut, in_turn}
use Rattle.path_model.specs.RecalledPlays.{Recalling}
use Rattle.step_machine.specs.declared.stop.Stop.{Stop}
use Rattle.step_machine.specs.declared.stop.Stop.TheVariants as stops
use Rattle.step_machine.specs.Directives.{Stops, IsCutSo}
use Rattle.step_machine.specs.Comes.{Comes}

pub stops_as : (p : ℕ) (cause : Cause) (v : Recalling) (o other : Outcome Recalling) → o.ending ≡ other.ending → o.cause ≡ other.cause → o.world ≡ other.world → Stops p cause v other → Stops p cause v o
stops_as p cause v o other e c w h = record { ending = e ∙ h.ending; named = c ∙ h.named; world = w ∙ h.world }

-- a play that ends so, and is stopped and cut so, as another one is
module _ (p q : Play Recalling) (s z : State) (w x : Recalling) (ends : (q.comes z x).ending ≡ (p.comes s w).ending) (world : (q.comes z x).world ≡ (p.comes s w).world)
    (stops_so : (a : ℕ) (cause : Cause) (v : Recalling) → Stops a cause v (p.comes s w) → Stops a cause v (q.comes z x)) (cut_so : (a : ℕ) (cause : Cause) (v : Recalling) → IsCutSo p a s w cause v → IsCutSo q a z x cause v) where
  pub comes_by : (r : Result (Unit {0}) Stop) (t : State) (v : Recalling) → Comes p s w r t v → Comes q z x r t v
  comes_by (Ok u) t v (e, is) = (ends ∙ e, world ∙ is)
  comes_by (Err (stops.Condition a soft)) t v (e, is) = (ends ∙ e, world ∙ is)
  comes_by (Err (stops.Directive a causes.HostFault)) t v h = cut_so a causes.HostFault v h
  comes_by (Err (stops.Directive a causes.FlashFault)) t v h = cut_so a causes.FlashFault v h
  comes_by (Err (stops.Directive a causes.LaunchFault)) t v h = cut_so a causes.LaunchFault v h
  comes_by (Err (stops.Directive a cause)) t v h = stops_so a cause v h

module _ (first second : Play Recalling) (s t : State) (w v : Recalling) (done : (first.comes s w).ending ≡ Done t) (left : (first.comes s w).world ≡ v) where
  one : Outcome Recalling
  one = first.comes s w

  both : Outcome Recalling
  both = (in_turn Recalling first second).comes s w

  gone_on : both ≡ behind Recalling (first.comes s w).events (second.comes t v)
  unfolding one both
  gone_on =
      let o = first.comes s w in
      ap (going_on Recalling second.comes o.events o.cause o.world) done
      ∙ ap (λ (u : Recalling). behind Recalling o.events (second.comes t u)) left

  cut_then : (p : ℕ) (cause : Cause) (u : Recalling) → IsCutSo second p t v cause u → IsCutSo (in_turn Recalling first second) p s w cause u
  cut_then p cause u h =
      let o = first.comes s w in
      let told : Outcome Recalling = behind Recalling o.events h.outcome in
      record {
        outcome = told;
        cut = inr (subst (λ (e : Ending). NextIsCut Recalling second.IsCut o.events o.world e told) (sym done) (h.outcome, subst (λ (x : Recalling). second.IsCut t x h.outcome) (sym left) h.cut, refl));
        stops = stops_as p cause u told h.outcome refl refl refl h.stops;
      }

  stops_then : (p : ℕ) (cause : Cause) (u : Recalling) → Stops p cause u (second.comes t v) → Stops p cause u ((in_turn Recalling first second).comes s w)
  unfolding both
  stops_then p cause u h =
      stops_as p cause u both (second.comes t v) (ap (λ (x : Outcome Recalling). x.ending) gone_on) (ap (λ (x : Outcome Recalling). x.cause) gone_on) (ap (λ (x : Outcome Recalling). x.world) gone_on) h

  -- the first is done, and the second comes to this
  pub then_comes : (r : Result (Unit {0}) Stop) (next : State) (u : Recalling) → Comes second t v r next u → Comes (in_turn Recalling first second) s w r next u
  unfolding both
  then_comes r next u h =
      comes_by second (in_turn Recalling first second) t s v w (ap (λ (o : Outcome Recalling). o.ending) gone_on) (ap (λ (o : Outcome Recalling). o.world) gone_on) stops_then cut_then r next u h

module _ (first second : Play Recalling) (s : State) (w : Recalling) where
  stops_first : (p : ℕ) (cause : Cause) (u : Recalling) → Stops p cause u (first.comes s w) → Stops p cause u ((in_turn Recalling first second).comes s w)
  stops_first p cause u h =
      let o = first.comes s w in
      let is = ap (going_on Recalling second.comes o.events o.cause o.world) h.ending in
      record {
        ending = ap (λ (x : Outcome Recalling). x.ending) is;
        named = ap (λ (x : Outcome Recalling). x.cause) is ∙ h.named;
        world = ap (λ (x : Outcome Recalling). x.world) is ∙ h.world;
      }

  cut_first : (p : ℕ) (cause : Cause) (u : Recalling) → IsCutSo first p s w cause u → IsCutSo (in_turn Recalling first second) p s w cause u
  cut_first p cause u h = record { outcome = h.outcome; cut = inl h.cut; stops = h.stops }

  -- the first is stopped, and so are both
  pub first_stops : (stop : Stop) (next : State) (u : Recalling) → Comes first s w (Err stop) next u → Comes (in_turn Recalling first second) s w (Err stop) next u
  first_stops (stops.Condition p soft) next u (ends, is) =
      let o = first.comes s w in
      let goes = ap (going_on Recalling second.comes o.events o.cause o.world) ends in
      (ap (λ (x : Outcome Recalling). x.ending) goes, ap (λ (x : Outcome Recalling). x.world) goes ∙ is)
  first_stops (stops.Directive p causes.HostFault) next u h = cut_first p causes.HostFault u h
  first_stops (stops.Directive p causes.FlashFault) next u h = cut_first p causes.FlashFault u h
  first_stops (stops.Directive p causes.LaunchFault) next u h = cut_first p causes.LaunchFault u h
  first_stops (stops.Directive p cause) next u h = stops_first p cause u h
