-- What a procedure comes to, in terms of the program that it was given.
use Rattle.std.proofs.Common.{◌≡◌, ◌∙◌, ℕ, Bool, true, false, List, [], ◌∷◌, ◌++◌, Option, Result, Ok, Err, refl, sym, ap, subst}
use Rattle.std.specs.Prelude.{IsTrue}
use Rattle.suit_edge.specs.Flash.{Flash, Keeps}
use Rattle.suit_edge.specs.FlashLaws.{keeps_fewer}
use Rattle.suit_edge.specs.Ranges.{OutsideEach, Range}
use Rattle.suit_edge.specs.declared.launch.Launch.{Launch}
use Rattle.suit_commands.specs.Tree.{PlanTree}
use Rattle.path_model.specs.declared.cause.Cause.{Cause}
use Rattle.path_model.specs.declared.cause.Cause.TheVariants as causes
use Rattle.path_model.specs.Behaviour.{State}
use Rattle.path_model.specs.Path.{first_state}
use Rattle.path_model.specs.Settings.{Setting}
use Rattle.path_model.specs.Plays.{Outcome}
use Rattle.path_model.specs.DevicePlays.{Device, first_device, plan_play, played}
use Rattle.path_model.specs.RecalledPlays.{Recalling}
use Rattle.path_model.specs.KeepingPlays.{first_recalling, keeping_play, on_device}
use Rattle.path_model.proofs.Keeping.{keeping_laws}
use Rattle.step_machine.specs.declared.machine.Machine.{Machine}
use Rattle.step_machine.specs.declared.plan_end.PlanEnd.{PlanEnd}
use Rattle.step_machine.specs.declared.plan_end.PlanEnd.TheVariants as ends
use Rattle.step_machine.specs.declared.program.Program.{Program}
use Rattle.step_machine.specs.declared.spot.Standing.{Standing}
use Rattle.step_machine.specs.declared.stop.Stop.{Stop}
use Rattle.step_machine.specs.declared.stop.Stop.TheVariants as stops
use Rattle.flash_layout.specs.Trails.{HoldsNow}
use Rattle.step_machine.specs.Directives.{IsCutSo, Stops, StopsSo}
use Rattle.step_machine.specs.Fetching.{ArePayloads, AsksAmong}
use Rattle.step_machine.specs.KeptRuns.{IfNoFault, KeptAt, OutsideWrites, PlaysKept, kept_at, terms_of}
use Rattle.step_machine.specs.Parts.{plan_part}
use Rattle.step_machine.specs.PlanRuns.{GivesAs, OutsideTargets, PlaysPlan, end_of, setting_of}
use Rattle.step_machine.specs.Programs.{program_tree}
use Rattle.step_machine.specs.Stages.{FitsKept, IfGoesOn, IsTrailed, RunsKept, Stage, Terms}
use Rattle.step_machine.specs.Worlds.{StandAtMost}
use Rattle.step_machine.proofs.Procedures.{PlaysAsking, PlaysAt, are_given, asking_as, plan_plays}

abbrev OutsideAll : PlanTree → List Standing → List Range → ℕ → Type 0
OutsideAll plan standings ranges i = OutsideTargets plan standings i × OutsideEach ranges i

written_only : (plan : PlanTree) (standings : List Standing) (ranges : List Range) (f g : Flash) → Keeps (OutsideAll plan standings ranges) f g → Keeps (OutsideWrites plan standings ranges) f g
written_only plan standings [] f g keeps = keeps_fewer (OutsideTargets plan standings) (OutsideAll plan standings []) (λ i out. (out, tt)) f g keeps
written_only plan standings (range ∷ ranges) f g keeps = keeps

at_end : (machine : Machine) (n : Stage) → IsTrue n.outside.disk.told → (r : Result (Unit {0}) Stop) → IfGoesOn r (IsTrailed machine n) → IfNoFault (end_of r) (HoldsNow (n.trail.holds n.trail.list) n.outside.disk.flash)
at_end machine n told (Ok u) trailed = trailed.holds told
at_end machine n told (Err (stops.Condition place soft)) trailed = trailed.holds told
at_end machine n told (Err (stops.Directive place cause)) trailed = tt

module _ (machine : Machine) (m n : Stage) (next : State) (program : Program) (items : List Standing) (p : machine.program.now ≡ program) (e : machine.standings.now ≡ items)
    (r : Result (Unit {0}) Stop) (runs : RunsKept machine (plan_part (program_tree machine.program.now)) first_state m r next n) where
  pub asked_among : IsTrue m.outside.host.told → (room : ℕ) → StandAtMost items room → AsksAmong (program_tree program) machine.uris.now room m.outside.host.asked n.outside.host.asked
  asked_among told room rooms =
      subst (λ (x : Program). AsksAmong (program_tree x) machine.uris.now room m.outside.host.asked n.outside.host.asked) p
      (runs.stays.outside.asks told room (subst (λ (l : List Standing). StandAtMost l room) (sym e) rooms))

  pub keeps_others : IsTrue m.outside.disk.told → Keeps (OutsideWrites (program_tree program) items m.trail.ranges) m.outside.disk.flash n.outside.disk.flash
  keeps_others told =
      written_only (program_tree program) items m.trail.ranges m.outside.disk.flash n.outside.disk.flash
      (subst (λ (l : List Standing). Keeps (OutsideAll (program_tree program) l m.trail.ranges) m.outside.disk.flash n.outside.disk.flash) e
      (subst (λ (x : Program). Keeps (OutsideAll (program_tree x) machine.standings.now m.trail.ranges) m.outside.disk.flash n.outside.disk.flash) p (runs.stays.outside.keeps told)))

  pub kept_played : (x : PlanEnd) → end_of r ≡ x → IsTrue m.outside.disk.told → IsTrue m.outside.launcher.told → (payloads : List (List ℕ × List ℕ)) → ArePayloads machine.envelope payloads
      → (given : ℕ → List ℕ → Option (List ℕ)) × GivesAs m.outside.host.told machine.uris.now m.outside.host.files given
      × (plays : PlaysAt (program_tree program) (terms_of m.trail.silent (setting_of items payloads machine.uris.now given)) x items m n)
      × (IsTrue m.outside.host.told → n.outside.host.asked.names ≡ m.outside.host.asked.names ++ plays.asks)
      × (IsTrue m.trail.told → n.trail.list ≡ m.trail.list ++ plays.noted)
  kept_played x ended disk_told launcher_told payloads are =
      let goes = runs.goes disk_told launcher_told in
      let served = are_given m.outside.host.told machine.uris.now m.outside.host.files m.outside.host.asked.names n.outside.host.asked.names goes.more.requests goes.requests in
      let terms : List Standing → Terms = λ l. terms_of m.trail.silent (setting_of l payloads machine.uris.now served.0) in
      let fits : FitsKept machine m.trail.silent (terms machine.standings.now) = record { setting = record { identities = refl; capacities = refl; payloads = are; words = refl }; may_fail = refl } in
      let plays = plan_plays machine m n next (terms machine.standings.now) fits r goes served.2 in
      let asked : PlaysAsking (program_tree machine.program.now) terms m n machine.standings.now (end_of r) =
      (plays.0, (λ told. goes.requests.asked told ∙ ap (λ (l : List (List ℕ)). m.outside.host.asked.names ++ l) (sym plays.1)), (λ told. goes.listed told ∙ ap (λ (l : List Bool). m.trail.list ++ l) (sym plays.2))) in
      let asking = asking_as (program_tree program) terms m n machine.standings.now items (end_of r) x e ended
      (subst (λ (y : Program). PlaysAsking (program_tree y) terms m n machine.standings.now (end_of r)) p asked) in
      (served.0, served.1, asking.0, asking.1, asking.2)

  -- the flash bears the list again
  pub holds_again : (x : PlanEnd) → end_of r ≡ x → IsTrue n.outside.disk.told → IfNoFault x (HoldsNow (n.trail.holds n.trail.list) n.outside.disk.flash)
  holds_again x ended told = subst (λ (y : PlanEnd). IfNoFault y (HoldsNow (n.trail.holds n.trail.list) n.outside.disk.flash)) ended (at_end machine n told r runs.trailed)

-- ---- with nothing to recall, and where keeping does not fail

module _ (plan : PlanTree) (setting : Setting) (contents : List (List ℕ)) where
  abbrev whole : Outcome Recalling
  whole = (keeping_play false plan setting).comes first_state (first_recalling [] contents)

  same : on_device whole ≡ played plan setting contents
  same = keeping_laws.plain false plan setting contents

  plain_stops : (place : ℕ) (cause : Cause) (w : Recalling) → Stops place cause w whole → Stops place cause w.device (played plan setting contents)
  plain_stops place cause w h = record {
    ending = ap (λ (o : Outcome Device). o.ending) (sym same) ∙ h.ending;
    named = ap (λ (o : Outcome Device). o.cause) (sym same) ∙ h.named;
    world = ap (λ (o : Outcome Device). o.world) (sym same) ∙ ap (λ (x : Recalling). x.device) h.world;
  }

  plain_cut : (place : ℕ) (cause : Cause) (w : Recalling) → IsCutSo (keeping_play false plan setting) place first_state (first_recalling [] contents) cause w
      → IsCutSo (plan_play plan setting) place first_state (first_device contents) cause w.device
  plain_cut place cause w h = record {
    outcome = on_device h.outcome;
    cut = keeping_laws.plain_cut plan setting contents h.outcome h.cut;
    stops = record { ending = h.stops.ending; named = h.stops.named; world = ap (λ (x : Recalling). x.device) h.stops.world };
  }

  stops_plainly : (place : ℕ) (cause : Cause) (w : Recalling) → StopsSo (keeping_play false plan setting) place first_state (first_recalling [] contents) cause w
      → StopsSo (plan_play plan setting) place first_state (first_device contents) cause w.device
  stops_plainly place causes.HostFault w h = plain_cut place causes.HostFault w h
  stops_plainly place causes.FlashFault w h = plain_cut place causes.FlashFault w h
  stops_plainly place causes.LaunchFault w h = plain_cut place causes.LaunchFault w h
  stops_plainly place cause w h = plain_stops place cause w h

  plays_plainly : (end : PlanEnd) (after : KeptAt) (launched now : List Launch) (p : PlaysKept plan (terms_of true setting) end (kept_at contents []) after launched now)
      → (q : PlaysPlan plan setting end contents after.contents launched now) × (q.asks ≡ p.asks)
  plays_plainly ends.Done after launched now p =
      (record { gained = p.gained; added = p.added; asks = p.asks; ends = (p.ends.0, ap (λ (o : Outcome Device). o.ending) (sym same) ∙ p.ends.1, ap (λ (o : Outcome Device). o.world) (sym same) ∙ ap (λ (x : Recalling). x.device) p.ends.2) }, refl)
  plays_plainly (ends.ConditionFailed place) after launched now p =
      (record { gained = p.gained; added = p.added; asks = p.asks; ends = (p.ends.0, ap (λ (o : Outcome Device). o.ending) (sym same) ∙ p.ends.1, ap (λ (o : Outcome Device). o.world) (sym same) ∙ ap (λ (x : Recalling). x.device) p.ends.2) }, refl)
  plays_plainly (ends.DirectiveFailed place cause) after launched now p =
      (record { gained = p.gained; added = p.added; asks = p.asks; ends = stops_plainly place cause _ p.ends }, refl)

-- the same of a silent trail with nothing to recall
pub plain_plays : (plan : PlanTree) (setting : Setting) (silent : Bool) (end : PlanEnd) (before after : KeptAt) (launched now : List Launch) → IsTrue silent → before.left ≡ []
    → (p : PlaysKept plan (terms_of silent setting) end before after launched now) → (q : PlaysPlan plan setting end before.contents after.contents launched now) × (q.asks ≡ p.asks)
plain_plays plan setting false end before after launched now quiet none p = absurd (never quiet)
  where
    never : IsTrue false → ⊥
    never t = cc
plain_plays plan setting true end before after launched now quiet none p =
    from before.left none p
  where
    from : (left : List Bool) → left ≡ [] → (p : PlaysKept plan (terms_of true setting) end (kept_at before.contents left) after launched now) → (q : PlaysPlan plan setting end before.contents after.contents launched now) × (q.asks ≡ p.asks)
    from [] none p = plays_plainly plan setting before.contents end after launched now p
    from (b ∷ left) none p = absurd cc
