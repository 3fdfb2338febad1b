-- Directives as parts of a procedure, at the component that is selected.
use Rattle.std.proofs.Common.{◌≡◌, ◌≢◌, ◌⊎◌, ⊎_elim, ◌<◌, ℕ, List, ◌++◌, Option, Some, Result, length, get_or, refl, sym, ap, subst, ◌∙◌, arith}
use Rattle.std.specs.Prelude.{IsTrue}
use Rattle.suit_edge.specs.Flash.{IsSame, Keeps}
use Rattle.suit_params.specs.declared.param.Param.{Param}
use Rattle.suit_params.specs.declared.param.ParamKey.TheVariants as keys
use Rattle.suit_params.specs.InForce.{in_force, number_of}
use Rattle.suit_commands.specs.declared.kinds.ActKind.{ActKind}
use Rattle.suit_commands.specs.declared.kinds.ActKind.TheVariants as acts
use Rattle.suit_commands.specs.Targets.{IsWriting}
use Rattle.path_model.specs.declared.cause.Cause.{Cause}
use Rattle.path_model.specs.Behaviour.{State}
use Rattle.path_model.specs.Settings.{Setting}
use Rattle.path_model.specs.DevicePlays.{Device, directive_play, with_content}
use Rattle.flash_slots.specs.RamContents.{Held}
use Rattle.step_machine.specs.declared.stop.Stop.{Stop}
use Rattle.step_machine.specs.declared.spot.Standing.{Standing}
use Rattle.step_machine.specs.declared.machine.Machine.{Machine}
use Rattle.step_machine.specs.Allowing.{MayName, MayWrite}
use Rattle.step_machine.specs.Comes.{Comes}
use Rattle.step_machine.specs.Copying.{CopiesAs, IsRamButBoth, OutsideBoth, Side, SwapsAs, side_of}
use Rattle.step_machine.specs.Devices.{AreSpotsClear}
use Rattle.step_machine.specs.Directives.{ActsSo, WritesAs}
use Rattle.step_machine.specs.Fetching.{ArePayloads, AreRequests, FetchesAs, Request, fetch_of, names_of, with_asked}
use Rattle.step_machine.specs.Invoking.{InvokesAs}
use Rattle.step_machine.specs.Parts.{act_part}
use Rattle.step_machine.specs.Running.{Moment, Past, Stays, StopCounts, Fits, Part, RunsPart, IsReady, IsUnderWay, counts_at, device_at, stopped}
use Rattle.step_machine.specs.Spots.{IsRamBut, IsSpot, OutsideSpot, content_of}
use Rattle.step_machine.proofs.Beginning.{Obeys, runs_asking}
use Rattle.step_machine.proofs.Copied.{apart_here, two_device}
use Rattle.step_machine.proofs.Leaves.{no_standing, acts_come, acts_run, one_device, capacity_here, content_here, within_here}
use Rattle.step_machine.proofs.Looking.{runs_invoke}

abbrev pub stands_at : Machine → ℕ → Standing
stands_at machine c = get_or machine.standings.now c no_standing

-- its content at a moment
abbrev pub holds_at : Machine → ℕ → Moment → List ℕ
holds_at machine c m = content_of (stands_at machine c).spot m.ram m.disk.flash.reads

-- ---- which directive it is

pub act_as : (machine : Machine) (kind of : ActKind) (place c : ℕ) → kind ≡ of → (s : State) (m : Moment) (r : Result (Unit {0}) Stop) (t : State) (n : Moment)
    → RunsPart machine (act_part of place c) s m r t n → RunsPart machine (act_part kind place c) s m r t n
act_as machine kind of place c is s m r t n runs = subst (λ (k : ActKind). RunsPart machine (act_part k place c) s m r t n) (sym is) runs

pub writes_as : (machine : Machine) (kind of : ActKind) (c : ℕ) → kind ≡ of → IsWriting of → (IsWriting kind → MayWrite machine c) → MayWrite machine c
writes_as machine kind of c is writing may = may (subst IsWriting (sym is) writing)

-- what comes from a source and does not swap is a copy
pub copies : (kind : ActKind) → (kind ≡ acts.Copy) ⊎ (kind ≡ acts.Swap) → kind ≢ acts.Swap → kind ≡ acts.Copy
copies kind from other = ⊎_elim (λ copy. copy) (λ swap. absurd (other swap)) from

-- ---- the source in force

pub named_in : (state : State) (c : ℕ) (o : Option Param) (n r : Option ℕ) → o ≡ in_force state.parameters c keys.Source → n ≡ number_of o → n ≡ r
    → number_of (in_force state.parameters c keys.Source) ≡ r
named_in state c o n r got is e = sym (ap number_of got) ∙ sym is ∙ e

module _ (machine : Machine) (size : ℕ) (ram : List Held) (s : State) (c source : ℕ) (lt : c < length machine.standings.now) (ready : IsReady machine size ram) (under : IsUnderWay machine s)
    (named : number_of (in_force s.parameters c keys.Source) ≡ Some source) where
  source_is : (source < length machine.standings.now) × MayName machine source
  source_is = under.sources.components c source (omega (arith, lt, ready.standings.few)) named

  pub source_below : source < length machine.standings.now
  source_below = source_is.0

  pub source_named : MayName machine source
  source_named = source_is.1

  pub source_spot : IsSpot size ram (stands_at machine source).spot
  source_spot = (ready.standings.each source no_standing source_below).spot

  pub source_apart : (stands_at machine source).component ≢ (stands_at machine c).component → AreSpotsClear (stands_at machine c).spot (stands_at machine source).spot
  source_apart other =
      apart_here machine.standings.now c source lt (ready.standings.apart c lt) source_below
      (λ e. other ((ready.standings.each source no_standing source_below).component ∙ e ∙ sym (ready.standings.each c no_standing lt).component))

-- ---- one component

module _ (machine : Machine) (m n : Moment) (s : State) (place c : ℕ) (lt : c < length machine.standings.now) (ready : IsReady machine m.disk.size m.ram) (under : IsUnderWay machine s) (law : Obeys m) (r : Result (Unit {0}) Cause) (result : Result (Unit {0}) Stop)
    (is : result ≡ stopped place r) (stays : Stays machine m n) (launches : n.launcher.launches ≡ m.launcher.launches) (counts : StopCounts (stopped place r) (counts_at m) (counts_at n)) where
  component_is : (stands_at machine c).component ≡ c
  component_is = (ready.standings.each c no_standing lt).component

  module _ (but : IsRamBut (stands_at machine c).spot m.ram n.ram) (keeps : IsTrue m.disk.told → Keeps (OutsideSpot (stands_at machine c).spot) m.disk.flash n.disk.flash) where
    one_acts : n.host.asked.names ≡ m.host.asked.names → (part : Part)
        → (IsTrue m.disk.told → (setting : Setting) → Fits machine setting → (past : Past) → ActsSo (part setting) place s (device_at machine m past) r (with_content (device_at machine m past) c (holds_at machine c n)))
        → RunsPart machine part s m result s n
    one_acts asked part acts =
        acts_run machine m n part s place r result (λ past. with_content (device_at machine m past) c (holds_at machine c n)) is stays launches asked counts under.sources
        (λ told past. one_device machine m n c no_standing lt ready but (law told).fits (keeps told) past) acts

    pub write_runs : n.host.asked.names ≡ m.host.asked.names → (IsTrue m.disk.told → WritesAs acts.Write (stands_at machine c).component (stands_at machine c).capacity s.parameters (holds_at machine c m) (holds_at machine c n) r) → RunsPart machine (act_part acts.Write place c) s m result s n
    write_runs asked writes =
        one_acts asked (act_part acts.Write place c) (λ told setting fits past.
        subst (λ (k : ℕ). WritesAs acts.Write k (stands_at machine c).capacity s.parameters (holds_at machine c m) (holds_at machine c n) r) component_is (writes told)
        setting place s _ refl (capacity_here machine m c no_standing lt setting fits past) (content_here machine m c no_standing lt setting fits past) (within_here machine m c no_standing lt setting fits past))

    pub fetch_runs : (IsTrue m.disk.told → (requests : List Request) × AreRequests m.host.told machine.uris.now m.host.files m.host.asked.names n.host.asked.names requests
        × ((payloads : List (List ℕ × List ℕ)) → ArePayloads machine.envelope payloads
        → FetchesAs (fetch_of (stands_at machine c).component (stands_at machine c).capacity s.parameters payloads machine.uris.now) requests (holds_at machine c m) (holds_at machine c n) r))
        → RunsPart machine (act_part acts.Fetch place c) s m result s n
    fetch_runs fetches =
        subst (λ (x : Result (Unit {0}) Stop). RunsPart machine (act_part acts.Fetch place c) s m x s n) (sym is)
        (runs_asking machine (act_part acts.Fetch place c) s m n (stopped place r) s stays counts under.sources launches (λ told.
        let f = fetches told in (
          f.0,
          f.1,
          λ setting fits past given.
              let asked : Past = record { launches = past.launches; asked = past.asked ++ names_of f.0 } in
              subst (λ (v : Device). Comes (directive_play setting acts.Fetch place c) s (device_at machine m past) (stopped place r) s v) (one_device machine m n c no_standing lt ready but (law told).fits (keeps told) asked)
              (acts_come (directive_play setting acts.Fetch place c) place s (device_at machine m past) (with_content (with_asked (device_at machine m past) (names_of f.0)) c (holds_at machine c n)) r
              (subst (λ (k : ℕ). FetchesAs (fetch_of k (stands_at machine c).capacity s.parameters setting.payloads machine.uris.now) f.0 (holds_at machine c m) (holds_at machine c n) r) component_is (f.2 setting.payloads fits.payloads)
              setting place s (device_at machine m past) refl (capacity_here machine m c no_standing lt setting fits past) refl fits.words given (content_here machine m c no_standing lt setting fits past) (within_here machine m c no_standing lt setting fits past))),
        )))

    pub copy_runs : n.host.asked.names ≡ m.host.asked.names → (source : ℕ) → number_of (in_force s.parameters c keys.Source) ≡ Some source
        → (IsTrue m.disk.told → CopiesAs (stands_at machine c).component (stands_at machine c).capacity (stands_at machine source).component (holds_at machine source m) (holds_at machine c m) (holds_at machine c n) r)
        → RunsPart machine (act_part acts.Copy place c) s m result s n
    copy_runs asked source named copies =
        let below = source_below machine m.disk.size m.ram s c source lt ready under named in
        one_acts asked (act_part acts.Copy place c) (λ told setting fits past.
        subst (λ (j : ℕ). CopiesAs c (stands_at machine c).capacity j (holds_at machine source m) (holds_at machine c m) (holds_at machine c n) r) (ready.standings.each source no_standing below).component
        (subst (λ (k : ℕ). CopiesAs k (stands_at machine c).capacity (stands_at machine source).component (holds_at machine source m) (holds_at machine c m) (holds_at machine c n) r) component_is (copies told))
        setting place s _ named (capacity_here machine m c no_standing lt setting fits past) (content_here machine m source no_standing below setting fits past) (content_here machine m c no_standing lt setting fits past) (within_here machine m c no_standing lt setting fits past))

  -- two components
  pub swap_runs : n.host.asked.names ≡ m.host.asked.names → (source : ℕ) (named : number_of (in_force s.parameters c keys.Source) ≡ Some source) → IsRamButBoth (stands_at machine c).spot (stands_at machine source).spot m.ram n.ram
      → (IsTrue m.disk.told → Keeps (OutsideBoth (stands_at machine c).spot (stands_at machine source).spot) m.disk.flash n.disk.flash)
      → (IsTrue m.disk.told → SwapsAs (side_of (stands_at machine c).component (stands_at machine c).capacity (holds_at machine c m) (holds_at machine c n)) (side_of (stands_at machine source).component (stands_at machine source).capacity (holds_at machine source m) (holds_at machine source n)) r)
      → RunsPart machine (act_part acts.Swap place c) s m result s n
  swap_runs asked source named but keeps swaps =
      let below = source_below machine m.disk.size m.ram s c source lt ready under named in
      let one : ℕ → Side = λ k. side_of k (stands_at machine c).capacity (holds_at machine c m) (holds_at machine c n) in
      let other : ℕ → Side = λ j. side_of j (stands_at machine source).capacity (holds_at machine source m) (holds_at machine source n) in
      acts_run machine m n (act_part acts.Swap place c) s place r result (λ past. with_content (with_content (device_at machine m past) c (holds_at machine c n)) source (holds_at machine source n)) is stays launches asked counts under.sources
      (λ told past. two_device machine m n c source no_standing lt below ready but (law told).fits (keeps told) past)
      (λ told setting fits past.
      subst (λ (j : ℕ). SwapsAs (one c) (other j) r) (ready.standings.each source no_standing below).component
      (subst (λ (k : ℕ). SwapsAs (one k) (other (stands_at machine source).component) r) component_is (swaps told))
      setting place s _ named (capacity_here machine m c no_standing lt setting fits past) (capacity_here machine m source no_standing below setting fits past)
      (content_here machine m c no_standing lt setting fits past) (content_here machine m source no_standing below setting fits past)
      (within_here machine m c no_standing lt setting fits past) (within_here machine m source no_standing below setting fits past))

-- ---- a launch

pub invoke_runs : (machine : Machine) (m n : Moment) (s : State) (place c : ℕ) (lt : c < length machine.standings.now) → IsReady machine m.disk.size m.ram → IsUnderWay machine s → (r : Result (Unit {0}) Cause) (result : Result (Unit {0}) Stop) → result ≡ stopped place r
    → Stays machine m n → n.ram ≡ m.ram → (IsTrue m.disk.told → IsSame m.disk.flash n.disk.flash) → n.host.asked.names ≡ m.host.asked.names → StopCounts (stopped place r) (counts_at m) (counts_at n)
    → (IsTrue m.disk.told → IsTrue m.launcher.told → InvokesAs (stands_at machine c).component s.parameters (holds_at machine c m) m.launcher.launches n.launcher.launches r)
    → RunsPart machine (act_part acts.Invoke place c) s m result s n
invoke_runs machine m n s place c lt ready under r result is stays ram same asked counts invokes =
    subst (λ (x : Result (Unit {0}) Stop). RunsPart machine (act_part acts.Invoke place c) s m x s n) (sym is)
    (runs_invoke machine m n place c s no_standing lt stays ram same asked under.sources r counts
    (λ t u. subst (λ (k : ℕ). InvokesAs k s.parameters (holds_at machine c m) m.launcher.launches n.launcher.launches r) (ready.standings.each c no_standing lt).component (invokes t u)))
