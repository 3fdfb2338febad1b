-- Conditions and launches leave all contents as they are.
use Rattle.std.proofs.Common.{◌≡◌, ◌<◌, ℕ, zero, suc, Bool, true, false, List, [], ◌∷◌, ◌++◌, Option, Some, None, Result, Ok, Err, get_or, length, map, refl, sym, ap, subst, ◌∙◌, arith, inl, inr, ◌⊎◌, ⊎_elim}
use Rattle.std.specs.Prelude.{◌↔◌, IsTrue, slice_get}
use Rattle.std.proofs.lemmas.List.{append-nil}
use Rattle.suit_edge.specs.Flash.{Grows, IsSame}
use Rattle.suit_edge.specs.FlashLaws.{keeps_same}
use Rattle.suit_params.specs.declared.digest.Digest.{Digest}
use Rattle.suit_params.specs.InForce.{digest_in, size_in}
use Rattle.step_machine.specs.Programs.{program_tree}
use Rattle.suit_commands.specs.declared.kinds.TestKind.{TestKind}
use Rattle.suit_commands.specs.declared.kinds.TestKind.TheVariants as tests
use Rattle.suit_commands.specs.declared.kinds.ActKind.TheVariants as acts
use Rattle.path_model.specs.declared.cause.Cause.{Cause}
use Rattle.path_model.specs.declared.cause.Cause.TheVariants as causes
use Rattle.path_model.specs.declared.event.Event.{Event}
use Rattle.path_model.specs.declared.event.Event.TheVariants.{Matched, Missed}
use Rattle.path_model.specs.declared.identity.Identity.{Identity}
use Rattle.path_model.specs.Behaviour.{State, Done, Condition}
use Rattle.path_model.specs.Settings.{Setting}
use Rattle.path_model.specs.DevicePlays.{Device, content_at, tested, matched, unread, is_image, condition_play, directive_play}
use Rattle.path_model.specs.DeviceLaws.{TestPasses}
use Rattle.step_machine.specs.declared.spot.Standing.{Standing}
use Rattle.step_machine.specs.declared.stop.Stop.{Stop}
use Rattle.step_machine.specs.declared.stop.Stop.TheVariants as stops
use Rattle.step_machine.specs.declared.machine.Machine.{Machine}
use Rattle.step_machine.specs.Comes.{Comes}
use Rattle.step_machine.specs.Conditions.{PassesAs, CutsPlay}
use Rattle.step_machine.specs.Devices.{contents_of}
use Rattle.step_machine.specs.Directives.{StopsSo}
use Rattle.step_machine.specs.Invoking.{InvokesAs, InvokeCounts, launched_as}
use Rattle.step_machine.specs.PlanRuns.{counts_of, OutsideTargets}
use Rattle.step_machine.specs.Running.{AreFilesKnown, Moment, Past, Stays, StopCounts, Fits, Goes, RunsPart, AreSources, counts_at, device_at, stopped}
use Rattle.step_machine.specs.Parts.{test_part, act_part}
use Rattle.step_machine.specs.Spots.{content_of}
use Rattle.step_machine.proofs.Asking.{asks_same}
use Rattle.step_machine.proofs.Beginning.{followed_quietly, gained, no_requests, runs_quietly}
use Rattle.step_machine.proofs.Leaves.{content_here}

-- ---- how a condition ends

tested_ends : (p : ℕ) (passed failed : Event) (s : State) (w : Device) (b : Bool)
    → (((tested p passed failed s w b).ending ≡ Done s) ⊎ ((tested p passed failed s w b).ending ≡ Condition p s.soft_failure)) × ((tested p passed failed s w b).world ≡ w)
tested_ends p passed failed s w true = (inl refl, refl)
tested_ends p passed failed s w false = (inr refl, refl)

matched_ends : (p c : ℕ) (size : Option ℕ) (s : State) (w : Device) (digest : Option Digest)
    → (((matched p c size s w digest).ending ≡ Done s) ⊎ ((matched p c size s w digest).ending ≡ Condition p s.soft_failure)) × ((matched p c size s w digest).world ≡ w)
matched_ends p c size s w None = (inr refl, refl)
matched_ends p c size s w (Some digest) = tested_ends p (Matched c digest size) (Missed c) s w (is_image digest size (content_at w c))

condition_ends : (setting : Setting) (kind : TestKind) (p c : ℕ) (s : State) (w : Device)
    → ((((condition_play setting kind p c).comes s w).ending ≡ Done s) ⊎ (((condition_play setting kind p c).comes s w).ending ≡ Condition p s.soft_failure)) × (((condition_play setting kind p c).comes s w).world ≡ w)
condition_ends setting tests.Vendor p c s w = tested_ends p _ _ s w _
condition_ends setting tests.Class p c s w = tested_ends p _ _ s w _
condition_ends setting tests.Device p c s w = tested_ends p _ _ s w _
condition_ends setting tests.Slot p c s w = tested_ends p _ _ s w _
condition_ends setting tests.ImageMatch p c s w = matched_ends p c (size_in s.parameters c) s w (digest_in s.parameters c)
condition_ends setting tests.CheckContent p c s w = tested_ends p _ _ s w _
condition_ends setting tests.Abort p c s w = (inr refl, refl)

pub condition_comes : (setting : Setting) (kind : TestKind) (p c : ℕ) (s : State) (w : Device) → (IsTrue true ↔ TestPasses setting kind p c s w) → Comes (condition_play setting kind p c) s w (Ok tt) s w
condition_comes setting kind p c s w passes = (passes.0 refl, (condition_ends setting kind p c s w).1)

pub condition_fails : (setting : Setting) (kind : TestKind) (p c : ℕ) (s : State) (w : Device) → (IsTrue false ↔ TestPasses setting kind p c s w) → Comes (condition_play setting kind p c) s w (Err (stops.Condition p s.soft_failure)) s w
condition_fails setting kind p c s w passes =
    let ends = condition_ends setting kind p c s w in
    (⊎_elim (λ done. absurd (not (passes.1 done))) (λ failed. failed) ends.0, ends.1)
  where
    not : IsTrue false → ⊥
    not e = absurd cc

pub condition_cut : (setting : Setting) (kind : TestKind) (p c : ℕ) (s : State) (w : Device) → (condition_play setting kind p c).IsCut s w (unread p w) → Comes (condition_play setting kind p c) s w (Err (stops.Directive p causes.FlashFault)) s w
condition_cut setting kind p c s w cut = record { outcome = unread p w; cut = cut; stops = record { ending = refl; named = refl; world = refl } }

-- ---- nothing is written

pub looked : (machine : Machine) (m n : Moment) → n.host.told ≡ m.host.told → n.disk.told ≡ m.disk.told → n.launcher.told ≡ m.launcher.told → n.disk.size ≡ m.disk.size → n.ram ≡ m.ram
    → (AreFilesKnown machine m → n.host.files ≡ m.host.files) → n.host.asked ≡ m.host.asked → (IsTrue m.disk.told → IsSame m.disk.flash n.disk.flash) → (IsTrue m.disk.told → Grows m.disk.flash n.disk.flash) → Stays machine m n
looked machine m n host disk launcher size ram files asked same grows = record {
  host = host;
  disk = disk;
  launcher = launcher;
  size = size;
  rooms = ap (λ r. map (λ held. held.capacity) r) ram;
  files = files;
  asks = λ t room rooms. asks_same (program_tree machine.program.now) machine.uris.now room m.host.asked n.host.asked asked;
  keeps = λ t. keeps_same (OutsideTargets (program_tree machine.program.now) machine.standings.now) m.disk.flash n.disk.flash (same t);
  grows = grows;
}

pub same_device : (machine : Machine) (m n : Moment) (past : Past) → n.ram ≡ m.ram → n.disk.flash.reads ≡ m.disk.flash.reads → device_at machine m past ≡ device_at machine n past
same_device machine m n past ram reads =
    ap (λ r. record { contents = contents_of machine.standings.now r m.disk.flash.reads; launches = past.launches; asked = past.asked }) (sym ram)
    ∙ ap (λ l. record { contents = contents_of machine.standings.now n.ram l; launches = past.launches; asked = past.asked }) (sym reads)

-- ---- a condition as a part of a procedure

module _ (machine : Machine) (m n : Moment) (kind : TestKind) (p c : ℕ) (s : State) (d : Standing) (lt : c < length machine.standings.now) (stays : Stays machine m n) (ram : n.ram ≡ m.ram)
    (same : IsTrue m.disk.told → IsSame m.disk.flash n.disk.flash) (launches : n.launcher.launches ≡ m.launcher.launches) (asked : n.host.asked.names ≡ m.host.asked.names) (sources : AreSources machine s.parameters) where
  runs_test : (r : Result (Unit {0}) Stop) → StopCounts r (counts_at m) (counts_at n)
      → (IsTrue m.disk.told → (setting : Setting) → Fits machine setting → (past : Past) → Comes (condition_play setting kind p c) s (device_at machine m past) r s (device_at machine m past))
      → RunsPart machine (test_part kind p c) s m r s n
  runs_test r counts comes =
      runs_quietly machine (test_part kind p c) s m n r s stays counts sources launches asked (λ told setting fits past.
      subst (λ (v : Device). Comes (condition_play setting kind p c) s (device_at machine m past) r s v) (same_device machine m n past ram (same told).reads) (comes told setting fits past))

  identity_here : (setting : Setting) → Fits machine setting → slice_get setting.identities c ≡ Some (get_or machine.standings.now c d).identity
  identity_here setting fits = ap (λ (l : List Identity). slice_get l c) fits.identities ∙ got machine.standings.now c lt
    where
      got : (l : List Standing) (i : ℕ) → i < length l → slice_get (map (λ (s : Standing). s.identity) l) i ≡ Some (get_or l i d).identity
      got [] i below = absurd (omega (arith, below))
      got (x ∷ l) zero below = refl
      got (x ∷ l) (suc i) below = got l i (omega (arith, below))

  module _ (component : (get_or machine.standings.now c d).component ≡ c) where
    passes_here : (b x : Bool) → b ≡ x → (IsTrue m.disk.told → PassesAs kind (get_or machine.standings.now c d).component s.parameters (get_or machine.standings.now c d).identity (content_of (get_or machine.standings.now c d).spot m.ram m.disk.flash.reads) b)
        → IsTrue m.disk.told → (setting : Setting) → Fits machine setting → (past : Past) → IsTrue x ↔ TestPasses setting kind p c s (device_at machine m past)
    passes_here b x is exact told setting fits past =
        subst (λ (k : ℕ). PassesAs kind k s.parameters (get_or machine.standings.now c d).identity (content_of (get_or machine.standings.now c d).spot m.ram m.disk.flash.reads) x) component
        (subst (λ (y : Bool). PassesAs kind (get_or machine.standings.now c d).component s.parameters (get_or machine.standings.now c d).identity (content_of (get_or machine.standings.now c d).spot m.ram m.disk.flash.reads) y) is (exact told))
        setting p s (device_at machine m past) refl (identity_here setting fits) (content_here machine m c d lt setting fits past)

    pub test_passed : (b : Bool) → b ≡ true → StopCounts (Ok tt) (counts_at m) (counts_at n)
        → (IsTrue m.disk.told → PassesAs kind (get_or machine.standings.now c d).component s.parameters (get_or machine.standings.now c d).identity (content_of (get_or machine.standings.now c d).spot m.ram m.disk.flash.reads) b)
        → RunsPart machine (test_part kind p c) s m (Ok tt) s n
    test_passed b is counts exact =
        runs_test (Ok tt) counts (λ told setting fits past. condition_comes setting kind p c s (device_at machine m past) (passes_here b true is exact told setting fits past))

    pub test_failed : (b : Bool) → b ≡ false → StopCounts (Err (stops.Condition p s.soft_failure)) (counts_at m) (counts_at n)
        → (IsTrue m.disk.told → PassesAs kind (get_or machine.standings.now c d).component s.parameters (get_or machine.standings.now c d).identity (content_of (get_or machine.standings.now c d).spot m.ram m.disk.flash.reads) b)
        → RunsPart machine (test_part kind p c) s m (Err (stops.Condition p s.soft_failure)) s n
    test_failed b is counts exact =
        runs_test (Err (stops.Condition p s.soft_failure)) counts (λ told setting fits past. condition_fails setting kind p c s (device_at machine m past) (passes_here b false is exact told setting fits past))

    pub test_cut : StopCounts (Err (stops.Directive p causes.FlashFault)) (counts_at m) (counts_at n)
        → (IsTrue m.disk.told → CutsPlay kind (get_or machine.standings.now c d).component s.parameters)
        → RunsPart machine (test_part kind p c) s m (Err (stops.Directive p causes.FlashFault)) s n
    test_cut counts cuts =
        runs_test (Err (stops.Directive p causes.FlashFault)) counts (λ told setting fits past.
        condition_cut setting kind p c s (device_at machine m past) (subst (λ (k : ℕ). CutsPlay kind k s.parameters) component (cuts told) setting p s (device_at machine m past) refl))

-- ---- a launch

pub invoke_counts : (r : Result (Unit {0}) Cause) (place host before now disk_before disk_now : ℕ) → InvokeCounts r before now disk_before disk_now → StopCounts (stopped place r) (counts_of host disk_before before) (counts_of host disk_now now)
invoke_counts (Ok u) place host before now disk_before disk_now (e, f) = ap (λ (x : ℕ). counts_of host x now) f ∙ ap (λ (x : ℕ). counts_of host disk_before x) e
invoke_counts (Err causes.LaunchFault) place host before now disk_before disk_now (e, f) = (refl, f, e)
invoke_counts (Err causes.FlashFault) place host before now disk_before disk_now (e, f) = (refl, f, e)
invoke_counts (Err _) place host before now disk_before disk_now e = absurd e

module _ (machine : Machine) (m n : Moment) (p c : ℕ) (s : State) (d : Standing) (lt : c < length machine.standings.now) (stays : Stays machine m n) (ram : n.ram ≡ m.ram)
    (same : IsTrue m.disk.told → IsSame m.disk.flash n.disk.flash) (asked : n.host.asked.names ≡ m.host.asked.names) (sources : AreSources machine s.parameters) where
  launch_goes : (r : Result (Unit {0}) Cause) → IsTrue m.disk.told → InvokesAs c s.parameters (content_of (get_or machine.standings.now c d).spot m.ram m.disk.flash.reads) m.launcher.launches n.launcher.launches r
      → Goes machine (act_part acts.Invoke p c) s m (stopped p r) s n
  launch_goes (Ok u) told (launch, added, comes) = record {
    more = gained (launch ∷ []) [];
    launches = added;
    requests = no_requests machine m n asked;
    comes = λ setting fits past given.
        let got = comes setting p s (device_at machine m past) refl (content_here machine m c d lt setting fits past) in
        let later : Past = record { launches = past.launches ++ launched_as launch ∷ []; asked = past.asked } in
        (got.0, got.1 ∙ same_device machine m n later ram (same told).reads ∙ ap (λ (names : List (List ℕ)). device_at machine n (record { launches = later.launches; asked = names })) (sym (append-nil past.asked)));
  }
  launch_goes (Err cause) told (kept, comes) = record {
    more = gained [] [];
    launches = kept ∙ sym (append-nil m.launcher.launches);
    requests = no_requests machine m n asked;
    comes = λ setting fits past given.
        subst (λ (v : Device). StopsSo (directive_play setting acts.Invoke p c) p s (device_at machine m past) cause v)
        (same_device machine m n past ram (same told).reads ∙ ap (device_at machine n) (sym (followed_quietly past)))
        (comes setting p s (device_at machine m past) refl (content_here machine m c d lt setting fits past));
  }

  pub runs_invoke : (r : Result (Unit {0}) Cause) → StopCounts (stopped p r) (counts_at m) (counts_at n)
      → (IsTrue m.disk.told → IsTrue m.launcher.told → InvokesAs c s.parameters (content_of (get_or machine.standings.now c d).spot m.ram m.disk.flash.reads) m.launcher.launches n.launcher.launches r)
      → RunsPart machine (act_part acts.Invoke p c) s m (stopped p r) s n
  runs_invoke r counts invokes = record {
    stays = stays;
    counts = counts;
    sources = sources;
    goes = λ told launcher_told. launch_goes r told (invokes told launcher_told);
  }
