-- A directive at one component, on the whole device.
use Rattle.std.proofs.Common.{◌≡◌, ◌<◌, ℕ, zero, suc, List, [], ◌∷◌, None, Result, Ok, Err, get_or, length, map, refl, sym, ap, subst, ◌∙◌, arith}
use Rattle.std.specs.Prelude.{IsTrue, slice_set}
use Rattle.std.proofs.lemmas.List.{get_or-map, length-map}
use Rattle.suit_edge.specs.Flash.{Grows, Keeps}
use Rattle.suit_edge.specs.FlashLaws.{keeps_fewer}
use Rattle.step_machine.specs.Programs.{program_tree}
use Rattle.path_model.specs.declared.cause.Cause.{Cause}
use Rattle.path_model.specs.declared.cause.Cause.TheVariants as causes
use Rattle.path_model.specs.Behaviour.{State}
use Rattle.path_model.specs.Settings.{Setting, capacity_of}
use Rattle.path_model.specs.Plays.{Play}
use Rattle.path_model.specs.DevicePlays.{Device, content_at, with_content}
use Rattle.flash_slots.specs.RamContents.{Held, held_by}
use Rattle.step_machine.specs.declared.stop.Stop.{Stop}
use Rattle.step_machine.specs.declared.spot.Spot.{Spot}
use Rattle.step_machine.specs.declared.spot.Spot.TheVariants as spots
use Rattle.step_machine.specs.declared.spot.Standing.{Standing}
use Rattle.step_machine.specs.declared.machine.Machine.{Machine}
use Rattle.step_machine.specs.Allowing.{MayWrite}
use Rattle.step_machine.specs.Comes.{Comes}
use Rattle.step_machine.specs.Directives.{ActsSo, CauseCounts}
use Rattle.step_machine.specs.Fetching.{FetchCounts}
use Rattle.step_machine.specs.PlanRuns.{counts_of, OutsideTargets}
use Rattle.step_machine.specs.Fetching.{AsksAmong}
use Rattle.step_machine.specs.Worlds.{StandAtMost}
use Rattle.step_machine.specs.Running.{AreFilesKnown, Moment, Past, Stays, StopCounts, Fits, Part, RunsPart, IsReady, AreSources, counts_at, device_at, stopped}
use Rattle.step_machine.specs.Spots.{IsRamBut, IsSpot, OutsideSpot, content_of}
use Rattle.step_machine.proofs.Beginning.{runs_quietly}
use Rattle.step_machine.proofs.Lifting.{one_changed}

-- the standing at no index
abbrev pub no_standing : Standing
no_standing = record {
  component = 0;
  identity = record { vendor = None; class = None; device = None; slot = 0 };
  capacity = 0;
  spot = spots.Flash (record { start = 0; capacity = 0 });
}

-- ---- rooms stay

set_rooms : (ram : List Held) (c : ℕ) (d x : Held) → x.capacity ≡ (get_or ram c d).capacity → map (λ (held : Held). held.capacity) (slice_set ram c x) ≡ map (λ (held : Held). held.capacity) ram
set_rooms [] c d x e = refl
set_rooms (h ∷ ram) zero d x e = ap (λ (n : ℕ). n ∷ map (λ (held : Held). held.capacity) ram) e
set_rooms (h ∷ ram) (suc c) d x e = ap (λ (l : List ℕ). h.capacity ∷ l) (set_rooms ram c d x e)

pub same_rooms : (spot : Spot) (old new : List Held) → IsRamBut spot old new → map (λ (held : Held). held.capacity) new ≡ map (λ (held : Held). held.capacity) old
same_rooms (spots.Flash slot) old new e = ap (λ (r : List Held). map (λ (held : Held). held.capacity) r) e
same_rooms (spots.Ram c) old new (content, e) =
    ap (λ (r : List Held). map (λ (held : Held). held.capacity) r) e
    ∙ set_rooms old c (record { capacity = 0; content = [] }) (record { capacity = (held_by old c).capacity; content = content }) refl

-- ---- counts

pub cause_counts : (r : Result (Unit {0}) Cause) (place host before now launcher : ℕ) → CauseCounts r before now → StopCounts (stopped place r) (counts_of host before launcher) (counts_of host now launcher)
cause_counts (Ok u) place host before now launcher e = ap (λ (x : ℕ). counts_of host x launcher) e
cause_counts (Err causes.FlashFault) place host before now launcher e = (refl, e, omega arith)
cause_counts (Err causes.HostFault) place host before now launcher e = absurd e
cause_counts (Err causes.LaunchFault) place host before now launcher e = absurd e
cause_counts (Err _) place host before now launcher e = ap (λ (x : ℕ). counts_of host x launcher) e

two_counts : (launcher host host_now before now : ℕ) → (host_now ≡ host) × (now ≡ before) → counts_of host_now now launcher ≡ counts_of host before launcher
two_counts launcher host host_now before now (e, f) = ap (λ (x : ℕ). counts_of x now launcher) e ∙ ap (λ (x : ℕ). counts_of host x launcher) f

pub fetch_counts : (r : Result (Unit {0}) Cause) (place host host_now before now launcher : ℕ) → FetchCounts r host host_now before now → StopCounts (stopped place r) (counts_of host before launcher) (counts_of host_now now launcher)
fetch_counts (Ok u) place host host_now before now launcher e = two_counts launcher host host_now before now e
fetch_counts (Err causes.HostFault) place host host_now before now launcher (e, f) = (e, f, refl)
fetch_counts (Err causes.FlashFault) place host host_now before now launcher (e, f) = (e, f, omega arith)
fetch_counts (Err causes.LaunchFault) place host host_now before now launcher e = absurd e
fetch_counts (Err _) place host host_now before now launcher e = two_counts launcher host host_now before now e

-- ---- a directive as a part of a procedure

pub acts_come : (play : Play Device) (place : ℕ) (s : State) (w v : Device) (r : Result (Unit {0}) Cause) → ActsSo play place s w r v → Comes play s w (stopped place r) s v
acts_come play place s w v (Ok u) a = a
acts_come play place s w v (Err cause) a = a

-- it makes no launch, and leaves the device so
pub acts_run : (machine : Machine) (m n : Moment) (part : Part) (s : State) (place : ℕ) (r : Result (Unit {0}) Cause) (result : Result (Unit {0}) Stop) (leaves : Past → Device) → result ≡ stopped place r
    → Stays machine m n → n.launcher.launches ≡ m.launcher.launches → n.host.asked.names ≡ m.host.asked.names → StopCounts (stopped place r) (counts_at m) (counts_at n) → AreSources machine s.parameters
    → (IsTrue m.disk.told → (past : Past) → leaves past ≡ device_at machine n past)
    → (IsTrue m.disk.told → (setting : Setting) → Fits machine setting → (past : Past) → ActsSo (part setting) place s (device_at machine m past) r (leaves past)) → RunsPart machine part s m result s n
acts_run machine m n part s place r result leaves is stays launches asked counts sources left acts =
    subst (λ (x : Result (Unit {0}) Stop). RunsPart machine part s m x s n) (sym is)
    (runs_quietly machine part s m n (stopped place r) s stays counts sources launches asked (λ told setting fits past.
    subst (λ (v : Device). Comes (part setting) s (device_at machine m past) (stopped place r) s v) (left told past)
    (acts_come (part setting) place s (device_at machine m past) _ r (acts told setting fits past))))

module _ (machine : Machine) (m : Moment) (c : ℕ) (d : Standing) (lt : c < length machine.standings.now) (setting : Setting) (fits : Fits machine setting) (past : Past) where
  -- the setting and the device at one component
  pub capacity_here : capacity_of setting c ≡ (get_or machine.standings.now c d).capacity
  capacity_here =
      ap (λ (l : List ℕ). get_or l c 0) fits.capacities
      ∙ get_or-map (λ (s : Standing). s.capacity) machine.standings.now c d 0 lt

  pub content_here : content_at (device_at machine m past) c ≡ content_of (get_or machine.standings.now c d).spot m.ram m.disk.flash.reads
  content_here = get_or-map (λ (s : Standing). content_of s.spot m.ram m.disk.flash.reads) machine.standings.now c d [] lt

  pub within_here : c < length (device_at machine m past).contents
  within_here = subst (λ (k : ℕ). c < k) (sym (length-map machine.standings.now (λ (s : Standing). content_of s.spot m.ram m.disk.flash.reads))) lt

module _ (machine : Machine) (m n : Moment) (c : ℕ) (d : Standing) (lt : c < length machine.standings.now) (ready : IsReady machine m.disk.size m.ram)
    (but : IsRamBut (get_or machine.standings.now c d).spot m.ram n.ram) where
  pub one_stays : n.host.told ≡ m.host.told → n.disk.told ≡ m.disk.told → n.launcher.told ≡ m.launcher.told → n.disk.size ≡ m.disk.size → (AreFilesKnown machine m → n.host.files ≡ m.host.files) → (IsTrue m.host.told → (room : ℕ) → StandAtMost machine.standings.now room → AsksAmong (program_tree machine.program.now) machine.uris.now room m.host.asked n.host.asked) → MayWrite machine c
      → (IsTrue m.disk.told → Keeps (OutsideSpot (get_or machine.standings.now c d).spot) m.disk.flash n.disk.flash) → (IsTrue m.disk.told → Grows m.disk.flash n.disk.flash) → Stays machine m n
  one_stays host disk launcher size files asks may keeps grows = record {
    host = host;
    disk = disk;
    launcher = launcher;
    size = size;
    rooms = same_rooms (get_or machine.standings.now c d).spot m.ram n.ram but;
    files = files;
    asks = asks;
    keeps = λ t. keeps_fewer (OutsideTargets (program_tree machine.program.now) machine.standings.now) (OutsideSpot (get_or machine.standings.now c d).spot) (λ i out. out c d lt may) m.disk.flash n.disk.flash (keeps t);
    grows = grows;
  }

  -- the device afterwards
  pub one_device : length m.disk.flash.reads ≡ m.disk.size → Keeps (OutsideSpot (get_or machine.standings.now c d).spot) m.disk.flash n.disk.flash → (past : Past)
      → with_content (device_at machine m past) c (content_of (get_or machine.standings.now c d).spot n.ram n.disk.flash.reads) ≡ device_at machine n past
  one_device size keeps past =
      ap (λ (l : List (List ℕ)). record { contents = l; launches = past.launches; asked = past.asked })
      (sym (one_changed machine.standings.now c d m.ram n.ram m.disk.flash n.disk.flash lt (ready.standings.apart c lt)
      (λ k e below. subst (λ (x : ℕ). IsSpot x m.ram (get_or machine.standings.now k e).spot) (sym size) (ready.standings.each k e below).spot) but keeps))
