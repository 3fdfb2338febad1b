-- A step of a procedure over the trail, from a stage to a later one.
use Rattle.std.proofs.Common.{◌≡◌, ◌≤◌, ◌<◌, ◌+◌, ◌⊎◌, ℕ, Bool, true, false, List, [], ◌∷◌, ◌++◌, Option, Some, None, Result, Ok, Err, length, get_or, refl, sym, ap, subst, ◌∙◌, inl, inr, arith}
use Rattle.std.specs.Prelude.{IsTrue, not}
use Rattle.std.proofs.lemmas.List.{append-nil}
use Rattle.std.proofs.lemmas.Bool.{cases_lt}
use Rattle.suit_edge.specs.declared.edge.Edge.{Edge}
use Rattle.suit_edge.specs.declared.edge.Edge.TheVariants as edge
use Rattle.suit_edge.specs.Edge.{IfDone}
use Rattle.suit_edge.specs.Faults.{EdgeCounts}
use Rattle.suit_edge.specs.Flash.{Flash, Grows, IsFlash, Keeps}
use Rattle.suit_edge.specs.FlashLaws.{keeps_fewer}
use Rattle.suit_edge.specs.Ranges.{InSome, Outside, OutsideEach, Range, SameOn}
use Rattle.path_model.specs.declared.cause.Cause.TheVariants as causes
use Rattle.path_model.specs.Behaviour.{State}
use Rattle.path_model.specs.DevicePlays.{Device}
use Rattle.path_model.specs.RecalledPlays.{recalling}
use Rattle.flash_layout.specs.Trails.{HoldsNow, IsTaken, LieWithin, list_after, list_with}
use Rattle.flash_layout.specs.Slots.{extent_of}
use Rattle.flash_slots.specs.RamContents.{Held}
use Rattle.step_machine.specs.declared.machine.Machine.{Machine}
use Rattle.step_machine.specs.declared.stop.Stop.{Stop}
use Rattle.step_machine.specs.declared.stop.Stop.TheVariants as stops
use Rattle.step_machine.specs.Comes.{Comes}
use Rattle.step_machine.specs.Devices.{contents_of}
use Rattle.step_machine.specs.Fetching.{AreRequests}
use Rattle.step_machine.specs.Keeping.{IsOutcomeKept, KeptEnd, KeptSo, outcome_of}
use Rattle.step_machine.specs.PlanRuns.{Counts, CountsFor, counts_of}
use Rattle.step_machine.specs.Running.{AreSources, HostAt, IsReady, LauncherAt, Moment, OutsideWritten, Part, Past, RunsPart, Stays, StopCounts, counts_at, device_at, followed, moment}
use Rattle.step_machine.specs.Stages.{FitsKept, GoesKept, IfGoesOn, IsTrailed, KeptPart, OutsideKept, OutsideStandings, RunsKept, Stage, StaysKept, Terms, TrailAt, counts_in, stage, world_at}
use Rattle.step_machine.specs.Steps.{DiskAt}
use Rattle.step_machine.specs.Spots.{IsSpot, OutsideSpot, content_of}
use Rattle.step_machine.specs.Programs.{program_tree}
use Rattle.step_machine.specs.Worlds.{AreStandings}
use Rattle.step_machine.specs.declared.spot.Spot.{Spot}
use Rattle.step_machine.specs.declared.spot.Spot.TheVariants as spots
use Rattle.step_machine.specs.declared.spot.Standing.{Standing}
use Rattle.step_machine.proofs.Asking.{asks_none}
use Rattle.step_machine.proofs.Lifting.{kept_slot, map_same}
use Rattle.step_machine.proofs.Beginning.{Obeys, gained, no_requests, followed_quietly, stays_start}
use Rattle.step_machine.proofs.Going.{kept_then}
use Rattle.step_machine.proofs.Recalling.{IsFree, IsUnfree}

-- ---- what the flash bears for the trail stays

abbrev pub Rests : TrailAt → Type 0
Rests t = (outcomes : List Bool) (image other : List ℕ) → SameOn (InSome t.ranges) image other → t.holds outcomes image → t.holds outcomes other

narrower : (K L : ℕ → Type 0) (a b : List ℕ) → ((i : ℕ) → L i → K i) → SameOn K a b → SameOn L a b
narrower K L a b into s = record { size = s.size; same = λ i h. s.same i (into i h) }

carried : (P : List ℕ → Type 0) (places : List Range) (K : ℕ → Type 0) (old new : Flash) (size : ℕ) → IsFlash new size
    → ((image other : List ℕ) → SameOn (InSome places) image other → P image → P other)
    → ((i : ℕ) → InSome places i → K i) → Keeps K old new → HoldsNow P old → HoldsNow P new
carried P places K old new size law rests into keeps holds image now =
    let sooner = law.sooner old.clock new.clock image keeps.images.later (reflexive new.clock) now in
    let was = keeps.images.each image sooner in
    rests was.from image (narrower K (InSome places) was.from image into was.same) (holds was.from was.was)
  where
    reflexive : (n : ℕ) → n ≤ n
    reflexive n = omega arith

-- a step on the device leaves the trail alone
pub device_stays : (machine : Machine) (m n : Moment) (t : TrailAt) → Stays machine m n → StaysKept machine (stage m t) (stage n t)
device_stays machine m n t stays = record {
  outside = record {
    host = stays.host;
    disk = stays.disk;
    launcher = stays.launcher;
    size = stays.size;
    rooms = stays.rooms;
    files = stays.files;
    asks = stays.asks;
    keeps = λ told. keeps_fewer (OutsideKept machine t.ranges) (OutsideWritten machine) (λ i out. out.0) m.disk.flash n.disk.flash (stays.keeps told);
    grows = stays.grows;
  };
  told = refl;
  silent = refl;
  room = refl;
  ranges = refl;
}

pub device_trailed : (machine : Machine) (m n : Moment) (t : TrailAt) → Obeys n → Rests t → Stays machine m n → IsTrailed machine (stage m t) → IsTrailed machine (stage n t)
device_trailed machine m n t law rests stays trailed = record {
  clear = trailed.clear;
  within = subst (λ (size : ℕ). LieWithin size t.ranges) (sym stays.size) trailed.within;
  holds = λ told.
      let before = subst IsTrue stays.disk told in
      carried (t.holds t.list) t.ranges (OutsideWritten machine) m.disk.flash n.disk.flash n.disk.size (law told) (rests t.list) (λ i h k d lt may. trailed.clear i h k d lt) (stays.keeps before) (trailed.holds before);
}

-- ---- the trail is asked for an outcome

pub record IsAsked (before after : TrailAt) (taken : Option Bool) : Type 0 where
  pub taken_is : IsTaken taken before.left after.left
  pub told : after.told ≡ before.told
  pub silent : after.silent ≡ before.silent
  pub list : IsTrue before.told → after.list ≡ list_with before.list taken
  pub holds : (image : List ℕ) → before.holds before.list image → after.holds after.list image
  pub room : after.room ≡ before.room
  pub ranges : after.ranges ≡ before.ranges

module _ (machine : Machine) (m : Stage) (t : TrailAt) (taken : Option Bool) (asked : IsAsked m.trail t taken) where
  pub asked_stays : StaysKept machine m (stage m.outside t)
  asked_stays = record { outside = stays_start (OutsideKept machine m.trail.ranges) machine m.outside; told = asked.told; silent = asked.silent; room = asked.room; ranges = asked.ranges }

  pub asked_trailed : IsTrailed machine m → IsTrailed machine (stage m.outside t)
  asked_trailed trailed = record {
    clear = λ i h. trailed.clear i (subst (λ (rs : List Range). InSome rs i) asked.ranges h);
    within = subst (λ (rs : List Range). LieWithin m.outside.disk.size rs) (sym asked.ranges) trailed.within;
    holds = λ told image now. asked.holds image (trailed.holds told image now);
  }

-- ---- a step that is not free

pub goes_on : (r : Result (Unit {0}) Stop) (P : Type 0) → P → IfGoesOn r P
goes_on (Ok u) P p = p
goes_on (Err (stops.Condition place soft)) P p = p
goes_on (Err (stops.Directive place cause)) P p = tt

pub runs_unfree : (machine : Machine) (m : Stage) (n : Moment) (part : Part) (kept : KeptPart) (s : State) (r : Result (Unit {0}) Stop) → IsTrailed machine m → Obeys n → Rests m.trail
    → IsUnfree part kept s → RunsPart machine part s m.outside r s n → RunsKept machine kept s m r s (stage n m.trail)
runs_unfree machine m n part kept s r trailed law rests unfree one = record {
  stays = device_stays machine m.outside n m.trail one.stays;
  counts = one.counts;
  sources = one.sources;
  trailed = goes_on r (IsTrailed machine (stage n m.trail)) (device_trailed machine m.outside n m.trail law rests one.stays trailed);
  goes = λ disk launcher. let g = one.goes disk launcher in
      record {
        more = g.more;
        launches = g.launches;
        requests = g.requests;
        noted = [];
        listed = λ told. sym (append-nil m.trail.list);
        comes = λ terms fits past k given.
            subst (λ (l : List Bool). Comes (kept terms) s (world_at machine m past k) r s (world_at machine (stage n m.trail) (followed past g.more) l)) (sym (append-nil k))
            (unfree.comes terms m.trail.left k (device_at machine m.outside past) (device_at machine n (followed past g.more)) r s (g.comes terms.setting fits.setting past given));
      };
}

-- where a step was done, its outcome may be kept
pub may_keep : (machine : Machine) (m : Stage) (t : TrailAt) (n : Moment) (r : Result (Unit {0}) Stop) → IsAsked m.trail t None → Obeys n → Rests t → Stays machine m.outside n → IsTrailed machine m
    → IfGoesOn r (IsTrailed machine (stage n t))
may_keep machine m t n r asked law rests stays trailed =
    goes_on r (IsTrailed machine (stage n t)) (device_trailed machine m.outside n t law rests stays (asked_trailed machine m t None asked trailed))

-- ---- a step that is recalled

pub runs_recalled : (machine : Machine) (m : Stage) (t : TrailAt) (b : Bool) (kept : KeptPart) (s : State) (r : Result (Unit {0}) Stop) → IsTrailed machine m → IsAsked m.trail t (Some b) → AreSources machine s.parameters
    → StopCounts r (counts_in m) (counts_in m)
    → ((terms : Terms) (left k : List Bool) (d : Device) → Comes (kept terms) s (recalling (b ∷ left) k d) r s (recalling left (k ++ b ∷ []) d)) → RunsKept machine kept s m r s (stage m.outside t)
runs_recalled machine m t b kept s r trailed asked sources counts comes = record {
  stays = asked_stays machine m t (Some b) asked;
  counts = counts;
  sources = sources;
  trailed = goes_on r (IsTrailed machine (stage m.outside t)) (asked_trailed machine m t (Some b) asked trailed);
  goes = λ disk launcher. record {
    more = gained [] [];
    launches = sym (append-nil m.outside.launcher.launches);
    requests = no_requests machine m.outside m.outside refl;
    noted = b ∷ [];
    listed = asked.list;
    comes = λ terms fits past k given.
        subst (λ (l : List Bool). Comes (kept terms) s (recalling l k (device_at machine m.outside past)) r s (world_at machine (stage m.outside t) (followed past (gained [] [])) (k ++ b ∷ []))) (sym asked.taken_is)
        (subst (λ (p : Past). Comes (kept terms) s (recalling (b ∷ t.left) k (device_at machine m.outside past)) r s (recalling t.left (k ++ b ∷ []) (device_at machine m.outside p))) (sym (followed_quietly past))
        (comes terms t.left k (device_at machine m.outside past)));
  };
}

-- ---- a step that is done, and its outcome kept

module _ (machine : Machine) (m z : Stage) (t : TrailAt) (n : Moment) (part : Part) (kept : KeptPart) (s : State) (place : ℕ) (asked : IsAsked m.trail t None) (law : Obeys m.outside) (later : Obeys n) (free : IsFree place part kept s) where
  module _ (r x : Result (Unit {0}) Stop) (one : RunsPart machine part s m.outside r s n) (so : KeptSo machine place r (stage n t) x z) where
    all_stay : StaysKept machine m z
    all_stay =
        kept_then machine m (stage m.outside t) z law (asked_stays machine m t None asked)
        (kept_then machine (stage m.outside t) (stage n t) z later (device_stays machine m.outside n t one.stays) so.stays)

    device_is : IsTrue n.disk.told → (past : Past) → device_at machine n past ≡ device_at machine z.outside past
    device_is told past = ap (λ (cs : List (List ℕ)). record { contents = cs; launches = past.launches; asked = past.asked }) (sym (so.contents told))

    -- with these outcomes behind those that were kept before
    goes_as : (noted : List Bool) (y : Result (Unit {0}) Stop) → (IsTrue m.trail.told → z.trail.list ≡ m.trail.list ++ noted)
        → ((terms : Terms) → FitsKept machine m.trail.silent terms → (k : List Bool) (d e : Device) → Comes (part terms.setting) s d r s e → Comes (kept terms) s (recalling [] k d) y s (recalling [] (k ++ noted) e))
        → IsTrue m.outside.disk.told → IsTrue m.outside.launcher.told → GoesKept machine kept s m y s z
    goes_as noted y listed comes disk launcher =
        let g = one.goes disk launcher in
        let disk_now = subst IsTrue (sym one.stays.disk) disk in
        record {
          more = g.more;
          launches = so.launches ∙ g.launches;
          requests = subst (λ (names : List (List ℕ)). AreRequests m.outside.host.told machine.uris.now m.outside.host.files m.outside.host.asked.names names g.more.requests) (sym so.asked) g.requests;
          noted = noted;
          listed = listed;
          comes = λ terms fits past k given.
              let before = device_at machine m.outside past in
              let after = followed past g.more in
              let come = comes terms fits k before (device_at machine n after) (g.comes terms.setting fits.setting past given) in
              subst (λ (l : List Bool). Comes (kept terms) s (recalling l k before) y s (world_at machine z after (k ++ noted))) (sym asked.taken_is.0)
              (subst (λ (l : List Bool). Comes (kept terms) s (recalling [] k before) y s (recalling l (k ++ noted) (device_at machine z.outside after))) (sym so.left)
              (subst (λ (d : Device). Comes (kept terms) s (recalling [] k before) y s (recalling [] (k ++ noted) d)) (device_is disk_now after) come));
        }

    listed_as : (noted : List Bool) → (IsTrue t.told → z.trail.list ≡ t.list ++ noted) → IsTrue m.trail.told → z.trail.list ≡ m.trail.list ++ noted
    listed_as noted list told = list (subst IsTrue (sym asked.told) told) ∙ ap (λ (l : List Bool). l ++ noted) (asked.list told)

    may_fail : (terms : Terms) → FitsKept machine m.trail.silent terms → IsTrue (not t.silent) → IsTrue terms.may_fail
    may_fail terms fits loud = subst IsTrue (sym fits.may_fail) (subst (λ (b : Bool). IsTrue (not b)) asked.silent loud)

    -- keeping failed
    unkept_runs : CountsFor causes.FlashFault (counts_at m.outside) (counts_in z) → (IsTrue t.told → z.trail.list ≡ t.list) → AreSources machine s.parameters
        → ((terms : Terms) → FitsKept machine m.trail.silent terms → (k : List Bool) (d e : Device) → Comes (part terms.setting) s d r s e → Comes (kept terms) s (recalling [] k d) (Err (stops.Directive place causes.FlashFault)) s (recalling [] k e))
        → RunsKept machine kept s m (Err (stops.Directive place causes.FlashFault)) s z
    unkept_runs counts list sources comes = record {
      stays = all_stay;
      counts = counts;
      sources = sources;
      trailed = tt;
      goes = goes_as [] (Err (stops.Directive place causes.FlashFault)) (listed_as [] (λ told. list told ∙ sym (append-nil t.list)))
          (λ terms fits k d e h. subst (λ (l : List Bool). Comes (kept terms) s (recalling [] k d) (Err (stops.Directive place causes.FlashFault)) s (recalling [] l e)) (sym (append-nil k)) (comes terms fits k d e h));
    }

  counts_now : (r : Result (Unit {0}) Stop) → counts_at n ≡ counts_at m.outside → CountsFor causes.FlashFault (counts_at n) (counts_in z) → CountsFor causes.FlashFault (counts_at m.outside) (counts_in z)
  counts_now r same counts = subst (λ (x : Counts). CountsFor causes.FlashFault x (counts_in z)) same counts

  pub runs_free : (r x : Result (Unit {0}) Stop) → RunsPart machine part s m.outside r s n → KeptSo machine place r (stage n t) x z → RunsKept machine kept s m x s z
  runs_free (Ok u) x one so = elim so.end [
    | inl (is, counts, list, trailed) ↦
        subst (λ (y : Result (Unit {0}) Stop). RunsKept machine kept s m y s z) (sym is) (record {
          stays = all_stay (Ok u) x one so;
          counts = counts ∙ one.counts;
          sources = one.sources;
          trailed = trailed;
          goes = goes_as (Ok u) x one so (true ∷ []) (Ok u) (listed_as (Ok u) x one so (true ∷ []) list) (λ terms fits k d e h. free.passed terms k d e h);
        })
    | inr (is, loud, counts, list) ↦
        subst (λ (y : Result (Unit {0}) Stop). RunsKept machine kept s m y s z) (sym is)
        (unkept_runs (Ok u) x one so (counts_now (Ok u) one.counts counts) list one.sources (λ terms fits k d e h. free.late_passed terms (may_fail (Ok u) x one so terms fits loud) k d e h))
  ]
  runs_free (Err (stops.Condition p soft)) x one so = elim so.end [
    | inl (is, counts, list, trailed) ↦
        subst (λ (y : Result (Unit {0}) Stop). RunsKept machine kept s m y s z) (sym is) (record {
          stays = all_stay (Err (stops.Condition p soft)) x one so;
          counts = counts ∙ one.counts;
          sources = one.sources;
          trailed = trailed;
          goes = goes_as (Err (stops.Condition p soft)) x one so (false ∷ []) (Err (stops.Condition p soft)) (listed_as (Err (stops.Condition p soft)) x one so (false ∷ []) list) (λ terms fits k d e h. free.failed terms k d e p soft h);
        })
    | inr (is, loud, counts, list) ↦
        subst (λ (y : Result (Unit {0}) Stop). RunsKept machine kept s m y s z) (sym is)
        (unkept_runs (Err (stops.Condition p soft)) x one so (counts_now (Err (stops.Condition p soft)) one.counts counts) list one.sources (λ terms fits k d e h. free.late_failed terms (may_fail (Err (stops.Condition p soft)) x one so terms fits loud) k d e p soft h))
  ]
  runs_free (Err (stops.Directive p cause)) x one so =
      subst (λ (y : Result (Unit {0}) Stop). RunsKept machine kept s m y s z) (sym so.end.0) (record {
        stays = all_stay (Err (stops.Directive p cause)) x one so;
        counts = subst (λ (c : Counts). StopCounts (Err (stops.Directive p cause)) (counts_at m.outside) c) (sym so.end.1) one.counts;
        sources = one.sources;
        trailed = tt;
        goes = goes_as (Err (stops.Directive p cause)) x one so [] (Err (stops.Directive p cause)) (listed_as (Err (stops.Directive p cause)) x one so [] (λ told. so.end.2 told ∙ sym (append-nil t.list)))
            (λ terms fits k d e h. subst (λ (l : List Bool). Comes (kept terms) s (recalling [] k d) (Err (stops.Directive p cause)) s (recalling [] l e)) (sym (append-nil k)) (free.stopped terms k d e p cause h));
      })

-- ---- keeping changes no content

outside_or : (ranges : List Range) (i : ℕ) → OutsideEach ranges i ⊎ InSome ranges i
outside_or [] i = inl tt
outside_or (r ∷ ranges) i = elim (cases_lt i r.place) [
  | inl lt ↦ elim (outside_or ranges i) [
    | inl out ↦ inl (inl lt, out)
    | inr at ↦ inr (inr at)
  ]
  | inr le ↦ elim (cases_lt i (r.place + r.size)) [
    | inl within ↦ inr (inl (le, within))
    | inr above ↦ elim (outside_or ranges i) [
      | inl out ↦ inl (inr above, out)
      | inr at ↦ inr (inr at)
    ]
  ]
]

clear_of : (ranges : List Range) (start size i : ℕ) → (InSome ranges i → Outside start size i) → start ≤ i → i < start + size → OutsideEach ranges i
clear_of ranges start size i clear lo hi = elim (outside_or ranges i) [
  | inl out ↦ out
  | inr at ↦ elim (clear at) [
    | inl below ↦ absurd (omega (arith, below, lo))
    | inr above ↦ absurd (omega (arith, above, hi))
  ]
]

kept_at_spot : (spot : Spot) (ranges : List Range) (ram : List Held) (f g : Flash) → IsSpot (length f.reads) ram spot → ((i : ℕ) → InSome ranges i → OutsideSpot spot i) → Keeps (OutsideEach ranges) f g
    → content_of spot ram g.reads ≡ content_of spot ram f.reads
kept_at_spot (spots.Flash slot) ranges ram f g fits clear keeps = kept_slot (OutsideEach ranges) slot f g fits (λ i lo hi. clear_of ranges slot.start (extent_of slot) i (clear i) lo hi) keeps
kept_at_spot (spots.Ram c) ranges ram f g fits clear keeps = refl

contents_stay : (standings : List Standing) (size : ℕ) (ranges : List Range) (ram : List Held) (f g : Flash) → AreStandings size ram standings → length f.reads ≡ size → ((i : ℕ) → InSome ranges i → OutsideStandings standings i) → Keeps (OutsideEach ranges) f g
    → contents_of standings ram g.reads ≡ contents_of standings ram f.reads
contents_stay standings size ranges ram f g stand same clear keeps =
    map_same (λ (s : Standing). content_of s.spot ram f.reads) (λ (s : Standing). content_of s.spot ram g.reads) standings
    (λ k d lt. kept_at_spot (get_or standings k d).spot ranges ram f g (subst (λ (n : ℕ). IsSpot n ram (get_or standings k d).spot) (sym same) (stand.each k d lt).spot) (λ i h. clear i h k d lt) keeps)

-- where a step ended so that its outcome is kept, the procedure may go on
pub goes_of : (ended : Result (Unit {0}) Stop) (passed : Bool) (P : Type 0) → outcome_of ended ≡ Some passed → IfGoesOn ended P → P
goes_of (Ok u) passed P e p = p
goes_of (Err (stops.Condition place soft)) passed P e p = p
goes_of (Err (stops.Directive place cause)) passed P e p = absurd cc

module _ (machine : Machine) (s : Stage) (ended : Result (Unit {0}) Stop) (passed : Bool) (is : outcome_of ended ≡ Some passed) (may : IfGoesOn ended (IsTrailed machine s)) where
  there : IsTrailed machine s
  there = goes_of ended passed (IsTrailed machine s) is may

  pub keep_holds : IsTrue s.outside.disk.told → HoldsNow (s.trail.holds s.trail.list) s.outside.disk.flash
  keep_holds told = there.holds told

  pub keep_within : LieWithin s.outside.disk.size s.trail.ranges
  keep_within = there.within

loud : (silent : Bool) → (IsTrue silent → edge.Failed ≡ edge.Done) → IsTrue (not silent)
loud true quiet = let wrong = quiet refl in absurd cc
loud false quiet = refl

-- what a call of the trail says, of what it is given and what it leaves
pub record KeepSays (result : Edge) (passed : Bool) (before after : DiskAt) (t u : TrailAt) : Type 0 where
  pub told : after.told ≡ before.told
  pub size : after.size ≡ before.size
  pub counts : EdgeCounts result before.faults after.faults
  pub left : u.left ≡ []
  pub list : IsTrue t.told → u.list ≡ list_after t.list result passed
  pub holds : IsTrue before.told → IfDone result (HoldsNow (u.holds u.list) after.flash)
  pub keeps : IsTrue before.told → Keeps (OutsideEach t.ranges) before.flash after.flash
  pub grows : IsTrue before.told → Grows before.flash after.flash
  pub told_same : u.told ≡ t.told
  pub silent_same : u.silent ≡ t.silent
  pub room : u.room ≡ t.room
  pub ranges : u.ranges ≡ t.ranges
  pub silent : IsTrue t.silent → result ≡ edge.Done

module _ (machine : Machine) (host : HostAt) (launcher : LauncherAt) (ram : List Held) (before after : DiskAt) (t u : TrailAt) (place : ℕ) (ended : Result (Unit {0}) Stop) (passed : Bool) (ready : IsReady machine before.size ram) where
  abbrev old : Stage
  old = stage (moment host before launcher ram) t

  abbrev new : Stage
  new = stage (moment host after launcher ram) u

  module _ (is : outcome_of ended ≡ Some passed) (law : IsTrue before.told → IsFlash before.flash before.size) (may : IfGoesOn ended (IsTrailed machine old)) (result : Edge) (says : KeepSays result passed before after t u) where
    trailed_now : IsTrailed machine old
    trailed_now = goes_of ended passed (IsTrailed machine old) is may

    keep_stays : StaysKept machine old new
    keep_stays = record {
      outside = record {
        host = refl;
        disk = says.told;
        launcher = refl;
        size = says.size;
        rooms = refl;
        files = λ known. refl;
        asks = λ told room rooms. asks_none (program_tree machine.program.now) machine.uris.now room host.asked;
        keeps = λ told. keeps_fewer (OutsideKept machine t.ranges) (OutsideEach t.ranges) (λ i out. out.1) before.flash after.flash (says.keeps told);
        grows = says.grows;
      };
      told = says.told_same;
      silent = says.silent_same;
      room = says.room;
      ranges = says.ranges;
    }

    keep_contents : IsTrue before.told → contents_of machine.standings.now ram after.flash.reads ≡ contents_of machine.standings.now ram before.flash.reads
    keep_contents told = contents_stay machine.standings.now before.size t.ranges ram before.flash after.flash ready.standings (law told).fits trailed_now.clear (says.keeps told)

    so_with : (x : Result (Unit {0}) Stop) → IsOutcomeKept machine place ended passed old x new → KeptSo machine place ended old x new
    so_with x end = record {
      stays = keep_stays;
      left = says.left;
      contents = keep_contents;
      launches = refl;
      asked = refl;
      end = subst (λ (o : Option Bool). KeptEnd machine place ended o old x new) (sym is) end;
    }

  -- it was kept
  pub keep_done : outcome_of ended ≡ Some passed → (IsTrue before.told → IsFlash before.flash before.size) → IfGoesOn ended (IsTrailed machine old) → KeepSays edge.Done passed before after t u → KeptSo machine place ended old ended new
  keep_done is law may says =
      so_with is law may edge.Done says ended (inl (
        refl,
        ap (λ (n : ℕ). counts_of host.faults n launcher.faults) says.counts,
        says.list,
        record {
          clear = λ i h. (goes_of ended passed (IsTrailed machine old) is may).clear i (subst (λ (rs : List Range). InSome rs i) says.ranges h);
          within = subst (λ (n : ℕ). LieWithin n u.ranges) (sym says.size) (subst (λ (rs : List Range). LieWithin before.size rs) (sym says.ranges) (goes_of ended passed (IsTrailed machine old) is may).within);
          holds = λ told. says.holds (subst IsTrue says.told told);
        },
      ))

  -- it could not be kept
  pub keep_failed : outcome_of ended ≡ Some passed → (IsTrue before.told → IsFlash before.flash before.size) → IfGoesOn ended (IsTrailed machine old) → KeepSays edge.Failed passed before after t u
      → KeptSo machine place ended old (Err (stops.Directive place causes.FlashFault)) new
  keep_failed is law may says =
      so_with is law may edge.Failed says (Err (stops.Directive place causes.FlashFault)) (inr (
        refl,
        loud t.silent says.silent,
        (refl, says.counts, omega arith),
        says.list,
      ))
