-- Two contents that have changed, and the rest of flash and memory stayed.
use Rattle.std.proofs.Common.{◌≡◌, ◌≢◌, ◌≤◌, ◌<◌, ◌+◌, ℕ, zero, suc, List, [], ◌∷◌, None, Err, length, get_or, set, map, refl, sym, ap, subst, ◌∙◌, arith, get_or-set_other}
use Rattle.std.specs.Prelude.{IsTrue}
use Rattle.suit_edge.specs.Flash.{Flash, Grows, Keeps}
use Rattle.suit_edge.specs.FlashLaws.{keeps_fewer}
use Rattle.suit_params.specs.declared.param.ParamKey.TheVariants as keys
use Rattle.suit_params.specs.InForce.{in_force, number_of}
use Rattle.step_machine.specs.Programs.{program_tree}
use Rattle.suit_commands.specs.declared.kinds.ActKind.TheVariants as acts
use Rattle.path_model.specs.declared.cause.Cause.TheVariants as causes
use Rattle.path_model.specs.declared.event.Event.TheVariants.{Wrote}
use Rattle.path_model.specs.Behaviour.{State}
use Rattle.path_model.specs.Plays.{Outcome}
use Rattle.path_model.specs.DevicePlays.{Device, with_content, acted, copied, swapped}
use Rattle.flash_layout.specs.declared.slot.Slot.{Slot}
use Rattle.flash_slots.specs.RamContents.{Held, held_by}
use Rattle.step_machine.specs.declared.spot.Spot.{Spot}
use Rattle.step_machine.specs.declared.spot.Spot.TheVariants as spots
use Rattle.step_machine.specs.declared.spot.Standing.{Standing}
use Rattle.step_machine.specs.declared.stop.Stop.TheVariants as stops
use Rattle.step_machine.specs.declared.machine.Machine.{Machine}
use Rattle.step_machine.specs.Allowing.{MayWrite}
use Rattle.step_machine.specs.Copying.{IsRamButBoth, OutsideBoth}
use Rattle.step_machine.specs.Devices.{AreSpotsClear, IsApart}
use Rattle.step_machine.specs.PlanRuns.{OutsideTargets}
use Rattle.step_machine.specs.Parts.{act_part}
use Rattle.step_machine.specs.Running.{AreFilesKnown, Moment, Past, Stays, RunsPart, IsReady, AreSources, device_at}
use Rattle.step_machine.specs.Spots.{content_of, IsSpot, OutsideSpot, IsRamBut}
use Rattle.step_machine.proofs.Asking.{asks_same}
use Rattle.step_machine.proofs.Leaves.{no_standing, same_rooms}
use Rattle.step_machine.proofs.Lifting.{clear_outside, kept_slot, map_same, map_but}
use Rattle.step_machine.proofs.Beginning.{runs_at_once}

ram_content : (a b : Spot) (ram after : List Held) (reads : List ℕ) → AreSpotsClear a b → IsRamBut a ram after → content_of b after reads ≡ content_of b ram reads
ram_content (spots.Flash x) (spots.Flash y) ram after reads clear but = refl
ram_content (spots.Flash x) (spots.Ram j) ram after reads clear but = ap (λ (r : List Held). (held_by r j).content) but
ram_content (spots.Ram i) (spots.Flash y) ram after reads clear but = refl
ram_content (spots.Ram i) (spots.Ram j) ram after reads clear (content, is) =
    ap (λ (r : List Held). (held_by r j).content) is
    ∙ ap (λ (h : Held). h.content) (get_or-set_other ram i j (record { capacity = (held_by ram i).capacity; content = content }) (record { capacity = 0; content = [] }) clear)

outside_clear : (a : Spot) (slot : Slot) (i : ℕ) → AreSpotsClear a (spots.Flash slot) → slot.start ≤ i → i < slot.start + (8 + slot.capacity) → OutsideSpot a i
outside_clear (spots.Flash x) slot i clear lo hi = clear_outside x.start (8 + x.capacity) slot.start (8 + slot.capacity) clear i lo hi
outside_clear (spots.Ram j) slot i clear lo hi = tt

reads_content : (a b x : Spot) (ram : List Held) (f g : Flash) → AreSpotsClear a x → AreSpotsClear b x → IsSpot (length f.reads) ram x → Keeps (OutsideBoth a b) f g
    → content_of x ram g.reads ≡ content_of x ram f.reads
reads_content a b (spots.Flash slot) ram f g one other fits kept =
    kept_slot (OutsideBoth a b) slot f g fits (λ i lo hi. (outside_clear a slot i one lo hi, outside_clear b slot i other lo hi)) kept
reads_content a b (spots.Ram j) ram f g one other fits kept = refl

kept_by_both : (a b x : Spot) (ram after : List Held) (f g : Flash) → AreSpotsClear a x → AreSpotsClear b x → IsSpot (length f.reads) ram x → IsRamButBoth a b ram after → Keeps (OutsideBoth a b) f g
    → content_of x after g.reads ≡ content_of x ram f.reads
kept_by_both a b x ram after f g one other fits (middle, first, second) kept =
    ram_content b x middle after g.reads other second ∙ ram_content a x ram middle g.reads one first ∙ reads_content a b x ram f g one other fits kept

module _ {A B : Type 0} (f g : A → B) where
  map_two : (l : List A) (i j : ℕ) (d : A) → i < length l → j < length l → ((k : ℕ) (e : A) → k < length l → k ≢ i → k ≢ j → g (get_or l k e) ≡ f (get_or l k e))
      → map g l ≡ set (set (map f l) i (g (get_or l i d))) j (g (get_or l j d))
  map_two [] i j d lt below same = absurd (omega (arith, lt))
  map_two (x ∷ l) zero zero d lt below same =
      ap (λ (ys : List B). g x ∷ ys) (map_same f g l (λ k e under. same (suc k) e (omega (arith, under)) (omega arith) (omega arith)))
  map_two (x ∷ l) zero (suc j) d lt below same =
      ap (λ (ys : List B). g x ∷ ys) (map_but f g l j d (omega (arith, below)) (λ k e under other. same (suc k) e (omega (arith, under)) (omega arith) (omega (arith, other))))
  map_two (x ∷ l) (suc i) zero d lt below same =
      ap (λ (ys : List B). g x ∷ ys) (map_but f g l i d (omega (arith, lt)) (λ k e under other. same (suc k) e (omega (arith, under)) (omega (arith, other)) (omega arith)))
  map_two (x ∷ l) (suc i) (suc j) d lt below same =
      let here : g x ≡ f x = same 0 x (omega arith) (omega arith) (omega arith) in
      let rest = map_two l i j d (omega (arith, lt)) (omega (arith, below)) (λ k e under one other. same (suc k) e (omega (arith, under)) (omega (arith, one)) (omega (arith, other))) in
      ap (λ (y : B). y ∷ map g l) here ∙ ap (λ (ys : List B). f x ∷ ys) rest

same_at : (l : List Standing) (i : ℕ) (e d : Standing) → i < length l → get_or l i e ≡ get_or l i d
same_at [] i e d lt = absurd (omega (arith, lt))
same_at (x ∷ l) zero e d lt = refl
same_at (x ∷ l) (suc i) e d lt = same_at l i e d (omega (arith, lt))

module _ (machine : Machine) (m n : Moment) (i j : ℕ) (d : Standing) (lt : i < length machine.standings.now) (below : j < length machine.standings.now) (ready : IsReady machine m.disk.size m.ram)
    (but : IsRamButBoth (get_or machine.standings.now i d).spot (get_or machine.standings.now j d).spot m.ram n.ram) where
  clear_of : (k x : ℕ) (e : Standing) → k < length machine.standings.now → x < length machine.standings.now → x ≢ k → AreSpotsClear (get_or machine.standings.now k d).spot (get_or machine.standings.now x e).spot
  clear_of k x e under inside other =
      subst (λ (s : Standing). AreSpotsClear s.spot (get_or machine.standings.now x e).spot) (same_at machine.standings.now k e d under)
      (ready.standings.apart k under x e inside other)

  pub two_device : length m.disk.flash.reads ≡ m.disk.size → Keeps (OutsideBoth (get_or machine.standings.now i d).spot (get_or machine.standings.now j d).spot) m.disk.flash n.disk.flash → (past : Past)
      → with_content (with_content (device_at machine m past) i (content_of (get_or machine.standings.now i d).spot n.ram n.disk.flash.reads)) j (content_of (get_or machine.standings.now j d).spot n.ram n.disk.flash.reads)
      ≡ device_at machine n past
  two_device size keeps past =
      ap (λ (l : List (List ℕ)). record { contents = l; launches = past.launches; asked = past.asked })
      (sym (map_two (λ (s : Standing). content_of s.spot m.ram m.disk.flash.reads) (λ (s : Standing). content_of s.spot n.ram n.disk.flash.reads) machine.standings.now i j d lt below
      (λ k e under one other.
      kept_by_both (get_or machine.standings.now i d).spot (get_or machine.standings.now j d).spot (get_or machine.standings.now k e).spot m.ram n.ram m.disk.flash n.disk.flash
      (clear_of i k e lt under one) (clear_of j k e below under other)
      (subst (λ (x : ℕ). IsSpot x m.ram (get_or machine.standings.now k e).spot) (sym size) (ready.standings.each k e under).spot) but keeps)))

  pub two_stay : n.host.told ≡ m.host.told → n.disk.told ≡ m.disk.told → n.launcher.told ≡ m.launcher.told → n.disk.size ≡ m.disk.size → (AreFilesKnown machine m → n.host.files ≡ m.host.files) → n.host.asked ≡ m.host.asked → MayWrite machine i → MayWrite machine j
      → (IsTrue m.disk.told → Keeps (OutsideBoth (get_or machine.standings.now i d).spot (get_or machine.standings.now j d).spot) m.disk.flash n.disk.flash) → (IsTrue m.disk.told → Grows m.disk.flash n.disk.flash) → Stays machine m n
  two_stay host disk launcher size files asked may other keeps grows = record {
    host = host;
    disk = disk;
    launcher = launcher;
    size = size;
    rooms = same_rooms (get_or machine.standings.now j d).spot but.0 n.ram but.2 ∙ same_rooms (get_or machine.standings.now i d).spot m.ram but.0 but.1;
    files = files;
    asks = λ t room rooms. asks_same (program_tree machine.program.now) machine.uris.now room m.host.asked n.host.asked asked;
    keeps = λ t. keeps_fewer (OutsideTargets (program_tree machine.program.now) machine.standings.now) (OutsideBoth (get_or machine.standings.now i d).spot (get_or machine.standings.now j d).spot) (λ x out. (out i d lt may, out j d below other)) m.disk.flash n.disk.flash (keeps t);
    grows = grows;
  }

pub apart_here : (standings : List Standing) (i j : ℕ) → i < length standings → IsApart standings i → j < length standings → j ≢ i → AreSpotsClear (get_or standings i no_standing).spot (get_or standings j no_standing).spot
apart_here standings i j lt apart below other = apart j no_standing below other

-- ---- without a source

pub copy_missing : (machine : Machine) (p c : ℕ) (s : State) (m : Moment) → AreSources machine s.parameters → number_of (in_force s.parameters c keys.Source) ≡ None → RunsPart machine (act_part acts.Copy p c) s m (Err (stops.Directive p causes.Missing)) s m
copy_missing machine p c s m sources none =
    runs_at_once machine (act_part acts.Copy p c) s m (Err (stops.Directive p causes.Missing)) s refl sources
    (λ setting w. let is = ap (acted p (λ source. Wrote c ∷ []) (λ source. copied setting c source) s w) none in
    record { ending = ap (λ (o : Outcome Device). o.ending) is; named = ap (λ (o : Outcome Device). o.cause) is; world = ap (λ (o : Outcome Device). o.world) is })

pub swap_missing : (machine : Machine) (p c : ℕ) (s : State) (m : Moment) → AreSources machine s.parameters → number_of (in_force s.parameters c keys.Source) ≡ None → RunsPart machine (act_part acts.Swap p c) s m (Err (stops.Directive p causes.Missing)) s m
swap_missing machine p c s m sources none =
    runs_at_once machine (act_part acts.Swap p c) s m (Err (stops.Directive p causes.Missing)) s refl sources
    (λ setting w. let is = ap (acted p (λ source. Wrote c ∷ Wrote source ∷ []) (λ source. swapped setting c source) s w) none in
    record { ending = ap (λ (o : Outcome Device). o.ending) is; named = ap (λ (o : Outcome Device). o.cause) is; world = ap (λ (o : Outcome Device). o.world) is })
