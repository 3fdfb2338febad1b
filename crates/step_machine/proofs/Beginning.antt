-- A step of a procedure, from a moment to a later one: what stays, and what the host is asked for.
use Rattle.std.proofs.Common.{◌≡◌, inl, inr, ⊎_elim, ℕ, List, [], ◌++◌, Result, length, refl, sym, ap, subst, ◌∙◌}
use Rattle.std.specs.Prelude.{IsTrue}
use Rattle.std.proofs.lemmas.List.{append-nil}
use Rattle.suit_edge.specs.Flash.{IsFlash}
use Rattle.suit_edge.specs.FlashLaws.{keeps_start, keeps_then, grows_start, grows_then}
use Rattle.step_machine.specs.Programs.{program_tree}
use Rattle.path_model.specs.Behaviour.{State}
use Rattle.path_model.specs.Settings.{Setting}
use Rattle.suit_edge.specs.declared.launch.Launch.{Launch}
use Rattle.path_model.specs.DevicePlays.{Device, Launched}
use Rattle.step_machine.specs.declared.stop.Stop.{Stop}
use Rattle.step_machine.specs.declared.machine.Machine.{Machine}
use Rattle.step_machine.specs.Comes.{Comes}
use Rattle.step_machine.specs.Fetching.{AreGiven, AreRequests, Request, names_of}
use Rattle.step_machine.specs.Running.{Moment, OutsideWritten, Past, Stays, StaysOn, StopCounts, Fits, Part, RunsPart, AreFilesKnown, AreSources, Gained, counts_at, device_at, followed}
use Rattle.step_machine.proofs.Asking.{asks_none, asks_then, unrequested}

-- ---- what stays

-- they are known later, too
pub known_then : (machine : Machine) (a b : Moment) → b.host.told ≡ a.host.told → AreFilesKnown machine a → AreFilesKnown machine b
known_then machine a b same = ⊎_elim (λ told. inl (subst IsTrue (sym same) told)) (λ none. inr none)

pub stays_start : (Left : ℕ → Type 0) (machine : Machine) (m : Moment) → StaysOn Left machine m m
stays_start Left machine m = record {
  host = refl;
  disk = refl;
  launcher = refl;
  size = refl;
  rooms = refl;
  files = λ t. refl;
  asks = λ t room rooms. asks_none (program_tree machine.program.now) machine.uris.now room m.host.asked;
  keeps = λ t. keeps_start Left m.disk.flash;
  grows = λ t. grows_start m.disk.flash;
}

abbrev pub Obeys : Moment → Type 0
Obeys m = IsTrue m.disk.told → IsFlash m.disk.flash m.disk.size

pub stays_then : (Left : ℕ → Type 0) (machine : Machine) (a b c : Moment) → Obeys b → StaysOn Left machine a b → StaysOn Left machine b c → StaysOn Left machine a c
stays_then Left machine a b c law first second = record {
  host = second.host ∙ first.host;
  disk = second.disk ∙ first.disk;
  launcher = second.launcher ∙ first.launcher;
  size = second.size ∙ first.size;
  rooms = second.rooms ∙ first.rooms;
  files = λ known. second.files (known_then machine a b first.host known) ∙ first.files known;
  asks = λ t room rooms. asks_then (program_tree machine.program.now) machine.uris.now room a.host.asked b.host.asked c.host.asked (first.asks t room rooms) (second.asks (subst IsTrue (sym first.host) t) room rooms);
  keeps = λ t.
      let u = subst IsTrue (sym first.disk) t in
      keeps_then Left a.disk.flash b.disk.flash c.disk.flash b.disk.size (law u) (first.keeps t) (second.keeps u);
  grows = λ t.
      let u = subst IsTrue (sym first.disk) t in
      grows_then a.disk.flash b.disk.flash c.disk.flash (first.keeps t).images.later (first.grows t) (second.grows u);
}

-- ---- requests

-- the names are those before
pub no_requests : (machine : Machine) (m n : Moment) → n.host.asked.names ≡ m.host.asked.names → AreRequests m.host.told machine.uris.now m.host.files m.host.asked.names n.host.asked.names []
no_requests machine m n same = unrequested m.host.told machine.uris.now m.host.files m.host.asked.names n.host.asked.names same

abbrev pub gained : List Launch → List Request → Gained
gained launches requests = record { launches = launches; requests = requests }

-- after them nothing was launched, and these were asked for
pub followed_asking : (past : Past) (requests : List Request) → followed past (gained [] requests) ≡ record { launches = past.launches; asked = past.asked ++ names_of requests }
followed_asking past requests = ap (λ (l : List Launched). record { launches = l; asked = past.asked ++ names_of requests }) (append-nil past.launches)

pub followed_quietly : (past : Past) → followed past (gained [] []) ≡ past
followed_quietly past = followed_asking past [] ∙ ap (λ (names : List (List ℕ)). record { launches = past.launches; asked = names }) (append-nil past.asked)

-- no launch is made
pub runs_asking : (machine : Machine) (part : Part) (s : State) (m n : Moment) (r : Result (Unit {0}) Stop) (t : State) → Stays machine m n → StopCounts r (counts_at m) (counts_at n) → AreSources machine t.parameters
    → n.launcher.launches ≡ m.launcher.launches
    → (IsTrue m.disk.told → (requests : List Request) × AreRequests m.host.told machine.uris.now m.host.files m.host.asked.names n.host.asked.names requests
    × ((setting : Setting) → Fits machine setting → (past : Past) → AreGiven setting.files (length past.asked) requests
    → Comes (part setting) s (device_at machine m past) r t (device_at machine n (record { launches = past.launches; asked = past.asked ++ names_of requests })))) → RunsPart machine part s m r t n
runs_asking machine part s m n r t stays counts sources launches comes = record {
  stays = stays;
  counts = counts;
  sources = sources;
  goes = λ disk launcher. let c = comes disk in
      record {
        more = gained [] c.0;
        launches = launches ∙ sym (append-nil m.launcher.launches);
        requests = c.1;
        comes = λ setting fits past given.
            subst (λ (p : Past). Comes (part setting) s (device_at machine m past) r t (device_at machine n p)) (sym (followed_asking past c.0)) (c.2 setting fits past given);
      };
}

-- and nothing is asked for
pub runs_quietly : (machine : Machine) (part : Part) (s : State) (m n : Moment) (r : Result (Unit {0}) Stop) (t : State) → Stays machine m n → StopCounts r (counts_at m) (counts_at n) → AreSources machine t.parameters
    → n.launcher.launches ≡ m.launcher.launches → n.host.asked.names ≡ m.host.asked.names
    → (IsTrue m.disk.told → (setting : Setting) → Fits machine setting → (past : Past) → Comes (part setting) s (device_at machine m past) r t (device_at machine n past)) → RunsPart machine part s m r t n
runs_quietly machine part s m n r t stays counts sources launches asked comes =
    runs_asking machine part s m n r t stays counts sources launches (λ told. (
      [],
      no_requests machine m n asked,
      λ setting fits past given.
          subst (λ (names : List (List ℕ)). Comes (part setting) s (device_at machine m past) r t (device_at machine n (record { launches = past.launches; asked = names }))) (sym (append-nil past.asked)) (comes told setting fits past),
    ))

-- nothing outside changes
pub runs_at_once : (machine : Machine) (part : Part) (s : State) (m : Moment) (r : Result (Unit {0}) Stop) (t : State) → StopCounts r (counts_at m) (counts_at m) → AreSources machine t.parameters
    → ((setting : Setting) (w : Device) → Comes (part setting) s w r t w) → RunsPart machine part s m r t m
runs_at_once machine part s m r t counts sources comes =
    runs_quietly machine part s m m r t (stays_start (OutsideWritten machine) machine m) counts sources refl refl (λ told setting fits past. comes setting (device_at machine m past))
