-- A procedure that has come so far, and goes on or stops there. The outcomes of its free steps are recalled and kept.
use Rattle.std.proofs.Common.{◌≡◌, ◌+◌, inl, ℕ, suc, Bool, List, [], ◌∷◌, ◌++◌, Option, Result, Ok, Err, length, map, refl, sym, ap, subst, ◌∙◌, append_assoc, arith}
use Rattle.std.specs.Prelude.{IsTrue, not}
use Rattle.std.specs.List.{AllByRecursion}
use Rattle.std.proofs.lemmas.List.{append-nil, length-append}
use Rattle.suit_edge.specs.declared.launch.Launch.{Launch}
use Rattle.suit_edge.specs.Ranges.{Range}
use Rattle.path_model.specs.Behaviour.{State}
use Rattle.path_model.specs.DevicePlays.{Launched}
use Rattle.path_model.specs.Plays.{in_turn}
use Rattle.path_model.specs.RecalledPlays.{Recalling}
use Rattle.step_machine.specs.declared.stop.Stop.{Stop}
use Rattle.step_machine.specs.declared.machine.Machine.{Machine}
use Rattle.step_machine.specs.Comes.{Comes}
use Rattle.step_machine.specs.Fetching.{AreGiven, AreRequests, Request, names_of}
use Rattle.step_machine.specs.Invoking.{launched_as}
use Rattle.step_machine.specs.PlanRuns.{Counts}
use Rattle.step_machine.specs.Running.{Moment, Past, StaysOn, StopCounts, Gained, AreSources, followed}
use Rattle.step_machine.specs.Parts.{nothing_part}
use Rattle.step_machine.specs.Stages.{FitsKept, GoesKept, IfGoesOn, IsTrailed, KeptPart, OutsideKept, RunsKept, Stage, StaysKept, Terms, counts_in, world_at}
use Rattle.step_machine.proofs.Beginning.{Obeys, followed_quietly, gained, no_requests, stays_start, stays_then}
use Rattle.step_machine.proofs.Composing.{then_comes, first_stops}

-- ---- what stays

abbrev pub ObeysAt : Stage → Type 0
ObeysAt s = Obeys s.outside

pub kept_start : (machine : Machine) (m : Stage) → StaysKept machine m m
kept_start machine m = record { outside = stays_start (OutsideKept machine m.trail.ranges) machine m.outside; told = refl; silent = refl; room = refl; ranges = refl }

pub kept_then : (machine : Machine) (a b c : Stage) → ObeysAt b → StaysKept machine a b → StaysKept machine b c → StaysKept machine a c
kept_then machine a b c law first second = record {
  outside = stays_then (OutsideKept machine a.trail.ranges) machine a.outside b.outside c.outside law first.outside
      (subst (λ (rs : List Range). StaysOn (OutsideKept machine rs) machine b.outside c.outside) first.ranges second.outside);
  told = second.told ∙ first.told;
  silent = second.silent ∙ first.silent;
  room = second.room ∙ first.room;
  ranges = second.ranges ∙ first.ranges;
}

fits_then : (machine : Machine) (one other : Bool) (terms : Terms) → other ≡ one → FitsKept machine one terms → FitsKept machine other terms
fits_then machine one other terms same fits = record { setting = fits.setting; may_fail = fits.may_fail ∙ ap not (sym same) }

-- ---- parts that run as another does

pub runs_as : (machine : Machine) (p q : KeptPart) (s z : State) (m n : Stage) (r x : Result (Unit {0}) Stop) (t y : State) → RunsKept machine p s m r t n → StopCounts x (counts_in m) (counts_in n) → IfGoesOn x (IsTrailed machine n) → AreSources machine y.parameters
    → ((terms : Terms) (w v : Recalling) → Comes (p terms) s w r t v → Comes (q terms) z w x y v) → RunsKept machine q z m x y n
runs_as machine p q s z m n r x t y one counts trailed sources comes = record {
  stays = one.stays;
  counts = counts;
  sources = sources;
  trailed = trailed;
  goes = λ disk launcher. let g = one.goes disk launcher in
      record { more = g.more; launches = g.launches; requests = g.requests; noted = g.noted; listed = g.listed; comes = λ terms fits past kept given. comes terms _ _ (g.comes terms fits past kept given) };
}

-- nothing outside changes, and nothing is kept
pub runs_at_once : (machine : Machine) (part : KeptPart) (s : State) (m : Stage) (r : Result (Unit {0}) Stop) (t : State) → StopCounts r (counts_in m) (counts_in m) → IfGoesOn r (IsTrailed machine m) → AreSources machine t.parameters
    → ((terms : Terms) (w : Recalling) → Comes (part terms) s w r t w) → RunsKept machine part s m r t m
runs_at_once machine part s m r t counts trailed sources comes = record {
  stays = kept_start machine m;
  counts = counts;
  sources = sources;
  trailed = trailed;
  goes = λ disk launcher. record {
    more = gained [] [];
    launches = sym (append-nil m.outside.launcher.launches);
    requests = no_requests machine m.outside m.outside refl;
    noted = [];
    listed = λ told. sym (append-nil m.trail.list);
    comes = λ terms fits past kept given. subst (λ (v : Recalling). Comes (part terms) s (world_at machine m past kept) r t v) (quietly machine m past kept) (comes terms (world_at machine m past kept));
  };
}
  where
    quietly : (machine : Machine) (m : Stage) (past : Past) (kept : List Bool) → world_at machine m past kept ≡ world_at machine m (followed past (gained [] [])) (kept ++ [])
    quietly machine m past kept =
        ap (λ (p : Past). world_at machine m p kept) (sym (followed_quietly past))
        ∙ ap (world_at machine m (followed past (gained [] []))) (sym (append-nil kept))

-- ---- events before the rest

-- the whole ends as the rest does
pub record Led (machine : Machine) (whole rest : KeptPart) (s0 : State) (m0 : Stage) (s : State) (m : Stage) : Type 0 where
  pub more : Gained
  pub launches : m.outside.launcher.launches ≡ m0.outside.launcher.launches ++ more.launches
  pub requests : AreRequests m0.outside.host.told machine.uris.now m0.outside.host.files m0.outside.host.asked.names m.outside.host.asked.names more.requests
  pub noted : List Bool
  pub listed : IsTrue m0.trail.told → m.trail.list ≡ m0.trail.list ++ noted
  pub leads : (terms : Terms) → FitsKept machine m0.trail.silent terms → (past : Past) (kept : List Bool) → AreGiven terms.setting.files (length past.asked) more.requests
      → (r : Result (Unit {0}) Stop) (t : State) (after : Recalling) → Comes (rest terms) s (world_at machine m (followed past more) (kept ++ noted)) r t after
      → Comes (whole terms) s0 (world_at machine m0 past kept) r t after

pub record Begun (machine : Machine) (whole rest : KeptPart) (s0 : State) (m0 : Stage) (s : State) (m : Stage) : Type 0 where
  pub stays : StaysKept machine m0 m
  pub counts : counts_in m ≡ counts_in m0
  pub sources : AreSources machine s.parameters
  pub trailed : IsTrailed machine m
  pub leads : IsTrue m0.outside.disk.told → IsTrue m0.outside.launcher.told → Led machine whole rest s0 m0 s m

pub begun : (machine : Machine) (whole : KeptPart) (s : State) (m : Stage) → AreSources machine s.parameters → IsTrailed machine m → Begun machine whole whole s m s m
begun machine whole s m sources trailed = record {
  stays = kept_start machine m;
  counts = refl;
  sources = sources;
  trailed = trailed;
  leads = λ disk launcher. record {
    more = gained [] [];
    launches = sym (append-nil m.outside.launcher.launches);
    requests = no_requests machine m.outside m.outside refl;
    noted = [];
    listed = λ told. sym (append-nil m.trail.list);
    leads = λ terms fits past kept given r t after comes.
        subst (λ (p : Past). Comes (whole terms) s (world_at machine m p kept) r t after) (followed_quietly past)
        (subst (λ (l : List Bool). Comes (whole terms) s (world_at machine m (followed past (gained [] [])) l) r t after) (append-nil kept) comes);
  };
}

-- the launches and requests of one after another
abbrev pub joined : Gained → Gained → Gained
joined one other = gained (one.launches ++ other.launches) (one.requests ++ other.requests)

map-append : {A B : Type 0} (f : A → B) (xs ys : List A) → map f (xs ++ ys) ≡ map f xs ++ map f ys
map-append f [] ys = refl
map-append f (x ∷ xs) ys = ap (λ l. f x ∷ l) (map-append f xs ys)

both_after : {A B : Type 0} (f : A → B) (before : List B) (xs ys : List A) → (before ++ map f xs) ++ map f ys ≡ before ++ map f (xs ++ ys)
both_after f before xs ys = append_assoc before (map f xs) (map f ys) ∙ ap (λ l. before ++ l) (sym (map-append f xs ys))

pub followed_both : (past : Past) (one other : Gained) → followed (followed past one) other ≡ followed past (joined one other)
followed_both past one other =
    ap (λ (l : List Launched). record { launches = l; asked = (past.asked ++ names_of one.requests) ++ names_of other.requests }) (both_after launched_as past.launches one.launches other.launches)
    ∙ ap (λ (names : List (List ℕ)). record { launches = past.launches ++ map launched_as (one.launches ++ other.launches); asked = names }) (both_after (λ (r : Request). r.name) past.asked one.requests other.requests)

-- what is given to both is given to each, to the second behind the first
given_each : (files : ℕ → List ℕ → Option (List ℕ)) (number : ℕ) (one other : List Request) → AreGiven files number (one ++ other) → AreGiven files number one × AreGiven files (number + length (names_of one)) other
given_each files number [] other given = (tt, subst (λ (k : ℕ). AreGiven files k other) (omega arith) given)
given_each files number (r ∷ one) other given =
    let rest = given_each files (suc number) one other given.1 in
    ((given.0, rest.0), subst (λ (k : ℕ). AreGiven files k other) (omega arith) rest.1)

pub given_both : (files : ℕ → List ℕ → Option (List ℕ)) (past : Past) (one other : Gained) → AreGiven files (length past.asked) (joined one other).requests
    → AreGiven files (length past.asked) one.requests × AreGiven files (length (followed past one).asked) other.requests
given_both files past one other given =
    let each = given_each files (length past.asked) one.requests other.requests given in
    (each.0, subst (λ (k : ℕ). AreGiven files k other.requests) (sym (length-append past.asked (names_of one.requests))) each.1)

all_of_both : (P : Request → Type 0) (l m : List Request) → AllByRecursion P l → AllByRecursion P m → AllByRecursion P (l ++ m)
all_of_both P [] m first second = second
all_of_both P (x ∷ l) m first second = (first.0, all_of_both P l m first.1 second)

requests_then : (Left : ℕ → Type 0) (machine : Machine) (a b c : Moment) (one other : List Request) → StaysOn Left machine a b
    → AreRequests a.host.told machine.uris.now a.host.files a.host.asked.names b.host.asked.names one
    → AreRequests b.host.told machine.uris.now b.host.files b.host.asked.names c.host.asked.names other
    → AreRequests a.host.told machine.uris.now a.host.files a.host.asked.names c.host.asked.names (one ++ other)
requests_then Left machine a b c one other stays first second = record {
  asked = λ told.
      second.asked (later told) ∙ ap (λ (l : List (List ℕ)). l ++ names_of other) (first.asked told) ∙ both_after (λ (r : Request). r.name) a.host.asked.names one other;
  given = λ told. all_of_both (λ (r : Request). r.given ≡ a.host.files r.name) one other (first.given told)
      (subst (λ (files : List ℕ → Option (List ℕ)). AllByRecursion (λ (r : Request). r.given ≡ files r.name) other) (stays.files (inl told)) (second.given (later told)));
  none = λ none. ap (λ (l : List Request). l ++ other) (first.none none) ∙ second.none none;
}
  where
    later : IsTrue a.host.told → IsTrue b.host.told
    later told = subst IsTrue (sym stays.host) told

launches_then : (a b c : Moment) (one other : List Launch) → b.launcher.launches ≡ a.launcher.launches ++ one → c.launcher.launches ≡ b.launcher.launches ++ other → c.launcher.launches ≡ a.launcher.launches ++ (one ++ other)
launches_then a b c one other first second = second ∙ ap (λ (l : List Launch). l ++ other) first ∙ append_assoc a.launcher.launches one other

listed_then : (a b c one other : List Bool) → b ≡ a ++ one → c ≡ b ++ other → c ≡ a ++ (one ++ other)
listed_then a b c one other first second = second ∙ ap (λ (l : List Bool). l ++ other) first ∙ append_assoc a one other

module _ (machine : Machine) (whole rest : KeptPart) (s0 : State) (m0 : Stage) (s : State) (m : Stage) (stays : StaysKept machine m0 m) (led : Led machine whole rest s0 m0 s m) where
  -- the rest goes to its end, and so does the whole
  led_last : (r : Result (Unit {0}) Stop) (t : State) (n : Stage) → GoesKept machine rest s m r t n → GoesKept machine whole s0 m0 r t n
  led_last r t n last = record {
    more = joined led.more last.more;
    launches = launches_then m0.outside m.outside n.outside led.more.launches last.more.launches led.launches last.launches;
    requests = requests_then (OutsideKept machine m0.trail.ranges) machine m0.outside m.outside n.outside led.more.requests last.more.requests stays.outside led.requests last.requests;
    noted = led.noted ++ last.noted;
    listed = λ told. listed_then m0.trail.list m.trail.list n.trail.list led.noted last.noted (led.listed told) (last.listed (subst IsTrue (sym stays.told) told));
    comes = λ terms fits past kept given.
        let each = given_both terms.setting.files past led.more last.more given in
        led.leads terms fits past kept each.0 r t (world_at machine n (followed past (joined led.more last.more)) (kept ++ (led.noted ++ last.noted)))
        (subst (λ (l : List Bool). Comes (rest terms) s (world_at machine m (followed past led.more) (kept ++ led.noted)) r t (world_at machine n (followed past (joined led.more last.more)) l)) (append_assoc kept led.noted last.noted)
        (subst (λ (p : Past). Comes (rest terms) s (world_at machine m (followed past led.more) (kept ++ led.noted)) r t (world_at machine n p ((kept ++ led.noted) ++ last.noted))) (followed_both past led.more last.more)
        (last.comes terms (fits_then machine m0.trail.silent m.trail.silent terms stays.silent fits) (followed past led.more) (kept ++ led.noted) each.1)));
  }

  -- a part of it goes to its end, and the second is left
  led_then : (first second : KeptPart) (z y : State) (r : Result (Unit {0}) Stop) (t : State) (n : Stage) → GoesKept machine first z m r t n
      → ((terms : Terms) (w v : Recalling) → Comes (first terms) z w r t v → (q : Result (Unit {0}) Stop) (x : State) (after : Recalling) → Comes (second terms) y v q x after → Comes (rest terms) s w q x after)
      → Led machine whole second s0 m0 y n
  led_then first second z y r t n one comes = record {
    more = joined led.more one.more;
    launches = launches_then m0.outside m.outside n.outside led.more.launches one.more.launches led.launches one.launches;
    requests = requests_then (OutsideKept machine m0.trail.ranges) machine m0.outside m.outside n.outside led.more.requests one.more.requests stays.outside led.requests one.requests;
    noted = led.noted ++ one.noted;
    listed = λ told. listed_then m0.trail.list m.trail.list n.trail.list led.noted one.noted (led.listed told) (one.listed (subst IsTrue (sym stays.told) told));
    leads = λ terms fits past kept given q x after rest_comes.
        let each = given_both terms.setting.files past led.more one.more given in
        led.leads terms fits past kept each.0 q x after
        (comes terms (world_at machine m (followed past led.more) (kept ++ led.noted)) (world_at machine n (followed (followed past led.more) one.more) ((kept ++ led.noted) ++ one.noted))
        (one.comes terms (fits_then machine m0.trail.silent m.trail.silent terms stays.silent fits) (followed past led.more) (kept ++ led.noted) each.1) q x after
        (subst (λ (l : List Bool). Comes (second terms) y (world_at machine n (followed (followed past led.more) one.more) l) q x after) (sym (append_assoc kept led.noted one.noted))
        (subst (λ (p : Past). Comes (second terms) y (world_at machine n p (kept ++ (led.noted ++ one.noted))) q x after) (sym (followed_both past led.more one.more)) rest_comes)));
  }

module _ (machine : Machine) (whole rest : KeptPart) (s0 : State) (m0 : Stage) (s : State) (m : Stage) (law : ObeysAt m) (b : Begun machine whole rest s0 m0 s m) where
  -- the rest runs, and so does the whole
  pub runs_last : (r : Result (Unit {0}) Stop) (t : State) (n : Stage) → RunsKept machine rest s m r t n → RunsKept machine whole s0 m0 r t n
  runs_last r t n last = record {
    stays = kept_then machine m0 m n law b.stays last.stays;
    counts = subst (λ (x : Counts). StopCounts r x (counts_in n)) b.counts last.counts;
    sources = last.sources;
    trailed = last.trailed;
    goes = λ disk launcher.
        led_last machine whole rest s0 m0 s m b.stays (b.leads disk launcher) r t n (last.goes (subst IsTrue (sym b.stays.outside.disk) disk) (subst IsTrue (sym b.stays.outside.launcher) launcher));
  }

-- a part runs, and then others are left
pub begun_after : (machine : Machine) (whole first rest second : KeptPart) (s0 : State) (m0 : Stage) (s : State) (m : Stage) → ObeysAt m → Begun machine whole rest s0 m0 s m
    → (z : State) (r : Result (Unit {0}) Stop) (t y : State) (n : Stage) → RunsKept machine first z m r t n → counts_in n ≡ counts_in m → IsTrailed machine n → AreSources machine y.parameters
    → ((terms : Terms) (w v : Recalling) → Comes (first terms) z w r t v → (q : Result (Unit {0}) Stop) (x : State) (after : Recalling) → Comes (second terms) y v q x after → Comes (rest terms) s w q x after)
    → Begun machine whole second s0 m0 y n
begun_after machine whole first rest second s0 m0 s m law b z r t y n one counts trailed sources comes = record {
  stays = kept_then machine m0 m n law b.stays one.stays;
  counts = counts ∙ b.counts;
  sources = sources;
  trailed = trailed;
  leads = λ disk launcher.
      led_then machine whole rest s0 m0 s m b.stays (b.leads disk launcher) first second z y r t n
      (one.goes (subst IsTrue (sym b.stays.outside.disk) disk) (subst IsTrue (sym b.stays.outside.launcher) launcher)) comes;
}

abbrev pub then_part : KeptPart → KeptPart → KeptPart
then_part first second terms = in_turn Recalling (first terms) (second terms)

module _ (machine : Machine) (whole first second : KeptPart) (s0 : State) (m0 : Stage) (s : State) (m : Stage) (law : ObeysAt m) (b : Begun machine whole (then_part first second) s0 m0 s m) where
  -- the first is stopped, and so is the whole
  pub runs_stopped : (stop : Stop) (t : State) (n : Stage) → RunsKept machine first s m (Err stop) t n → RunsKept machine whole s0 m0 (Err stop) t n
  runs_stopped stop t n one =
      runs_last machine whole (then_part first second) s0 m0 s m law b (Err stop) t n
      (runs_as machine first (then_part first second) s s m n (Err stop) (Err stop) t t one one.counts one.trailed one.sources (λ terms w v h. first_stops (first terms) (second terms) s w stop t v h))

  -- the first is done
  pub begun_then : (u : Unit {0}) (t : State) (n : Stage) → RunsKept machine first s m (Ok u) t n → Begun machine whole second s0 m0 t n
  begun_then u t n one =
      begun_after machine whole first (then_part first second) second s0 m0 s m law b s (Ok u) t t n one one.counts one.trailed one.sources
      (λ terms w v h r x after comes. then_comes (first terms) (second terms) s t w v h.0 h.1 r x after comes)

-- nothing is left
pub runs_done : (machine : Machine) (whole : KeptPart) (s0 : State) (m0 : Stage) (s : State) (m : Stage) (u : Unit {0}) → ObeysAt m → Begun machine whole nothing_part s0 m0 s m → RunsKept machine whole s0 m0 (Ok u) s m
runs_done machine whole s0 m0 s m u law b =
    runs_last machine whole nothing_part s0 m0 s m law b (Ok u) s m (runs_at_once machine nothing_part s m (Ok u) s refl b.trailed b.sources (λ terms w. (refl, refl)))

-- ---- one part after another

pub next : {machine : Machine} {whole first : KeptPart} {s0 s t : State} {m0 m n : Stage} {u : Unit {0}} (second : KeptPart) → Begun machine whole (then_part first second) s0 m0 s m → ObeysAt m → RunsKept machine first s m (Ok u) t n → Begun machine whole second s0 m0 t n
next {machine} {whole} {first} {s0} {s} {t} {m0} {m} {n} {u} second b law one = begun_then machine whole first second s0 m0 s m law b u t n one

pub stops_there : {machine : Machine} {whole first : KeptPart} {s0 s t : State} {m0 m n : Stage} {stop : Stop} (second : KeptPart) → Begun machine whole (then_part first second) s0 m0 s m → ObeysAt m → RunsKept machine first s m (Err stop) t n → RunsKept machine whole s0 m0 (Err stop) t n
stops_there {machine} {whole} {first} {s0} {s} {t} {m0} {m} {n} {stop} second b law one = runs_stopped machine whole first second s0 m0 s m law b stop t n one

pub ends_there : {machine : Machine} {whole rest : KeptPart} {s0 s t : State} {m0 m n : Stage} {r : Result (Unit {0}) Stop} → Begun machine whole rest s0 m0 s m → ObeysAt m → RunsKept machine rest s m r t n → RunsKept machine whole s0 m0 r t n
ends_there {machine} {whole} {rest} {s0} {s} {t} {m0} {m} {n} {r} b law last = runs_last machine whole rest s0 m0 s m law b r t n last
