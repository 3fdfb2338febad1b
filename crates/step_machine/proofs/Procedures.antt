-- A whole procedure.
use Rattle.std.proofs.Common.{◌≡◌, ℕ, zero, suc, Bool, true, false, List, [], ◌∷◌, ◌++◌, Option, Some, None, Result, Ok, Err, replicate, refl, sym, ap, subst, ◌∙◌, inl, inr, ⊎_elim}
use Rattle.std.specs.Prelude.{IsTrue, slice_get}
use Rattle.std.specs.List.{AllByRecursion}
use Rattle.suit_params.specs.declared.param.Param.{Param}
use Rattle.suit_params.specs.declared.param.ParamKey.TheVariants as keys
use Rattle.suit_params.specs.InForce.{bytes_of, in_force, number_of, none_in_force, held_at, cell}
use Rattle.suit_commands.specs.Allowed.{IsPlan}
use Rattle.step_machine.specs.Programs.{part_tree, program_tree}
use Rattle.suit_commands.specs.Indexed.{AreIndexed}
use Rattle.suit_commands.specs.Targets.{InSome, Sources, Swaps, Writes}
use Rattle.suit_commands.specs.Touches.{HasAct}
use Rattle.suit_commands.specs.declared.kinds.ActKind.TheVariants as acts
use Rattle.suit_commands.specs.Tree.{PlanTree, SequenceTree, NoSteps}
use Rattle.suit_commands.proofs.IndexedSteps.{member_indexed, shared_indexed}
use Rattle.path_model.specs.Behaviour.{State}
use Rattle.path_model.specs.Path.{start_state, first_state}
use Rattle.path_model.specs.Settings.{steady}
use Rattle.step_machine.specs.declared.machine.Machine.{Machine}
use Rattle.step_machine.specs.declared.program.Program.{Program}
use Rattle.step_machine.specs.declared.plan_end.PlanEnd.{PlanEnd}
use Rattle.step_machine.specs.declared.spot.Standing.{Standing}
use Rattle.step_machine.specs.declared.stop.Stop.{Stop}
use Rattle.step_machine.specs.declared.stop.Stop.TheVariants as stops
use Rattle.step_machine.specs.Allowing.{AllowsSequence}
use Rattle.step_machine.specs.UrisSet.{Sets}
use Rattle.step_machine.specs.Devices.{contents_of}
use Rattle.step_machine.specs.Fetching.{AreGiven, AreRequests, Request, names_of}
use Rattle.step_machine.specs.Parts.{sequence_part, starting_part, plan_part}
use Rattle.step_machine.specs.PlanRuns.{Counts, EndCounts, GivesAs, end_of}
use Rattle.step_machine.specs.KeptRuns.{KeptAt, PlaysKept, kept_at}
use Rattle.step_machine.specs.Running.{Past, StopCounts, AreSources}
use Rattle.step_machine.specs.Stages.{FitsKept, GoesKept, IsTrailed, KeptPart, RunsKept, Stage, Terms}
use Rattle.step_machine.proofs.Going.{Begun, begun, runs_as, runs_at_once, then_part}
use Rattle.step_machine.proofs.Parting.{comes_same}

-- ---- the permissions of its sequences

allows_placed : (machine : Machine) (sequence : SequenceTree) → AreIndexed machine.program.now.count sequence → ((has : SequenceTree → Type 0) → has sequence → InSome (program_tree machine.program.now) has) → AllowsSequence machine sequence (0 ∷ [])
allows_placed machine sequence indexed place = record {
  indexed = indexed;
  writes = λ c w. inl (place (λ s. Writes s machine.program.now.count (0 ∷ []) c) w);
  swaps = λ w. place Swaps w;
  fetches = λ w. place (HasAct acts.Fetch) w;
  sources = λ c w. place (λ s. Sources s c) w;
  uris = λ u w. place (λ s. Sets s u) w;
}

module _ (machine : Machine) (is : IsPlan (program_tree machine.program.now)) where
  pub allows_shared : AllowsSequence machine (program_tree machine.program.now).shared (0 ∷ [])
  allows_shared = allows_placed machine (program_tree machine.program.now).shared (shared_indexed machine.program.now.count (program_tree machine.program.now).shared is.shared) (λ has w. inl w)

  pub allows_first : AllowsSequence machine (program_tree machine.program.now).first (0 ∷ [])
  allows_first = allows_placed machine (program_tree machine.program.now).first (member_indexed machine.program.now.count (program_tree machine.program.now).first is.first) (λ has w. inr (inl w))

  pub allows_second : AllowsSequence machine (program_tree machine.program.now).second (0 ∷ [])
  allows_second = allows_placed machine (program_tree machine.program.now).second (member_indexed machine.program.now.count (program_tree machine.program.now).second is.second) (λ has w. inr (inr (inl w)))

  pub allows_third : AllowsSequence machine (program_tree machine.program.now).third (0 ∷ [])
  allows_third = allows_placed machine (program_tree machine.program.now).third (member_indexed machine.program.now.count (program_tree machine.program.now).third is.third) (λ has w. inr (inr (inr w)))

-- ---- one after another

abbrev pub shared_part : Machine → KeptPart
shared_part machine = starting_part (program_tree machine.program.now).shared machine.program.now.count

-- the parts after the first so many
abbrev pub left_5 : Machine → KeptPart
left_5 machine = starting_part (program_tree machine.program.now).third machine.program.now.count

abbrev pub left_4 : Machine → KeptPart
left_4 machine = then_part (shared_part machine) (left_5 machine)

abbrev pub left_3 : Machine → KeptPart
left_3 machine = then_part (starting_part (program_tree machine.program.now).second machine.program.now.count) (left_4 machine)

abbrev pub left_2 : Machine → KeptPart
left_2 machine = then_part (shared_part machine) (left_3 machine)

abbrev pub left_1 : Machine → KeptPart
left_1 machine = then_part (starting_part (program_tree machine.program.now).first machine.program.now.count) (left_2 machine)

pub members_begun : (machine : Machine) (s : State) (m : Stage) → AreSources machine s.parameters → IsTrailed machine m → Begun machine (plan_part (program_tree machine.program.now)) (then_part (shared_part machine) (left_1 machine)) s m s m
members_begun machine s m sources trailed = begun machine (plan_part (program_tree machine.program.now)) s m sources trailed

-- ---- one of them

pub runs_started : (machine : Machine) (sequence : SequenceTree) (count : ℕ) (s : State) (m : Stage) (r : Result (Unit {0}) Stop) (t : State) (n : Stage)
    → RunsKept machine (sequence_part sequence count) (start_state s) m r t n → RunsKept machine (starting_part sequence count) s m r t n
runs_started machine sequence count s m r t n one =
    runs_as machine (sequence_part sequence count) (starting_part sequence count) (start_state s) s m n r r t t one one.counts one.trailed one.sources
    (λ terms w v h. comes_same (sequence_part sequence count terms) (starting_part sequence count terms) (start_state s) s w refl (λ o cut. cut) r t v h)

pub runs_absent : (machine : Machine) (count : ℕ) (s : State) (m : Stage) → AreSources machine s.parameters → IsTrailed machine m → RunsKept machine (starting_part NoSteps count) s m (Ok tt) (start_state s) m
runs_absent machine count s m sources trailed =
    runs_at_once machine (starting_part NoSteps count) s m (Ok tt) (start_state s) refl trailed sources (λ terms w. (refl, refl))

pub lent_as : (machine : Machine) (x y : Option SequenceTree) → x ≡ y → (s : State) (m : Stage) (r : Result (Unit {0}) Stop) (t : State) (n : Stage)
    → RunsKept machine (starting_part (part_tree y) machine.program.now.count) s m r t n → RunsKept machine (starting_part (part_tree x) machine.program.now.count) s m r t n
lent_as machine x y is s m r t n runs =
    subst (λ (o : Option SequenceTree). RunsKept machine (starting_part (part_tree o) machine.program.now.count) s m r t n) (sym is) runs

pub part_as : (machine : Machine) (x : Option SequenceTree) (tree : SequenceTree) → part_tree x ≡ tree → (s : State) (m : Stage) (r : Result (Unit {0}) Stop) (t : State) (n : Stage)
    → RunsKept machine (starting_part (part_tree x) machine.program.now.count) s m r t n → RunsKept machine (starting_part tree machine.program.now.count) s m r t n
part_as machine x tree is s m r t n runs =
    subst (λ (o : SequenceTree). RunsKept machine (starting_part o machine.program.now.count) s m r t n) is runs

-- the sequences of a program that is lent again are those of the program
pub shared_is : (program now : Program) (x : Option SequenceTree) → x ≡ program.shared → program ≡ now → part_tree x ≡ (program_tree now).shared
shared_is program now x is same = ap part_tree (is ∙ ap (λ (p : Program). p.shared) same)

pub first_is : (program now : Program) → program ≡ now → part_tree program.first ≡ (program_tree now).first
first_is program now same = ap (λ (p : Program). part_tree p.first) same

pub second_is : (program now : Program) → program ≡ now → part_tree program.second ≡ (program_tree now).second
second_is program now same = ap (λ (p : Program). part_tree p.second) same

pub third_is : (program now : Program) → program ≡ now → part_tree program.third ≡ (program_tree now).third
third_is program now same = ap (λ (p : Program). part_tree p.third) same

-- ---- at first

nothing_held : (n i : ℕ) → held_at (slice_get (replicate {A = Option Param} n None) i) ≡ None
nothing_held zero i = refl
nothing_held (suc n) zero = refl
nothing_held (suc n) (suc i) = nothing_held n i

pub no_sources : (machine : Machine) → AreSources machine none_in_force
unfolding none_in_force
no_sources machine = record {
  components = λ component source few named.
      let none : in_force none_in_force component keys.Source ≡ None = nothing_held 96 (cell component keys.Source) in
      let wrong : None ≡ Some source = sym (ap number_of none) ∙ named in
      absurd cc;
  uris = λ component uri few named.
      let none : in_force none_in_force component keys.Uri ≡ None = nothing_held 96 (cell component keys.Uri) in
      let wrong : None ≡ Some uri = sym (ap bytes_of none) ∙ named in
      absurd cc;
}

-- ---- its end

pub end_counts : (r : Result (Unit {0}) Stop) (a b : Counts) → StopCounts r a b → EndCounts (end_of r) a b
end_counts (Ok u) a b h = h
end_counts (Err (stops.Condition place soft)) a b h = h
end_counts (Err (stops.Directive place cause)) a b h = h

nothing_past : Past
nothing_past = record { launches = []; asked = [] }

-- the contents of these components at a stage
abbrev pub held_at_stage : List Standing → Stage → KeptAt
held_at_stage standings m = kept_at (contents_of standings m.outside.ram m.outside.disk.flash.reads) m.trail.left

abbrev pub PlaysAt : PlanTree → Terms → PlanEnd → List Standing → Stage → Stage → Type 0
PlaysAt plan terms end standings m n = PlaysKept plan terms end (held_at_stage standings m) (held_at_stage standings n) m.outside.launcher.launches n.outside.launcher.launches

module _ (machine : Machine) (m n : Stage) (t : State) (terms : Terms) (fits : FitsKept machine m.trail.silent terms) where
  pub plan_plays : (r : Result (Unit {0}) Stop) (goes : GoesKept machine (plan_part (program_tree machine.program.now)) first_state m r t n) → AreGiven terms.setting.files 0 goes.more.requests
      → (p : PlaysAt (program_tree machine.program.now) terms (end_of r) machine.standings.now m n) × (p.asks ≡ names_of goes.more.requests) × (p.noted ≡ goes.noted)
  unfolding nothing_past
  plan_plays (Ok u) goes given =
      let comes = goes.comes terms fits nothing_past [] given in
      (record { gained = goes.more.launches; added = goes.launches; asks = names_of goes.more.requests; noted = goes.noted; ends = (t, comes.0, comes.1) }, refl, refl)
  plan_plays (Err (stops.Condition place soft)) goes given =
      let comes = goes.comes terms fits nothing_past [] given in
      (record { gained = goes.more.launches; added = goes.launches; asks = names_of goes.more.requests; noted = goes.noted; ends = (soft, comes.0, comes.1) }, refl, refl)
  plan_plays (Err (stops.Directive place cause)) goes given =
      (record { gained = goes.more.launches; added = goes.launches; asks = names_of goes.more.requests; noted = goes.noted; ends = goes.comes terms fits nothing_past [] given }, refl, refl)

-- the play, the names that the host was asked for, and the list of the trail
abbrev pub PlaysAsking : PlanTree → (List Standing → Terms) → Stage → Stage → List Standing → PlanEnd → Type 0
PlaysAsking plan terms m n standings end =
    (p : PlaysAt plan (terms standings) end standings m n)
    × (IsTrue m.outside.host.told → n.outside.host.asked.names ≡ m.outside.host.asked.names ++ p.asks)
    × (IsTrue m.trail.told → n.trail.list ≡ m.trail.list ++ p.noted)

pub asking_as : (plan : PlanTree) (terms : List Standing → Terms) (m n : Stage) (standings items : List Standing) (end x : PlanEnd) → standings ≡ items → end ≡ x
    → PlaysAsking plan terms m n standings end → PlaysAsking plan terms m n items x
asking_as plan terms m n standings items end x same ended plays =
    subst (PlaysAsking plan terms m n items) ended (subst (λ (l : List Standing). PlaysAsking plan terms m n l end) same plays)

-- ---- what the requests are given

-- each what it was given
served : List Request → ℕ → List ℕ → Option (List ℕ)
served [] number name = None
served (r ∷ requests) zero name = r.given
served (r ∷ requests) (suc number) name = served requests number name

given_later : (files later : ℕ → List ℕ → Option (List ℕ)) (number : ℕ) (requests : List Request) → ((k : ℕ) → later (suc k) ≡ files k) → AreGiven files number requests → AreGiven later (suc number) requests
given_later files later number [] same given = tt
given_later files later number (r ∷ requests) same given =
    (ap (λ (f : List ℕ → Option (List ℕ)). f r.name) (same number) ∙ given.0, given_later files later (suc number) requests same given.1)

are_served : (requests : List Request) → AreGiven (served requests) 0 requests
unfolding served
are_served [] = tt
are_served (r ∷ requests) = (refl, given_later (served requests) (served (r ∷ requests)) 0 requests (λ k. refl) (are_served requests))

-- a host that tells gives its files
are_steady : (files : List ℕ → Option (List ℕ)) (number : ℕ) (requests : List Request) → AllByRecursion (λ (r : Request). r.given ≡ files r.name) requests → AreGiven (steady files) number requests
are_steady files number [] all = tt
are_steady files number (r ∷ requests) all = (sym all.0, are_steady files (suc number) requests all.1)

pub are_given : (told : Bool) (words : List (List ℕ × List ℕ)) (files : List ℕ → Option (List ℕ)) (before now : List (List ℕ)) (requests : List Request) → AreRequests told words files before now requests
    → (given : ℕ → List ℕ → Option (List ℕ)) × GivesAs told words files given × AreGiven given 0 requests
are_given true words files before now requests are = (steady files, λ known. refl, are_steady files 0 requests (are.given refl))
are_given false [] files before now requests are = (steady files, λ known. refl, subst (AreGiven (steady files) 0) (sym (are.none refl)) tt)
are_given false (word ∷ words) files before now requests are = (served requests, λ known. ⊎_elim (λ told. absurd (never told)) (λ none. absurd (some none)) known, are_served requests)
  where
    never : IsTrue false → ⊥
    never e = absurd cc

    some : word ∷ words ≡ [] → ⊥
    some e = absurd cc
