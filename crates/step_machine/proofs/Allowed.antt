-- A part's permissions extend to its own parts.
use Rattle.std.proofs.Common.{◌≡◌, ℕ, ◌+◌, ◌<◌, ◌≤◌, List, [], ◌∷◌, length, get_or, map, refl, sym, ap, ◌∙◌, subst, arith, inl, inr, suc, zero}
use Rattle.std.specs.List.{AllByRecursion, range_with_len}
use Rattle.flash_slots.specs.RamContents.{Held}
use Rattle.suit_commands.specs.declared.selection.Selection.TheVariants.{One, All, Listed}
use Rattle.suit_commands.specs.Indexed.{IsIndexed}
use Rattle.suit_commands.specs.Selections.{Among, selected_after}
use Rattle.suit_commands.specs.Targets.{CommandWrites}
use Rattle.suit_commands.specs.Tree.{CommandTree, Test, Act, Index, Override, TryEach, RunSequence, SequenceTree, StepThen, BranchesTree, BranchThen}
use Rattle.step_machine.specs.declared.machine.Machine.{Machine}
use Rattle.step_machine.specs.declared.spot.Spot.{Spot}
use Rattle.step_machine.specs.declared.spot.Spot.TheVariants as spots
use Rattle.step_machine.specs.Allowing.{AllowsSequence, AllowsCommand, AllowsBranches}
use Rattle.step_machine.specs.Running.{Moment, StaysOn, IsReady}
use Rattle.step_machine.specs.Spots.{IsSpot, room_at}

-- ---- steps

pub first_step : (machine : Machine) (p : ℕ) (command : CommandTree) (rest : SequenceTree) (selection : List ℕ) → AllowsSequence machine (StepThen p command rest) selection → AllowsCommand machine command selection
first_step machine p command rest selection a = record {
  indexed = a.indexed.0;
  writes = λ c w. a.writes c (inl w);
  swaps = λ w. a.swaps (inl w);
  fetches = λ w. a.fetches (inl w);
  sources = λ c w. a.sources c (inl w);
  uris = λ u w. a.uris u (inl w);
}

pub later_steps : (machine : Machine) (p : ℕ) (command : CommandTree) (rest : SequenceTree) (selection : List ℕ) → AllowsSequence machine (StepThen p command rest) selection → AllowsSequence machine rest (selected_after command machine.program.now.count selection)
later_steps machine p command rest selection a = record {
  indexed = a.indexed.1;
  writes = λ c w. a.writes c (inr w);
  swaps = λ w. a.swaps (inr w);
  fetches = λ w. a.fetches (inr w);
  sources = λ c w. a.sources c (inr w);
  uris = λ u w. a.uris u (inr w);
}

-- ---- one of the selected components

pub below_among : (list : List ℕ) (k bound : ℕ) → Among k list → AllByRecursion (λ c. c < bound) list → k < bound
below_among [] k bound among all = absurd among
below_among (x ∷ list) k bound (inl e) all = let lt : x < bound = all.0 in omega (arith, lt, e)
below_among (x ∷ list) k bound (inr h) all = below_among list k bound h all.1

only : (c k : ℕ) → Among c (k ∷ []) → c ≡ k
only c k (inl e) = e
only c k (inr h) = absurd h

narrow : (command : CommandTree) (count : ℕ) (selection : List ℕ) (k c : ℕ) → Among k selection → CommandWrites command count (k ∷ []) c → CommandWrites command count selection c
narrow (Test kind report) count selection k c among w = w
narrow (Act kind report) count selection k c among w = (w.0, subst (λ (x : ℕ). Among x selection) (sym (only c k w.1)) among)
narrow (Index selected) count selection k c among w = w
narrow (Override list) count selection k c among w = w
narrow (TryEach branches) count selection k c among (outer, at, w) = (outer, subst (λ (x : ℕ). Among x selection) (sym (only outer k at)) among, w)
narrow (RunSequence inner) count selection k c among (outer, at, w) = (outer, subst (λ (x : ℕ). Among x selection) (sym (only outer k at)) among, w)

pub allows_at : (machine : Machine) (command : CommandTree) (selection : List ℕ) (k : ℕ) → Among k selection → AllowsCommand machine command selection → AllowsCommand machine command (k ∷ [])
allows_at machine command selection k among a = record {
  indexed = a.indexed;
  writes = λ c w. a.writes c (narrow command machine.program.now.count selection k c among w);
  swaps = a.swaps;
  fetches = a.fetches;
  sources = a.sources;
  uris = a.uris;
}

-- ---- branches

module _ (machine : Machine) (inner : SequenceTree) (rest : BranchesTree) (k : ℕ) (these : AllowsBranches machine (BranchThen inner rest) k) where
  pub allows_branch : AllowsSequence machine inner (k ∷ [])
  allows_branch = record {
    indexed = these.indexed.0;
    writes = λ c w. these.writes c (inl w);
    swaps = λ w. these.swaps (inl w);
    fetches = λ w. these.fetches (inl w);
    sources = λ c w. these.sources c (inl w);
    uris = λ u w. these.uris u (inl w);
  }

  pub allows_others : AllowsBranches machine rest k
  allows_others = record {
    indexed = these.indexed.1;
    writes = λ c w. these.writes c (inr w);
    swaps = λ w. these.swaps (inr w);
    fetches = λ w. these.fetches (inr w);
    sources = λ c w. these.sources c (inr w);
    uris = λ u w. these.uris u (inr w);
  }

-- ---- selections stay within the components

range_below : (a n bound : ℕ) → a + n ≤ bound → AllByRecursion (λ c. c < bound) (range_with_len a n)
range_below a zero bound le = tt
range_below a (suc n) bound le = (omega (arith, le), range_below (a + 1) n bound (omega (arith, le)))

below_by : (command : CommandTree) (count : ℕ) (selection : List ℕ) → IsIndexed count command → AllByRecursion (λ c. c < count) selection → AllByRecursion (λ c. c < count) (selected_after command count selection)
below_by (Test kind report) count selection i b = b
below_by (Act kind report) count selection i b = b
below_by (Index (One component)) count selection i b = (i, tt)
below_by (Index All) count selection i b = range_below 0 count count (omega arith)
below_by (Index (Listed list)) count selection i b = i.1
below_by (Override list) count selection i b = b
below_by (TryEach branches) count selection i b = b
below_by (RunSequence inner) count selection i b = b

pub below_after : (machine : Machine) (command : CommandTree) (selection : List ℕ) → machine.program.now.count ≡ length machine.standings.now → IsIndexed machine.program.now.count command
    → AllByRecursion (λ c. c < length machine.standings.now) selection → AllByRecursion (λ c. c < length machine.standings.now) (selected_after command machine.program.now.count selection)
below_after machine command selection same i b =
    let bound : ℕ → Type 0 = λ n. AllByRecursion (λ c. c < n) (selected_after command machine.program.now.count selection) in
    subst (λ (n : ℕ). AllByRecursion (λ c. c < n) (selected_after command machine.program.now.count selection)) same
    (below_by command machine.program.now.count selection i (subst (λ (n : ℕ). AllByRecursion (λ c. c < n) selection) (sym same) b))

-- ---- readiness stays

capacities_at : (old new : List Held) (c : ℕ) (d : Held) → map (λ (held : Held). held.capacity) new ≡ map (λ (held : Held). held.capacity) old → (get_or new c d).capacity ≡ (get_or old c d).capacity
capacities_at [] [] c d e = refl
capacities_at [] (y ∷ new) c d e = absurd cc
capacities_at (x ∷ old) [] c d e = absurd cc
capacities_at (x ∷ old) (y ∷ new) zero d e = let h : y.capacity ≡ x.capacity = cc in h
capacities_at (x ∷ old) (y ∷ new) (suc c) d e = let t : map (λ (held : Held). held.capacity) new ≡ map (λ (held : Held). held.capacity) old = cc in capacities_at old new c d t

lengths_at : (old new : List Held) → map (λ (held : Held). held.capacity) new ≡ map (λ (held : Held). held.capacity) old → length new ≡ length old
lengths_at [] [] e = refl
lengths_at [] (y ∷ new) e = absurd cc
lengths_at (x ∷ old) [] e = absurd cc
lengths_at (x ∷ old) (y ∷ new) e = let t : map (λ (held : Held). held.capacity) new ≡ map (λ (held : Held). held.capacity) old = cc in ap suc (lengths_at old new t)

spot_stays : (spot : Spot) (size later : ℕ) (old new : List Held) → later ≡ size → map (λ (held : Held). held.capacity) new ≡ map (λ (held : Held). held.capacity) old → IsSpot size old spot → IsSpot later new spot
spot_stays (spots.Flash slot) size later old new e rooms is = omega (arith, e, is)
spot_stays (spots.Ram c) size later old new e rooms is = let l = lengths_at old new rooms in omega (arith, l, is)

room_stays : (spot : Spot) (old new : List Held) → map (λ (held : Held). held.capacity) new ≡ map (λ (held : Held). held.capacity) old → room_at spot new ≡ room_at spot old
room_stays (spots.Flash slot) old new rooms = refl
room_stays (spots.Ram c) old new rooms = capacities_at old new c (record { capacity = 0; content = [] }) rooms

pub ready_after : {Left : ℕ → Type 0} (machine : Machine) (m n : Moment) → StaysOn Left machine m n → IsReady machine m.disk.size m.ram → IsReady machine n.disk.size n.ram
ready_after machine m n stays ready = record {
  standings = record {
    few = ready.standings.few;
    each = λ k d lt. let one = ready.standings.each k d lt in record {
      component = one.component;
      spot = spot_stays (get_or machine.standings.now k d).spot m.disk.size n.disk.size m.ram n.ram stays.size stays.rooms one.spot;
      room = room_stays (get_or machine.standings.now k d).spot m.ram n.ram stays.rooms ∙ one.room;
    };
    apart = ready.standings.apart;
  };
  count = ready.count;
}
