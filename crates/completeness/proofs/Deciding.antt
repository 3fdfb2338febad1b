-- Which components a procedure may write can be told of each.
use Rattle.std.proofs.Common.{◌≡◌, ◌⊎◌, inl, inr, ◌<◌, ◌≤◌, ℕ, zero, suc, List, [], ◌∷◌, refl, subst, arith}
use Rattle.suit_params.specs.declared.param.Param.{Param}
use Rattle.suit_params.specs.declared.param.Param.TheVariants as params
use Rattle.suit_commands.specs.declared.kinds.ActKind.{ActKind}
use Rattle.suit_commands.specs.declared.kinds.ActKind.TheVariants as acts
use Rattle.suit_commands.specs.Tree.{CommandTree, Test, Act, Index, Override, TryEach, RunSequence, SequenceTree, NoSteps, StepThen, BranchesTree, NoBranches, BranchThen, NullThen, PlanTree}
use Rattle.suit_commands.specs.Selections.{Among, selected_after}
use Rattle.suit_commands.specs.Targets.{BranchesSource, BranchesSwap, BranchesWrite, CommandSources, CommandSwaps, CommandWrites, InSome, IsTarget, IsWriting, NamesSource, Sources, Swaps, Writes}

-- it holds, or it does not
abbrev pub Decided : Type 0 → Type 0
Decided P = P ⊎ (P → ⊥)

pub both : {P Q : Type 0} → Decided P → Decided Q → Decided (P × Q)
both (inl p) (inl q) = inl (p, q)
both (inl p) (inr denied) = inr (λ h. denied h.1)
both (inr denied) other = inr (λ h. denied h.0)

either : {P Q : Type 0} → Decided P → Decided Q → Decided (P ⊎ Q)
either (inl p) other = inl (inl p)
either (inr denied) (inl q) = inl (inr q)
either (inr denied) (inr never) = inr (λ h. elim h [ inl p ↦ denied p | inr q ↦ never q ])

-- ---- numbers

three : (m n : ℕ) → (m ≡ n) ⊎ ((m < n) ⊎ (n < m))
three m n = grind arith

pub same : (m n : ℕ) → Decided (m ≡ n)
same m n = elim (three m n) [
  | inl e ↦ inl e
  | inr other ↦ elim other [
    | inl less ↦ inr (λ e. omega (arith, less, e))
    | inr more ↦ inr (λ e. omega (arith, more, e))
  ]
]

pub reaches : (i n : ℕ) → (i < n) ⊎ (n ≤ i)
reaches i n = grind arith

last : (k n : ℕ) → k < suc n → (k ≡ n) ⊎ (k < n)
last k n lt = grind arith

-- some number below another one has it
pub below : (P : ℕ → Type 0) → ((k : ℕ) → Decided (P k)) → (n : ℕ) → Decided ((k : ℕ) × (k < n) × P k)
below P decide zero = inr (λ h. absurd (omega (arith, h.1)))
below P decide (suc n) = elim (decide n) [
  | inl p ↦ inl (n, omega arith, p)
  | inr denied ↦ elim (below P decide n) [
    | inl h ↦ inl (h.0, omega (arith, h.1), h.2)
    | inr never ↦ inr (λ h. elim (last h.0 n h.1) [ inl e ↦ denied (subst P e h.2) | inr less ↦ never (h.0, less, h.2) ])
  ]
]

-- some number of a list has it
among : (P : ℕ → Type 0) → ((k : ℕ) → Decided (P k)) → (list : List ℕ) → Decided ((k : ℕ) × Among k list × P k)
among P decide [] = inr (λ h. h.1)
among P decide (x ∷ xs) = elim (decide x) [
  | inl p ↦ inl (x, inl refl, p)
  | inr denied ↦ elim (among P decide xs) [
    | inl h ↦ inl (h.0, inr h.1, h.2)
    | inr never ↦ inr (λ h. elim h.1 [ inl e ↦ denied (subst P e h.2) | inr there ↦ never (h.0, there, h.2) ])
  ]
]

is_among : (c : ℕ) (list : List ℕ) → Decided (Among c list)
is_among c [] = inr (λ h. h)
is_among c (x ∷ xs) = either (same c x) (is_among c xs)

-- ---- what is selected at a write, a fetch, a copy or a swap

writing : (kind : ActKind) → Decided (IsWriting kind)
writing acts.Write = inl tt
writing acts.Fetch = inl tt
writing acts.Copy = inl tt
writing acts.Swap = inl tt
writing acts.Invoke = inr (λ h. h)

mutual
  writes : (s : SequenceTree) (count : ℕ) (now : List ℕ) (c : ℕ) → Decided (Writes s count now c)
  writes NoSteps count now c = inr (λ h. h)
  writes (StepThen place command rest) count now c = either (command_writes command count now c) (writes rest count (selected_after command count now) c)

  command_writes : (command : CommandTree) (count : ℕ) (now : List ℕ) (c : ℕ) → Decided (CommandWrites command count now c)
  command_writes (Test kind report) count now c = inr (λ h. h)
  command_writes (Act kind report) count now c = both (writing kind) (is_among c now)
  command_writes (Index selection) count now c = inr (λ h. h)
  command_writes (Override list) count now c = inr (λ h. h)
  command_writes (TryEach tries) count now c = among (λ outer. BranchesWrite tries count outer c) (λ outer. branches_write tries count outer c) now
  command_writes (RunSequence inner) count now c = among (λ outer. Writes inner count (outer ∷ []) c) (λ outer. writes inner count (outer ∷ []) c) now

  branches_write : (tries : BranchesTree) (count outer c : ℕ) → Decided (BranchesWrite tries count outer c)
  branches_write NoBranches count outer c = inr (λ h. h)
  branches_write (BranchThen inner rest) count outer c = either (writes inner count (outer ∷ []) c) (branches_write rest count outer c)
  branches_write (NullThen rest) count outer c = branches_write rest count outer c

-- ---- swaps, and the sources that overrides name

swapping : (kind : ActKind) → Decided (kind ≡ acts.Swap)
swapping acts.Write = inr (λ e. absurd cc)
swapping acts.Fetch = inr (λ e. absurd cc)
swapping acts.Copy = inr (λ e. absurd cc)
swapping acts.Swap = inl refl
swapping acts.Invoke = inr (λ e. absurd cc)

mutual
  swaps : (s : SequenceTree) → Decided (Swaps s)
  swaps NoSteps = inr (λ h. h)
  swaps (StepThen place command rest) = either (command_swaps command) (swaps rest)

  command_swaps : (command : CommandTree) → Decided (CommandSwaps command)
  command_swaps (Test kind report) = inr (λ h. h)
  command_swaps (Act kind report) = swapping kind
  command_swaps (Index selection) = inr (λ h. h)
  command_swaps (Override list) = inr (λ h. h)
  command_swaps (TryEach tries) = branches_swap tries
  command_swaps (RunSequence inner) = swaps inner

  branches_swap : (tries : BranchesTree) → Decided (BranchesSwap tries)
  branches_swap NoBranches = inr (λ h. h)
  branches_swap (BranchThen inner rest) = either (swaps inner) (branches_swap rest)
  branches_swap (NullThen rest) = branches_swap rest

names_source : (list : List Param) (c : ℕ) → Decided (NamesSource list c)
names_source [] c = inr (λ h. h)
names_source (params.Vendor value ∷ list) c = names_source list c
names_source (params.Class value ∷ list) c = names_source list c
names_source (params.Device value ∷ list) c = names_source list c
names_source (params.Digest value ∷ list) c = names_source list c
names_source (params.Slot value ∷ list) c = names_source list c
names_source (params.Strict value ∷ list) c = names_source list c
names_source (params.Soft value ∷ list) c = names_source list c
names_source (params.Size value ∷ list) c = names_source list c
names_source (params.Content value ∷ list) c = names_source list c
names_source (params.Uri value ∷ list) c = names_source list c
names_source (params.Source source ∷ list) c = either (same c source) (names_source list c)
names_source (params.Args value ∷ list) c = names_source list c

mutual
  sources : (s : SequenceTree) (c : ℕ) → Decided (Sources s c)
  sources NoSteps c = inr (λ h. h)
  sources (StepThen place command rest) c = either (command_sources command c) (sources rest c)

  command_sources : (command : CommandTree) (c : ℕ) → Decided (CommandSources command c)
  command_sources (Test kind report) c = inr (λ h. h)
  command_sources (Act kind report) c = inr (λ h. h)
  command_sources (Index selection) c = inr (λ h. h)
  command_sources (Override list) c = names_source list c
  command_sources (TryEach tries) c = branches_source tries c
  command_sources (RunSequence inner) c = sources inner c

  branches_source : (tries : BranchesTree) (c : ℕ) → Decided (BranchesSource tries c)
  branches_source NoBranches c = inr (λ h. h)
  branches_source (BranchThen inner rest) c = either (sources inner c) (branches_source rest c)
  branches_source (NullThen rest) c = branches_source rest c

-- ---- of a procedure

in_some : (plan : PlanTree) (Has : SequenceTree → Type 0) → ((s : SequenceTree) → Decided (Has s)) → Decided (InSome plan Has)
in_some plan Has decide = either (decide plan.shared) (either (decide plan.first) (either (decide plan.second) (decide plan.third)))

pub is_target : (plan : PlanTree) (c : ℕ) → Decided (IsTarget plan c)
is_target plan c =
    either (in_some plan (λ s. Writes s plan.count (0 ∷ []) c) (λ s. writes s plan.count (0 ∷ []) c))
    (both (in_some plan Swaps swaps) (in_some plan (λ s. Sources s c) (λ s. sources s c)))
