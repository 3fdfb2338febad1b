-- The bits of the sources are those of the components that overrides name as source.
use Rattle.std.proofs.Common.{ℕ, ◌^◌, ◌⊎◌, inl, inr, List, [], ◌∷◌, bit_or}
use Rattle.suit_params.specs.declared.param.Param.{Param}
use Rattle.suit_params.specs.declared.param.Param.TheVariants as params
use Rattle.suit_commands.specs.Tree.{CommandTree, Test, Act, Index, Override, TryEach, RunSequence, SequenceTree, NoSteps, StepThen, BranchesTree, NoBranches, BranchThen, NullThen}
use Rattle.suit_commands.specs.Bits.{HasBit}
use Rattle.suit_commands.specs.Sources.{list_sources, sources_of, command_sources, branches_sources}
use Rattle.suit_commands.specs.Targets.{NamesSource, Sources, CommandSources, BranchesSource}
use Rattle.suit_commands.proofs.BitLaws.{no_bit, or_left, or_right, or_cases, one_bit, one_bit_is}

list_to : (list : List Param) (bits c : ℕ) → HasBit bits c ⊎ NamesSource list c → HasBit (list_sources list bits) c
list_to [] bits c (inl h) = h
list_to [] bits c (inr h) = absurd h
list_to (params.Source i ∷ list) bits c h = list_to list (bit_or bits (2 ^ i)) c (elim h [
  | inl w ↦ inl (or_left bits (2 ^ i) c w)
  | inr w ↦ elim w [ inl e ↦ inl (or_right bits (2 ^ i) c (one_bit i c e)) | inr v ↦ inr v ]
])
list_to (params.Vendor x ∷ list) bits c h = list_to list bits c h
list_to (params.Class x ∷ list) bits c h = list_to list bits c h
list_to (params.Device x ∷ list) bits c h = list_to list bits c h
list_to (params.Digest x ∷ list) bits c h = list_to list bits c h
list_to (params.Slot x ∷ list) bits c h = list_to list bits c h
list_to (params.Strict x ∷ list) bits c h = list_to list bits c h
list_to (params.Soft x ∷ list) bits c h = list_to list bits c h
list_to (params.Size x ∷ list) bits c h = list_to list bits c h
list_to (params.Content x ∷ list) bits c h = list_to list bits c h
list_to (params.Uri x ∷ list) bits c h = list_to list bits c h
list_to (params.Args x ∷ list) bits c h = list_to list bits c h

list_from : (list : List Param) (bits c : ℕ) → HasBit (list_sources list bits) c → HasBit bits c ⊎ NamesSource list c
list_from [] bits c h = inl h
list_from (params.Source i ∷ list) bits c h = elim (list_from list (bit_or bits (2 ^ i)) c h) [
  | inl w ↦ elim (or_cases bits (2 ^ i) c w) [ inl v ↦ inl v | inr v ↦ inr (inl (one_bit_is i c v)) ]
  | inr w ↦ inr (inr w)
]
list_from (params.Vendor x ∷ list) bits c h = list_from list bits c h
list_from (params.Class x ∷ list) bits c h = list_from list bits c h
list_from (params.Device x ∷ list) bits c h = list_from list bits c h
list_from (params.Digest x ∷ list) bits c h = list_from list bits c h
list_from (params.Slot x ∷ list) bits c h = list_from list bits c h
list_from (params.Strict x ∷ list) bits c h = list_from list bits c h
list_from (params.Soft x ∷ list) bits c h = list_from list bits c h
list_from (params.Size x ∷ list) bits c h = list_from list bits c h
list_from (params.Content x ∷ list) bits c h = list_from list bits c h
list_from (params.Uri x ∷ list) bits c h = list_from list bits c h
list_from (params.Args x ∷ list) bits c h = list_from list bits c h

pub none_left : {A : Type 0} → (c : ℕ) → HasBit 0 c ⊎ A → A
none_left c (inl h) = absurd (no_bit c h)
none_left c (inr h) = h

mutual
  sequence_to : (s : SequenceTree) (bits c : ℕ) → HasBit bits c ⊎ Sources s c → HasBit (sources_of s bits) c
  sequence_to NoSteps bits c (inl h) = h
  sequence_to NoSteps bits c (inr h) = absurd h
  sequence_to (StepThen place command rest) bits c h = sequence_to rest (bit_or bits (command_sources command)) c (elim h [
    | inl w ↦ inl (or_left bits (command_sources command) c w)
    | inr w ↦ elim w [ inl v ↦ inl (or_right bits (command_sources command) c (command_to command c v)) | inr v ↦ inr v ]
  ])

  command_to : (command : CommandTree) (c : ℕ) → CommandSources command c → HasBit (command_sources command) c
  command_to (Test kind report) c h = absurd h
  command_to (Act kind report) c h = absurd h
  command_to (Index selection) c h = absurd h
  command_to (Override list) c h = list_to list 0 c (inr h)
  command_to (TryEach branches) c h = branches_to branches 0 c (inr h)
  command_to (RunSequence inner) c h = sequence_to inner 0 c (inr h)

  branches_to : (branches : BranchesTree) (bits c : ℕ) → HasBit bits c ⊎ BranchesSource branches c → HasBit (branches_sources branches bits) c
  branches_to NoBranches bits c (inl h) = h
  branches_to NoBranches bits c (inr h) = absurd h
  branches_to (BranchThen inner rest) bits c h = branches_to rest (bit_or bits (sources_of inner 0)) c (elim h [
    | inl w ↦ inl (or_left bits (sources_of inner 0) c w)
    | inr w ↦ elim w [ inl v ↦ inl (or_right bits (sources_of inner 0) c (sequence_to inner 0 c (inr v))) | inr v ↦ inr v ]
  ])
  branches_to (NullThen rest) bits c h = branches_to rest bits c h

mutual
  sequence_from : (s : SequenceTree) (bits c : ℕ) → HasBit (sources_of s bits) c → HasBit bits c ⊎ Sources s c
  sequence_from NoSteps bits c h = inl h
  sequence_from (StepThen place command rest) bits c h = elim (sequence_from rest (bit_or bits (command_sources command)) c h) [
    | inl w ↦ elim (or_cases bits (command_sources command) c w) [ inl v ↦ inl v | inr v ↦ inr (inl (command_from command c v)) ]
    | inr w ↦ inr (inr w)
  ]

  command_from : (command : CommandTree) (c : ℕ) → HasBit (command_sources command) c → CommandSources command c
  command_from (Test kind report) c h = no_bit c h
  command_from (Act kind report) c h = no_bit c h
  command_from (Index selection) c h = no_bit c h
  command_from (Override list) c h = none_left c (list_from list 0 c h)
  command_from (TryEach branches) c h = none_left c (branches_from branches 0 c h)
  command_from (RunSequence inner) c h = none_left c (sequence_from inner 0 c h)

  branches_from : (branches : BranchesTree) (bits c : ℕ) → HasBit (branches_sources branches bits) c → HasBit bits c ⊎ BranchesSource branches c
  branches_from NoBranches bits c h = inl h
  branches_from (BranchThen inner rest) bits c h = elim (branches_from rest (bit_or bits (sources_of inner 0)) c h) [
    | inl w ↦ elim (or_cases bits (sources_of inner 0) c w) [ inl v ↦ inl v | inr v ↦ inr (inl (none_left c (sequence_from inner 0 c v))) ]
    | inr w ↦ inr (inr w)
  ]
  branches_from (NullThen rest) bits c h = branches_from rest bits c h

pub sources_to : (s : SequenceTree) (c : ℕ) → Sources s c → HasBit (sources_of s 0) c
sources_to s c h = sequence_to s 0 c (inr h)

pub sources_from : (s : SequenceTree) (c : ℕ) → HasBit (sources_of s 0) c → Sources s c
sources_from s c h = none_left c (sequence_from s 0 c h)
