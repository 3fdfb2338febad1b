-- The device of a drill.
use Rattle.std.proofs.Common.{◌≡◌, ◌<◌, ℕ, zero, suc, List, [], ◌∷◌, length, replicate, sym, ap, subst, ◌∙◌, arith}
use Rattle.std.specs.List.{All, AllPairs}
use Rattle.std.proofs.lemmas.List.{get_or-replicate, length-replicate}
use Rattle.det_cbor.specs.Heads.{head_bytes}
use Rattle.suit_params.specs.Identifiers.{spelled_id}
use Rattle.suit_edge.specs.Calls.{CallCounts}
use Rattle.suit_edge.specs.Flash.{IsSettled}
use Rattle.suit_edge.specs.Gate.{IsOpen}
use Rattle.suit_edge.specs.MemoryDisk.{DiskState, memory_flash}
use Rattle.suit_edge.specs.MemoryLaws.{memory_obeys}
use Rattle.suit_edge.specs.Moment.{after_steps, moment_of}
use Rattle.flash_layout.specs.declared.frame.TheConstants.{VERSION_1}
use Rattle.flash_layout.specs.declared.key.Key.{Key}
use Rattle.flash_layout.specs.declared.layout.Entry.{Entry}
use Rattle.flash_layout.specs.declared.layout.Memory.TheVariants as memory
use Rattle.flash_layout.specs.Formats.{IsFormatted}
use Rattle.flash_layout.specs.Layouts.{AreApart, IsBehindHead, IsEntry, IsLayout}
use Rattle.rollback_record.proofs.SettledLaws.{settles}
use Rattle.rollback_record.specs.SoundLaws.{SoundLaws}
use Rattle.suit_cli.specs.DrillDevice.{IsFirst, device_layout, entry_of, flash_size, key_bytes}
use Rattle.suit_cli.specs.Devices.{key_of}
use Rattle.suit_cli.specs.DrillRounds.{IsAtRest}

-- ---- the layout

abbrev device_key : Key
device_key = key_of key_bytes

abbrev flash_entry : Entry
flash_entry = entry_of 0 memory.Flash 2 (49152 ∷ 114696 ∷ [])

abbrev ram_entry : Entry
ram_entry = entry_of 1 memory.Ram 1 (0 ∷ 0 ∷ [])

flash_is : IsEntry VERSION_1 flash_size flash_entry
unfolding spelled_id head_bytes
flash_is = record {
  short = omega arith;
  some = omega arith;
  held = (omega arith, omega arith, λ one. absurd (omega (arith, one)), λ two. (λ below. omega arith, λ above. absurd (omega (arith, above))), behind);
} where
  behind : All (λ p. IsBehindHead VERSION_1 flash_size p 65544) (49152 ∷ 114696 ∷ [])
  behind zero d within = (omega arith, omega arith, (λ before. omega arith, λ below. absurd (omega (arith, below))))
  behind (suc zero) d within = (omega arith, omega arith, (λ before. omega arith, λ below. absurd (omega (arith, below))))
  behind (suc (suc k)) d within = absurd (omega (arith, within))

ram_is : IsEntry VERSION_1 flash_size ram_entry
unfolding spelled_id head_bytes
ram_is = record { short = omega arith; some = omega arith; held = (omega arith, omega arith, omega arith, omega arith) }

each : All (IsEntry VERSION_1 flash_size) device_layout
each zero d within = flash_is
each (suc zero) d within = ram_is
each (suc (suc k)) d within = absurd (omega (arith, within))

are_apart : AreApart flash_entry ram_entry
are_apart = record { other = λ same. cc; clear = λ k d within j e never. absurd (omega (arith, never)) }

apart : AllPairs AreApart device_layout
apart zero zero d less within = absurd (omega (arith, less))
apart zero (suc zero) d less within = are_apart
apart zero (suc (suc j)) d less within = absurd (omega (arith, within))
apart (suc i) zero d less within = absurd (omega (arith, less))
apart (suc i) (suc zero) d less within = absurd (omega (arith, less))
apart (suc i) (suc (suc j)) d less within = absurd (omega (arith, within))

pub layout_allowed : IsLayout VERSION_1 flash_size device_layout
layout_allowed = record { some = omega arith; few = omega arith; each = each; apart = apart }

-- ---- the flash

pub sized : (disk : DiskState) (calls : CallCounts) (size : ℕ) → disk ≡ record { first = replicate size 0; steps = []; calls = calls } → length disk.first ≡ size
sized disk calls size is = ap (λ (d : DiskState). length d.first) is ∙ length-replicate {A = ℕ} size 0

-- the gate of a disk of zeros is closed
pub never_open : (disk : DiskState) (calls : CallCounts) (size gate : ℕ) → disk ≡ record { first = replicate size 0; steps = []; calls = calls } → gate < size
    → IsOpen (memory_flash disk).reads gate → ⊥
unfolding moment_of after_steps
never_open disk calls size gate is within opened =
    let never : 0 ≡ 165 = sym (get_or-replicate size gate 0 0 within) ∙ subst (λ (d : DiskState). IsOpen (memory_flash d).reads gate) is opened in
    omega (arith, never)

pub is_first : (size : ℕ) (layout : List Entry) (key : Key) (image : List ℕ) → size ≡ flash_size → layout ≡ device_layout → key ≡ device_key
    → IsFormatted VERSION_1 size layout key image → IsFirst image
is_first size layout key image same layout_is key_is formatted =
    subst (λ (n : ℕ). IsFormatted VERSION_1 n device_layout device_key image) same
    (subst (λ (l : List Entry). IsFormatted VERSION_1 size l device_key image) layout_is
    (subst (λ (k : Key). IsFormatted VERSION_1 size layout k image) key_is formatted))

pub is_ready : SoundLaws → (disk : DiskState) → length disk.first ≡ flash_size → IsFirst (memory_flash disk).reads → IsSettled (memory_flash disk) → IsAtRest disk
is_ready laws disk size first none = record {
  size = size;
  settled = settles (memory_flash disk) none (laws.formatted VERSION_1 device_layout device_key (memory_flash disk).reads
      (subst (λ (n : ℕ). IsFormatted VERSION_1 n device_layout device_key (memory_flash disk).reads) (sym ((memory_obeys disk).fits ∙ size)) first));
}
