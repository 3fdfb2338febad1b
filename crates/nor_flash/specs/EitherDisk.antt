-- A disk of one of two types.
use Rattle.std.specs.Prelude.{ℕ, Bool, ◌&&◌, IsTrue}
use Rattle.std.proofs.lemmas.Bool.{and_parts}
use Rattle.suit_edge.specs.Flash.{Flash, IsFlash}
use Rattle.nor_flash.specs.declared.either_disk.EitherDisk.{EitherDisk}
use Rattle.nor_flash.specs.declared.either_disk.EitherDisk.TheVariants as either

-- the flash of the disk that is there
abbrev pub either_flash : {A B : Type 0} → (A → Flash) → (B → Flash) → EitherDisk A B → Flash
either_flash first second (either.First disk) = first disk
either_flash first second (either.Second disk) = second disk

-- a number of the disk that is there
abbrev pub either_number : {A B : Type 0} → (A → ℕ) → (B → ℕ) → EitherDisk A B → ℕ
either_number first second (either.First disk) = first disk
either_number first second (either.Second disk) = second disk

-- it obeys the laws of every disk, since both types do
pub either_obeys : {A B : Type 0} (a b : Bool) (xa : A → ℕ) (xb : B → ℕ) (fa : A → Flash) (fb : B → Flash)
    → ((disk : A) → IsTrue a → IsFlash (fa disk) (xa disk))
    → ((disk : B) → IsTrue b → IsFlash (fb disk) (xb disk))
    → (disk : EitherDisk A B) → IsTrue (a && b) → IsFlash (either_flash fa fb disk) (either_number xa xb disk)
either_obeys a b xa xb fa fb first second (either.First disk) told = first disk (and_parts a b told).0
either_obeys a b xa xb fa fb first second (either.Second disk) told = second disk (and_parts a b told).1
