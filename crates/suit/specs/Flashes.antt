-- Which of two disks a disk is.
use Rattle.std.specs.Prelude.{Bool, true, false}
use Rattle.nor_flash.specs.declared.either_disk.EitherDisk.{EitherDisk}
use Rattle.nor_flash.specs.declared.either_disk.EitherDisk.TheVariants as either

-- whether it is the second
abbrev pub is_second : {A B : Type 0} → EitherDisk A B → Bool
is_second (either.First disk) = false
is_second (either.Second disk) = true
