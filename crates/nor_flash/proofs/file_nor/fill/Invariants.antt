use Rattle.std.proofs.Common.{◌-◌}
use Rattle.nor_flash.specs.declared.file_nor.TheConstants.{SIZE}
use Rattle.nor_flash.proofs.file_nor.fill.Given as goal

abbrev pub decreases-loop-place : goal.decreases-loop-place
decreases-loop-place l = SIZE - l.place
