use Rattle.std.proofs.Common.{◌≡◌, ◌+◌, ◌-◌, ◌≤◌, IsTrue, length}
use Rattle.std.specs.List.{slice_range}
use Rattle.lane_bytes.specs.Bytes.{OnlyClears}
use Rattle.nor_flash.specs.declared.phase.Phase.TheVariants as phases
use Rattle.nor_flash.specs.Blocks.{plain}
use Rattle.nor_flash.specs.NorDisks.{blocks_of}
use Rattle.nor_flash.proofs.Progress.{IsUpTo}
use Rattle.nor_flash.proofs.writing.write_settled.Given as goal

abbrev pub invariant-loop-at : goal.invariant-loop-at
invariant-loop-at g l = record {
  settled : l.phase ≡ phases.Settled;
  within : l.at ≤ length l.bytes;
  size : g.N.Nor.extent l.nor ≡ g.N.Nor.extent l.fn.nor;
  counts : g.N.Nor.faults l.nor ≡ g.N.Nor.faults l.fn.nor;
  up : IsTrue g.N.Nor.told → IsUpTo (blocks_of (g.N.Nor.extent l.fn.nor)) l.fn.place l.bytes l.at (g.N.Nor.flash l.fn.nor) (g.N.Nor.flash l.nor);
  erases : IsTrue g.N.Nor.told
      → OnlyClears (slice_range (plain (blocks_of (g.N.Nor.extent l.fn.nor)) (g.N.Nor.flash l.fn.nor).reads) l.fn.place (l.fn.place + length l.bytes)) l.bytes
      → g.N.Nor.erases l.nor ≡ g.N.Nor.erases l.fn.nor;
}

abbrev pub decreases-loop-at : goal.decreases-loop-at
decreases-loop-at g l = length l.bytes - l.at
