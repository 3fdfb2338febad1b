use Rattle.std.proofs.Common.{length, ap, arith}
use Rattle.suit_edge.specs.MemoryDisk.{DiskState}
use Rattle.suit_edge.proofs.memory_disk.MemoryDiskDisk.size.Goals as goal

pub returns : goal.returns
returns c = omega (arith, c.len.ensures, c.self.invariant.size, ap (λ (s : DiskState). length s.first) c.self.view_is)
