-- Bounds on every disk.
use Rattle.std.proofs.Common.{sym, subst, arith}
use Rattle.std.specs.Prelude.{ℕ}
use Rattle.suit_edge.specs.Flash.{Flash, IsFlash}
use Rattle.suit_edge.specs.DiskLaws.{DiskLaw}

pub every_disk : (size : ℕ) (before after : Flash) → IsFlash before size → DiskLaw size before after
every_disk size before after law = record {
  stays = λ grows. grows before.clock before.reads (omega arith) law.reads_may;
  still = λ stood grows settled.
      let was = grows before.clock before.reads (omega arith) law.reads_may in
      sym (settled before.reads (subst (λ (t : ℕ). after.may t before.reads) (sym stood) was));
  pending = λ image now other settled. other (settled image now);
  forward = λ same. same.images.later;
  sized = λ image now. law.sized before.clock image (omega arith) now;
  reads = law.reads_may;
}
