use Rattle.std.proofs.Common.{◌≡◌}
use Rattle.nor_flash.proofs.nor_disk.NorDiskDisk.write_at.Goals as goal

pub returns-clause-written : goal.returns-clause-written
returns-clause-written g c t =
    let nor : c.args.self.now.0 ≡ c.self.inside.nor = cc in
    let phase : c.args.self.now.1 ≡ c.self.inside.phase = cc in
    rw (nor, phase, c.write.ensures.size) ((c.write.ensures.writes t).written)

pub returns-clause-keeps : goal.returns-clause-keeps
returns-clause-keeps g c t =
    let nor : c.args.self.now.0 ≡ c.self.inside.nor = cc in
    let phase : c.args.self.now.1 ≡ c.self.inside.phase = cc in
    rw (nor, phase, c.write.ensures.size) ((c.write.ensures.writes t).keeps)

pub returns-clause-grows : goal.returns-clause-grows
returns-clause-grows g c t =
    let nor : c.args.self.now.0 ≡ c.self.inside.nor = cc in
    let phase : c.args.self.now.1 ≡ c.self.inside.phase = cc in
    rw (nor, phase, c.write.ensures.size) ((c.write.ensures.writes t).grows)
