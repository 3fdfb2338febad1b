use Rattle.suit_edge.proofs.EveryDisk.{every_disk}
use Rattle.suit_edge.proofs.law.disk_laws.Goals as goal

pub returns : goal.returns
returns g c t = every_disk _ _ _ (g.met.D.Disk.obeys c.args.before.now t)
