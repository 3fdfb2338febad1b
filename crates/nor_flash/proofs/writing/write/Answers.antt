use Rattle.nor_flash.specs.NorDisks.{blocks_of, nor_flash}
use Rattle.nor_flash.proofs.Calm.{IsCalm, calm_by}
use Rattle.nor_flash.proofs.Written.{nothing_written, then_written}
use Rattle.nor_flash.proofs.writing.write.Goals as goal

pub returns-in-Failed-clause-writes : goal.returns-in-Failed-clause-writes
returns-in-Failed-clause-writes g c t = nothing_written (c.settle.ensures.steady t)

pub returns-in-Done-clause-writes : goal.returns-in-Done-clause-writes
returns-in-Done-clause-writes g c t =
    let calm : IsCalm (g.N.Nor.extent c.args.nor.now) (g.N.Nor.flash c.settle.new.nor) = calm_by c.settle.ensures.size (g.met.N.Nor.obeys c.settle.new.nor t) (g.met.N.Nor.rests c.settle.new.nor t) (g.met.N.Nor.cells c.settle.new.nor t) in
    then_written (nor_flash (blocks_of (g.N.Nor.extent c.args.nor.now)) c.write_settled.new.phase (g.N.Nor.flash c.write_settled.new.nor)) calm (rw c.in-Done.ensures.settled at (c.settle.ensures.steady t))
    (rw c.settle.ensures.size at (c.write_settled.ensures.writes t))
