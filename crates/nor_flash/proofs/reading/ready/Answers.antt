use Rattle.std.proofs.Common.{◌≡◌}
use Rattle.suit_edge.specs.EdgeLaws.{if_done_then}
use Rattle.nor_flash.specs.declared.phase.Phase.TheVariants as phases
use Rattle.nor_flash.specs.Blocks.{front}
use Rattle.nor_flash.specs.NorDisks.{blocks_of, seen}
use Rattle.nor_flash.proofs.Calm.{IsCalm, IsSized, calm_by, calm_fits, sized_by}
use Rattle.nor_flash.proofs.Fronts.{settled_sees}
use Rattle.nor_flash.proofs.reading.ready.Goals as goal

pub returns-in_default : goal.returns-in_default
returns-in_default g c = record {
  size = c.settle.ensures.size;
  counts = c.settle.ensures.counts;
  knows = c.settle.ensures.knows;
  stands = λ t.
      let m = blocks_of (g.N.Nor.extent c.args.nor.now) in
      let b = (g.N.Nor.flash c.settle.new.nor).reads in
      let sized : IsSized (g.N.Nor.extent c.args.nor.now) = sized_by (g.N.Nor.extent c.args.nor.now) c.count-image.result c.count-image.ensures.count c.count-image.ensures.few c.count-image.ensures.all in
      let calm : IsCalm (g.N.Nor.extent c.args.nor.now) (g.N.Nor.flash c.settle.new.nor) = calm_by c.settle.ensures.size (g.met.N.Nor.obeys c.settle.new.nor t) (g.met.N.Nor.rests c.settle.new.nor t) (g.met.N.Nor.cells c.settle.new.nor t) in
      if_done_then c.settle.result (c.settle.new.phase ≡ phases.Settled) (seen m c.settle.new.phase b ≡ front m b) c.settle.ensures.settled
      (λ is. settled_sees m sized.few b (calm_fits sized calm) c.settle.new.phase is (c.settle.ensures.knows.1 t));
  steady = c.settle.ensures.steady;
}
