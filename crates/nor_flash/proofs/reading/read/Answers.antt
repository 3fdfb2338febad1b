use Rattle.std.proofs.Common.{◌≡◌, ◌+◌, ℕ, List, length, Some, subst, ap, sym, ◌∙◌, arith}
use Rattle.std.specs.List.{slice_range}
use Rattle.suit_edge.specs.EdgeLaws.{if_done_then}
use Rattle.nor_flash.specs.declared.phase.Phase.{Phase}
use Rattle.nor_flash.specs.Blocks.{front, named, with_block}
use Rattle.nor_flash.specs.NorDisks.{HoldsPhase, blocks_of, seen}
use Rattle.nor_flash.proofs.BlockLemmas.{plain_named}
use Rattle.nor_flash.proofs.Calm.{IsCalm, IsSized, calm_by, calm_fits, sized_by}
use Rattle.nor_flash.proofs.Fronts.{front_part}
use Rattle.nor_flash.proofs.Steadiness.{read_step, steady_then}
use Rattle.nor_flash.proofs.reading.read.Goals as goal

pub returns-in-Done-clause-bytes : goal.returns-in-Done-clause-bytes
returns-in-Done-clause-bytes g c t =
    let m = blocks_of (g.N.Nor.extent c.args.nor.now) in
    let b = (g.N.Nor.flash c.ready.new.nor).reads in
    let from = c.args.place in
    let to = c.args.place + length c.args.room.now in
    let sized : IsSized (g.N.Nor.extent c.args.nor.now) = sized_by (g.N.Nor.extent c.args.nor.now) c.count-image.result c.count-image.ensures.count c.count-image.ensures.few c.count-image.ensures.all in
    let calm : IsCalm (g.N.Nor.extent c.args.nor.now) (g.N.Nor.flash c.ready.new.nor) = calm_by c.ready.ensures.size (g.met.N.Nor.obeys c.ready.new.nor t) (g.met.N.Nor.rests c.ready.new.nor t) (g.met.N.Nor.cells c.ready.new.nor t) in
    let sees : front m b ≡ seen m c.args.phase.now (g.N.Nor.flash c.args.nor.now).reads = sym (c.in-Done.ensures.stands t) ∙ (c.ready.ensures.steady t).same.reads in
    if_done_then c.read_at.result (c.read_at.new.room ≡ slice_range b from to) (c.read_at.new.room ≡ slice_range (seen m c.args.phase.now (g.N.Nor.flash c.args.nor.now).reads) from to) (c.read_at.ensures.bytes t)
    (λ is. is ∙ sym (front_part m sized.few b (calm_fits sized calm) from to (omega arith) c.requires.fits) ∙ ap (λ (l : List ℕ). slice_range l from to) sees)

pub returns-in-Done-clause-steady : goal.returns-in-Done-clause-steady
returns-in-Done-clause-steady g c t =
    let calm : IsCalm (g.N.Nor.extent c.args.nor.now) (g.N.Nor.flash c.ready.new.nor) = calm_by c.ready.ensures.size (g.met.N.Nor.obeys c.ready.new.nor t) (g.met.N.Nor.rests c.ready.new.nor t) (g.met.N.Nor.cells c.ready.new.nor t) in
    steady_then calm (c.ready.ensures.steady t) (read_step (blocks_of (g.N.Nor.extent c.args.nor.now)) c.ready.new.phase (c.read_at.ensures.same t) (c.read_at.ensures.grows t))

pub returns-in-Rewriting-clause-bytes : goal.returns-in-Rewriting-clause-bytes
returns-in-Rewriting-clause-bytes g c t =
    let m = blocks_of (g.N.Nor.extent c.args.nor.now) in
    let a = (g.N.Nor.flash c.args.nor.now).reads in
    let from = c.args.place in
    let to = c.args.place + length c.args.room.now in
    let block = c.in-Rewriting.block in
    let is : named m a ≡ Some block = subst (λ (p : Phase). HoldsPhase m p a) c.in-Rewriting.is (c.requires.knows.1 t) in
    let sees : seen m c.args.phase.now a ≡ with_block m block a =
    subst (λ (p : Phase). seen m p a ≡ with_block m block a) (sym c.in-Rewriting.is) (plain_named m block a is) in
    if_done_then c.read_named.result (c.read_named.new.room ≡ slice_range (with_block m block a) from to) (c.read_named.new.room ≡ slice_range (seen m c.args.phase.now a) from to) (c.read_named.ensures.bytes t)
    (λ e. e ∙ ap (λ (l : List ℕ). slice_range l from to) (sym sees))
