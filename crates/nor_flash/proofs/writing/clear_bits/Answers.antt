use Rattle.std.proofs.Common.{refl}
use Rattle.nor_flash.proofs.Calm.{IsCalm, IsSized, calm_by, sized_by}
use Rattle.nor_flash.proofs.Direct.{direct_writes, still_erased}
use Rattle.nor_flash.proofs.writing.clear_bits.Goals as goal

pub returns-clause-erased : goal.returns-clause-erased
returns-clause-erased g c t =
    let sized : IsSized (g.N.Nor.extent c.args.nor.now) = sized_by (g.N.Nor.extent c.args.nor.now) c.count-image.result c.count-image.ensures.count c.count-image.ensures.few c.count-image.ensures.all in
    let calm : IsCalm (g.N.Nor.extent c.args.nor.now) (g.N.Nor.flash c.args.nor.now) = calm_by refl (g.met.N.Nor.obeys c.args.nor.now t) (g.met.N.Nor.rests c.args.nor.now t) (g.met.N.Nor.cells c.args.nor.now t) in
    let kept = c.program.ensures.keeps t in
    still_erased sized calm c.args.place _ c.requires.fits (c.requires.erased t) kept _ kept.reads

pub returns-clause-writes : goal.returns-clause-writes
returns-clause-writes g c t =
    let sized : IsSized (g.N.Nor.extent c.args.nor.now) = sized_by (g.N.Nor.extent c.args.nor.now) c.count-image.result c.count-image.ensures.count c.count-image.ensures.few c.count-image.ensures.all in
    let calm : IsCalm (g.N.Nor.extent c.args.nor.now) (g.N.Nor.flash c.args.nor.now) = calm_by refl (g.met.N.Nor.obeys c.args.nor.now t) (g.met.N.Nor.rests c.args.nor.now t) (g.met.N.Nor.cells c.args.nor.now t) in
    direct_writes sized calm c.args.place c.args.bytes.now c.program.result c.requires.fits (c.requires.erased t) (c.program.ensures.keeps t) (c.program.ensures.grows t) (c.requires.clears t)
    (c.program.ensures.cleared t)
