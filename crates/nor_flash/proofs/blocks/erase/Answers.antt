use Rattle.std.proofs.Common.{refl, arith}
use Rattle.suit_edge.specs.FlashLaws.{keeps_same, keeps_then}
use Rattle.nor_flash.specs.Blocks.{OutsideBlock}
use Rattle.nor_flash.proofs.BlockLemmas.{erased_read, not_erased}
use Rattle.nor_flash.proofs.blocks.erase.Goals as goal

pub returns-in-None-clause-erased : goal.returns-in-None-clause-erased
returns-in-None-clause-erased g c t =
    erased_read c.args.block 4096 c.read_at.new.room (g.N.Nor.flash c.args.nor.now).reads (g.N.Nor.flash c.read_at.new.self).reads refl
    (omega (arith, (g.met.N.Nor.obeys c.args.nor.now t).fits, c.requires)) (c.read_at.ensures.same t).reads (c.in-Done.ensures.bytes t) c.in-None.ensures

pub returns-in-Some-clause-keeps : goal.returns-in-Some-clause-keeps
returns-in-Some-clause-keeps g c t =
    keeps_then (OutsideBlock c.args.block) (g.N.Nor.flash c.args.nor.now) (g.N.Nor.flash c.read_at.new.self) (g.N.Nor.flash c.erase.new.self) (g.N.Nor.extent c.read_at.new.self)
    (g.met.N.Nor.obeys c.read_at.new.self t)
    (keeps_same (OutsideBlock c.args.block) (g.N.Nor.flash c.args.nor.now) (g.N.Nor.flash c.read_at.new.self) (c.read_at.ensures.same t)) (c.erase.ensures.keeps t)

pub returns-in-Some-clause-spared : goal.returns-in-Some-clause-spared
returns-in-Some-clause-spared g c t erased =
    absurd (not_erased c.args.block _ c.read_at.new.room (g.N.Nor.flash c.args.nor.now).reads c.in-Some.ensures
    (omega (arith, (g.met.N.Nor.obeys c.args.nor.now t).fits, c.requires)) (c.in-Done.ensures.bytes t) erased)
