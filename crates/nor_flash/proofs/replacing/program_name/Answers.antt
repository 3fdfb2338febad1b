use Rattle.std.proofs.Common.{◌≡◌, inl, inr, ⊎_elim, ◌+◌, ◌*◌, length, ap, sym, subst, arith}
use Rattle.suit_edge.specs.Edge.{IfDone}
use Rattle.suit_edge.specs.EdgeLaws.{if_done_then}
use Rattle.suit_edge.specs.FlashLaws.{keeps_fewer}
use Rattle.suit_edge.specs.Ranges.{AreBytes, Outside}
use Rattle.nor_flash.specs.Blocks.{OutsideBlock, cleared, name_in}
use Rattle.nor_flash.specs.NorDisks.{blocks_of}
use Rattle.nor_flash.proofs.Commit.{number_bytes, programmed_name}
use Rattle.nor_flash.proofs.replacing.program_name.Goals as goal

pub returns-clause-keeps : goal.returns-clause-keeps
returns-clause-keeps g c t =
    let j = blocks_of (g.N.Nor.extent c.args.nor.now) + c.args.name in
    let long : length c.to_be_bytes.result ≡ 8 = ap length c.to_be_bytes.ensures in
    keeps_fewer (OutsideBlock j) (Outside (4096 * j) 8) (λ i out. ⊎_elim (λ low. inl low) (λ high. inr (omega (arith, high))) out) _ _
    (rw (long, c.count-image.ensures.count) at (c.program.ensures.keeps t))

pub returns-clause-named : goal.returns-clause-named
returns-clause-named g c t =
    let a = (g.N.Nor.flash c.args.nor.now).reads in
    let b = (g.N.Nor.flash c.program.new.self).reads in
    let j = blocks_of (g.N.Nor.extent c.args.nor.now) + c.args.name in
    let done : IfDone c.program.result (b ≡ cleared a (4096 * j) c.to_be_bytes.result) = rw c.count-image.ensures.count at (c.program.ensures.cleared t) in
    let are : AreBytes c.to_be_bytes.result = subst AreBytes (sym c.to_be_bytes.ensures) (number_bytes 8 c.args.block) in
    if_done_then c.program.result (b ≡ cleared a (4096 * j) c.to_be_bytes.result) (name_in j b ≡ c.args.block) done
    (programmed_name a b c.to_be_bytes.result j c.args.block (omega (arith, (g.met.N.Nor.obeys c.args.nor.now t).fits, c.count-image.ensures.count, c.count-image.ensures.all, c.requires.few)) (c.requires.erased t)
    c.ranges.block.fits c.to_be_bytes.ensures (ap length c.to_be_bytes.ensures) are)
