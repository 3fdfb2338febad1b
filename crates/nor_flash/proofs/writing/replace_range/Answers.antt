use Rattle.std.proofs.Common.{◌≡◌, ◌+◌, ◌*◌, ◌/◌, ◌%◌, ◌<◌, ℕ, List, refl, sym, ◌∙◌, ap, arith}
use Rattle.std.specs.List.{slice_range}
use Rattle.suit_edge.specs.Ranges.{written}
use Rattle.nor_flash.specs.declared.phase.Phase.TheVariants as phases
use Rattle.nor_flash.specs.Blocks.{plain}
use Rattle.nor_flash.specs.NorDisks.{blocks_of, nor_flash}
use Rattle.nor_flash.proofs.Calm.{IsCalm, IsSized, calm_by, calm_disk, calm_fits, sized_by}
use Rattle.nor_flash.proofs.Fronts.{settled_part}
use Rattle.nor_flash.proofs.Pieces.{block_written}
use Rattle.nor_flash.proofs.Replacement.{then_replaced}
use Rattle.nor_flash.proofs.Steadiness.{read_step}
use Rattle.nor_flash.proofs.Written.{nothing_written, replaced_written}
use Rattle.nor_flash.proofs.writing.replace_range.Goals as goal

pub returns-in-Failed-clause-writes : goal.returns-in-Failed-clause-writes
returns-in-Failed-clause-writes g c t =
    rw c.requires.settled (nothing_written (read_step (blocks_of (g.N.Nor.extent c.args.nor.now)) phases.Settled (c.read_at.ensures.same t) (c.read_at.ensures.grows t)))

pub returns-clause-writes : goal.returns-clause-writes
returns-clause-writes g c t =
    let size = g.N.Nor.extent c.args.nor.now in
    let a = g.N.Nor.flash c.args.nor.now in
    let b = g.N.Nor.flash c.read_at.new.self in
    let f = g.N.Nor.flash c.replace.new.nor in
    let block : ℕ = c.args.place / 4096 in
    let read = read_step (blocks_of size) phases.Settled (c.read_at.ensures.same t) (c.read_at.ensures.grows t) in
    let sized : IsSized size = sized_by size c.count-image.result c.count-image.ensures.count c.count-image.ensures.few c.count-image.ensures.all in
    let calm_a : IsCalm size a = calm_by refl (g.met.N.Nor.obeys c.args.nor.now t) (g.met.N.Nor.rests c.args.nor.now t) (g.met.N.Nor.cells c.args.nor.now t) in
    let calm_f : IsCalm size f = calm_by (c.replace.ensures.size ∙ c.read_at.ensures.size) (g.met.N.Nor.obeys c.replace.new.nor t) (g.met.N.Nor.rests c.replace.new.nor t) (g.met.N.Nor.cells c.replace.new.nor t) in
    let near : block < blocks_of size = omega (arith, c.requires.fits, c.requires.some) in
    let room : c.read_at.new.room ≡ slice_range (plain (blocks_of size) a.reads) (4096 * block) (4096 * block + 4096) =
    c.in-Done.ensures.bytes t ∙ sym (settled_part (blocks_of size) sized.few a.reads (calm_fits sized calm_a) (c.requires.erased t) (4096 * block) (4096 * block + 4096) (omega arith) (omega (arith, near))) in
    -- the block with the bytes in it
    let is : written (plain (blocks_of size) b.reads) (4096 * block) c.put.new.room ≡ written (plain (blocks_of size) a.reads) c.args.place c.args.bytes.now =
    ap (λ (l : List ℕ). written l (4096 * block) c.put.new.room) read.same.reads
    ∙ ap (written (plain (blocks_of size) a.reads) (4096 * block)) (c.put.ensures ∙ ap (λ (l : List ℕ). written l (c.args.place % 4096) c.args.bytes.now) room)
    ∙ block_written (plain (blocks_of size) a.reads) c.args.bytes.now block (c.args.place % 4096) c.args.place (omega arith) c.requires.block (omega (arith, (calm_disk phases.Settled calm_a).fits, near)) in
    replaced_written (nor_flash (blocks_of size) phases.Settled a) (nor_flash (blocks_of size) c.replace.new.phase f) c.replace.result (calm_disk phases.Settled calm_a) (calm_disk c.replace.new.phase calm_f)
    c.requires.fits (rw (c.read_at.ensures.size, is) at (c.replace.ensures.written t))
    (then_replaced calm_a read _ c.replace.new.phase f (rw (c.read_at.ensures.size, is) at (c.replace.ensures.replaced t)))
