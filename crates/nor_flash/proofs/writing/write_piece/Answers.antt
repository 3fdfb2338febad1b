use Rattle.std.proofs.Common.{◌+◌, ℕ, List, IsTrue, length, refl, subst, arith}
use Rattle.lane_bytes.specs.Bytes.{OnlyClears}
use Rattle.nor_flash.specs.declared.phase.Phase.TheVariants as phases
use Rattle.nor_flash.specs.NorDisks.{IsSteady, blocks_of, nor_flash}
use Rattle.nor_flash.proofs.Calm.{IsCalm, IsSized, calm_by, calm_fits, sized_by}
use Rattle.nor_flash.proofs.Fronts.{settled_part}
use Rattle.nor_flash.proofs.Steadiness.{read_step}
use Rattle.nor_flash.proofs.Written.{nothing_written, then_written}
use Rattle.nor_flash.proofs.writing.write_piece.Given as given
use Rattle.nor_flash.proofs.writing.write_piece.Goals as goal
use Rattle.nor_flash.proofs.writing.write_piece.Goals.{After-clears}

module _ (g : given.Over) (c : After-clears g) (t : IsTrue g.N.Nor.told) where
  was_read : IsSteady (blocks_of (g.N.Nor.extent c.args.nor.now)) phases.Settled (g.N.Nor.flash c.args.nor.now) phases.Settled (g.N.Nor.flash c.clears.new.nor)
  was_read = read_step (blocks_of (g.N.Nor.extent c.args.nor.now)) phases.Settled (c.clears.ensures.same t) (c.clears.ensures.grows t)

  calm_read : IsCalm (g.N.Nor.extent c.args.nor.now) (g.N.Nor.flash c.clears.new.nor)
  calm_read = calm_by c.clears.ensures.size (g.met.N.Nor.obeys c.clears.new.nor t) (g.met.N.Nor.rests c.clears.new.nor t) (g.met.N.Nor.cells c.clears.new.nor t)

pub returns-in-None-clause-writes : goal.returns-in-None-clause-writes
returns-in-None-clause-writes g c t =
    rw c.requires.settled (nothing_written (was_read g (goal.at.returns-in-None-clause-writes g c).After-clears t))

pub returns-in-Some-true-clause-writes : goal.returns-in-Some-true-clause-writes
returns-in-Some-true-clause-writes g c t =
    let at = (goal.at.returns-in-Some-true-clause-writes g c).After-clears in
    rw c.requires.settled (then_written (nor_flash (blocks_of (g.N.Nor.extent c.args.nor.now)) phases.Settled (g.N.Nor.flash c.clear_bits.new.nor)) (calm_read g at t) (was_read g at t)
    (rw c.clears.ensures.size at (c.clear_bits.ensures.writes t)))

pub returns-in-Some-false-clause-writes : goal.returns-in-Some-false-clause-writes
returns-in-Some-false-clause-writes g c t =
    let at = (goal.at.returns-in-Some-false-clause-writes g c).After-clears in
    then_written (nor_flash (blocks_of (g.N.Nor.extent c.args.nor.now)) c.replace_range.new.phase (g.N.Nor.flash c.replace_range.new.nor)) (calm_read g at t) (was_read g at t)
    (rw c.clears.ensures.size at (c.replace_range.ensures.writes t))

pub returns-in-Some-false-clause-erases : goal.returns-in-Some-false-clause-erases
returns-in-Some-false-clause-erases g c t only =
    let sized : IsSized (g.N.Nor.extent c.args.nor.now) = sized_by (g.N.Nor.extent c.args.nor.now) c.count-image.result c.count-image.ensures.count c.count-image.ensures.few c.count-image.ensures.all in
    let calm : IsCalm (g.N.Nor.extent c.args.nor.now) (g.N.Nor.flash c.args.nor.now) = calm_by refl (g.met.N.Nor.obeys c.args.nor.now t) (g.met.N.Nor.rests c.args.nor.now t) (g.met.N.Nor.cells c.args.nor.now t) in
    let is = settled_part (blocks_of (g.N.Nor.extent c.args.nor.now)) sized.few _ (calm_fits sized calm) (c.requires.erased t) c.args.place (c.args.place + length c.args.bytes.now) (omega arith) c.requires.fits in
    let yes = (c.in-Some-false.ensures.exact t).1 (subst (λ (l : List ℕ). OnlyClears l c.args.bytes.now) is only) in
    absurd (cc (yes, c.in-Some-false.field-0-test))
