use Rattle.std.proofs.Common.{◌≡◌, ◌+◌, ◌≤◌, IsTrue, length, refl, ◌∙◌, arith}
use Rattle.std.specs.List.{slice_range}
use Rattle.lane_bytes.specs.Bytes.{OnlyClears}
use Rattle.nor_flash.specs.Blocks.{plain}
use Rattle.nor_flash.specs.NorDisks.{blocks_of}
use Rattle.nor_flash.proofs.Calm.{IsCalm, calm_by}
use Rattle.nor_flash.proofs.Progress.{all_written, failed_on, goes_on, none_written, piece_clears}
use Rattle.nor_flash.proofs.writing.write_settled.Given as given
use Rattle.nor_flash.proofs.writing.write_settled.Goals as goal
use Rattle.nor_flash.proofs.writing.write_settled.Goals.{After-count-image, After-write_piece}

calm_start : (g : given.Over) (c : After-count-image g) → IsTrue g.N.Nor.told → IsCalm (g.N.Nor.extent c.args.nor.now) (g.N.Nor.flash c.args.nor.now)
calm_start g c t = calm_by refl (g.met.N.Nor.obeys c.args.nor.now t) (g.met.N.Nor.rests c.args.nor.now t) (g.met.N.Nor.cells c.args.nor.now t)

-- a piece was written, or failed
module _ (g : given.Over) (c : After-write_piece g) (t : IsTrue g.N.Nor.told) where
  calm_a : IsCalm (g.N.Nor.extent c.args.nor.now) (g.N.Nor.flash c.args.nor.now)
  calm_a = calm_by refl (g.met.N.Nor.obeys c.args.nor.now t) (g.met.N.Nor.rests c.args.nor.now t) (g.met.N.Nor.cells c.args.nor.now t)

  calm_b : IsCalm (g.N.Nor.extent c.args.nor.now) (g.N.Nor.flash c.loop-at.nor)
  calm_b = calm_by c.loop-at.invariant.size (g.met.N.Nor.obeys c.loop-at.nor t) (g.met.N.Nor.rests c.loop-at.nor t) (g.met.N.Nor.cells c.loop-at.nor t)

  end : c.loop-at.at + c.piece_length.result ≤ length c.args.bytes.now
  end = omega (arith, c.piece_length.ensures.within, c.loop-at-test.true)

  no_erase : OnlyClears (slice_range (plain (blocks_of (g.N.Nor.extent c.args.nor.now)) (g.N.Nor.flash c.args.nor.now).reads) c.args.place (c.args.place + length c.args.bytes.now)) c.args.bytes.now
      → g.N.Nor.erases c.write_piece.new.nor ≡ g.N.Nor.erases c.args.nor.now
  no_erase only =
      (rw c.loop-at.invariant.size at (c.write_piece.ensures.erases t)) (piece_clears calm_a c.args.place c.args.bytes.now c.requires.fits calm_b c.loop-at.at _ (omega arith) end (c.loop-at.invariant.up t) only)
      ∙ c.loop-at.invariant.erases t only

pub loop-at-init : goal.loop-at-init
loop-at-init g c = record {
  settled = c.requires.settled;
  within = omega arith;
  size = refl;
  counts = refl;
  up = λ t. none_written (calm_start g (goal.at.loop-at-init g c).After-count-image t) c.args.place c.args.bytes.now c.requires.fits (c.requires.erased t);
  erases = λ t only. refl;
}

pub returns-in-Failed-clause-writes : goal.returns-in-Failed-clause-writes
returns-in-Failed-clause-writes g c t =
    let at = (goal.at.returns-in-Failed-clause-writes g c).After-write_piece in
    failed_on (calm_a g at t) c.args.place c.args.bytes.now c.requires.fits (calm_b g at t) c.loop-at.at _ (omega arith) (end g at t) (c.loop-at.invariant.up t) _ _
    (rw c.loop-at.invariant.size at (c.write_piece.ensures.writes t))

pub returns-in-Failed-clause-erases : goal.returns-in-Failed-clause-erases
returns-in-Failed-clause-erases g c t = no_erase g (goal.at.returns-in-Failed-clause-erases g c).After-write_piece t

pub loop-at-preserved : goal.loop-at-preserved
loop-at-preserved g c =
    let at = (goal.at.loop-at-preserved g c).After-write_piece in
    record {
      settled = c.in-Done.ensures.settled;
      within = omega (arith, c.piece_length.ensures.within, c.loop-at-test.true);
      size = c.write_piece.ensures.size ∙ c.loop-at.invariant.size;
      counts = c.in-Done.ensures.counts ∙ c.loop-at.invariant.counts;
      up = λ t. goes_on (calm_a g at t) c.args.place c.args.bytes.now c.requires.fits (calm_b g at t) c.loop-at.at _ (omega arith) (end g at t) (c.loop-at.invariant.up t)
          (g.N.Nor.flash c.write_piece.new.nor) (rw (c.loop-at.invariant.size, c.in-Done.ensures.settled) at (c.write_piece.ensures.knows.1 t))
          (rw (c.loop-at.invariant.size, c.in-Done.ensures.settled) at (c.in-Done.ensures.writes t));
      erases = λ t. no_erase g at t;
    }

pub returns-clause-writes : goal.returns-clause-writes
returns-clause-writes g c t =
    rw c.loop-at.invariant.settled (all_written (calm_start g (goal.at.returns-clause-writes g c).After-count-image t) c.args.place c.args.bytes.now c.requires.fits (g.N.Nor.flash c.loop-at.nor) c.loop-at.at
    (omega (arith, c.loop-at-test.false)) (c.loop-at.invariant.up t))
