use Rattle.std.proofs.Common.{sym, arith, rules}
use Rattle.suit_edge.specs.PieceLaws.{piece_kept, piece_written}
use Rattle.suit_edge.specs.FlashLaws.{keeps_same, keeps_start, keeps_then}
use Rattle.suit_edge.specs.RangeLaws.{written-none}
use Rattle.suit_edge.proofs.client.keep_pieces.Goals as goal

pub loop-done-init : goal.loop-done-init
loop-done-init g c = record {
  within = omega arith;
  size = search rules;
  faults = search rules;
  written = λ t. let law = g.met.D.Disk.obeys c.args.disk.now t in sym (written-none _ c.args.place (omega (arith, law.fits)));
  keeps = λ t. keeps_start _ _;
}

pub returns-in-Failed-clause-keeps : goal.returns-in-Failed-clause-keeps
returns-in-Failed-clause-keeps g c t =
    piece_kept c.args.bytes.now c.args.place c.loop-done.done c.min.result (omega arith) _ _ _ _ (g.met.D.Disk.obeys c.loop-done.disk t) (c.loop-done.invariant.keeps t) (c.write_at.ensures.keeps t)

pub loop-done-preserved : goal.loop-done-preserved
loop-done-preserved g c = record {
  within = omega arith;
  size = search rules;
  faults = search rules;
  written = λ t.
      let law = g.met.D.Disk.obeys c.args.disk.now t in
      piece_written c.args.bytes.now c.args.place c.loop-done.done c.min.result (omega arith) _ _ _ (omega (arith, law.fits)) (c.loop-done.invariant.written t) (c.in-Done.ensures.written t);
  keeps = λ t.
      piece_kept c.args.bytes.now c.args.place c.loop-done.done c.min.result (omega arith) _ _ _ _ (g.met.D.Disk.obeys c.loop-done.disk t) (c.loop-done.invariant.keeps t) (c.write_at.ensures.keeps t);
}

pub returns-clause-keeps : goal.returns-clause-keeps
returns-clause-keeps g c t = keeps_then _ _ _ _ _ (g.met.D.Disk.obeys c.loop-done.disk t) (c.loop-done.invariant.keeps t) (keeps_same _ _ _ (c.sync.ensures.same t))
