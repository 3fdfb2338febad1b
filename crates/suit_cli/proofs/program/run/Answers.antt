use Rattle.std.proofs.Common.{refl, subst}
use Rattle.suit_edge.specs.Flash.{IsFlash}
use Rattle.suit_cli.specs.Coming.{ended_of}
use Rattle.suit_cli.proofs.Sounding.{as_it_boots, stays_by}
use Rattle.suit_cli.proofs.RunEnds.{checks, launches}
use Rattle.suit_cli.proofs.program.run.Goals as goal

pub returns-clause-runs : goal.returns-clause-runs
returns-clause-runs g c = record {
  performs = record { ended = ended_of c.answer-answer.result; comes = c.answer-answer.ensures.answer; puts = c.put.ensures };
  any_moment = λ told. (c.answer-answer.ensures.flash told).any_moment;
  keeps = λ told. (c.answer-answer.ensures.flash told).keeps;
}

pub returns-clause-check : goal.returns-clause-check
returns-clause-check g c =
    checks c.args.words.now _ _ _ _ _ _ c.put.result.0 (returns-clause-runs g c).performs c.envelope_laws.ensures c.manifest_laws.ensures c.members_laws.ensures

pub returns-clause-launches : goal.returns-clause-launches
returns-clause-launches g c = launches c.args.words.now _ _ _ _ _ _ c.put.result.0 (returns-clause-runs g c).performs

pub returns-clause-sound : goal.returns-clause-sound
returns-clause-sound g c told settled = record {
  stays =
      stays_by c.sound_laws.ensures _ settled _ _ _ told refl
      (subst (IsFlash (g.D.Disk.flash c.answer-answer.new.flash)) c.answer-answer.ensures.extent (g.met.D.Disk.obeys c.answer-answer.new.flash told))
      (c.answer-answer.ensures.flash told).sound (c.answer-answer.ensures.flash told).any_moment;
  settled = (c.answer-answer.ensures.flash told).settled settled;
}

pub returns-clause-unasked : goal.returns-clause-unasked
returns-clause-unasked g c boots = as_it_boots _ _ boots c.answer-answer.ensures.unasked
