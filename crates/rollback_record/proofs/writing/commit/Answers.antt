use Rattle.std.proofs.Common.{◌+◌, ℕ, IsTrue, Option, Bor, option_map, refl, subst}
use Rattle.suit_edge.specs.Gate.{IsGate}
use Rattle.suit_edge.specs.FlashLaws.{each_read}
use Rattle.flash_layout.specs.declared.slot.Record.{Record}
use Rattle.flash_layout.specs.FrameFacts.{facts}
use Rattle.rollback_record.proofs.Answered.{both_done, counts_so, on_done}
use Rattle.rollback_record.proofs.Commits.{Begins, all_moments, behind_gate, gate_there, keeps_beside, long_behind, page_firm, recorded}
use Rattle.rollback_record.proofs.SoundSince.{follows_by, sound_by}
use Rattle.rollback_record.proofs.writing.commit.Given as given
use Rattle.rollback_record.proofs.writing.commit.Goals as goal
use Rattle.rollback_record.proofs.writing.commit.Goals.{After-behind_gate}

-- ---- the page is spelled, and then written

abbrev held_in : Option (Bor Record) → Option Record
held_in held = option_map (λ (r : Bor Record). r.now) held

begins : (g : given.Over) (c : After-behind_gate g) → IsTrue g.D.Disk.told
    → Begins c.args.frame (g.D.Disk.flash c.args.disk.now) (g.D.Disk.extent c.args.disk.now) c.args.spare.which
    (held_in c.args.held) c.args.new.now c.record_page-gate.result (c.record_page-gate.result + 1) c.behind_gate.result.now
begins g c t = record {
  law = g.met.D.Disk.obeys c.args.disk.now t;
  facts = facts (g.D.Disk.extent c.args.disk.now) c.args.frame c.requires.frame;
  is = c.requires.held t;
  firm = c.requires.firm t;
  spare = (c.requires.spare t).free;
  two = c.requires.two;
  next = c.requires.next;
  typed = c.typed.ensures;
  fields = c.requires.fields t;
  gate_is = c.record_page-gate.ensures;
  place_is = refl;
  body_is = behind_gate c.args.frame c.spell-page.result _ c.args.new.now c.spell-page.ensures.bytes c.behind_gate.ensures;
  long = long_behind c.args.frame c.spell-page.result _ c.spell-page.ensures.long c.behind_gate.ensures;
}

pub write_known-answer-requires-clause-firm : goal.write_known-answer-requires-clause-firm
write_known-answer-requires-clause-firm g c t = page_firm _ _ _ _ _ _ _ _ _ (begins g (goal.at.write_known-answer-requires-clause-firm g c).After-behind_gate t)

pub returns-clause-any_moment : goal.returns-clause-any_moment
returns-clause-any_moment g c t =
    all_moments _ _ _ _ _ _ _ _ _ (begins g (goal.at.returns-clause-any_moment g c).After-behind_gate t) _ (c.write_known-answer.ensures.any_moment t)

pub returns-clause-reads : goal.returns-clause-reads
returns-clause-reads g c t = each_read _ _ _ _ (g.met.D.Disk.obeys c.write_known-answer.new.disk t) (returns-clause-any_moment g c t)

pub returns-clause-keeps : goal.returns-clause-keeps
returns-clause-keeps g c t =
    keeps_beside _ _ _ _ _ _ _ _ _ (begins g (goal.at.returns-clause-keeps g c).After-behind_gate t) _ (c.write_known-answer.ensures.keeps t)

pub returns-clause-counts : goal.returns-clause-counts
returns-clause-counts g c =
    counts_so c.result_of.result c.write_known-answer.result _ _ c.result_of.ensures.ok c.result_of.ensures.err
    c.write_known-answer.ensures.counts

pub returns-clause-settled : goal.returns-clause-settled
returns-clause-settled g c t = on_done c.result_of.result _ _ c.result_of.ensures.ok (c.write_known-answer.ensures.settled t)

pub returns-clause-ok : goal.returns-clause-ok
returns-clause-ok g c t =
    on_done c.result_of.result c.write_known-answer.result _ c.result_of.ensures.ok
    (both_done c.write_known-answer.result _ _ _ (c.write_known-answer.ensures.page t) (c.write_known-answer.ensures.opened t)
    (recorded _ _ _ _ _ _ _ _ _ (begins g (goal.at.returns-clause-ok g c).After-behind_gate t) (g.D.Disk.flash c.write_known-answer.new.disk)))

-- ---- a sound flash

pub returns-clause-sound : goal.returns-clause-sound
returns-clause-sound g c t =
    sound_by (g.D.Disk.extent c.args.disk.now) c.args.frame c.requires.frame _ _ (c.requires.told t) _ _ (g.met.D.Disk.obeys c.args.disk.now t) (c.requires.held t) (c.requires.firm t) (returns-clause-any_moment g c t)
    (returns-clause-keeps g c t) (c.requires.fields t)

pub returns-clause-follows : goal.returns-clause-follows
returns-clause-follows g c t =
    follows_by (g.D.Disk.extent c.args.disk.now) c.args.frame c.requires.frame _ _ (c.requires.told t) _ _ (g.met.D.Disk.obeys c.args.disk.now t) (c.requires.held t) (c.requires.firm t) (returns-clause-any_moment g c t)
    (returns-clause-keeps g c t)

pub write_known-answer-requires-clause-known : goal.write_known-answer-requires-clause-known
write_known-answer-requires-clause-known g c t =
    let size = g.D.Disk.extent c.args.disk.now in
    subst (λ (b : ℕ). IsGate c.args.spare.gate b)
    (gate_there size c.args.frame (facts size c.args.frame c.requires.frame) (g.D.Disk.flash c.args.disk.now).reads _ c.args.spare.which c.requires.two c.record_page-gate.ensures)
    (c.requires.spare t).gate
