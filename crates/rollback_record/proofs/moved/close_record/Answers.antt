use Rattle.std.proofs.Common.{ℕ, List, [], ◌∷◌, get_or, ap, subst, ◌∙◌, arith}
use Rattle.suit_edge.specs.Flash.{Keeps}
use Rattle.suit_edge.specs.RangeLaws.{written_one}
use Rattle.suit_edge.specs.Ranges.{Outside, written}
use Rattle.flash_layout.specs.FrameFacts.{facts}
use Rattle.flash_layout.specs.Frames.{record_place}
use Rattle.rollback_record.proofs.moved.close_record.Goals as goal

pub returns-in-Done-clause-closed : goal.returns-in-Done-clause-closed
returns-in-Done-clause-closed g c t =
    let a = (g.D.Disk.flash c.args.disk.now).reads in
    let p = record_place c.args.frame c.args.which in
    let place = facts (g.D.Disk.extent c.args.disk.now) c.args.frame c.requires.frame in
    ap (λ (l : List ℕ). get_or l p 0) (c.in-Done.ensures.written t ∙ ap (λ (q : ℕ). written a q (0 ∷ [])) c.record_page.ensures)
    ∙ written_one a p 0 (omega (arith, c.requires.which, place.inside, place.head, (g.met.D.Disk.obeys c.args.disk.now t).fits))

pub returns-in-Done-clause-keeps : goal.returns-in-Done-clause-keeps
returns-in-Done-clause-keeps g c t = subst (λ (p : ℕ). Keeps (Outside p 1) (g.D.Disk.flash c.args.disk.now) (g.D.Disk.flash c.write_at.new.self)) c.record_page.ensures (c.write_at.ensures.keeps t)

pub returns-in-Failed-clause-keeps : goal.returns-in-Failed-clause-keeps
returns-in-Failed-clause-keeps g c t = subst (λ (p : ℕ). Keeps (Outside p 1) (g.D.Disk.flash c.args.disk.now) (g.D.Disk.flash c.write_at.new.self)) c.record_page.ensures (c.write_at.ensures.keeps t)
