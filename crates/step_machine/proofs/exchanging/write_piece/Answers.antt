use Rattle.std.proofs.Common.{◌≡◌, ◌≤◌, ◌<◌, ◌+◌, ◌∙◌, List, length, sym, ap, subst}
use Rattle.suit_edge.specs.Ranges.{written}
use Rattle.suit_edge.specs.RangeLaws.{length-written}
use Rattle.flash_slots.specs.RamContents.{Held, held_by}
use Rattle.step_machine.specs.declared.spot.Spot.{Spot}
use Rattle.step_machine.specs.Areas.{size_at}
use Rattle.step_machine.specs.Spots.{IsSpot}
use Rattle.step_machine.proofs.Memory.{held_holding}
use Rattle.step_machine.proofs.Reading.{piece_kept}
use Rattle.step_machine.proofs.exchanging.write_piece.Goals as goal

pub returns-in-Flash-clause-keeps : goal.returns-in-Flash-clause-keeps
returns-in-Flash-clause-keeps g c t = piece_kept c.args.spot c.in-Flash.slot c.args.ram.now _ _ c.args.from (length c.args.piece.now) c.in-Flash.is c.requires.within (c.overwrite.ensures.keeps t)

pub returns-in-Ram-clause-long : goal.returns-in-Ram-clause-long
returns-in-Ram-clause-long g c =
    let ram = c.args.ram.now in
    let i = c.in-Ram.component in
    let content = (held_by ram i).content in
    let here : i < length ram = subst (λ (x : Spot). IsSpot (g.D.Disk.extent c.args.disk.now) ram x) c.in-Ram.is c.requires.spot in
    let within : c.args.from + length c.args.piece.now ≤ length content = subst (λ (x : Spot). c.args.from + length c.args.piece.now ≤ size_at x ram) c.in-Ram.is c.requires.within in
    subst (λ (x : Spot). size_at x c.put.new.self ≡ size_at x ram) (sym c.in-Ram.is)
    (ap (λ (r : List Held). length (held_by r i).content) c.put.ensures
    ∙ ap (λ (h : Held). length h.content) (held_holding ram i (written content c.args.from c.args.piece.now) here)
    ∙ length-written content c.args.from c.args.piece.now within)
