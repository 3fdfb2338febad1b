use Rattle.std.proofs.Common.{◌≤◌, ◌+◌, ◌∙◌, length, ap, List, ℕ, arith}
use Rattle.suit_edge.specs.Ranges.{written}
use Rattle.flash_slots.proofs.Stored.{emptied}
use Rattle.flash_slots.proofs.writing.begin.Goals as goal

pub returns-in-Done-clause-empty : goal.returns-in-Done-clause-empty
returns-in-Done-clause-empty g c t =
    let reads = (g.D.Disk.flash c.args.disk.now).reads in
    let law = g.met.D.Disk.obeys c.args.disk.now t in
    let inside : c.args.slot.start + (8 + c.args.slot.capacity) ≤ length reads = omega (arith, law.fits, c.requires) in
    emptied c.args.slot reads _ inside (c.in-Done.ensures.written t ∙ ap (λ (l : List ℕ). written reads c.args.slot.start l) c.to_be_bytes.ensures)
