use Rattle.std.proofs.Common.{◌≤◌, ◌<◌, ◌^◌, ◌+◌, ◌∙◌, length, ap, List, ℕ, arith}
use Rattle.suit_edge.specs.Ranges.{written}
use Rattle.flash_slots.proofs.Stored.{finished}
use Rattle.flash_slots.proofs.overwriting.put_length.Goals as goal

pub returns-in-Done-clause-content : goal.returns-in-Done-clause-content
returns-in-Done-clause-content g c t =
    let reads = (g.D.Disk.flash c.args.disk.now).reads in
    let law = g.met.D.Disk.obeys c.args.disk.now t in
    let inside : c.args.slot.start + (8 + c.args.slot.capacity) ≤ length reads = omega (arith, law.fits, c.requires.slot) in
    let few : c.args.size < 2 ^ 64 = omega (arith, c.ranges.size) in
    finished c.args.slot c.args.size reads _ few c.requires.within inside (c.in-Done.ensures.written t ∙ ap (λ (l : List ℕ). written reads c.args.slot.start l) c.to_be_bytes.ensures)
