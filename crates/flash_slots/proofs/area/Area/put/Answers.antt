use Rattle.std.proofs.Common.{◌≤◌, ◌+◌, ◌∙◌, List, ℕ, ap, length, take, arith}
use Rattle.std.proofs.lemmas.List.{length-take-le}
use Rattle.suit_edge.specs.Ranges.{written}
use Rattle.flash_slots.specs.RamContents.{Held}
use Rattle.flash_slots.proofs.Over.{written_within}
use Rattle.flash_slots.proofs.area.Area.put.Goals as goal

pub returns-clause-content : goal.returns-clause-content
returns-clause-content c =
    let room = c.self.inside.room.items in
    let content = ap (λ (h : Held). h.content) c.self.view_is in
    let inside : c.args.from + length c.args.piece.now ≤ c.self.inside.used = omega (arith, c.requires, ap length content, length-take-le c.self.inside.used room c.self.invariant) in
    ap (take c.self.inside.used) c.write_over.ensures.bytes ∙ written_within room c.self.inside.used c.args.from c.args.piece.now inside c.self.invariant
    ∙ ap (λ (l : List ℕ). written l c.args.from c.args.piece.now) content
