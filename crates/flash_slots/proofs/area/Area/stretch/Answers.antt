use Rattle.std.proofs.Common.{◌≡◌, ◌∙◌, ℕ, ap, sym, length, take, arith, rules}
use Rattle.std.proofs.lemmas.List.{length-take-le, take-take}
use Rattle.flash_slots.specs.RamContents.{Held}
use Rattle.flash_slots.proofs.area.Area.stretch.Goals as goal

pub returns : goal.returns
returns c =
    let room = c.self.inside.room.items in
    let content = ap (λ (h : Held). h.content) c.self.view_is in
    let used : ℕ = c.self.inside.used in
    let capacity = ap (λ (h : Held). h.capacity) c.self.view_is in
    let is : length c.args.self.now.content ≡ used = sym (ap length content) ∙ length-take-le used room c.self.invariant in
    record {
      capacity = search rules;
      long = length-take-le c.args.size room (omega (arith, capacity, c.requires.fits));
      front = ap (λ (n : ℕ). take n (take c.args.size room)) is ∙ take-take used c.args.size room (omega (arith, is, c.requires.behind)) ∙ content;
    }
