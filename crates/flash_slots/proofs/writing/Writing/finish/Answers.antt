use Rattle.std.proofs.Common.{◌≡◌, ◌≤◌, ◌<◌, ◌^◌, ◌+◌, ◌∙◌, length, ap, List, ℕ, IsTrue, arith, rules}
use Rattle.suit_edge.specs.Flash.{Passes}
use Rattle.suit_edge.specs.Ranges.{written}
use Rattle.flash_slots.specs.Contents.{IsEmptyInEach, IsEmptyOrWhole, pieces_of}
use Rattle.flash_slots.proofs.Since.{whole_since}
use Rattle.flash_slots.proofs.Stored.{finished}
use Rattle.flash_slots.proofs.writing.Writing.finish.Given as given
use Rattle.flash_slots.proofs.writing.Writing.finish.Goals as goal
use Rattle.flash_slots.proofs.writing.Writing.finish.Goals.{After-write_and_sync}

pub returns-in-Done-write_and_sync-clause-content :
    goal.returns-in-Done-write_and_sync-clause-content
returns-in-Done-write_and_sync-clause-content g c t =
    let reads = (g.D.Disk.flash c.sync.new.self).reads in
    let law = g.met.D.Disk.obeys c.sync.new.self t in
    let inside : c.args.self.slot.start + (8 + c.args.self.slot.capacity) ≤ length reads = omega (arith, law.fits, c.sync.ensures.size, c.requires.slot) in
    let few : c.args.self.written < 2 ^ 64 = omega (arith, c.size-size.ensures, c.requires.slot, c.requires.within) in
    finished c.args.self.slot c.args.self.written reads _ few c.requires.within inside (c.in-Done-write_and_sync.ensures.written t ∙ ap (λ (l : List ℕ). written reads c.args.self.slot.start l) c.to_be_bytes.ensures)
    ∙ ap (pieces_of c.args.self.slot c.args.self.written) (c.sync.ensures.same t).reads

-- each moment of the write of the length
moments : (g : given.Over) (c : After-write_and_sync g) → IsTrue g.D.Disk.told → IsEmptyInEach c.args.self.slot (g.D.Disk.flash c.args.disk.now)
    → Passes (g.D.Disk.flash c.args.disk.now) (g.D.Disk.flash c.write_and_sync.new.disk)
    (IsEmptyOrWhole c.args.self.slot c.args.self.written (g.D.Disk.flash c.args.disk.now).reads)
moments g c t empty =
    let inside : c.args.self.slot.start + (8 + c.args.self.slot.capacity) ≤ g.D.Disk.extent c.sync.new.self = omega (arith, c.sync.ensures.size, c.requires.slot) in
    let long : length c.to_be_bytes.result ≡ 8 = search rules in
    whole_since c.args.self.slot c.args.self.written (g.D.Disk.flash c.args.disk.now) (g.D.Disk.flash c.sync.new.self) (c.sync.ensures.same t) empty (g.D.Disk.flash c.write_and_sync.new.disk) (g.D.Disk.extent c.sync.new.self) (length c.to_be_bytes.result)
    (g.met.D.Disk.obeys c.sync.new.self t) inside c.requires.within (c.in-Done.ensures.settled t) long (c.write_and_sync.ensures.keeps t)

pub returns-in-Failed-write_and_sync-clause-any_moment :
    goal.returns-in-Failed-write_and_sync-clause-any_moment
returns-in-Failed-write_and_sync-clause-any_moment g c =
    moments g (goal.at.returns-in-Failed-write_and_sync-clause-any_moment g c).After-write_and_sync

pub returns-in-Done-write_and_sync-clause-any_moment :
    goal.returns-in-Done-write_and_sync-clause-any_moment
returns-in-Done-write_and_sync-clause-any_moment g c =
    moments g (goal.at.returns-in-Done-write_and_sync-clause-any_moment g c).After-write_and_sync
