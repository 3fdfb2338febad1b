use Rattle.std.proofs.Common.{◌≤◌, ◌+◌, ℕ, List, length, get_or, IsTrue, sym, subst, arith, rules}
use Rattle.std.specs.List.{All}
use Rattle.std.proofs.lemmas.List.Elements.{All-get_or}
use Rattle.suit_edge.specs.Flash.{Keeps}
use Rattle.suit_edge.specs.FlashLaws.{grows_then}
use Rattle.flash_layout.specs.Formats.{HasLength, OutsideLengths}
use Rattle.flash_layout.proofs.Zeros.{slot_clear, slot_kept, zeros_then, zeros_written}
use Rattle.flash_layout.proofs.formatting.empty_slots.Given as given
use Rattle.flash_layout.proofs.formatting.empty_slots.Goals as goal
use Rattle.flash_layout.proofs.formatting.empty_slots.Goals.{After-write_at}

pub returns-in-Failed-clause-keeps : goal.returns-in-Failed-clause-keeps
returns-in-Failed-clause-keeps g c t =
    subst (λ (l : List ℕ). Keeps (OutsideLengths l) (g.D.Disk.flash c.args.disk.now) (g.D.Disk.flash c.write_at.new.self)) c.slots_of-starts.ensures
    (slot_kept _ _ _ _ c.slots_of-starts.result.now c.loop-start.start-index (g.met.D.Disk.obeys c.loop-start.disk t) c.loop-start-test.true (c.loop-start.invariant.keeps t) (c.write_at.ensures.keeps t))

-- the length is inside the disk
fits : (g : given.Over) (c : After-write_at g) → IsTrue g.D.Disk.told → get_or c.slots_of-starts.result.now c.loop-start.start-index 0 + 8 ≤ length (g.D.Disk.flash c.loop-start.disk).reads
fits g c t =
    let law = g.met.D.Disk.obeys c.loop-start.disk t in
    omega (arith, law.fits, c.loop-start.invariant.size, All-get_or (HasLength (g.D.Disk.extent c.args.disk.now)) c.slots_of-starts.result.now c.loop-start.start-index 0 c.loop-start-test.true (subst (All (HasLength (g.D.Disk.extent c.args.disk.now))) (sym c.slots_of-starts.ensures) c.requires.1))

pub loop-start-preserved : goal.loop-start-preserved
loop-start-preserved g c =
    let at = (goal.at.loop-start-preserved g c).After-write_at in
    let old = g.D.Disk.flash c.loop-start.disk in
    let new = g.D.Disk.flash c.write_at.new.self in
    record {
      size = search rules;
      faults = search rules;
      clear = λ t. slot_clear old.reads new.reads c.slots_of-starts.result.now c.loop-start.start-index (fits g at t) (c.in-Done.ensures.written t) (c.loop-start.invariant.clear t);
      zeros = λ t. zeros_then _ _ _ (c.loop-start.invariant.zeros t) (zeros_written old.reads new.reads (get_or c.slots_of-starts.result.now c.loop-start.start-index 0) (fits g at t) (c.in-Done.ensures.written t));
      keeps = λ t. slot_kept _ old new _ c.slots_of-starts.result.now c.loop-start.start-index (g.met.D.Disk.obeys c.loop-start.disk t) c.loop-start-test.true (c.loop-start.invariant.keeps t) (c.write_at.ensures.keeps t);
      grows = λ t. grows_then (g.D.Disk.flash c.args.disk.now) old new (c.loop-start.invariant.keeps t).images.later (c.loop-start.invariant.grows t) (c.write_at.ensures.grows t);
    }
