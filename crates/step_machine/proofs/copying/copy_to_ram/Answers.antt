use Rattle.std.proofs.Common.{◌≡◌, ◌≤◌, ◌∙◌, List, ℕ, length, take, drop, sym, ap, subst, arith, rules}
use Rattle.std.proofs.lemmas.List.{length-append, length-take-le}
use Rattle.suit_edge.specs.FlashLaws.{grows_then, keeps_same, same_flash_then}
use Rattle.flash_slots.specs.RamContents.{held_by}
use Rattle.step_machine.specs.declared.spot.Spot.TheVariants as spots
use Rattle.step_machine.specs.Areas.{area_at}
use Rattle.step_machine.specs.Spots.{IsSpot, OutsideSpot}
use Rattle.step_machine.proofs.Both.{put_behind}
use Rattle.step_machine.proofs.Rooms.{kept_area, more_put}
use Rattle.step_machine.proofs.copying.copy_to_ram.Goals as goal

pub loop-from-preserved : goal.loop-from-preserved
loop-from-preserved g c =
    let ram = c.args.ram.now in
    let component = c.args.component in
    let here = (held_by c.loop-from.ram component).content in
    let piece : List ℕ = take c.in_ok-count.count c.read_piece.new.room in
    let few : c.in_ok-count.count ≤ length c.read_piece.new.room = omega (arith, c.in_ok-count.ensures.count, c.read_piece.auto.room) in
    let behind = put_behind ram c.loop-from.ram c.append.new.self component piece c.requires.component c.loop-from.invariant.ram c.in-Ok.ensures.1 in
    let count : length piece ≡ c.in_ok-count.count = length-take-le c.in_ok-count.count c.read_piece.new.room few in
    record {
      within = omega (arith, c.in_ok-count.ensures.count, c.loop-from-test.true);
      room = search rules;
      ram = behind.0;
      long = omega (arith, ap length behind.1, length-append here piece, count, c.loop-from.invariant.long);
      size = search rules;
      faults = search rules;
      content = λ t.
          let first = g.D.Disk.flash c.args.disk.now in
          let inside : IsSpot (length first.reads) ram c.args.source = subst (λ (n : ℕ). IsSpot n ram c.args.source) (sym (g.met.D.Disk.obeys c.args.disk.now t).fits) c.requires.source in
          let same = kept_area (spots.Ram component) c.args.source ram c.loop-from.ram first (g.D.Disk.flash c.loop-from.disk) c.requires.clear inside (here, c.loop-from.invariant.ram)
          (keeps_same (OutsideSpot (spots.Ram component)) first (g.D.Disk.flash c.loop-from.disk) (c.loop-from.invariant.same t)) in
          more_put (area_at c.args.source ram first.reads) here (held_by c.append.new.self component).content piece c.loop-from.from c.in_ok-count.count (c.loop-from.invariant.content t)
          (c.in_ok-count.ensures.bytes t ∙ ap (λ (l : List ℕ). take c.in_ok-count.count (drop c.loop-from.from l)) same) behind.1;
      same = λ t.
          same_flash_then _ _ _ _ (g.met.D.Disk.obeys c.loop-from.disk t) (c.loop-from.invariant.same t) (c.read_piece.ensures.read.same t);
      grows = λ t. grows_then (g.D.Disk.flash c.args.disk.now) (g.D.Disk.flash c.loop-from.disk) (g.D.Disk.flash c.read_piece.new.disk) (c.loop-from.invariant.same t).images.later (c.loop-from.invariant.grows t) (c.read_piece.ensures.read.grows t);
    }
