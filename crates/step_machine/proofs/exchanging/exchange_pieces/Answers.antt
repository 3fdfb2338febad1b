use Rattle.std.proofs.Common.{◌≡◌, ◌≤◌, ◌+◌, ◌∙◌, List, ℕ, length, take, drop, refl, ap, arith}
use Rattle.std.proofs.lemmas.List.{length-append, length-drop, length-take-le}
use Rattle.suit_edge.specs.FlashLaws.{grows_start, grows_then, keeps_same, keeps_start, keeps_then}
use Rattle.step_machine.specs.Areas.{area_at}
use Rattle.step_machine.specs.Copying.{OutsideRooms}
use Rattle.step_machine.proofs.Both.{both_then, first_changed}
use Rattle.step_machine.proofs.Memory.{ram_same}
use Rattle.step_machine.proofs.Outcomes.{on_ok}
use Rattle.step_machine.proofs.Rooms.{all_mixed, piece_mixed}
use Rattle.step_machine.proofs.exchanging.exchange_pieces.Goals as goal

pub loop-from-init : goal.loop-from-init
loop-from-init g c = record {
  within = omega arith;
  room = refl;
  spare = refl;
  long = refl;
  other_long = refl;
  ram = first_changed c.args.one c.args.other c.args.ram.now c.args.ram.now (ram_same c.args.one c.args.ram.now);
  size = refl;
  faults = refl;
  one = λ t. refl;
  other = λ t. refl;
  keeps = λ t. keeps_start (OutsideRooms c.args.one c.args.other) (g.D.Disk.flash c.args.disk.now);
  grows = λ t. grows_start (g.D.Disk.flash c.args.disk.now);
}

pub returns-in_err-exchange_piece-clause-ram : goal.returns-in_err-exchange_piece-clause-ram
returns-in_err-exchange_piece-clause-ram g c =
    both_then c.args.one c.args.other c.args.ram.now c.loop-from.ram c.exchange_piece.new.ram c.requires.pair.clear c.loop-from.invariant.ram c.exchange_piece.ensures.ram

pub returns-in_err-exchange_piece-clause-keeps : goal.returns-in_err-exchange_piece-clause-keeps
returns-in_err-exchange_piece-clause-keeps g c t =
    keeps_then (OutsideRooms c.args.one c.args.other) _ (g.D.Disk.flash c.loop-from.disk) _ _ (g.met.D.Disk.obeys c.loop-from.disk t) (c.loop-from.invariant.keeps t) (c.exchange_piece.ensures.keeps t)

pub loop-from-preserved : goal.loop-from-preserved
loop-from-preserved g c =
    let one = c.args.one in
    let other = c.args.other in
    let ram = c.args.ram.now in
    let from = c.loop-from.from in
    let n = c.min-count.result in
    let within : from + n ≤ c.args.size = omega (arith, c.min-count.ensures, c.loop-from-test.true) in
    let room_few : n ≤ length c.loop-from.room = omega (arith, c.min-count.ensures, c.min-limit.ensures, c.loop-from.invariant.room) in
    let spare_few : n ≤ length c.loop-from.spare = omega (arith, c.min-count.ensures, c.min-limit.ensures, c.loop-from.invariant.spare) in
    let room_taken : length (take n c.loop-from.room) ≡ n = length-take-le n c.loop-from.room room_few in
    let spare_taken : length (take n c.loop-from.spare) ≡ n = length-take-le n c.loop-from.spare spare_few in
    record {
      within = within;
      room = omega (arith, length-append c.exchange_piece.new.room (drop n c.loop-from.room), length-drop n c.loop-from.room, c.exchange_piece.auto.room, room_taken, room_few, c.loop-from.invariant.room);
      spare = omega (arith, length-append c.exchange_piece.new.spare (drop n c.loop-from.spare), length-drop n c.loop-from.spare, c.exchange_piece.auto.spare, spare_taken, spare_few, c.loop-from.invariant.spare);
      long = c.exchange_piece.ensures.long ∙ c.loop-from.invariant.long;
      other_long = c.exchange_piece.ensures.other_long ∙ c.loop-from.invariant.other_long;
      ram = both_then one other ram c.loop-from.ram c.exchange_piece.new.ram c.requires.pair.clear c.loop-from.invariant.ram c.exchange_piece.ensures.ram;
      size = c.exchange_piece.ensures.goes.size ∙ c.loop-from.invariant.size;
      faults = c.in_ok-exchange_piece.ensures.goes.counts ∙ c.loop-from.invariant.faults;
      one = λ t.
          piece_mixed one other ram c.loop-from.ram _ (g.D.Disk.flash c.loop-from.disk).reads _ _ from n _ (g.met.D.Disk.obeys c.args.disk.now t).fits c.requires.pair.one c.requires.pair.other (omega (arith, within, c.requires.within)) (omega (arith, within, c.requires.other_within)) room_taken
          (c.loop-from.invariant.one t) (c.loop-from.invariant.other t) (c.in_ok-exchange_piece.ensures.one t);
      other = λ t.
          piece_mixed other one ram c.loop-from.ram _ (g.D.Disk.flash c.loop-from.disk).reads _ _ from n _ (g.met.D.Disk.obeys c.args.disk.now t).fits c.requires.pair.other c.requires.pair.one (omega (arith, within, c.requires.other_within)) (omega (arith, within, c.requires.within)) room_taken
          (c.loop-from.invariant.other t) (c.loop-from.invariant.one t) (c.in_ok-exchange_piece.ensures.other t);
      keeps = λ t.
          keeps_then (OutsideRooms one other) _ (g.D.Disk.flash c.loop-from.disk) _ _ (g.met.D.Disk.obeys c.loop-from.disk t) (c.loop-from.invariant.keeps t) (c.exchange_piece.ensures.keeps t);
      grows = λ t.
          grows_then (g.D.Disk.flash c.args.disk.now) (g.D.Disk.flash c.loop-from.disk) (g.D.Disk.flash c.exchange_piece.new.disk) (c.loop-from.invariant.keeps t).images.later (c.loop-from.invariant.grows t) (c.exchange_piece.ensures.goes.grows t);
    }

pub returns-clause-one : goal.returns-clause-one
returns-clause-one g c t =
    on_ok c.sync_slots.result (c.sync_slots.ensures.settled t) (λ _.
    ap (λ (l : List ℕ). take c.args.size (area_at c.args.one c.loop-from.ram l)) (c.sync_slots.ensures.read.same t).reads
    ∙ all_mixed c.args.one c.args.other c.args.ram.now _ _ _ c.loop-from.from c.args.size (g.met.D.Disk.obeys c.args.disk.now t).fits c.requires.pair.other (omega (arith, c.loop-from-test.false, c.loop-from.invariant.within)) c.requires.other_within (c.loop-from.invariant.one t))

pub returns-clause-other : goal.returns-clause-other
returns-clause-other g c t =
    on_ok c.sync_slots.result (c.sync_slots.ensures.settled t) (λ _.
    ap (λ (l : List ℕ). take c.args.size (area_at c.args.other c.loop-from.ram l)) (c.sync_slots.ensures.read.same t).reads
    ∙ all_mixed c.args.other c.args.one c.args.ram.now _ _ _ c.loop-from.from c.args.size (g.met.D.Disk.obeys c.args.disk.now t).fits c.requires.pair.one (omega (arith, c.loop-from-test.false, c.loop-from.invariant.within)) c.requires.within (c.loop-from.invariant.other t))

pub returns-clause-keeps : goal.returns-clause-keeps
returns-clause-keeps g c t =
    keeps_then (OutsideRooms c.args.one c.args.other) _ (g.D.Disk.flash c.loop-from.disk) _ _ (g.met.D.Disk.obeys c.loop-from.disk t) (c.loop-from.invariant.keeps t) (keeps_same (OutsideRooms c.args.one c.args.other) _ _ (c.sync_slots.ensures.read.same t))
