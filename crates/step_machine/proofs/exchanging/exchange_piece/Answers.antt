use Rattle.std.proofs.Common.{◌≡◌, ◌≤◌, ◌∙◌, List, ℕ, length, take, drop, sym, ap, subst, arith}
use Rattle.std.proofs.lemmas.List.{take_all}
use Rattle.suit_edge.specs.Ranges.{written}
use Rattle.step_machine.specs.Areas.{OutsideRoom, area_at}
use Rattle.step_machine.specs.Copying.{OutsideRooms}
use Rattle.step_machine.specs.Spots.{IsSpot}
use Rattle.step_machine.proofs.Both.{both_same, clear_back, first_changed, spot_stays}
use Rattle.step_machine.proofs.Outcomes.{on_ok}
use Rattle.step_machine.proofs.Reading.{both_written, first_written, two_reads}
use Rattle.step_machine.proofs.Replaced.{keeps_room}
use Rattle.step_machine.proofs.Rooms.{kept_area}
use Rattle.step_machine.proofs.exchanging.exchange_piece.Goals as goal

pub returns-in_err-read_piece-clause-ram : goal.returns-in_err-read_piece-clause-ram
returns-in_err-read_piece-clause-ram g c = both_same c.args.one c.args.other c.args.ram.now

pub returns-in_err-read_piece-2-clause-ram : goal.returns-in_err-read_piece-2-clause-ram
returns-in_err-read_piece-2-clause-ram g c = both_same c.args.one c.args.other c.args.ram.now

pub returns-in_err-write_piece-clause-ram : goal.returns-in_err-write_piece-clause-ram
returns-in_err-write_piece-clause-ram g c = first_changed c.args.one c.args.other c.args.ram.now c.write_piece.new.ram c.write_piece.ensures.ram

pub returns-in_err-write_piece-clause-keeps : goal.returns-in_err-write_piece-clause-keeps
returns-in_err-write_piece-clause-keeps g c t =
    first_written (OutsideRoom c.args.one) (OutsideRoom c.args.other) _ _ _ _ (g.met.D.Disk.obeys c.read_piece-2.new.disk t)
    (two_reads (OutsideRooms c.args.one c.args.other) _ _ _ _ (g.met.D.Disk.obeys c.read_piece.new.disk t) (c.read_piece.ensures.read.same t) (c.read_piece-2.ensures.read.same t)) (c.write_piece.ensures.keeps t)

pub returns-clause-keeps : goal.returns-clause-keeps
returns-clause-keeps g c t =
    both_written (OutsideRoom c.args.one) (OutsideRoom c.args.other) _ _ _ _ _ _ (g.met.D.Disk.obeys c.read_piece-2.new.disk t) (g.met.D.Disk.obeys c.write_piece.new.disk t)
    (two_reads (OutsideRooms c.args.one c.args.other) _ _ _ _ (g.met.D.Disk.obeys c.read_piece.new.disk t) (c.read_piece.ensures.read.same t) (c.read_piece-2.ensures.read.same t)) (c.write_piece.ensures.keeps t) (c.write_piece-2.ensures.keeps t)

pub returns-clause-one : goal.returns-clause-one
returns-clause-one g c t =
    let spare = c.read_piece-2.new.room in
    let k = c.in_ok-read_piece-2.field-0 in
    let count : k ≡ length c.args.room.now = omega (arith, c.in_ok-read_piece-2.ensures.count, c.requires.alike, c.requires.within) in
    let long : length spare ≤ k = omega (arith, count, c.requires.alike, c.read_piece-2.auto.room) in
    let is : spare ≡ take (length c.args.room.now) (drop c.args.left.from (area_at c.args.other c.args.ram.now (g.D.Disk.flash c.args.disk.now).reads)) =
    sym (take_all k spare long) ∙ c.in_ok-read_piece-2.ensures.bytes t
    ∙ ap (λ (l : List ℕ). take k (drop c.args.left.from (area_at c.args.other c.args.ram.now l))) (c.read_piece.ensures.read.same t).reads
    ∙ ap (λ (i : ℕ). take i (drop c.args.left.from (area_at c.args.other c.args.ram.now (g.D.Disk.flash c.args.disk.now).reads))) count in
    let size : length (g.D.Disk.flash c.write_piece.new.disk).reads ≡ g.D.Disk.extent c.args.disk.now =
    (g.met.D.Disk.obeys c.write_piece.new.disk t).fits ∙ c.write_piece.ensures.goes.size ∙ c.read_piece-2.ensures.read.size ∙ c.read_piece.ensures.read.size in
    let inside : IsSpot (length (g.D.Disk.flash c.write_piece.new.disk).reads) c.write_piece.new.ram c.args.one =
    spot_stays c.args.one c.args.one (g.D.Disk.extent c.args.disk.now) _ c.args.ram.now c.write_piece.new.ram size c.write_piece.ensures.ram c.requires.pair.one in
    on_ok c.write_piece-2.result (c.write_piece-2.ensures.area t) (λ _.
    kept_area c.args.other c.args.one c.write_piece.new.ram c.write_piece-2.new.ram (g.D.Disk.flash c.write_piece.new.disk) (g.D.Disk.flash c.write_piece-2.new.disk) (clear_back c.args.one c.args.other c.requires.pair.clear) inside c.write_piece-2.ensures.ram (keeps_room c.args.other _ _ (c.write_piece-2.ensures.keeps t))
    ∙ c.in_ok-write_piece.ensures.area t
    ∙ ap (λ (l : List ℕ). written (area_at c.args.one c.args.ram.now l) c.args.left.from spare) ((c.read_piece-2.ensures.read.same t).reads ∙ (c.read_piece.ensures.read.same t).reads)
    ∙ ap (λ (l : List ℕ). written (area_at c.args.one c.args.ram.now (g.D.Disk.flash c.args.disk.now).reads) c.args.left.from l) is)

pub returns-clause-other : goal.returns-clause-other
returns-clause-other g c t =
    let room = c.read_piece.new.room in
    let k = c.in_ok-read_piece.field-0 in
    let count : k ≡ length c.args.room.now = omega (arith, c.in_ok-read_piece.ensures.count, c.requires.within) in
    let long : length room ≤ k = omega (arith, count, c.read_piece.auto.room) in
    let is : room ≡ take (length c.args.room.now) (drop c.args.left.from (area_at c.args.one c.args.ram.now (g.D.Disk.flash c.args.disk.now).reads)) =
    sym (take_all k room long) ∙ c.in_ok-read_piece.ensures.bytes t
    ∙ ap (λ (i : ℕ). take i (drop c.args.left.from (area_at c.args.one c.args.ram.now (g.D.Disk.flash c.args.disk.now).reads))) count in
    let before = g.D.Disk.flash c.read_piece-2.new.disk in
    let size : length before.reads ≡ g.D.Disk.extent c.args.disk.now =
    (g.met.D.Disk.obeys c.read_piece-2.new.disk t).fits ∙ c.read_piece-2.ensures.read.size ∙ c.read_piece.ensures.read.size in
    let inside : IsSpot (length before.reads) c.args.ram.now c.args.other = subst (λ (i : ℕ). IsSpot i c.args.ram.now c.args.other) (sym size) c.requires.pair.other in
    let same : area_at c.args.other c.write_piece.new.ram (g.D.Disk.flash c.write_piece.new.disk).reads ≡ area_at c.args.other c.args.ram.now (g.D.Disk.flash c.args.disk.now).reads =
    kept_area c.args.one c.args.other c.args.ram.now c.write_piece.new.ram before (g.D.Disk.flash c.write_piece.new.disk) c.requires.pair.clear inside c.write_piece.ensures.ram (keeps_room c.args.one _ _ (c.write_piece.ensures.keeps t))
    ∙ ap (area_at c.args.other c.args.ram.now) ((c.read_piece-2.ensures.read.same t).reads ∙ (c.read_piece.ensures.read.same t).reads) in
    on_ok c.write_piece-2.result (c.write_piece-2.ensures.area t) (λ put.
    put
    ∙ ap (λ (l : List ℕ). written l c.args.left.from room) same
    ∙ ap (λ (l : List ℕ). written (area_at c.args.other c.args.ram.now (g.D.Disk.flash c.args.disk.now).reads) c.args.left.from l) is)
