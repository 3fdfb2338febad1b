use Rattle.std.proofs.Common.{◌≡◌, ◌≤◌, ◌∙◌, ℕ, IsTrue, length, take, refl, sym, ap, subst, arith}
use Rattle.std.proofs.lemmas.List.{length-take-le}
use Rattle.suit_edge.specs.FlashLaws.{keeps_then}
use Rattle.step_machine.specs.Areas.{IsSlotWithin, area_at, size_at}
use Rattle.step_machine.specs.Copying.{OutsideBoth}
use Rattle.step_machine.specs.Spots.{IsSpot}
use Rattle.step_machine.proofs.Both.{both_then, clear_back, stretched_then}
use Rattle.step_machine.proofs.Outcomes.{on_ok}
use Rattle.step_machine.proofs.Replaced.{area_stays, front_came, keeps_all, keeps_lengths, keeps_rooms, lengths_back, lengths_moment, rooms_back, rooms_moment, slot_within, whole_moment}
use Rattle.step_machine.proofs.Rooms.{area_long, front_but, front_stays, size_stays}
use Rattle.step_machine.proofs.exchanging.exchange.Given as given
use Rattle.step_machine.proofs.exchanging.exchange.Goals as goal
use Rattle.step_machine.proofs.exchanging.exchange.Goals.{After-exchange_pieces}

pub returns-in_err-empty_slots-clause-ram : goal.returns-in_err-empty_slots-clause-ram
returns-in_err-empty_slots-clause-ram g c = (c.stretch.new.ram, c.stretch.ensures.ram, c.stretch-2.ensures.ram)

pub returns-in_err-exchange_pieces-clause-ram : goal.returns-in_err-exchange_pieces-clause-ram
returns-in_err-exchange_pieces-clause-ram g c =
    stretched_then c.args.one c.args.other c.args.ram.now c.stretch.new.ram c.stretch-2.new.ram c.exchange_pieces.new.ram c.requires.pair.clear c.stretch.ensures.ram c.stretch-2.ensures.ram c.exchange_pieces.ensures.ram

pub returns-clause-ram : goal.returns-clause-ram
returns-clause-ram g c =
    both_then c.args.one c.args.other c.args.ram.now c.exchange_pieces.new.ram c.set_sizes.new.ram c.requires.pair.clear
    (stretched_then c.args.one c.args.other c.args.ram.now c.stretch.new.ram c.stretch-2.new.ram c.exchange_pieces.new.ram c.requires.pair.clear c.stretch.ensures.ram c.stretch-2.ensures.ram c.exchange_pieces.ensures.ram) c.set_sizes.ensures.ram

pub returns-in_err-empty_slots-clause-keeps : goal.returns-in_err-empty_slots-clause-keeps
returns-in_err-empty_slots-clause-keeps g c t = keeps_lengths c.args.one c.args.other _ _ (c.empty_slots.ensures.keeps t)

pub returns-in_err-exchange_pieces-clause-keeps : goal.returns-in_err-exchange_pieces-clause-keeps
returns-in_err-exchange_pieces-clause-keeps g c t =
    keeps_then (OutsideBoth c.args.one c.args.other) _ _ _ _ (g.met.D.Disk.obeys c.empty_slots.new.disk t) (keeps_lengths c.args.one c.args.other _ _ (c.empty_slots.ensures.keeps t)) (keeps_rooms c.args.one c.args.other _ _ (c.exchange_pieces.ensures.keeps t))

pub returns-clause-keeps : goal.returns-clause-keeps
returns-clause-keeps g c t =
    keeps_all c.args.one c.args.other _ _ _ _ _ _ (g.met.D.Disk.obeys c.empty_slots.new.disk t) (g.met.D.Disk.obeys c.exchange_pieces.new.disk t) (c.empty_slots.ensures.keeps t) (c.exchange_pieces.ensures.keeps t) (c.set_sizes.ensures.keeps t)

-- ---- the first bytes of each room, where the other content came

came_one : (g : given.Over) (c : After-exchange_pieces g) → IsTrue g.D.Disk.told
    → take c.max-size.result (area_at c.args.one c.exchange_pieces.new.ram (g.D.Disk.flash c.exchange_pieces.new.disk).reads) ≡ take c.max-size.result (area_at c.args.other c.stretch-2.new.ram (g.D.Disk.flash c.empty_slots.new.disk).reads)
    → take c.args.sizes.1 (area_at c.args.one c.exchange_pieces.new.ram (g.D.Disk.flash c.exchange_pieces.new.disk).reads) ≡ take c.args.sizes.1 (area_at c.args.other c.args.ram.now (g.D.Disk.flash c.args.disk.now).reads)
came_one g c t is =
    let reads = (g.D.Disk.flash c.args.disk.now).reads in
    let n = c.args.sizes.1 in
    let few : n ≤ c.max-size.result = omega (arith, c.max-size.ensures) in
    let inside : IsSlotWithin (length reads) c.args.other = slot_within c.args.other c.args.ram.now _ _ (g.met.D.Disk.obeys c.args.disk.now t).fits c.requires.pair.other in
    front_came c.args.one c.args.other c.args.ram.now c.stretch-2.new.ram c.exchange_pieces.new.ram reads (g.D.Disk.flash c.empty_slots.new.disk).reads (g.D.Disk.flash c.exchange_pieces.new.disk).reads n c.max-size.result few is
    (area_stays c.args.other c.args.one c.stretch-2.new.ram (g.D.Disk.flash c.args.disk.now) (g.D.Disk.flash c.empty_slots.new.disk) (clear_back c.args.one c.args.other c.requires.pair.clear) inside (lengths_back c.args.one c.args.other _ _ (c.empty_slots.ensures.keeps t)))
    (let stays : size_at c.args.other c.stretch.new.ram ≡ size_at c.args.other c.args.ram.now = size_stays c.args.one c.args.other c.args.ram.now c.stretch.new.ram c.requires.pair.clear c.stretch.ensures.ram in
    front_stays c.args.other c.stretch.new.ram c.stretch-2.new.ram reads n c.stretch-2.ensures.front (omega (arith, stays, c.requires.other_size))
    ∙ ap (take n) (front_but c.args.one c.args.other c.args.ram.now c.stretch.new.ram reads c.requires.pair.clear c.stretch.ensures.ram))

came_other : (g : given.Over) (c : After-exchange_pieces g) → IsTrue g.D.Disk.told
    → take c.max-size.result (area_at c.args.other c.exchange_pieces.new.ram (g.D.Disk.flash c.exchange_pieces.new.disk).reads) ≡ take c.max-size.result (area_at c.args.one c.stretch-2.new.ram (g.D.Disk.flash c.empty_slots.new.disk).reads)
    → take c.args.sizes.0 (area_at c.args.other c.exchange_pieces.new.ram (g.D.Disk.flash c.exchange_pieces.new.disk).reads) ≡ take c.args.sizes.0 (area_at c.args.one c.args.ram.now (g.D.Disk.flash c.args.disk.now).reads)
came_other g c t is =
    let reads = (g.D.Disk.flash c.args.disk.now).reads in
    let n = c.args.sizes.0 in
    let few : n ≤ c.max-size.result = omega (arith, c.max-size.ensures) in
    let inside : IsSlotWithin (length reads) c.args.one = slot_within c.args.one c.args.ram.now _ _ (g.met.D.Disk.obeys c.args.disk.now t).fits c.requires.pair.one in
    front_came c.args.other c.args.one c.args.ram.now c.stretch-2.new.ram c.exchange_pieces.new.ram reads (g.D.Disk.flash c.empty_slots.new.disk).reads (g.D.Disk.flash c.exchange_pieces.new.disk).reads n c.max-size.result few is
    (area_stays c.args.one c.args.other c.stretch-2.new.ram (g.D.Disk.flash c.args.disk.now) (g.D.Disk.flash c.empty_slots.new.disk) c.requires.pair.clear inside (c.empty_slots.ensures.keeps t))
    (ap (take n) (front_but c.args.other c.args.one c.stretch.new.ram c.stretch-2.new.ram reads (clear_back c.args.one c.args.other c.requires.pair.clear) c.stretch-2.ensures.ram)
    ∙ front_stays c.args.one c.args.ram.now c.stretch.new.ram reads n c.stretch.ensures.front c.requires.size)

pub returns-clause-one : goal.returns-clause-one
returns-clause-one g c t =
    on_ok c.set_sizes.result (c.set_sizes.ensures.one t) (λ is. is ∙ came_one g (goal.at.returns-clause-one g c).After-exchange_pieces t (c.in_ok-exchange_pieces.ensures.one t))

pub returns-clause-other : goal.returns-clause-other
returns-clause-other g c t =
    on_ok c.set_sizes.result (c.set_sizes.ensures.other t) (λ is. is ∙ came_other g (goal.at.returns-clause-other g c).After-exchange_pieces t (c.in_ok-exchange_pieces.ensures.other t))

-- ---- each moment

pub returns-in_err-empty_slots-clause-any_moment : goal.returns-in_err-empty_slots-clause-any_moment
returns-in_err-empty_slots-clause-any_moment g c t =
    lengths_moment c.args.one c.args.other _ _ _ _ (g.met.D.Disk.obeys c.args.disk.now t) c.requires.pair.clear (slot_within c.args.one c.args.ram.now _ _ refl c.requires.pair.one) (c.empty_slots.ensures.keeps t)

pub returns-in_err-empty_slots-clause-other_moment : goal.returns-in_err-empty_slots-clause-other_moment
returns-in_err-empty_slots-clause-other_moment g c t =
    lengths_moment c.args.other c.args.one _ _ _ _ (g.met.D.Disk.obeys c.args.disk.now t) (clear_back c.args.one c.args.other c.requires.pair.clear) (slot_within c.args.other c.args.ram.now _ _ refl c.requires.pair.other) (lengths_back c.args.one c.args.other _ _ (c.empty_slots.ensures.keeps t))

pub returns-in_err-exchange_pieces-clause-any_moment :
    goal.returns-in_err-exchange_pieces-clause-any_moment
returns-in_err-exchange_pieces-clause-any_moment g c t =
    rooms_moment c.args.one c.args.other _ _ _ _ (g.met.D.Disk.obeys c.args.disk.now t) c.requires.pair.clear (slot_within c.args.one c.args.ram.now _ _ refl c.requires.pair.one) (c.empty_slots.ensures.keeps t)
    _ _ (g.met.D.Disk.obeys c.empty_slots.new.disk t) c.empty_slots.ensures.goes.size (c.in_ok-empty_slots.ensures.empty t) (c.exchange_pieces.ensures.keeps t)

pub returns-in_err-exchange_pieces-clause-other_moment :
    goal.returns-in_err-exchange_pieces-clause-other_moment
returns-in_err-exchange_pieces-clause-other_moment g c t =
    rooms_moment c.args.other c.args.one _ _ _ _ (g.met.D.Disk.obeys c.args.disk.now t) (clear_back c.args.one c.args.other c.requires.pair.clear) (slot_within c.args.other c.args.ram.now _ _ refl c.requires.pair.other) (lengths_back c.args.one c.args.other _ _ (c.empty_slots.ensures.keeps t))
    _ _ (g.met.D.Disk.obeys c.empty_slots.new.disk t) c.empty_slots.ensures.goes.size (c.in_ok-empty_slots.ensures.other_empty t) (rooms_back c.args.one c.args.other _ _ (c.exchange_pieces.ensures.keeps t))

pub returns-clause-any_moment : goal.returns-clause-any_moment
returns-clause-any_moment g c t =
    let reads = (g.D.Disk.flash c.args.disk.now).reads in
    let area = area_at c.args.other c.args.ram.now reads in
    let long : length (take c.args.sizes.1 area) ≡ c.args.sizes.1 = length-take-le c.args.sizes.1 area (omega (arith, area_long c.args.other c.args.ram.now reads (subst (λ (i : ℕ). IsSpot i c.args.ram.now c.args.other) (sym (g.met.D.Disk.obeys c.args.disk.now t).fits) c.requires.pair.other), c.requires.other_size)) in
    whole_moment c.args.one c.args.other _ _ _ _ (g.met.D.Disk.obeys c.args.disk.now t) c.requires.pair.clear (slot_within c.args.one c.args.ram.now _ _ refl c.requires.pair.one) (c.empty_slots.ensures.keeps t)
    _ _ (g.met.D.Disk.obeys c.empty_slots.new.disk t) c.empty_slots.ensures.goes.size (c.in_ok-empty_slots.ensures.empty t) (c.exchange_pieces.ensures.keeps t)
    _ _ (g.met.D.Disk.obeys c.exchange_pieces.new.disk t) (c.exchange_pieces.ensures.goes.size ∙ c.empty_slots.ensures.goes.size) (c.in_ok-exchange_pieces.ensures.settled t) c.args.ram.now c.exchange_pieces.new.ram c.args.sizes.1 long c.requires.fits
    (came_one g (goal.at.returns-clause-any_moment g c).After-exchange_pieces t (c.in_ok-exchange_pieces.ensures.one t)) (c.set_sizes.ensures.keeps t)

pub returns-clause-other_moment : goal.returns-clause-other_moment
returns-clause-other_moment g c t =
    let reads = (g.D.Disk.flash c.args.disk.now).reads in
    let area = area_at c.args.one c.args.ram.now reads in
    let long : length (take c.args.sizes.0 area) ≡ c.args.sizes.0 = length-take-le c.args.sizes.0 area (omega (arith, area_long c.args.one c.args.ram.now reads (subst (λ (i : ℕ). IsSpot i c.args.ram.now c.args.one) (sym (g.met.D.Disk.obeys c.args.disk.now t).fits) c.requires.pair.one), c.requires.size)) in
    whole_moment c.args.other c.args.one _ _ _ _ (g.met.D.Disk.obeys c.args.disk.now t) (clear_back c.args.one c.args.other c.requires.pair.clear) (slot_within c.args.other c.args.ram.now _ _ refl c.requires.pair.other) (lengths_back c.args.one c.args.other _ _ (c.empty_slots.ensures.keeps t))
    _ _ (g.met.D.Disk.obeys c.empty_slots.new.disk t) c.empty_slots.ensures.goes.size (c.in_ok-empty_slots.ensures.other_empty t) (rooms_back c.args.one c.args.other _ _ (c.exchange_pieces.ensures.keeps t))
    _ _ (g.met.D.Disk.obeys c.exchange_pieces.new.disk t) (c.exchange_pieces.ensures.goes.size ∙ c.empty_slots.ensures.goes.size) (c.in_ok-exchange_pieces.ensures.other_settled t) c.args.ram.now c.exchange_pieces.new.ram c.args.sizes.0 long c.requires.other_fits
    (came_other g (goal.at.returns-clause-other_moment g c).After-exchange_pieces t (c.in_ok-exchange_pieces.ensures.other t)) (lengths_back c.args.one c.args.other _ _ (c.set_sizes.ensures.keeps t))
