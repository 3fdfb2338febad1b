use Rattle.std.proofs.Common.{◌≡◌, ◌≢◌, ◌∙◌, List, ℕ, length, take, sym, ap, subst, arith, inl, inr}
use Rattle.suit_edge.specs.FlashLaws.{same_flash_then}
use Rattle.step_machine.specs.Areas.{area_at}
use Rattle.step_machine.specs.Copying.{OutsideBoth, Side, side_of}
use Rattle.step_machine.specs.Spots.{IsSpot, content_of, room_at}
use Rattle.step_machine.proofs.Both.{both_room, both_same}
use Rattle.step_machine.proofs.Reading.{swap_too_large, swap_unread, two_reads_then}
use Rattle.step_machine.proofs.Replaced.{only_read, read_first, untouched}
use Rattle.step_machine.proofs.Rooms.{content_front}
use Rattle.step_machine.proofs.SwapPlays.{swap_cut, swap_done}
use Rattle.step_machine.proofs.swapping.swap.Goals as goal

pub returns-then-source-standing-clause-ram : goal.returns-then-source-standing-clause-ram
returns-then-source-standing-clause-ram g c = both_same c.args.standing.now.spot c.args.source.now.spot c.args.ram.now

pub returns-in-Err-clause-ram : goal.returns-in-Err-clause-ram
returns-in-Err-clause-ram g c = both_same c.args.standing.now.spot c.args.source.now.spot c.args.ram.now

pub returns-in-Err-length_at-clause-ram : goal.returns-in-Err-length_at-clause-ram
returns-in-Err-length_at-clause-ram g c = both_same c.args.standing.now.spot c.args.source.now.spot c.args.ram.now

pub returns-then-standing-source_size-clause-ram : goal.returns-then-standing-source_size-clause-ram
returns-then-standing-source_size-clause-ram g c = both_same c.args.standing.now.spot c.args.source.now.spot c.args.ram.now

pub returns-then-source-size-clause-ram : goal.returns-then-source-size-clause-ram
returns-then-source-size-clause-ram g c = both_same c.args.standing.now.spot c.args.source.now.spot c.args.ram.now

pub returns-in-Err-clause-swaps : goal.returns-in-Err-clause-swaps
returns-in-Err-clause-swaps g c t =
    swap_unread c.args.standing.now c.args.source.now c.args.ram.now (g.D.Disk.flash c.args.disk.now).reads _ (omega (arith, c.if-source-standing.false)) (c.length_at.ensures.read.same t).reads (omega (arith, c.content_fits.ensures, c.requires.capacity)) (omega (arith, c.content_fits-2.ensures, c.requires.source_capacity))

pub returns-in-Err-length_at-clause-swaps : goal.returns-in-Err-length_at-clause-swaps
returns-in-Err-length_at-clause-swaps g c t =
    swap_unread c.args.standing.now c.args.source.now c.args.ram.now (g.D.Disk.flash c.args.disk.now).reads _ (omega (arith, c.if-source-standing.false)) ((c.length_at-2.ensures.read.same t).reads ∙ (c.length_at.ensures.read.same t).reads) (omega (arith, c.content_fits.ensures, c.requires.capacity)) (omega (arith, c.content_fits-2.ensures, c.requires.source_capacity))

pub returns-then-standing-source_size-clause-swaps : goal.returns-then-standing-source_size-clause-swaps
returns-then-standing-source_size-clause-swaps g c t =
    let size : c.in-Ok-length_at.size ≡ length (content_of c.args.source.now.spot c.args.ram.now (g.D.Disk.flash c.args.disk.now).reads) =
    c.in-Ok-length_at.ensures.exact t ∙ ap (λ (l : List ℕ). length (content_of c.args.source.now.spot c.args.ram.now l)) (c.length_at.ensures.read.same t).reads in
    swap_too_large c.args.standing.now c.args.source.now c.args.ram.now (g.D.Disk.flash c.args.disk.now).reads _ (omega (arith, c.if-source-standing.false)) ((c.length_at-2.ensures.read.same t).reads ∙ (c.length_at.ensures.read.same t).reads) (inl (omega (arith, size, c.if-standing-source_size.true)))

pub returns-then-source-size-clause-swaps : goal.returns-then-source-size-clause-swaps
returns-then-source-size-clause-swaps g c t =
    let size = c.in-Ok.ensures.exact t in
    swap_too_large c.args.standing.now c.args.source.now c.args.ram.now (g.D.Disk.flash c.args.disk.now).reads _ (omega (arith, c.if-source-standing.false)) ((c.length_at-2.ensures.read.same t).reads ∙ (c.length_at.ensures.read.same t).reads) (inr (omega (arith, size, c.if-source-size.true)))

pub returns-in-Ok-exchange-clause-swaps : goal.returns-in-Ok-exchange-clause-swaps
returns-in-Ok-exchange-clause-swaps g c t =
    let apart : c.args.source.now.component ≢ c.args.standing.now.component = omega (arith, c.if-source-standing.false) in
    let same : (g.D.Disk.flash c.length_at-2.new.disk).reads ≡ (g.D.Disk.flash c.args.disk.now).reads = (c.length_at-2.ensures.read.same t).reads ∙ (c.length_at.ensures.read.same t).reads in
    let fits = sym (g.met.D.Disk.obeys c.args.disk.now t).fits in
    let one : Side = side_of c.args.standing.now.component c.args.standing.now.capacity (content_of c.args.standing.now.spot c.args.ram.now (g.D.Disk.flash c.args.disk.now).reads) (content_of c.args.standing.now.spot c.exchange.new.ram (g.D.Disk.flash c.exchange.new.disk).reads) in
    let other : Side = side_of c.args.source.now.component c.args.source.now.capacity (content_of c.args.source.now.spot c.args.ram.now (g.D.Disk.flash c.args.disk.now).reads) (content_of c.args.source.now.spot c.exchange.new.ram (g.D.Disk.flash c.exchange.new.disk).reads) in
    let size = c.in-Ok.ensures.exact t in
    let source_size : c.in-Ok-length_at.size ≡ length (content_of c.args.source.now.spot c.args.ram.now (g.D.Disk.flash c.args.disk.now).reads) =
    c.in-Ok-length_at.ensures.exact t ∙ ap (λ (l : List ℕ). length (content_of c.args.source.now.spot c.args.ram.now l)) (c.length_at.ensures.read.same t).reads in
    let is : one.after ≡ other.before =
    c.in-Ok-exchange.ensures.one t ∙ ap (λ (l : List ℕ). take c.in-Ok-length_at.size (area_at c.args.source.now.spot c.args.ram.now l)) same
    ∙ sym (content_front c.args.source.now.spot c.args.ram.now (g.D.Disk.flash c.args.disk.now).reads c.in-Ok-length_at.size (subst (λ (i : ℕ). IsSpot i c.args.ram.now c.args.source.now.spot) fits c.requires.source) source_size) in
    let other_is : other.after ≡ one.before =
    c.in-Ok-exchange.ensures.other t ∙ ap (λ (l : List ℕ). take c.in-Ok.size (area_at c.args.standing.now.spot c.args.ram.now l)) same
    ∙ sym (content_front c.args.standing.now.spot c.args.ram.now (g.D.Disk.flash c.args.disk.now).reads c.in-Ok.size (subst (λ (i : ℕ). IsSpot i c.args.ram.now c.args.standing.now.spot) fits c.requires.spot) size) in
    swap_done one other apart _ (omega (arith, source_size, c.if-standing-source_size.false)) (omega (arith, size, c.if-source-size.false)) is other_is

pub returns-in-Err-exchange-clause-swaps : goal.returns-in-Err-exchange-clause-swaps
returns-in-Err-exchange-clause-swaps g c t =
    let apart : c.args.source.now.component ≢ c.args.standing.now.component = omega (arith, c.if-source-standing.false) in
    let one : Side = side_of c.args.standing.now.component c.args.standing.now.capacity (content_of c.args.standing.now.spot c.args.ram.now (g.D.Disk.flash c.args.disk.now).reads) (content_of c.args.standing.now.spot c.exchange.new.ram (g.D.Disk.flash c.exchange.new.disk).reads) in
    let other : Side = side_of c.args.source.now.component c.args.source.now.capacity (content_of c.args.source.now.spot c.args.ram.now (g.D.Disk.flash c.args.disk.now).reads) (content_of c.args.source.now.spot c.exchange.new.ram (g.D.Disk.flash c.exchange.new.disk).reads) in
    let room : room_at c.args.standing.now.spot c.exchange.new.ram ≡ room_at c.args.standing.now.spot c.args.ram.now = both_room c.args.standing.now.spot c.args.source.now.spot c.args.standing.now.spot c.args.ram.now c.exchange.new.ram c.exchange.ensures.ram in
    let other_room : room_at c.args.source.now.spot c.exchange.new.ram ≡ room_at c.args.source.now.spot c.args.ram.now = both_room c.args.standing.now.spot c.args.source.now.spot c.args.source.now.spot c.args.ram.now c.exchange.new.ram c.exchange.ensures.ram in
    swap_cut one other apart (omega (arith, room, c.content_fits-in-Err-exchange.ensures, c.requires.capacity)) (omega (arith, other_room, c.content_fits-in-Err-exchange-2.ensures, c.requires.source_capacity))

pub returns-in-Ok-exchange-clause-keeps : goal.returns-in-Ok-exchange-clause-keeps
returns-in-Ok-exchange-clause-keeps g c t =
    two_reads_then (OutsideBoth c.args.standing.now.spot c.args.source.now.spot) _ _ _ _ _ _ (g.met.D.Disk.obeys c.length_at.new.disk t) (g.met.D.Disk.obeys c.length_at-2.new.disk t)
    (c.length_at.ensures.read.same t) (c.length_at-2.ensures.read.same t) (c.exchange.ensures.keeps t)

pub returns-in-Err-exchange-clause-keeps : goal.returns-in-Err-exchange-clause-keeps
returns-in-Err-exchange-clause-keeps g c t =
    two_reads_then (OutsideBoth c.args.standing.now.spot c.args.source.now.spot) _ _ _ _ _ _ (g.met.D.Disk.obeys c.length_at.new.disk t) (g.met.D.Disk.obeys c.length_at-2.new.disk t)
    (c.length_at.ensures.read.same t) (c.length_at-2.ensures.read.same t) (c.exchange.ensures.keeps t)

-- ---- each moment

pub returns-then-source-standing-clause-any_moment : goal.returns-then-source-standing-clause-any_moment
returns-then-source-standing-clause-any_moment g c t = untouched c.args.standing.now.spot _ (g.D.Disk.flash c.args.disk.now)

pub returns-then-source-standing-clause-source_moment : goal.returns-then-source-standing-clause-source_moment
returns-then-source-standing-clause-source_moment g c t = untouched c.args.source.now.spot _ (g.D.Disk.flash c.args.disk.now)

pub returns-in-Err-clause-any_moment : goal.returns-in-Err-clause-any_moment
returns-in-Err-clause-any_moment g c t = only_read c.args.standing.now.spot _ _ _ (c.length_at.ensures.read.same t)

pub returns-in-Err-clause-source_moment : goal.returns-in-Err-clause-source_moment
returns-in-Err-clause-source_moment g c t = only_read c.args.source.now.spot _ _ _ (c.length_at.ensures.read.same t)

pub returns-in-Err-length_at-clause-any_moment : goal.returns-in-Err-length_at-clause-any_moment
returns-in-Err-length_at-clause-any_moment g c t = only_read c.args.standing.now.spot _ _ _ (same_flash_then _ _ _ _ (g.met.D.Disk.obeys c.length_at.new.disk t) (c.length_at.ensures.read.same t) (c.length_at-2.ensures.read.same t))

pub returns-in-Err-length_at-clause-source_moment : goal.returns-in-Err-length_at-clause-source_moment
returns-in-Err-length_at-clause-source_moment g c t = only_read c.args.source.now.spot _ _ _ (same_flash_then _ _ _ _ (g.met.D.Disk.obeys c.length_at.new.disk t) (c.length_at.ensures.read.same t) (c.length_at-2.ensures.read.same t))

pub returns-then-standing-source_size-clause-any_moment : goal.returns-then-standing-source_size-clause-any_moment
returns-then-standing-source_size-clause-any_moment g c t = only_read c.args.standing.now.spot _ _ _ (same_flash_then _ _ _ _ (g.met.D.Disk.obeys c.length_at.new.disk t) (c.length_at.ensures.read.same t) (c.length_at-2.ensures.read.same t))

pub returns-then-standing-source_size-clause-source_moment : goal.returns-then-standing-source_size-clause-source_moment
returns-then-standing-source_size-clause-source_moment g c t = only_read c.args.source.now.spot _ _ _ (same_flash_then _ _ _ _ (g.met.D.Disk.obeys c.length_at.new.disk t) (c.length_at.ensures.read.same t) (c.length_at-2.ensures.read.same t))

pub returns-then-source-size-clause-any_moment : goal.returns-then-source-size-clause-any_moment
returns-then-source-size-clause-any_moment g c t = only_read c.args.standing.now.spot _ _ _ (same_flash_then _ _ _ _ (g.met.D.Disk.obeys c.length_at.new.disk t) (c.length_at.ensures.read.same t) (c.length_at-2.ensures.read.same t))

pub returns-then-source-size-clause-source_moment : goal.returns-then-source-size-clause-source_moment
returns-then-source-size-clause-source_moment g c t = only_read c.args.source.now.spot _ _ _ (same_flash_then _ _ _ _ (g.met.D.Disk.obeys c.length_at.new.disk t) (c.length_at.ensures.read.same t) (c.length_at-2.ensures.read.same t))

pub returns-in-Ok-exchange-clause-any_moment : goal.returns-in-Ok-exchange-clause-any_moment
returns-in-Ok-exchange-clause-any_moment g c t =
    let reads = (g.D.Disk.flash c.args.disk.now).reads in
    let same = (same_flash_then _ _ _ _ (g.met.D.Disk.obeys c.length_at.new.disk t) (c.length_at.ensures.read.same t) (c.length_at-2.ensures.read.same t)) in
    let inside : IsSpot (length reads) c.args.ram.now c.args.source.now.spot = subst (λ (i : ℕ). IsSpot i c.args.ram.now c.args.source.now.spot) (sym (g.met.D.Disk.obeys c.args.disk.now t).fits) c.requires.source in
    let is = ap (λ (l : List ℕ). take c.in-Ok-length_at.size (area_at c.args.source.now.spot c.args.ram.now l)) same.reads ∙ sym (content_front c.args.source.now.spot c.args.ram.now reads c.in-Ok-length_at.size inside (c.in-Ok-length_at.ensures.exact t ∙ ap (λ (l : List ℕ). length (content_of c.args.source.now.spot c.args.ram.now l)) (c.length_at.ensures.read.same t).reads)) in
    read_first c.args.standing.now.spot _ _ _ _ _ _ (g.met.D.Disk.obeys c.length_at-2.new.disk t) same is (c.exchange.ensures.any_moment t)

pub returns-in-Ok-exchange-clause-source_moment : goal.returns-in-Ok-exchange-clause-source_moment
returns-in-Ok-exchange-clause-source_moment g c t =
    let reads = (g.D.Disk.flash c.args.disk.now).reads in
    let same = (same_flash_then _ _ _ _ (g.met.D.Disk.obeys c.length_at.new.disk t) (c.length_at.ensures.read.same t) (c.length_at-2.ensures.read.same t)) in
    let inside : IsSpot (length reads) c.args.ram.now c.args.standing.now.spot = subst (λ (i : ℕ). IsSpot i c.args.ram.now c.args.standing.now.spot) (sym (g.met.D.Disk.obeys c.args.disk.now t).fits) c.requires.spot in
    let is = ap (λ (l : List ℕ). take c.in-Ok.size (area_at c.args.standing.now.spot c.args.ram.now l)) same.reads ∙ sym (content_front c.args.standing.now.spot c.args.ram.now reads c.in-Ok.size inside (c.in-Ok.ensures.exact t)) in
    read_first c.args.source.now.spot _ _ _ _ _ _ (g.met.D.Disk.obeys c.length_at-2.new.disk t) same is (c.exchange.ensures.other_moment t)

pub returns-in-Err-exchange-clause-any_moment : goal.returns-in-Err-exchange-clause-any_moment
returns-in-Err-exchange-clause-any_moment g c t =
    let reads = (g.D.Disk.flash c.args.disk.now).reads in
    let same = (same_flash_then _ _ _ _ (g.met.D.Disk.obeys c.length_at.new.disk t) (c.length_at.ensures.read.same t) (c.length_at-2.ensures.read.same t)) in
    let inside : IsSpot (length reads) c.args.ram.now c.args.source.now.spot = subst (λ (i : ℕ). IsSpot i c.args.ram.now c.args.source.now.spot) (sym (g.met.D.Disk.obeys c.args.disk.now t).fits) c.requires.source in
    let is = ap (λ (l : List ℕ). take c.in-Ok-length_at.size (area_at c.args.source.now.spot c.args.ram.now l)) same.reads ∙ sym (content_front c.args.source.now.spot c.args.ram.now reads c.in-Ok-length_at.size inside (c.in-Ok-length_at.ensures.exact t ∙ ap (λ (l : List ℕ). length (content_of c.args.source.now.spot c.args.ram.now l)) (c.length_at.ensures.read.same t).reads)) in
    read_first c.args.standing.now.spot _ _ _ _ _ _ (g.met.D.Disk.obeys c.length_at-2.new.disk t) same is (c.exchange.ensures.any_moment t)

pub returns-in-Err-exchange-clause-source_moment : goal.returns-in-Err-exchange-clause-source_moment
returns-in-Err-exchange-clause-source_moment g c t =
    let reads = (g.D.Disk.flash c.args.disk.now).reads in
    let same = (same_flash_then _ _ _ _ (g.met.D.Disk.obeys c.length_at.new.disk t) (c.length_at.ensures.read.same t) (c.length_at-2.ensures.read.same t)) in
    let inside : IsSpot (length reads) c.args.ram.now c.args.standing.now.spot = subst (λ (i : ℕ). IsSpot i c.args.ram.now c.args.standing.now.spot) (sym (g.met.D.Disk.obeys c.args.disk.now t).fits) c.requires.spot in
    let is = ap (λ (l : List ℕ). take c.in-Ok.size (area_at c.args.standing.now.spot c.args.ram.now l)) same.reads ∙ sym (content_front c.args.standing.now.spot c.args.ram.now reads c.in-Ok.size inside (c.in-Ok.ensures.exact t)) in
    read_first c.args.source.now.spot _ _ _ _ _ _ (g.met.D.Disk.obeys c.length_at-2.new.disk t) same is (c.exchange.ensures.other_moment t)
