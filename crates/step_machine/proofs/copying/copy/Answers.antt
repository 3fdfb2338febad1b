use Rattle.std.proofs.Common.{◌≡◌, ◌≢◌, ◌≤◌, ◌∙◌, List, ℕ, length, take, sym, ap, subst, arith}
use Rattle.step_machine.specs.Areas.{area_at}
use Rattle.step_machine.specs.Spots.{IsSpot, OutsideSpot, content_of}
use Rattle.step_machine.proofs.CopyPlays.{copy_cut, copy_done}
use Rattle.step_machine.proofs.Reading.{copy_unread, read_then, source_stays}
use Rattle.step_machine.proofs.Replaced.{only_read, read_first, untouched}
use Rattle.step_machine.proofs.Memory.{ram_same}
use Rattle.step_machine.proofs.Rooms.{content_front}
use Rattle.step_machine.proofs.copying.copy.Goals as goal

pub returns-then-source-standing-clause-ram : goal.returns-then-source-standing-clause-ram
returns-then-source-standing-clause-ram g c = ram_same c.args.standing.now.spot c.args.ram.now

pub returns-in-Err-clause-ram : goal.returns-in-Err-clause-ram
returns-in-Err-clause-ram g c = ram_same c.args.standing.now.spot c.args.ram.now

pub returns-then-standing-size-clause-ram : goal.returns-then-standing-size-clause-ram
returns-then-standing-size-clause-ram g c = ram_same c.args.standing.now.spot c.args.ram.now

pub returns-in-Err-clause-copies : goal.returns-in-Err-clause-copies
returns-in-Err-clause-copies g c t =
    copy_unread c.args.standing.now c.args.source.now c.args.ram.now _ _ (omega (arith, c.if-source-standing.false)) (c.length_at.ensures.read.same t).reads (omega (arith, c.content_fits.ensures, c.requires.capacity))

pub returns-in-Ok-copy_content-clause-copies : goal.returns-in-Ok-copy_content-clause-copies
returns-in-Ok-copy_content-clause-copies g c t =
    let after = content_of c.args.standing.now.spot c.copy_content.new.ram (g.D.Disk.flash c.copy_content.new.disk).reads in
    let other : c.args.source.now.component ≢ c.args.standing.now.component = omega (arith, c.if-source-standing.false) in
    let inside : IsSpot (length (g.D.Disk.flash c.args.disk.now).reads) c.args.ram.now c.args.source.now.spot = subst (λ (n : ℕ). IsSpot n c.args.ram.now c.args.source.now.spot) (sym (g.met.D.Disk.obeys c.args.disk.now t).fits) c.requires.source in
    let size = c.in-Ok.ensures.exact t in
    let fits : length (content_of c.args.source.now.spot c.args.ram.now (g.D.Disk.flash c.args.disk.now).reads) ≤ c.args.standing.now.capacity = omega (arith, size, c.if-standing-size.false) in
    let is : after ≡ content_of c.args.source.now.spot c.args.ram.now (g.D.Disk.flash c.args.disk.now).reads =
    c.in-Ok-copy_content.ensures.content t
    ∙ ap (λ (l : List ℕ). take c.in-Ok.size (area_at c.args.source.now.spot c.args.ram.now l)) (c.length_at.ensures.read.same t).reads
    ∙ sym (content_front c.args.source.now.spot c.args.ram.now (g.D.Disk.flash c.args.disk.now).reads c.in-Ok.size inside size) in
    copy_done c.args.standing.now.component c.args.standing.now.capacity c.args.source.now.component (content_of c.args.source.now.spot c.args.ram.now (g.D.Disk.flash c.args.disk.now).reads) (content_of c.args.standing.now.spot c.args.ram.now (g.D.Disk.flash c.args.disk.now).reads) after other _ fits is

pub returns-in-Err-copy_content-clause-copies : goal.returns-in-Err-copy_content-clause-copies
returns-in-Err-copy_content-clause-copies g c t =
    let after = content_of c.args.standing.now.spot c.copy_content.new.ram (g.D.Disk.flash c.copy_content.new.disk).reads in
    let other : c.args.source.now.component ≢ c.args.standing.now.component = omega (arith, c.if-source-standing.false) in
    let short : length after ≤ c.args.standing.now.capacity = omega (arith, c.copy_content.ensures.short t, c.requires.capacity) in
    copy_cut c.args.standing.now.component c.args.standing.now.capacity c.args.source.now.component (content_of c.args.source.now.spot c.args.ram.now (g.D.Disk.flash c.args.disk.now).reads) (content_of c.args.standing.now.spot c.args.ram.now (g.D.Disk.flash c.args.disk.now).reads) after other short

pub returns-in-Ok-copy_content-clause-source : goal.returns-in-Ok-copy_content-clause-source
returns-in-Ok-copy_content-clause-source g c t =
    source_stays c.args.standing.now.spot c.args.source.now.spot c.args.ram.now c.copy_content.new.ram _ _ _ _ (c.requires.apart (omega (arith, c.if-source-standing.false))) c.requires.source (c.length_at.ensures.read.same t).reads
    ((g.met.D.Disk.obeys c.length_at.new.disk t).fits ∙ c.length_at.ensures.read.size) c.copy_content.ensures.ram (c.copy_content.ensures.keeps t)

pub returns-in-Err-copy_content-clause-source : goal.returns-in-Err-copy_content-clause-source
returns-in-Err-copy_content-clause-source g c t =
    source_stays c.args.standing.now.spot c.args.source.now.spot c.args.ram.now c.copy_content.new.ram _ _ _ _ (c.requires.apart (omega (arith, c.if-source-standing.false))) c.requires.source (c.length_at.ensures.read.same t).reads
    ((g.met.D.Disk.obeys c.length_at.new.disk t).fits ∙ c.length_at.ensures.read.size) c.copy_content.ensures.ram (c.copy_content.ensures.keeps t)

pub returns-in-Ok-copy_content-clause-keeps : goal.returns-in-Ok-copy_content-clause-keeps
returns-in-Ok-copy_content-clause-keeps g c t =
    read_then (OutsideSpot c.args.standing.now.spot) _ _ _ _ (g.met.D.Disk.obeys c.length_at.new.disk t) (c.length_at.ensures.read.same t) (c.copy_content.ensures.keeps t)

pub returns-in-Err-copy_content-clause-keeps : goal.returns-in-Err-copy_content-clause-keeps
returns-in-Err-copy_content-clause-keeps g c t =
    read_then (OutsideSpot c.args.standing.now.spot) _ _ _ _ (g.met.D.Disk.obeys c.length_at.new.disk t) (c.length_at.ensures.read.same t) (c.copy_content.ensures.keeps t)

pub returns-then-source-standing-clause-any_moment :
    goal.returns-then-source-standing-clause-any_moment
returns-then-source-standing-clause-any_moment g c t = untouched c.args.standing.now.spot _ (g.D.Disk.flash c.args.disk.now)

pub returns-in-Err-clause-any_moment : goal.returns-in-Err-clause-any_moment
returns-in-Err-clause-any_moment g c t = only_read c.args.standing.now.spot _ _ _ (c.length_at.ensures.read.same t)

pub returns-then-standing-size-clause-any_moment : goal.returns-then-standing-size-clause-any_moment
returns-then-standing-size-clause-any_moment g c t = only_read c.args.standing.now.spot _ _ _ (c.length_at.ensures.read.same t)

pub returns-in-Ok-copy_content-clause-any_moment : goal.returns-in-Ok-copy_content-clause-any_moment
returns-in-Ok-copy_content-clause-any_moment g c t =
    let reads = (g.D.Disk.flash c.args.disk.now).reads in
    let inside : IsSpot (length reads) c.args.ram.now c.args.source.now.spot = subst (λ (n : ℕ). IsSpot n c.args.ram.now c.args.source.now.spot) (sym (g.met.D.Disk.obeys c.args.disk.now t).fits) c.requires.source in
    let is = ap (λ (l : List ℕ). take c.in-Ok.size (area_at c.args.source.now.spot c.args.ram.now l)) (c.length_at.ensures.read.same t).reads
    ∙ sym (content_front c.args.source.now.spot c.args.ram.now reads c.in-Ok.size inside (c.in-Ok.ensures.exact t)) in
    read_first c.args.standing.now.spot _ _ _ _ _ _ (g.met.D.Disk.obeys c.length_at.new.disk t) (c.length_at.ensures.read.same t) is (c.copy_content.ensures.any_moment t)

pub returns-in-Err-copy_content-clause-any_moment :
    goal.returns-in-Err-copy_content-clause-any_moment
returns-in-Err-copy_content-clause-any_moment g c t =
    let reads = (g.D.Disk.flash c.args.disk.now).reads in
    let inside : IsSpot (length reads) c.args.ram.now c.args.source.now.spot = subst (λ (n : ℕ). IsSpot n c.args.ram.now c.args.source.now.spot) (sym (g.met.D.Disk.obeys c.args.disk.now t).fits) c.requires.source in
    let is = ap (λ (l : List ℕ). take c.in-Ok.size (area_at c.args.source.now.spot c.args.ram.now l)) (c.length_at.ensures.read.same t).reads
    ∙ sym (content_front c.args.source.now.spot c.args.ram.now reads c.in-Ok.size inside (c.in-Ok.ensures.exact t)) in
    read_first c.args.standing.now.spot _ _ _ _ _ _ (g.met.D.Disk.obeys c.length_at.new.disk t) (c.length_at.ensures.read.same t) is (c.copy_content.ensures.any_moment t)
