use Rattle.std.proofs.Common.{◌≡◌, inl, inr, ⊎_elim, ◌≤◌, ◌+◌, ◌-◌, ◌*◌, ℕ, List, IsTrue, length, refl, ◌∙◌, ap, arith}
use Rattle.std.specs.List.{slice_range}
use Rattle.std.proofs.lemmas.Bool.{cases_lt}
use Rattle.suit_edge.specs.EdgeLaws.{if_done_then}
use Rattle.suit_edge.specs.Ranges.{written}
use Rattle.nor_flash.specs.Blocks.{with_block}
use Rattle.nor_flash.specs.NorDisks.{blocks_of}
use Rattle.nor_flash.proofs.Calm.{calm_by, calm_fits, sized_by}
use Rattle.nor_flash.proofs.NamedRead.{none_named, some_named}
use Rattle.nor_flash.proofs.reading.read_named.Given as given
use Rattle.nor_flash.proofs.reading.read_named.Goals as goal
use Rattle.nor_flash.proofs.reading.read_named.Goals.{After-read_at}

module _ (g : given.Over) (c : After-read_at g) (t : IsTrue g.N.Nor.told) where
  fits : length (g.N.Nor.flash c.args.nor.now).reads ≡ 4096 * (blocks_of (g.N.Nor.extent c.args.nor.now) + 4)
  fits = calm_fits (sized_by (g.N.Nor.extent c.args.nor.now) c.count-image.result c.count-image.ensures.count c.count-image.ensures.few c.count-image.ensures.all) (calm_by refl (g.met.N.Nor.obeys c.args.nor.now t) (g.met.N.Nor.rests c.args.nor.now t) (g.met.N.Nor.cells c.args.nor.now t))

pub returns-then-to-from-clause-bytes : goal.returns-then-to-from-clause-bytes
returns-then-to-from-clause-bytes g c t =
    c.in-Done.ensures.bytes t
    ∙ none_named (blocks_of (g.N.Nor.extent c.args.nor.now)) c.args.block c.requires.within _ (fits g (goal.at.returns-then-to-from-clause-bytes g c).After-read_at t) c.args.place (length c.args.room.now) c.requires.fits
    (λ k lt. ⊎_elim (λ low. inl low) (λ high. inr (omega (arith, lt, high, c.max-from.ensures, c.min-to.ensures, c.if-to-from.true))) (cases_lt (c.args.place + k) (4096 * c.args.block)))

pub returns-clause-bytes : goal.returns-clause-bytes
returns-clause-bytes g c t =
    let m = blocks_of (g.N.Nor.extent c.args.nor.now) in
    let a = (g.N.Nor.flash c.args.nor.now).reads in
    let n = length c.args.room.now in
    let start : ℕ = 4096 * c.args.block in
    let from = c.max-from.result in
    let to = c.min-to.result in
    let low : start ≤ from = omega (arith, c.max-from.ensures) in
    let first : c.args.place ≤ from = omega (arith, c.max-from.ensures) in
    let high : to ≤ start + 4096 = omega (arith, c.min-to.ensures) in
    let last : to ≤ c.args.place + n = omega (arith, c.min-to.ensures) in
    let order : from ≤ to = omega (arith, c.if-to-from.false) in
    let part : List ℕ → List ℕ = λ l. slice_range l (4096 * m + (from - start)) (4096 * m + (from - start) + (to - c.args.place - (from - c.args.place))) in
    let put : List ℕ → List ℕ → List ℕ = λ bare l. written bare (from - c.args.place) (part l) in
    if_done_then c.read_into.result (c.read_into.new.room ≡ put c.read_at.new.room (g.N.Nor.flash c.read_at.new.self).reads)
    (c.read_into.new.room ≡ slice_range (with_block m c.args.block a) c.args.place (c.args.place + n)) (rw c.count-image.ensures.count at (c.read_into.ensures.bytes t))
    (λ is. is ∙ ap (λ (l : List ℕ). put l (g.N.Nor.flash c.read_at.new.self).reads) (c.in-Done.ensures.bytes t) ∙ ap (put (slice_range a c.args.place (c.args.place + n))) (c.read_at.ensures.same t).reads
    ∙ some_named m c.args.block c.requires.within a (fits g (goal.at.returns-clause-bytes g c).After-read_at t) c.args.place n c.requires.fits start from to refl low high order first last
    (λ k lt. omega (arith, lt, first, c.max-from.ensures)) (λ k past lt. omega (arith, past, lt, first, order, c.min-to.ensures)))
