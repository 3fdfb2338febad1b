use Rattle.std.proofs.Common.{rules, arith, sym, drop, take, ◌∙◌, ap, refl, ◌+◌, ◌≡◌, ◌≤◌, ◌++◌, length}
use Rattle.suit_edge.specs.FlashLaws.{grows_then, same_flash_then}
use Rattle.flash_view.proofs.Pieces.{one_more, each_piece}
use Rattle.std.specs.List.{slice_range}
use Rattle.std.proofs.lemmas.List.{length-take-le, take_at}
use Rattle.flash_view.proofs.standing.stands.Goals as goal

pub returns-then-not-same-clause-stood : goal.returns-then-not-same-clause-stood
returns-then-not-same-clause-stood g c t whole =
    let reads = (g.D.Disk.flash c.args.disk.now).reads in
    let from = c.args.place + c.loop-done.done in
    let room : length (take c.min-count.result c.loop-done.room) ≡ c.min-count.result = length-take-le c.min-count.result c.loop-done.room (omega (arith, c.loop-done.invariant.room)) in
    let long : c.args.place + length c.args.bytes.now ≤ length reads = omega (arith, (g.met.D.Disk.obeys c.args.disk.now t).fits, c.requires) in
    let within : c.loop-done.done + c.min-count.result ≤ length c.args.bytes.now = omega arith in
    let read : c.read_at.new.room ≡ slice_range reads from (from + c.min-count.result) =
    c.in-Done.ensures.bytes t ∙ ap (λ n. slice_range (g.D.Disk.flash c.loop-done.disk).reads from (from + n)) room ∙ ap (λ l. slice_range l from (from + c.min-count.result)) (c.loop-done.invariant.same t).reads in
    let here = take_at c.read_at.new.room (drop c.min-count.result c.loop-done.room) c.min-count.result (omega (arith, c.read_at.auto.room, room)) in
    let no = c.if-not-same.ensures.same.1 (here ∙ read ∙ each_piece reads c.args.bytes.now c.args.place c.loop-done.done c.min-count.result long within whole) in
    absurd cc

pub loop-done-preserved : goal.loop-done-preserved
loop-done-preserved g c = record {
  within = omega arith;
  room = search rules;
  size = search rules;
  faults = search rules;
  passed = λ t.
      let reads = (g.D.Disk.flash c.args.disk.now).reads in
      let from = c.args.place + c.loop-done.done in
      let room : length (take c.min-count.result c.loop-done.room) ≡ c.min-count.result = length-take-le c.min-count.result c.loop-done.room (omega (arith, c.loop-done.invariant.room)) in
      let read : c.read_at.new.room ≡ slice_range reads from (from + c.min-count.result) =
      c.in-Done.ensures.bytes t ∙ ap (λ n. slice_range (g.D.Disk.flash c.loop-done.disk).reads from (from + n)) room ∙ ap (λ l. slice_range l from (from + c.min-count.result)) (c.loop-done.invariant.same t).reads in
      let here = take_at c.read_at.new.room (drop c.min-count.result c.loop-done.room) c.min-count.result (omega (arith, c.read_at.auto.room, room)) in
      one_more reads c.args.bytes.now c.args.place c.loop-done.done c.min-count.result c.read_at.new.room read (sym here ∙ c.if-not-same.ensures.same.0 refl) (c.loop-done.invariant.passed t);
  same = λ t.
      same_flash_then _ _ _ _ (g.met.D.Disk.obeys c.loop-done.disk t) (c.loop-done.invariant.same t) (c.read_at.ensures.same t);
  grows = λ t. grows_then (g.D.Disk.flash c.args.disk.now) (g.D.Disk.flash c.loop-done.disk) (g.D.Disk.flash c.read_at.new.self) (c.loop-done.invariant.same t).images.later (c.loop-done.invariant.grows t) (c.read_at.ensures.grows t);
}
