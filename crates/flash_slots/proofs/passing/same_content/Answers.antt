use Rattle.std.proofs.Common.{◌≡◌, ◌<◌, ◌≤◌, ◌+◌, length, refl, arith, rules}
use Rattle.suit_edge.specs.FlashLaws.{grows_then, same_flash_then}
use Rattle.flash_slots.proofs.Whole.{all_same, more_same, other_part}
use Rattle.flash_slots.proofs.passing.same_content.Goals as goal

pub returns-then-not-same-clause-exact : goal.returns-then-not-same-clause-exact
returns-then-not-same-clause-exact g c t =
    let image = (g.D.Disk.flash c.args.disk.now).reads in
    let inside : c.args.slot.start + (8 + c.args.slot.capacity) ≤ length image = omega (arith, (g.met.D.Disk.obeys c.args.disk.now t).fits, c.requires.slot) in
    let long : c.in_ok-size.size ≡ length c.args.bytes.now = omega (arith, c.if-size-bytes.false) in
    let within : c.loop-from.from + c.in_ok-count.count ≤ c.in_ok-size.size = omega (arith, c.in_ok-count.ensures.count, c.loop-from-test.true, c.loop-from.invariant.within, long) in
    let some : c.loop-from.from < c.in_ok-size.size = omega (arith, long, c.loop-from-test.true) in (
      λ no. absurd cc,
      λ equal. absurd (other_part c.args.slot image c.in_ok-size.size (c.in_ok-size.ensures.exact t) c.in_ok-size.ensures.few inside (g.D.Disk.flash c.loop-from.disk).reads c.loop-from.room c.read_some.new.room c.loop-from.from c.in_ok-count.count (c.loop-from.invariant.same t).reads within (c.in_ok-count.ensures.bytes t) c.args.bytes.now some
          (λ e. let yes = c.same.ensures.same.1 e in absurd cc) equal),
    )

pub loop-from-preserved : goal.loop-from-preserved
loop-from-preserved g c = record {
  within = omega (arith, c.in_ok-count.ensures.count, c.loop-from-test.true, c.if-size-bytes.false);
  room = search rules;
  size = search rules;
  faults = search rules;
  passed = λ t.
      let image = (g.D.Disk.flash c.args.disk.now).reads in
      let inside : c.args.slot.start + (8 + c.args.slot.capacity) ≤ length image = omega (arith, (g.met.D.Disk.obeys c.args.disk.now t).fits, c.requires.slot) in
      let long : c.in_ok-size.size ≡ length c.args.bytes.now = omega (arith, c.if-size-bytes.false) in
      let within : c.loop-from.from + c.in_ok-count.count ≤ c.in_ok-size.size = omega (arith, c.in_ok-count.ensures.count, c.loop-from-test.true, c.loop-from.invariant.within, long) in
      more_same c.args.slot image c.in_ok-size.size (c.in_ok-size.ensures.exact t) c.in_ok-size.ensures.few inside (g.D.Disk.flash c.loop-from.disk).reads c.loop-from.room c.read_some.new.room c.loop-from.from c.in_ok-count.count (c.loop-from.invariant.same t).reads within (c.in_ok-count.ensures.bytes t) c.args.bytes.now (c.loop-from.invariant.passed t) (c.same.ensures.same.0 c.if-not-same.false);
  same = λ t.
      same_flash_then _ _ _ _ (g.met.D.Disk.obeys c.loop-from.disk t) (c.loop-from.invariant.same t) (c.read_some.ensures.same t);
  grows = λ t. grows_then (g.D.Disk.flash c.args.disk.now) (g.D.Disk.flash c.loop-from.disk) (g.D.Disk.flash c.read_some.new.disk) (c.loop-from.invariant.same t).images.later (c.loop-from.invariant.grows t) (c.read_some.ensures.grows t);
}

pub returns-clause-exact : goal.returns-clause-exact
returns-clause-exact g c t =
    let image = (g.D.Disk.flash c.args.disk.now).reads in
    let inside : c.args.slot.start + (8 + c.args.slot.capacity) ≤ length image = omega (arith, (g.met.D.Disk.obeys c.args.disk.now t).fits, c.requires.slot) in
    let long : c.in_ok-size.size ≡ length c.args.bytes.now = omega (arith, c.if-size-bytes.false) in
    let end : c.loop-from.from ≡ c.in_ok-size.size = omega (arith, long, c.loop-from-test.false, c.loop-from.invariant.within) in
    let same = all_same c.args.slot image c.in_ok-size.size (c.in_ok-size.ensures.exact t) c.in_ok-size.ensures.few inside c.args.bytes.now c.loop-from.from long end (c.loop-from.invariant.passed t) in
    (λ _. same, λ _. refl)
