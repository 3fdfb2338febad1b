use Rattle.std.proofs.Common.{◌≤◌, ◌+◌, length, refl, arith, rules}
use Rattle.suit_edge.specs.FlashLaws.{grows_then, same_flash_then}
use Rattle.update_proc.proofs.BankBytes.{all_passed, more_passed, other_piece}
use Rattle.update_proc.proofs.bank_reading.has_bytes.Goals as goal

pub returns-then-not-same-clause-exact : goal.returns-then-not-same-clause-exact
returns-then-not-same-clause-exact g c t =
    let within : c.loop-from.from + c.min-count.result ≤ length c.args.bytes.now = omega (arith, c.min-count.ensures, c.loop-from-test.true) in (
      λ no. absurd cc,
      λ equal. absurd (other_piece (g.D.Disk.flash c.args.disk.now).reads c.args.bytes.now c.args.place c.loop-from.from c.min-count.result within (g.D.Disk.flash c.loop-from.disk).reads (c.loop-from.invariant.same t).reads
          (λ e. let yes = (c.in_ok-same.ensures.exact t).1 e in absurd cc) equal),
    )

pub loop-from-preserved : goal.loop-from-preserved
loop-from-preserved g c = record {
  within = omega (arith, c.min-count.ensures, c.loop-from-test.true);
  room = search rules;
  size = search rules;
  faults = search rules;
  passed = λ t.
      let fits : c.args.place + length c.args.bytes.now ≤ length (g.D.Disk.flash c.args.disk.now).reads = omega (arith, (g.met.D.Disk.obeys c.args.disk.now t).fits, c.requires.within) in
      let within : c.loop-from.from + c.min-count.result ≤ length c.args.bytes.now = omega (arith, c.min-count.ensures, c.loop-from-test.true) in
      more_passed (g.D.Disk.flash c.args.disk.now).reads c.args.bytes.now c.args.place c.loop-from.from c.min-count.result fits within (g.D.Disk.flash c.loop-from.disk).reads (c.loop-from.invariant.same t).reads (c.loop-from.invariant.passed t)
      ((c.in_ok-same.ensures.exact t).0 c.if-not-same.false);
  same = λ t. same_flash_then _ _ _ _ (g.met.D.Disk.obeys c.loop-from.disk t) (c.loop-from.invariant.same t) (c.has_piece.ensures.read.same t);
  grows = λ t. grows_then (g.D.Disk.flash c.args.disk.now) (g.D.Disk.flash c.loop-from.disk) (g.D.Disk.flash c.has_piece.new.disk) (c.loop-from.invariant.same t).images.later (c.loop-from.invariant.grows t) (c.has_piece.ensures.read.grows t);
}

pub returns-clause-exact : goal.returns-clause-exact
returns-clause-exact g c t =
    let same = all_passed (g.D.Disk.flash c.args.disk.now).reads c.args.bytes.now c.args.place c.loop-from.from (omega (arith, c.loop-from-test.false)) (c.loop-from.invariant.passed t) c.loop-from.invariant.within in
    (λ _. same, λ _. refl)
