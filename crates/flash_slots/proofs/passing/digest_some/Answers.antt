use Rattle.std.proofs.Common.{◌≡◌, ◌≤◌, ◌+◌, ◌∙◌, length, List, ℕ, ap, subst, arith, rules}
use Rattle.suit_edge.specs.FlashLaws.{grows_then, same_flash_then}
use Rattle.suit_params.specs.Hashes.{hash}
use Rattle.suit_params.specs.HasherState.{HasHashed}
use Rattle.flash_slots.specs.Contents.{pieces_of}
use Rattle.flash_slots.proofs.Whole.{more_passed}
use Rattle.flash_slots.proofs.passing.digest_some.Goals as goal

pub loop-from-preserved : goal.loop-from-preserved
loop-from-preserved g c = record {
  within = omega (arith, c.in_ok-count.ensures.count, c.loop-from-test.true);
  room = search rules;
  size = search rules;
  faults = search rules;
  same = λ t.
      same_flash_then _ _ _ _ (g.met.D.Disk.obeys c.loop-from.disk t) (c.loop-from.invariant.same t) (c.read_some.ensures.same t);
  grows = λ t. grows_then (g.D.Disk.flash c.args.disk.now) (g.D.Disk.flash c.loop-from.disk) (g.D.Disk.flash c.read_some.new.disk) (c.loop-from.invariant.same t).images.later (c.loop-from.invariant.grows t) (c.read_some.ensures.grows t);
  hashed = λ t.
      let image = (g.D.Disk.flash c.args.disk.now).reads in
      let inside : c.args.slot.start + (8 + c.args.slot.capacity) ≤ length image = omega (arith, (g.met.D.Disk.obeys c.args.disk.now t).fits, c.requires.slot) in
      let within : c.loop-from.from + c.in_ok-count.count ≤ c.args.size = omega (arith, c.in_ok-count.ensures.count, c.loop-from-test.true, c.loop-from.invariant.within) in
      subst (λ (m : List ℕ). HasHashed c.update.new.self c.args.kind m) (more_passed c.args.slot image c.args.size c.requires.few inside (g.D.Disk.flash c.loop-from.disk).reads c.loop-from.room c.read_some.new.room c.loop-from.from c.in_ok-count.count (c.loop-from.invariant.same t).reads within (c.in_ok-count.ensures.bytes t))
      (c.update.ensures c.args.kind (pieces_of c.args.slot c.loop-from.from image) (c.loop-from.invariant.hashed t));
}

pub returns-clause-exact : goal.returns-clause-exact
returns-clause-exact g c t =
    let end : c.loop-from.from ≡ c.args.size = omega (arith, c.loop-from-test.false, c.loop-from.invariant.within) in
    let image = (g.D.Disk.flash c.args.disk.now).reads in
    c.finish.ensures c.args.kind (pieces_of c.args.slot c.loop-from.from image) (c.loop-from.invariant.hashed t) ∙ ap (λ (k : ℕ). hash c.args.kind (pieces_of c.args.slot k image)) end
