use Rattle.std.proofs.Common.{◌≡◌, inl, inr, ⊎_elim, ◌<◌, ◌≤◌, ℕ, get_or, length, ap, ◌∙◌, refl, arith, rules}
use Rattle.std.proofs.lemmas.List.{length-set}
use Rattle.flash_layout.specs.declared.layout.Entry.{Entry}
use Rattle.suit_commands.specs.Plans.{plan_tree}
use Rattle.update_proc.specs.Choices.{HasOther, IsWritten}
use Rattle.update_proc.proofs.Numbering.{from_two, from_written, more_either, more_other, more_same, to_two, to_written}
use Rattle.update_proc.proofs.choosing.choose.Goals as goal

pub loop-i-preserved : goal.loop-i-preserved
loop-i-preserved c =
    let Other : ℕ → Type 0 = λ j. IsWritten (plan_tree c.args.plan.now) c.args.places.now j × ((e : Entry) → (get_or c.args.layout.now j e).slots ≡ 2) in
    let inside : c.loop-i.i < length c.args.layout.now = omega (arith, c.loop-i-test.true, ap length c.as_slice-entries.ensures) in
    let room : c.loop-i.i < length c.loop-i.numbers = omega (arith, inside, c.requires.layout, c.loop-i.invariant.size) in
    let entries = c.as_slice-entries.result.now in
    let entry = c.index-entries-i.result in
    record {
      size = length-set c.loop-i.numbers c.loop-i.i c.number_of.result ∙ c.loop-i.invariant.size;
      other = more_other Other c.args.active.now c.loop-i.numbers c.loop-i.i c.number_of.result room c.loop-i.invariant.other
          (λ is. c.number_of.ensures.other (c.has_written-written.ensures.1 (from_written (plan_tree c.args.plan.now) c.args.places.now c.targets-bits.result.bits c.loop-i.i c.targets-bits.ensures is.0))
          (to_two entries c.args.layout.now c.loop-i.i entry c.as_slice-entries.ensures is.1));
      same = more_same Other c.args.active.now c.loop-i.numbers c.loop-i.i c.number_of.result room c.loop-i.invariant.same
          (λ not. c.number_of.ensures.same (λ written two. not (
            to_written (plan_tree c.args.plan.now) c.args.places.now c.targets-bits.result.bits c.loop-i.i c.targets-bits.ensures (c.has_written-written.ensures.0 written),
            from_two entries c.args.layout.now c.loop-i.i entry c.as_slice-entries.ensures inside two,
          )));
      either = more_either (HasOther c.args.layout.now) c.args.active.now c.loop-i.numbers c.loop-i.i c.number_of.result room c.loop-i.invariant.either
          (⊎_elim (λ same. inl same) (λ other. inr ((inside, from_two entries c.args.layout.now c.loop-i.i entry c.as_slice-entries.ensures inside other.0), other.1)) c.number_of.ensures.either);
    }

pub returns : goal.returns
returns c =
    let few : c.loop-i.i ≤ length c.as_slice-entries.result.now = omega arith in
    record {
      size = c.loop-i.invariant.size;
      other = λ i written has. c.loop-i.invariant.other i (omega (arith, has.0, c.loop-i-test.false, ap length c.as_slice-entries.ensures)) (written, has.1);
      same = λ i not. c.loop-i.invariant.same i (λ lt is. not (is.0, (omega (arith, lt, few, ap length c.as_slice-entries.ensures), is.1)));
      either = c.loop-i.invariant.either;
    }

pub loop-i-init : goal.loop-i-init
loop-i-init c = record { size = search rules; other = λ j lt is. absurd (omega (arith, lt)); same = λ j not. refl; either = λ j. inl refl }
