use Rattle.std.proofs.Common.{◌≤◌, List, length, refl, sym, ap, subst, arith}
use Rattle.std.specs.List.{All}
use Rattle.std.proofs.lemmas.Bool.{iff_false}
use Rattle.flash_layout.specs.declared.frame.Frame.{Frame}
use Rattle.flash_layout.specs.declared.layout.Entry.{Entry}
use Rattle.flash_layout.specs.Frames.{IsBase, IsFrame, Second}
use Rattle.flash_layout.specs.LayoutFaults.{BaseAway, HasBaseInside, Over}
use Rattle.flash_layout.specs.Overlaps.{AreClearOfBase, IsFirstOver}
use Rattle.flash_layout.proofs.MovedLayout.{moved_layout, slots_few}
use Rattle.flash_layout.proofs.moving.moved.Goals as goal

pub first_over-requires-clause-few : goal.first_over-requires-clause-few
first_over-requires-clause-few c = omega (arith, c.requires.few, ap length c.as_slice.ensures)

pub first_over-requires-clause-slots : goal.first_over-requires-clause-slots
first_over-requires-clause-slots c = subst (λ (l : List Entry). All (λ e. e.slots ≤ 2) l) (sym c.as_slice.ensures) (slots_few c.args.size c.args.layout.now c.requires)

pub returns-then-not-is_base-clause-refused : goal.returns-then-not-is_base-clause-refused
returns-then-not-is_base-clause-refused c = BaseAway (λ inside. iff_false c.is_base.ensures c.if-not-is_base.true (inside refl))

pub returns-in-Some-clause-refused : goal.returns-in-Some-clause-refused
returns-in-Some-clause-refused c =
    let base = c.is_base.ensures.0 c.if-not-is_base.false in
    Over c.in-Some.component (λ two. base)
    (subst (λ (f : Frame). IsFirstOver f c.args.layout.now c.in-Some.component) c.second_frame-frame.ensures (subst (λ (l : List Entry). IsFirstOver c.second_frame-frame.result l c.in-Some.component) c.as_slice.ensures c.in-Some.ensures))

pub returns-in-None-clause-ok : goal.returns-in-None-clause-ok
returns-in-None-clause-ok c =
    let frame = c.second_frame-frame.result in
    let is = c.second_frame-frame.ensures in
    let base = c.is_base.ensures.0 c.if-not-is_base.false in
    let clear = subst (λ (l : List Entry). AreClearOfBase frame l) c.as_slice.ensures c.in-None.ensures in
    record {
      frame_is = is;
      placed = subst (IsFrame c.args.size) (sym is) (Second refl base.0 base.1 (omega (arith, base.1, c.ranges.size)));
      held = record { inside = subst (HasBaseInside c.args.size) (sym is) (λ two. base); clear = clear };
      allowed = moved_layout frame c.args.size c.args.layout.now (ap (λ (f : Frame). f.version) is) c.requires clear;
    }
