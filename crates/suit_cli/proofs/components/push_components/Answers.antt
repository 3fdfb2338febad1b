use Rattle.std.proofs.Common.{◌∙◌}
use Rattle.suit_edge.specs.FlashLaws.{same_flash_then}
use Rattle.suit_cli.proofs.StatusLines.{line_more}
use Rattle.suit_cli.proofs.components.push_components.Goals as goal

pub returns-in_err-push_str-clause-same : goal.returns-in_err-push_str-clause-same
returns-in_err-push_str-clause-same g c t =
    same_flash_then _ _ _ _ (g.met.D.Disk.obeys c.loop-component.flash t) (c.loop-component.invariant.same t) (c.in_ok-line.ensures.same t)

pub loop-component-preserved : goal.loop-component-preserved
loop-component-preserved g c = record {
  extent = c.in_ok-line.ensures.extent ∙ c.loop-component.invariant.extent;
  faults = c.in_ok-line.ensures.counts ∙ c.loop-component.invariant.faults;
  same = λ t. same_flash_then _ _ _ _ (g.met.D.Disk.obeys c.loop-component.flash t) (c.loop-component.invariant.same t) (c.in_ok-line.ensures.same t);
  lines = λ t.
      line_more c.loop-component.text _ c.push_str.new.self _ c.loop-component.component c.args.layout.now c.index-layout-component.result c.args.active.now _ _
      c.loop-component-test.true c.index-layout-component.is (c.loop-component.invariant.same t).reads (c.as_str.ensures.value ∙ c.in_ok-line.ensures.line t) c.in_ok-push_str.ensures.ok
      (c.loop-component.invariant.lines t);
}
