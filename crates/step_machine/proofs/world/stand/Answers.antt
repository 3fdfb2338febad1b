use Rattle.std.proofs.Common.{◌≡◌, ◌∙◌, List, get_or, length, sym, ap}
use Rattle.std.specs.Prelude.{slice_index}
use Rattle.flash_layout.specs.declared.layout.Entry.{Entry}
use Rattle.step_machine.specs.Worlds.{standing_of}
use Rattle.step_machine.proofs.Standings.{stand_more, two_more}
use Rattle.step_machine.proofs.world.stand.Goals as goal

pub loop-component-preserved : goal.loop-component-preserved
loop-component-preserved c =
    let n = c.loop-component.component in
    let layout = c.args.layout.now in
    let places = c.args.places.now in
    let slots = c.args.slots.now in
    let index = slice_index places.layout_index n in
    let inside = c.requires.places.inside n c.loop-component-test.true in
    let entry : Entry = c.index-entries-index.result in
    let at : entry ≡ get_or layout index entry = c.index-entries-index.is ∙ ap (λ (l : List Entry). get_or l index entry) c.as_slice-entries.ensures in
    record {
      so = stand_more layout places slots c.loop-component.list.items n c.standing_of.result entry inside c.loop-component.invariant.so
          (c.standing_of.ensures ∙ ap (λ (x : Entry). standing_of x n index (slice_index slots.number index)) at) c.push.new.self.items c.push.ensures.items;
      two = two_more layout places slots c.loop-component.list.items n c.standing_of.result entry inside c.loop-component.invariant.two
          (ap (λ (x : Entry). length x.starts) (sym at) ∙ c.has_two.ensures);
    }
