use Rattle.std.proofs.Common.{◌≡◌, Bool, true, false, not, take, sym, ◌∙◌, refl, arith}
use lib.Pointwise.{bytes_decides}
use Rattle.det_cbor.specs.Position.{Position}
use Rattle.suit_params.specs.Reading.{content_from}
use Rattle.flash_layout.proofs.SpelledPlaces.{answered, answer_is, next_is_read, same_next, same_part, all_are_read}
use Rattle.flash_layout.proofs.spelled_places.are_parts.Goals as goal

was_true : (b : Bool) → false ≡ not b → b ≡ true
was_true true e = cc
was_true false e = cc

was_false : (b : Bool) → true ≡ not b → b ≡ true → ⊥
was_false true e is = cc
was_false false e is = cc

pub unwrap-content-requires : goal.unwrap-content-requires
unwrap-content-requires c =
    answered (λ (p : Position). (p, c.read_content.new.cursor)) c.read_content.result (content_from c.loop-part.items) c.read_content.ensures
    (next_is_read (take c.loop-part.part-index c.args.parts.now) _ c.loop-part.part-index c.loop-part.items _ c.loop-part-test.true c.loop-part.invariant c.requires)

pub returns-then-ne : goal.returns-then-ne
returns-then-ne c = (
  λ never. cc,
  λ whole.
      let content = answer_is (λ (p : Position). (p, c.read_content.new.cursor)) c.read_content.result (content_from c.loop-part.items) c.unwrap-content.result c.read_content.ensures c.unwrap-content.ensures in
      let same = same_part c.args.parts.now c.loop-part.part-index c.loop-part.items c.unwrap-content.result c.read_content.new.cursor c.part-item.result _ c.loop-part-test.true content c.loop-part.invariant whole in
      absurd (was_false _ c.if-ne.ensures ((bytes_decides c.bytes_left.result.now c.as_slice.result.now).1 (c.bytes_left.ensures ∙ same ∙ sym c.part-item.is ∙ sym c.as_slice.ensures))),
)

pub loop-part-preserved : goal.loop-part-preserved
loop-part-preserved c =
    let content = answer_is (λ (p : Position). (p, c.read_content.new.cursor)) c.read_content.result (content_from c.loop-part.items) c.unwrap-content.result c.read_content.ensures c.unwrap-content.ensures in
    let same = (bytes_decides c.bytes_left.result.now c.as_slice.result.now).0 (was_true _ c.if-ne.ensures) in
    same_next c.args.parts.now c.loop-part.part-index c.loop-part.items c.unwrap-content.result c.read_content.new.cursor c.part-item.result _ c.loop-part-test.true content c.loop-part.invariant
    (sym c.part-item.is ∙ sym c.as_slice.ensures ∙ sym same ∙ c.bytes_left.ensures)

pub returns : goal.returns
returns c =
    let whole = all_are_read c.args.parts.now c.loop-part.part-index c.loop-part.items _ (omega arith) c.loop-part.invariant in
    (λ yes. whole, λ is. refl)
