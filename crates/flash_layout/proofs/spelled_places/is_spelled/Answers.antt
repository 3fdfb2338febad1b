use Rattle.std.proofs.Common.{◌≡◌, ℕ, List, length, Ok, sym, ap, subst, ◌∙◌, arith}
use Rattle.std.specs.Prelude.{IsOk}
use Rattle.std.proofs.lemmas.Bool.{eqb-true}
use Rattle.flash_layout.specs.PageReading.{parts_from}
use Rattle.flash_layout.proofs.SpelledPlaces.{head_ok, head_is, parts_counted}
use Rattle.flash_layout.proofs.spelled_places.is_spelled.Goals as goal

pub unwrap-count-requires : goal.unwrap-count-requires
unwrap-count-requires c = head_ok c.args.bytes.now c.new-item.result c.read_array.result c.read_array.new.item c.new-item.ensures c.read_array.ensures c.requires

pub are_parts-requires : goal.are_parts-requires
are_parts-requires c =
    let is = head_is c.args.bytes.now c.new-item.result c.read_array.result c.read_array.new.item c.new-item.ensures c.read_array.ensures c.unwrap-count.result c.unwrap-count.ensures in
    let count : length c.as_slice.result.now ≡ c.unwrap-count.result = omega (arith, ap length c.as_slice.ensures) in
    subst IsOk (is ∙ ap (λ (n : ℕ). parts_from n c.read_array.new.item) (sym count)) c.requires

pub returns-then-count-len : goal.returns-then-count-len
returns-then-count-len c =
    let is = head_is c.args.bytes.now c.new-item.result c.read_array.result c.read_array.new.item c.new-item.ensures c.read_array.ensures c.unwrap-count.result c.unwrap-count.ensures in
    let count : length c.as_slice.result.now ≡ c.unwrap-count.result = omega (arith, ap length c.as_slice.ensures) in
    let same = is ∙ ap (λ (n : ℕ). parts_from n c.read_array.new.item) (sym count) in
    let named = ap (λ (x : List (List ℕ)). Ok x) c.as_slice.ensures in
    (λ yes. same ∙ c.are_parts.ensures.0 yes ∙ named, λ e. c.are_parts.ensures.1 (sym same ∙ e ∙ sym named))

pub returns-else-count-len : goal.returns-else-count-len
returns-else-count-len c =
    let is = head_is c.args.bytes.now c.new-item.result c.read_array.result c.read_array.new.item c.new-item.ensures c.read_array.ensures c.unwrap-count.result c.unwrap-count.ensures in
    (λ yes. absurd (omega (arith, eqb-true c.unwrap-count.result c.len.result yes)), λ e. absurd (omega (arith, parts_counted c.unwrap-count.result c.read_array.new.item c.args.identifier.now (sym is ∙ e))))
