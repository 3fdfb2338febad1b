use Rattle.std.proofs.Common.{◌≡◌, ◌<◌, length, Equal, nat_cmp, sym, ap, ◌∙◌, arith}
use Rattle.suit_params.specs.ParamKeys.{key_of, key_number}
use Rattle.author.specs.ParamValues.{param_order}
use Rattle.author.proofs.ParamPlaces.{placed_equal}
use Rattle.author.proofs.param_fields.place_of.Goals as goal

pub returns-in-Equal : goal.returns-in-Equal
returns-in-Equal c =
    let p = c.args.param.now in
    let q = c.index-list-i.result in
    let left : key_number (key_of p) ≡ c.number-number.result = sym (c.number-number.ensures ∙ ap key_number c.key.ensures) in
    let right : key_number (key_of q) ≡ c.number.result = sym (c.number.ensures ∙ ap key_number c.key-in-loop-i.ensures) in
    let same : param_order p q ≡ Equal = (λ i. nat_cmp (left i) (right i)) ∙ sym c.in-Equal.ensures in
    let inside : c.loop-i.i < length c.args.list.now = omega (arith, c.loop-i-test.true) in
    (inside, placed_equal c.args.list.now c.loop-i.i p q inside c.index-list-i.is same c.loop-i.invariant)
