use Rattle.std.proofs.Common.{◌≡◌, sym, ap, subst}
use Rattle.det_cbor.specs.declared.head.HeadKind.TheVariants as kinds
use Rattle.det_cbor.specs.DataItem.{MapOf}
use Rattle.det_cbor.specs.Position.{Position}
use Rattle.det_cbor.specs.ResultLaws.{same_ok}
use Rattle.hmac_mac0.specs.Layout.{BeginsWithKind}
use Rattle.hmac_mac0.proofs.Layouts.{found_value, found_true, item_starts, map_found, map_begins}
use Rattle.hmac_mac0.proofs.layout.map.Goals as goal

pub returns-in-Ok-clause-passed : goal.returns-in-Ok-clause-passed
returns-in-Ok-clause-passed c h =
    let value = found_value _ c.head.result c.is_some.result c.is_some.ensures c.head.ensures.some h in
    let left : c.new.result.left ≡ c.in-Ok.item.now = ap (λ (p : Position). p.left) c.new.ensures in
    map_found c.args.cursor.now.left c.in-Ok.item.now c.skip.new.self.left c.new.result.left _ value.0 c.in-Ok.ensures.ok.0 c.in-Ok.ensures.ok.1.parts left value.1

pub returns-in-Ok-clause-every : goal.returns-in-Ok-clause-every
returns-in-Ok-clause-every c rest h =
    let is = same_ok _ _ (c.in-Ok.ensures.every_item (MapOf h.pairs) _ (item_starts c.args.cursor.now.left rest (MapOf h.pairs) h.valid h.parts)) in
    let begins = map_begins c.args.cursor.now.left rest c.in-Ok.item.now h is in
    let left : c.new.result.left ≡ c.in-Ok.item.now = ap (λ (p : Position). p.left) c.new.ensures in
    found_true _ c.head.result c.is_some.result c.is_some.ensures c.head.ensures.none (subst (BeginsWithKind kinds.Map) (sym left) begins)

pub returns-in-Err-clause-every : goal.returns-in-Err-clause-every
returns-in-Err-clause-every c rest h =
    absurd (cc (c.in-Err.ensures.every_item (MapOf h.pairs) _ (item_starts c.args.cursor.now.left rest (MapOf h.pairs) h.valid h.parts)))
