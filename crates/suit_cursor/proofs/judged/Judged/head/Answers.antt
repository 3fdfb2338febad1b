use Rattle.std.proofs.Common.{◌∙◌, sym, ap, subst}
use Rattle.std.specs.Prelude.{IsOk}
use Rattle.det_cbor.specs.Position.{Position}
use Rattle.suit_params.specs.Reading.{head_from}
use Rattle.suit_cursor.proofs.Reading.{head_goes, head_is}
use Rattle.suit_cursor.proofs.judged.Judged.head.Goals as goal

pub known_head-requires : goal.known_head-requires
known_head-requires c =
    let here : Position = record { left = c.self.inside.rest.now; place = c.self.inside.at } in
    head_goes here (subst (λ (p : Position). IsOk (head_from p)) (sym c.self.view_is) c.requires)

pub returns : goal.returns
returns c =
    let here : Position = record { left = c.self.inside.rest.now; place = c.self.inside.at } in
    ap head_from (sym c.self.view_is) ∙ head_is here c.known_head.result.0 c.known_head.result.1.now c.known_head.ensures.exact
