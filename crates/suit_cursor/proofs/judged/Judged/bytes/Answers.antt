use Rattle.std.proofs.Common.{◌∙◌, ◌+◌, ℕ, List, drop, Ok, sym, ap, subst}
use Rattle.std.specs.Prelude.{IsOk}
use Rattle.det_cbor.specs.Position.{Position}
use Rattle.suit_params.specs.Reading.{bytes_from}
use Rattle.suit_cursor.proofs.Reading.{bytes_long, bytes_are}
use Rattle.suit_cursor.proofs.judged.Judged.bytes.Goals as goal

pub split_at-requires : goal.split_at-requires
split_at-requires c =
    let here : Position = record { left = c.self.inside.rest.now; place = c.self.inside.at } in
    bytes_long c.args.count here (subst (λ (p : Position). IsOk (bytes_from c.args.count p)) (sym c.self.view_is) c.requires)

pub returns-clause-exact : goal.returns-clause-exact
returns-clause-exact c =
    let here : Position = record { left = c.self.inside.rest.now; place = c.self.inside.at } in
    let read = bytes_are c.args.count here (subst (λ (p : Position). IsOk (bytes_from c.args.count p)) (sym c.self.view_is) c.requires) in
    let front = c.split_at.ensures.front in
    let back = c.split_at.ensures.back in
    ap (bytes_from c.args.count) (sym c.self.view_is) ∙ read
    ∙ ap (λ (l : List ℕ). Ok (l, record { left = drop c.args.count c.self.inside.rest.now; place = c.self.inside.at + c.args.count })) (sym front)
    ∙ ap (λ (l : List ℕ). Ok (c.split_at.result.0.now, record { left = l; place = c.self.inside.at + c.args.count })) (sym back)
