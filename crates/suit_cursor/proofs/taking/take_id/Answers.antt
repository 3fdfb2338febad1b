use Rattle.std.proofs.Common.{◌∙◌, ℕ, List, Result, subst}
use Rattle.std.specs.Prelude.{IsOk}
use Rattle.det_cbor.specs.Position.{Position}
use Rattle.suit_params.specs.declared.refusal.Refusal.{Refusal}
use Rattle.suit_cursor.proofs.Taken.{id_goes}
use Rattle.suit_cursor.proofs.taking.take_id.Goals as goal

pub take_sixteen-requires : goal.take_sixteen-requires
take_sixteen-requires c =
    subst (λ (r : Result (List ℕ × Position) Refusal). IsOk r) (id_goes c.args.map.now c.value-length.result c.value-length.new.self c.value-length.ensures c.requires) c.requires

pub returns : goal.returns
returns c = id_goes c.args.map.now c.value-length.result c.value-length.new.self c.value-length.ensures c.requires ∙ c.take_sixteen.ensures
