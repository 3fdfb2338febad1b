use Rattle.std.proofs.Common.{◌∙◌, List, Result, subst}
use Rattle.std.specs.Prelude.{IsOk}
use Rattle.det_cbor.specs.Position.{Position}
use Rattle.suit_params.specs.declared.param.Param.{Param}
use Rattle.suit_params.specs.declared.refusal.Refusal.{Refusal}
use Rattle.suit_cursor.proofs.ItsHead.{override_is}
use Rattle.suit_cursor.proofs.params.lend_override.Goals as goal

pub lend_map-requires : goal.lend_map-requires
lend_map-requires c = subst (λ (r : Result (List Param × Position) Refusal). IsOk r) (override_is c.args.count c.args.cursor.now c.requires) c.requires

pub returns : goal.returns
returns c = override_is c.args.count c.args.cursor.now c.requires ∙ c.lend_map.ensures
