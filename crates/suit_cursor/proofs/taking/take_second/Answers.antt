use Rattle.std.proofs.Common.{◌∙◌, Result, subst}
use Rattle.std.specs.Prelude.{IsOk}
use Rattle.det_cbor.specs.Position.{Position}
use Rattle.suit_params.specs.declared.digest.Digest.{Digest}
use Rattle.suit_params.specs.declared.refusal.Refusal.{Refusal}
use Rattle.suit_params.specs.DigestKinds.{size_of}
use Rattle.suit_params.specs.Reading.{bytes_from}
use Rattle.suit_cursor.proofs.Known.{first_ok}
use Rattle.suit_cursor.proofs.Taken.{value_goes}
use Rattle.suit_cursor.proofs.taking.take_second.Goals as goal

pub take_sum-requires : goal.take_sum-requires
take_sum-requires c =
    first_ok (bytes_from (size_of c.args.kind) c.value-length.new.self) _
    (subst (λ (r : Result (Digest × Position) Refusal). IsOk r) (value_goes c.args.array c.args.kind c.args.item.now c.value-length.result c.value-length.new.self c.value-length.ensures c.requires) c.requires)

pub returns : goal.returns
returns c = value_goes c.args.array c.args.kind c.args.item.now c.value-length.result c.value-length.new.self c.value-length.ensures c.requires ∙ c.take_sum.ensures
