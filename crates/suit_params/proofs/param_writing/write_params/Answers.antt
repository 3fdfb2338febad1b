use Rattle.std.proofs.Common.{◌∙◌, arith}
use Rattle.det_cbor.specs.DataItem.{spell_pairs}
use Rattle.det_cbor.specs.Heads.{head_bytes}
use Rattle.suit_params.specs.ParamMaking.{param_pairs}
use Rattle.suit_params.proofs.ParamSpelled.{after_two, params_spelled, is_written}
use Rattle.suit_params.proofs.param_writing.write_params.Goals as goal

pub returns-clause-ok : goal.returns-clause-ok
returns-clause-ok c =
    after_two c.args.out.now (head_bytes 5 c.len.result) (spell_pairs (param_pairs c.args.list.now)) c.push_kind.new.out c.push_params.new.out c.in_ok-push_kind.ensures.ok c.in_ok-push_params.ensures.ok
    ∙ params_spelled c.args.out.now c.len.result c.args.list.now c.len.ensures

pub returns-clause-says : goal.returns-clause-says
returns-clause-says c = is_written _ (omega arith) c.in_ok-push_params.ensures.params
