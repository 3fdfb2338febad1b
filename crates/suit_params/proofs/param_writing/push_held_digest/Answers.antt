use Rattle.std.proofs.Common.{◌∙◌, ◌++◌, ℕ, ap}
use Rattle.det_cbor.specs.DataItem.{spell}
use Rattle.det_cbor.specs.Heads.{head_bytes}
use Rattle.suit_params.specs.declared.digest_kind.DigestKind.{DigestKind}
use Rattle.suit_params.specs.DigestKinds.{spelled_size}
use Rattle.suit_params.specs.Digests.{digest_item}
use Rattle.suit_params.proofs.DigestSpelled.{held_written}
use Rattle.suit_params.proofs.ParamSpelled.{after_two}
use Rattle.suit_params.proofs.param_writing.push_held_digest.Goals as goal

pub returns-clause-ok : goal.returns-clause-ok
returns-clause-ok c =
    let out = c.args.out.now in
    let array = spell (digest_item c.args.digest.now) in
    after_two out (head_bytes 2 c.spelled_size.result) array c.push_kind.new.out c.push_digest.new.out c.in_ok-push_kind.ensures.ok c.in_ok-push_digest.ensures.ok
    ∙ ap (λ (n : ℕ). (out ++ head_bytes 2 n) ++ array) c.spelled_size.ensures
    ∙ ap (λ (k : DigestKind). (out ++ head_bytes 2 (spelled_size k)) ++ array) c.kind.ensures
    ∙ held_written out c.args.digest.now c.in_ok-push_digest.ensures.fits
