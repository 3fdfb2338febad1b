use Rattle.std.proofs.Common.{◌∙◌, ◌++◌, ℕ, List, ap, subst}
use Rattle.std.specs.List.{AllByRecursion}
use Rattle.det_cbor.specs.DataItem.{ByteString, spell, IsByte}
use Rattle.det_cbor.specs.Heads.{head_bytes}
use Rattle.suit_params.specs.declared.digest_kind.DigestKind.{DigestKind}
use Rattle.suit_params.specs.DigestBytes.{digest_bytes, digest_kind}
use Rattle.suit_params.specs.DigestKinds.{argument_of}
use Rattle.suit_params.proofs.DigestSpelled.{array_written}
use Rattle.suit_params.proofs.ParamSpelled.{after_three}
use Rattle.suit_params.proofs.digest_writing.push_digest.Goals as goal

pub returns-clause-ok : goal.returns-clause-ok
returns-clause-ok c =
    let out = c.args.out.now in
    let digest = c.args.digest.now in
    let bytes = c.bytes.result.now in
    let front : List ℕ = out ++ head_bytes 4 2 in
    after_three out (head_bytes 4 2) (head_bytes 1 c.argument.result) (spell (ByteString bytes)) c.push_count.new.out c.push_kind.new.out c.push_string.new.out
    c.in_ok-push_count.ensures.ok c.in_ok-push_kind.ensures.ok c.in_ok-push_string.ensures.ok
    ∙ ap (λ (n : ℕ). (front ++ head_bytes 1 n) ++ spell (ByteString bytes)) c.argument.ensures
    ∙ ap (λ (k : DigestKind). (front ++ head_bytes 1 (argument_of k)) ++ spell (ByteString bytes)) c.kind.ensures
    ∙ ap (λ (l : List ℕ). (front ++ head_bytes 1 (argument_of (digest_kind digest))) ++ spell (ByteString l)) c.bytes.ensures.is
    ∙ array_written out (digest_kind digest) (digest_bytes digest)

pub returns-clause-fits : goal.returns-clause-fits
returns-clause-fits c = (c.bytes.ensures.long, subst (AllByRecursion IsByte) c.bytes.ensures.is (c.push_string.ensures.string.1))
