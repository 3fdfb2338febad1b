use Rattle.std.proofs.Common.{sym, ap, ◌∙◌}
use Rattle.suit_params.specs.DigestBytes.{digest_bytes, as_digest}
use Rattle.suit_params.specs.DigestLaws.{digest_again}
use Rattle.path_checker.proofs.judge_plan.same_param.same_digest.Goals as goal

pub returns : goal.returns
returns c =
    let mine = digest_again c.args.one.now c.bytes.ensures.long in
    let theirs = digest_again c.args.other.now c.bytes-2.ensures.long in (
      λ same. let again = sym mine ∙ ap as_digest (sym c.bytes.ensures.is ∙ c.same.ensures.same.0 same ∙ c.bytes-2.ensures.is) ∙ theirs in cc,
      λ same. c.same.ensures.same.1 (c.bytes.ensures.is ∙ ap digest_bytes same ∙ sym c.bytes-2.ensures.is),
    )
