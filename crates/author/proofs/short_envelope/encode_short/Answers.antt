use Rattle.std.proofs.Common.{◌≡◌, ◌<◌, ◌≤◌, ℕ, List, length, subst, arith}
use Rattle.author.specs.MadeEnvelopes.{Whole}
use Rattle.author.proofs.EnvelopeLengthFacts.{trimmed_exceeds, trimmed_fits, contents_exceed}
use Rattle.author.proofs.short_envelope.encode_short.Goals as goal

pub returns-then-trimmed-gt-MAX_TRIMMED-clause-answers : goal.returns-then-trimmed-gt-MAX_TRIMMED-clause-answers
returns-then-trimmed-gt-MAX_TRIMMED-clause-answers c = trimmed_exceeds c.args.parts.now c.trimmed.result c.trimmed.ensures (omega (arith, c.if-trimmed-gt-MAX_TRIMMED.true))

pub returns-then-contents-gt-MAX_WHOLE-clause-answers : goal.returns-then-contents-gt-MAX_WHOLE-clause-answers
returns-then-contents-gt-MAX_WHOLE-clause-answers c =
    contents_exceed c.args.parts.now c.contents.result (trimmed_fits c.args.parts.now c.trimmed.result c.trimmed.ensures c.if-trimmed-gt-MAX_TRIMMED.false) c.contents.ensures
    (omega (arith, c.if-contents-gt-MAX_WHOLE.true))

pub returns-then-len-gt-MAX_WHOLE-clause-answers : goal.returns-then-len-gt-MAX_WHOLE-clause-answers
returns-then-len-gt-MAX_WHOLE-clause-answers c =
    let long : 1048576 < length c.in_ok-bytes.bytes = omega (arith, c.len.ensures, c.if-len-gt-MAX_WHOLE.true) in
    Whole (trimmed_fits c.args.parts.now c.trimmed.result c.trimmed.ensures c.if-trimmed-gt-MAX_TRIMMED.false)
    (subst (λ (b : List ℕ). 1048576 < length b) c.in_ok-bytes.ensures.spelling long)
