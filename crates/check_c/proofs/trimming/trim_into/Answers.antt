use Rattle.std.proofs.Common.{◌≡◌, ◌∙◌, ap, arith, length}
use Rattle.check_c.proofs.Trimmed.{said_once}
use Rattle.check_c.specs.Trimming.{trimmed_bytes}
use Rattle.suit_envelope.specs.Said.{said_by}
use Rattle.check_c.proofs.trimming.trim_into.Goals as goal

pub returns-in_default-clause-every : goal.returns-in_default-clause-every
returns-in_default-clause-every c said envelope fits =
    let no = c.in_default.ensures.every_envelope said envelope in absurd cc

pub returns-then-room-bytes-clause-every : goal.returns-then-room-bytes-clause-every
returns-then-room-bytes-clause-every c said envelope fits =
    let same = said_once said_by c.in-Ok.envelope said (c.in-Ok.ensures.every_envelope said envelope) in
    let bytes : length c.as_slice-bytes.result.now ≡ length (trimmed_bytes said) = ap length (c.as_slice-bytes.ensures ∙ c.in-Ok-trim.ensures.spelling) ∙ ap (λ s. length (trimmed_bytes s)) same in
    absurd (omega (arith, bytes, fits, c.if-room-bytes.true))
