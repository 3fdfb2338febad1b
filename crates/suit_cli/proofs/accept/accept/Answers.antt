use Rattle.std.proofs.Common.{List, ℕ, refl, subst}
use Rattle.rollback_record.specs.SoundFlash.{key_bytes}
use Rattle.admission.specs.Admission.{IsAdmitted, admission_of}
use Rattle.suit_cli.proofs.Refused.{accepting_stops}
use Rattle.suit_cli.proofs.accept.accept.Goals as goal

pub returns-in-Ok-clause-finds : goal.returns-in-Ok-clause-finds
returns-in-Ok-clause-finds c here =
    let admitted = subst (λ (k : List ℕ). IsAdmitted c.longest_trimmed.result c.args.layout.now k c.args.bytes.now (admission_of c.in-Ok.admitted)) c.key_bytes.ensures c.in-Ok.ensures.admitted in
    (refl, subst (λ (n : ℕ). IsAdmitted n c.args.layout.now (key_bytes c.args.key.now) c.args.bytes.now (admission_of c.in-Ok.admitted)) c.longest_trimmed.ensures admitted)

pub returns-in-Err-clause-finds : goal.returns-in-Err-clause-finds
returns-in-Err-clause-finds c =
    accepting_stops c.args.frame c.args.layout.now c.args.key.now _ c.key_bytes.result.now c.args.bytes.now c.in-Err.refusal c.refusal_stop.result c.longest_trimmed.ensures c.key_bytes.ensures c.in-Err.ensures.refused c.refusal_stop.ensures
