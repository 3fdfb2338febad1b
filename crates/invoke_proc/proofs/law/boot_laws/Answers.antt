use Rattle.suit_envelope.specs.Trimmed.{trimmed_says}
use Rattle.invoke_proc.proofs.BankSays.{is_started, no_cause, one_cause}
use Rattle.invoke_proc.proofs.law.boot_laws.Goals as goal

pub returns : goal.returns
returns c =
    let laws = c.admission_laws.ensures.starting in
    record {
      one = λ layout key bytes first other are. one_cause layout key bytes laws first other;
      none = λ layout key bytes said manifest end are is. no_cause layout key bytes laws said manifest is end;
      same = λ layout key bytes said other manifest next are x y. laws.one_manifest bytes said other manifest next x.1.spell y.1.spell;
      installed = λ layout key bytes r is. (trimmed_says is.wrapper is.manifest, is_started layout key bytes r is);
    }
