-- How a file that is opened goes on.
use Rattle.std.proofs.Common.{◌≡◌, ℕ, List, Result, Ok, Err, refl, sym, subst}
use Rattle.std.specs.Result.{IsErrAnd}
use Rattle.suit_envelope.specs.Envelopes.{EnvelopeSays}
use Rattle.suit_envelope.specs.Said.{said_by}
use Rattle.suit_manifest.specs.declared.manifest.Manifest.{Manifest}
use Rattle.admission.specs.declared.opening.Opened.{Opened}
use Rattle.suit_cli.specs.declared.reply.Reply.{Reply}
use Rattle.suit_cli.specs.declared.reply.Stop.{Stop}
use Rattle.suit_cli.specs.Outside.{Outside}
use Rattle.suit_cli.specs.Stages.{Answers, Ending, Then, Goes, Declines, Faults, Lacks, ending_of}
use Rattle.suit_cli.specs.Inputs.{longest_shown}
use Rattle.suit_cli.specs.Envelopes.{manifest_in, short}
use Rattle.suit_cli.specs.Commands.{in_file}
use Rattle.suit_cli.specs.Opening.{IsOpened, never}

-- the answer ended before the manifest
pub ends_before : (bytes : List ℕ) (next : EnvelopeSays → Manifest → Answers) (before after : Outside) (ending : Ending) → in_file bytes never before after ending
    → in_file bytes next before after ending
ends_before bytes next before after _ (Declines reply d) = Declines reply d
ends_before bytes next before after _ (Faults object f) = Faults object f
ends_before bytes next before after _ (Lacks l) = Lacks l
ends_before bytes next before after ending (Goes said middle _ given rest) = Goes said middle ending given (of_short middle ending rest) where
  of_manifest : (m : Outside) (e : Ending) → Then (manifest_in said) (never said) m after e → Then (manifest_in said) (next said) m after e
  of_manifest m _ (Declines reply d) = Declines reply d
  of_manifest m _ (Faults object f) = Faults object f
  of_manifest m _ (Lacks l) = Lacks l
  of_manifest m e (Goes manifest n _ g behind) = absurd behind

  of_short : (m : Outside) (e : Ending) → Then (short longest_shown said) (λ _. Then (manifest_in said) (never said)) m after e → Then (short longest_shown said) (λ _. Then (manifest_in said) (next said)) m after e
  of_short m _ (Declines reply d) = Declines reply d
  of_short m _ (Faults object f) = Faults object f
  of_short m _ (Lacks l) = Lacks l
  of_short m e (Goes u n _ g later) = Goes u n e g (of_manifest n e later)

-- because a step of the code stopped it
pub stops_before : (bytes : List ℕ) (next : EnvelopeSays → Manifest → Answers) (before after : Outside) (result : Result Reply Stop) (stop : Stop) → IsErrAnd result (λ e. e ≡ stop)
    → in_file bytes never before after (ending_of (Err stop)) → in_file bytes next before after (ending_of result)
stops_before bytes next before after (Ok reply) stop is stops = absurd is
stops_before bytes next before after (Err other) stop is stops =
    subst (λ (s : Stop). in_file bytes next before after (ending_of (Err s))) (sym is) (ends_before bytes next before after _ stops)

-- it goes on with the manifest
pub goes_behind : (bytes : List ℕ) (opened : Opened) → IsOpened bytes opened → (next : EnvelopeSays → Manifest → Answers) (before after : Outside) (ending : Ending)
    → next (said_by opened.envelope) opened.manifest before after ending → in_file bytes next before after ending
goes_behind bytes opened is next before after ending later =
    Goes (said_by opened.envelope) before ending (refl, (is.are_bytes, is.envelope)) (Goes tt before ending (refl, is.is_short) (Goes opened.manifest before ending (refl, is.manifest) later))
