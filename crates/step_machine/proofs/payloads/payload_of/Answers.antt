use Rattle.std.proofs.Common.{ℕ, List, sym, ap, subst}
use Rattle.path_model.specs.Settings.{found_under}
use Rattle.step_machine.specs.Fetching.{ArePayloads}
use Rattle.step_machine.proofs.payloads.payload_of.Goals as goal

pub returns-in-Some : goal.returns-in-Some
returns-in-Some c payloads are = c.payload_with.ensures payloads (subst (λ e. ArePayloads e payloads) c.in-Some.is are)

pub returns-in-None : goal.returns-in-None
returns-in-None c payloads are = ap (λ (ps : List (List ℕ × List ℕ)). found_under ps c.args.key.now) (sym (subst (λ e. ArePayloads e payloads) c.in-None.is are))
