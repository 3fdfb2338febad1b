use Rattle.std.proofs.Common.{refl}
use Rattle.serde_json.proofs.OnLiterals.{serde_json_on_literals}
use Rattle.conformance.proofs.values.text_of.Goals as goal

pub returns-in-Fetched : goal.returns-in-Fetched
unfolding serde_json_on_literals
returns-in-Fetched c = rw c.in-Fetched.is record { value = _; spells = refl; described = λ sequence. refl }

pub returns-in-Integrated : goal.returns-in-Integrated
unfolding serde_json_on_literals
returns-in-Integrated c = rw c.in-Integrated.is record { value = _; spells = refl; described = λ sequence. refl }

pub returns-in-Loaded : goal.returns-in-Loaded
unfolding serde_json_on_literals
returns-in-Loaded c = rw c.in-Loaded.is record { value = _; spells = refl; described = λ sequence. refl }

pub returns-in-FetchedIfOther : goal.returns-in-FetchedIfOther
unfolding serde_json_on_literals
returns-in-FetchedIfOther c = rw c.in-FetchedIfOther.is record { value = _; spells = refl; described = λ sequence. refl }
