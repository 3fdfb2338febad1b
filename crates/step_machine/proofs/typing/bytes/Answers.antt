use Rattle.std.proofs.Common.{ℕ, suc, ◌<◌, List, [], ◌∷◌, get_or, arith}
use Rattle.std.specs.List.{AllByRecursion}
use Rattle.step_machine.proofs.typing.bytes.Goals as goal

all_below : (bytes : List ℕ) → ((i : ℕ) → get_or bytes i 0 < 256) → AllByRecursion (λ b. b < 256) bytes
all_below [] all = tt
all_below (b ∷ bytes) all = (all 0, all_below bytes (λ i. all (suc i)))

pub returns : goal.returns
returns c = all_below c.args.id.now (λ i. omega (arith, c.type_inv.id i))
