use Rattle.std.proofs.Common.{refl, arith}
use Rattle.step_machine.proofs.Fitting.{zero_at}
use Rattle.step_machine.proofs.in_use.slots_in_use.Goals as goal

pub loop-i-init : goal.loop-i-init
loop-i-init c = record { size = refl; each = λ i d none. absurd (omega (arith, none)); rest = λ i low. zero_at 32 i }
