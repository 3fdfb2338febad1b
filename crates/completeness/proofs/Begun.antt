-- The stages of `run update` and `run boot` that end by a fault.
use Rattle.std.proofs.Common.{◌≡◌, ◌⊎◌, ⊎_elim, ℕ, List, [], false, refl, arith}
use Rattle.suit_cli.specs.Outside.{Outside, Sunk}
use Rattle.suit_cli.specs.Launching.{Launching}
use Rattle.suit_cli.specs.Program.{IsPut, answers}
use Rattle.suit_cli.proofs.RunClauses.{Staged, flash_counts, host_counts}
use Rattle.suit_cli.proofs.StagesLet.{answers_lets}
use Rattle.completeness.specs.Outcomes.{IsFaultless}
use Rattle.suit_cli.specs.Statuses.{ending_status}
use Rattle.suit_cli.specs.Stages.{Ending, NoMemory, Says, FaultOf}

abbrev pub Is_fault : Ending → Type 0
Is_fault (FaultOf object) = Unit {0}
Is_fault _ = ⊥

-- ---- faults

-- a fault is one of the host or of the flash
pub two_faults : (e : Ending) → Is_fault e → (ending_status e ≡ 7) ⊎ (ending_status e ≡ 8)
two_faults (FaultOf object) fault = grind arith
two_faults (Says reply) fault = absurd fault
two_faults NoMemory fault = absurd fault

abbrev Nothing : Sunk
Nothing = record { told = false; put = []; faults = 0 }

-- so there is none where no count rose
pub never_fault : (words : List (List ℕ)) (l n : Launching) (b a : Outside) (e : Ending) → answers words b a e → Is_fault e → IsFaultless l n b a → ⊥
never_fault words l n b a e answer fault faultless =
    let counts = (answers_lets words b a e answer).counts in
    let runs : Staged words b a Nothing Nothing (ending_status e) = record { ending = e; answer = answer; puts = IsPut refl refl (λ t. absurd cc) } in
    ⊎_elim (λ seven. faultless.host ((host_counts words b a Nothing Nothing (ending_status e) runs e counts).0 seven))
    (λ eight. faultless.flash ((flash_counts words b a Nothing Nothing (ending_status e) runs e counts).0 eight)) (two_faults e fault)
