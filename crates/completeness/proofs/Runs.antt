-- The lines of a run that was ready.
use Rattle.std.proofs.Common.{◌≡◌, ◌⊎◌, inl, inr, ℕ, ◌++◌, sym, ◌∙◌, arith}
use Rattle.std.specs.Prelude.{IsTrue}
use Rattle.suit_cli.specs.Coming.{Ended, ended_status, ended_text}
use Rattle.suit_cli.specs.Outside.{Sunk}
use Rattle.suit_cli.specs.Program.{IsCut, IsPut, Puts}
use Rattle.completeness.specs.Outcomes.{EndsCutOff, EndsDone, EndsStarved, EndsWell, PutsDone}

pub ends_well : (IsDone Lacks : Ended → Type 0) (before after : Sunk) (result : ℕ) (ended : Ended) → (IsDone ended → ended_status ended ≡ 0) → (Lacks ended → ended_status ended ≡ 11)
    → IsDone ended ⊎ Lacks ended → Puts before after ended result → EndsWell IsDone Lacks before after result
ends_well IsDone Lacks before after result ended zero eleven (inl done) (IsPut is still puts) = EndsDone ended done (is ∙ zero done) puts
ends_well IsDone Lacks before after result ended zero eleven (inr lacks) (IsPut is still puts) = EndsStarved ended lacks (is ∙ eleven lacks) puts
ends_well IsDone Lacks before after result ended zero eleven way (IsCut is faulted puts) = EndsCutOff ended way is faulted

-- ---- status 0

-- it was put whole
record Zero (before after : Sunk) (ended : Ended) : Type 0 where
  pub status : ended_status ended ≡ 0
  pub puts : IsTrue before.told → after.put ≡ before.put ++ ended_text ended

zero : (before after : Sunk) (ended : Ended) → Puts before after ended 0 → Zero before after ended
zero before after ended (IsPut is still puts) = record { status = sym is; puts = puts }
zero before after ended (IsCut is faulted puts) = absurd (omega (arith, is))

pub says_so : {Ready : Type 0} (IsDone : Ready → Ended → Type 0) (before after : Sunk) (ended : Ended) → (ended_status ended ≡ 0 → (ready : Ready) × IsDone ready ended)
    → Puts before after ended 0 → (ready : Ready) × PutsDone (IsDone ready) before after
says_so IsDone before after ended only puts =
    let z = zero before after ended puts in
    let found = only z.status in
    (found.0, record { ended = ended; done = found.1; puts = z.puts })
