-- What is told without an image.
use Rattle.std.proofs.Common.{◌≡◌, ℕ, List, None, ap, subst, sym}
use Rattle.boot_c.specs.BootAnswers.{IsAnswer}
use Rattle.boot_c.specs.declared.booting.Told.{Told}
use Rattle.suit_answers.specs.declared.answer.Answer.{Answer}

module _ (told : Told) (answer : Answer) (is : told ≡ record { answer = answer; image = None }) where
  pub same_answer : told.answer ≡ answer
  same_answer = ap (λ (t : Told). t.answer) is

  pub told_answers : (flash : List ℕ) → IsAnswer flash answer → IsAnswer flash told.answer
  told_answers flash a = subst (λ (x : Answer). IsAnswer flash x) (sym same_answer) a
