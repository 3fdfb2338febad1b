use Rattle.std.proofs.Common.{ℕ, ◌+◌, refl, arith}
use Rattle.std.proofs.lemmas.List.Elements.{All-get_or, All-from_get_or}
use Rattle.flash_layout.specs.Layouts.{IsClearOf}
use Rattle.flash_layout.proofs.rules.all_clear.Goals as goal

pub returns-then-not-clear_of : goal.returns-then-not-clear_of
returns-then-not-clear_of c =
    (λ never. absurd cc, λ all. let held = c.clear_of.ensures.1 (All-get_or (λ (p : ℕ). IsClearOf p (8 + c.args.m) c.args.qs.now (8 + c.args.n)) c.args.ps.now c.loop-p.p-index 0 c.loop-p-test.true all) in cc)

pub returns : goal.returns
returns c = (λ _. All-from_get_or (λ (p : ℕ). IsClearOf p (8 + c.args.m) c.args.qs.now (8 + c.args.n)) c.args.ps.now 0 (λ k lt. c.loop-p.invariant k (omega arith)), λ _. refl)
