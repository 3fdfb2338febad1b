-- Identity conditions, by what they ask for.
use Rattle.std.proofs.Common.{◌≡◌, ℕ, List, [], ◌∷◌, Option, None, ap, ◌∙◌, subst}
use Rattle.suit_commands.specs.declared.kinds.TestKind.{TestKind}
use Rattle.suit_params.specs.InForce.{Parameters}
use Rattle.path_model.specs.CommandLaws.{IsOnIdentity}
use Rattle.path_checker.specs.declared.judge_plan.facts.Own.{Own}
use Rattle.path_checker.specs.Exploring.{Kept, Failures, after_stops, Adds}
use Rattle.path_checker.specs.Wanting.{wanted_by, TestsOwn}
use Rattle.path_checker.specs.Steps.{TestsAt}
use Rattle.path_checker.proofs.Popping.{Adds-same}
use Rattle.path_checker.proofs.ConditionLeaves.{missed_by, Adds-only_missed, tests_own}

pub Adds-identity : (kind : TestKind) (p c : ℕ) (k : Kept) (ps : Parameters) (own : Option Own) (n n' : List Kept) (f f' : Failures) → IsOnIdentity kind → ps ≡ k.state.parameters → own ≡ wanted_by kind ps c → Adds (TestsOwn kind p c own) (k ∷ []) n n' f f' → Adds (TestsAt kind p c) (k ∷ []) n n' f f'
Adds-identity kind p c k ps own n n' f f' on same is a =
    let wanted : own ≡ wanted_by kind k.state.parameters c = is ∙ ap (λ (q : Parameters). wanted_by kind q c) same in
    Adds-same k (TestsOwn kind p c (wanted_by kind k.state.parameters c)) (TestsAt kind p c) n n' f f' (tests_own kind p c k on) (subst (λ (o : Option Own). Adds (TestsOwn kind p c o) (k ∷ []) n n' f f') wanted a)

pub Adds-no_own : (kind : TestKind) (p c : ℕ) (k : Kept) (n : List Kept) (f f' : Failures) → f' ≡ after_stops f (missed_by kind c p k ∷ []) → Adds (TestsOwn kind p c None) (k ∷ []) n n f f'
Adds-no_own kind p c k n f f' pushed = Adds-only_missed (TestsOwn kind p c None) kind p c k n f f' (record { there = λ ids al es e r. r; back = λ ids al es e r. r }) pushed
