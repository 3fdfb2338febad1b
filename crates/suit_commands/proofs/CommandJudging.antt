-- Judging a command's argument agrees with the grammar and the refusals.
use Rattle.std.proofs.Common.{◌≡◌, ℕ, Bool, false, ltb, Result, Ok, Err, refl, sym, ap, subst, ◌∙◌, inl, inr}
use Rattle.std.proofs.lemmas.Bool.{le-ltb}
use Rattle.det_cbor.specs.DataItem.{DataItem, UnsignedInteger, item_count, IsValidWithin}
use Rattle.det_cbor.specs.ResultLaws.{bind_ok, bind_err, same_ok}
use Rattle.suit_params.specs.declared.refusal.Refusal.{Refusal}
use Rattle.suit_params.specs.declared.refusal.Why.TheVariants.{BadArgument}
use Rattle.suit_params.specs.Refusing.{refused}
use Rattle.suit_commands.specs.declared.command_code.CommandCode.{CommandCode}
use Rattle.suit_commands.specs.declared.command_code.CommandCode.TheVariants as codes
use Rattle.suit_commands.specs.CommandCodes.{code_number}
use Rattle.suit_commands.specs.Sequences.{elements_place, SaysCommand, SaysTest, SaysAct, SaysOne, SaysAll, SaysListed, SaysOverride, SaysTry, SaysRun}
use Rattle.suit_commands.specs.SequenceFaults.{IsPolicy, IsPolicyCode, RefusesArgument, NoPolicy, NoSelection, NoComponent, BadIndices, NoParams, BadParams, NoTries, BadBranches, NoString, BadRun}
use Rattle.suit_commands.specs.SequenceJudging.{InnerJudge, judge_code, judge_report, judge_selection, judge_override, judge_run, judge_try, judge_argument}
use Rattle.suit_commands.specs.Tree.{CommandTree, Test, Act}
use Rattle.suit_commands.proofs.CodeLaws.{Allows, code_again}
use Rattle.suit_commands.proofs.ArgumentJudging.{report_ok, report_again, report_err, report_other, override_ok, override_again, override_err, override_other, override_refused}
use Rattle.suit_commands.proofs.IndexJudging.{selection_ok, one_again, listed_again, selection_err, selection_other, component_refused, listed_refused}
use Rattle.suit_commands.proofs.BranchJudging.{JudgesInner, run_ok, run_err, run_other, branches_again, branches_refused, try_ok, try_err, try_other}

abbrev Says : Bool → ℕ → ℕ → ℕ → CommandCode → DataItem → CommandTree → Type 0
Says shared count levels place code x command = SaysCommand shared count levels place (code_number code) x command

pub argument_ok : (inner : InnerJudge) (shared : Bool) (count levels deep place : ℕ) (code : CommandCode) (x : DataItem) (command : CommandTree) → JudgesInner inner shared count levels → IsValidWithin deep x → Allows shared code
    → judge_argument inner count code place x ≡ Ok command → SaysCommand shared count levels place (code_number code) x command
argument_ok inner shared count levels deep place (codes.Test kind) x command law valid allowed e =
    bind_ok (judge_report place x) _ command e (λ n is f. let s = report_ok place x n is in
    subst (Says shared count levels place (codes.Test kind) x) (same_ok _ command f) (subst (λ (y : DataItem). Says shared count levels place (codes.Test kind) y (Test kind n)) (sym s.0) (SaysTest levels place kind n s.1)))
argument_ok inner shared count levels deep place (codes.Act kind) x command law valid allowed e =
    bind_ok (judge_report place x) _ command e (λ n is f. let s = report_ok place x n is in
    subst (Says shared count levels place (codes.Act kind) x) (same_ok _ command f) (subst (λ (y : DataItem). Says shared count levels place (codes.Act kind) y (Act kind n)) (sym s.0) (SaysAct levels place kind n allowed s.1)))
argument_ok inner shared count levels deep place codes.Index x command law valid allowed e =
    bind_ok (judge_selection count place x) _ command e (λ selection is f. subst (Says shared count levels place codes.Index x) (same_ok _ command f) (selection_ok shared count levels place x selection is))
argument_ok inner shared count levels deep place codes.TryEach x command law valid allowed e =
    bind_ok (judge_try inner place x) _ command e (λ bs is f. subst (Says shared count levels place codes.TryEach x) (same_ok _ command f) (try_ok inner shared count levels deep place x bs law valid is))
argument_ok inner shared count levels deep place codes.Override x command law valid allowed e =
    bind_ok (judge_override count place x) _ command e (λ list is f. subst (Says shared count levels place codes.Override x) (same_ok _ command f) (SaysOverride levels place x list (override_ok count deep place x list valid is)))
argument_ok inner shared count levels deep place codes.Run x command law valid allowed e =
    bind_ok (judge_run inner place x) _ command e (λ s is f. subst (Says shared count levels place codes.Run x) (same_ok _ command f) (run_ok inner shared count levels deep place x s law valid is))

-- a command that an item says is judged as that command: its code, wherever it is placed, and its argument
pub record Judged (inner : InnerJudge) (shared : Bool) (count place number : ℕ) (x : DataItem) (answer : Result CommandTree Refusal) : Type 0 where
  pub code : CommandCode
  pub known : (at : ℕ) → judge_code shared at (UnsignedInteger number) ≡ Ok code
  pub judged : judge_argument inner count code place x ≡ answer

pub argument_again : (inner : InnerJudge) (shared : Bool) (count levels place number : ℕ) (x : DataItem) (command : CommandTree) → JudgesInner inner shared count levels → SaysCommand shared count levels place number x command
    → Judged inner shared count place number x (Ok command)
argument_again inner shared count levels place number x command law (SaysTest l at kind report le) =
    record { code = codes.Test kind; known = λ at. code_again shared at (codes.Test kind) tt; judged = rw (report_again place report le) refl }
argument_again inner shared count levels place number x command law (SaysAct l at kind report allowed le) =
    record { code = codes.Act kind; known = λ at. code_again shared at (codes.Act kind) allowed; judged = rw (report_again place report le) refl }
argument_again inner shared count levels place number x command law (SaysOne l at i lt) =
    record { code = codes.Index; known = λ at. code_again shared at codes.Index tt; judged = rw (one_again count place i lt) refl }
argument_again inner shared count levels place number x command law (SaysAll l at) = record { code = codes.Index; known = λ at. code_again shared at codes.Index tt; judged = refl }
argument_again inner shared count levels place number x command law (SaysListed l at is some all) =
    record { code = codes.Index; known = λ at. code_again shared at codes.Index tt; judged = rw (listed_again count place is some all) refl }
argument_again inner shared count levels place number x command law (SaysOverride l at y list said) =
    record { code = codes.Override; known = λ at. code_again shared at codes.Override tt; judged = rw (override_again count place y list said) refl }
argument_again inner shared count levels place number x command law (SaysTry l at items bs two said) =
    let enough : ltb (item_count items) 2 ≡ false = le-ltb _ _ two in
    record { code = codes.TryEach; known = λ at. code_again shared at codes.TryEach tt; judged = rw (enough, branches_again inner shared count levels (elements_place place items) items bs law said) refl }
argument_again inner shared count levels place number x command law (SaysRun l at content s said) =
    record { code = codes.Run; known = λ at. code_again shared at codes.Run tt; judged = rw (law.again place content s said) refl }

policy_refused : (shared : Bool) (count levels place : ℕ) (n : ℕ) (x : DataItem) (r : Refusal) → judge_report place x ≡ Err r → IsPolicyCode shared n → RefusesArgument shared count levels place n x r
policy_refused shared count levels place n x r e policy = let s = report_err place x r e in subst (RefusesArgument shared count levels place n x) s.1 (NoPolicy levels place n x policy s.0)

pub argument_err : (inner : InnerJudge) (shared : Bool) (count levels deep place : ℕ) (code : CommandCode) (x : DataItem) (r : Refusal) → JudgesInner inner shared count levels → IsValidWithin deep x → Allows shared code
    → judge_argument inner count code place x ≡ Err r → RefusesArgument shared count levels place (code_number code) x r
argument_err inner shared count levels deep place (codes.Test kind) x r law valid allowed e =
    bind_err (judge_report place x) _ r e (λ f. policy_refused shared count levels place (code_number (codes.Test kind)) x r f (inl (kind, refl))) (λ n is f. absurd cc)
argument_err inner shared count levels deep place (codes.Act kind) x r law valid allowed e =
    bind_err (judge_report place x) _ r e (λ f. policy_refused shared count levels place (code_number (codes.Act kind)) x r f (inr (allowed, (kind, refl)))) (λ n is f. absurd cc)
argument_err inner shared count levels deep place codes.Index x r law valid allowed e = bind_err (judge_selection count place x) _ r e (λ f. selection_err shared count levels place x r f) (λ selection is f. absurd cc)
argument_err inner shared count levels deep place codes.TryEach x r law valid allowed e = bind_err (judge_try inner place x) _ r e (λ f. try_err inner shared count levels deep place x r law valid f) (λ bs is f. absurd cc)
argument_err inner shared count levels deep place codes.Override x r law valid allowed e = bind_err (judge_override count place x) _ r e (λ f. override_err shared count levels deep place x r valid f) (λ list is f. absurd cc)
argument_err inner shared count levels deep place codes.Run x r law valid allowed e = bind_err (judge_run inner place x) _ r e (λ f. run_err inner shared count levels deep place x r law valid f) (λ s is f. absurd cc)

policy_judged : (inner : InnerJudge) (shared : Bool) (count levels place number : ℕ) (x : DataItem) → IsPolicyCode shared number → (IsPolicy x → ⊥) → Judged inner shared count place number x (Err (refused place BadArgument))
policy_judged inner shared count levels place number x (inl test) other =
    record { code = codes.Test test.0; known = λ at. ap (λ (n : ℕ). judge_code shared at (UnsignedInteger n)) test.1 ∙ code_again shared at (codes.Test test.0) tt; judged = rw (report_other place x other) refl }
policy_judged inner shared count levels place number x (inr act) other =
    record { code = codes.Act act.1.0; known = λ at. ap (λ (n : ℕ). judge_code shared at (UnsignedInteger n)) act.1.1 ∙ code_again shared at (codes.Act act.1.0) act.0; judged = rw (report_other place x other) refl }

pub argument_refused : (inner : InnerJudge) (shared : Bool) (count levels place number : ℕ) (x : DataItem) (r : Refusal) → JudgesInner inner shared count levels → RefusesArgument shared count levels place number x r
    → Judged inner shared count place number x (Err r)
argument_refused inner shared count levels place number x r law (NoPolicy l at n y policy other) = policy_judged inner shared count levels place number x policy other
argument_refused inner shared count levels place number x r law (NoSelection l at y other) =
    record { code = codes.Index; known = λ at. code_again shared at codes.Index tt; judged = rw (selection_other count place x other) refl }
argument_refused inner shared count levels place number x r law (NoComponent l at i above) =
    record { code = codes.Index; known = λ at. code_again shared at codes.Index tt; judged = rw (component_refused count place i above) refl }
argument_refused inner shared count levels place number x r law (BadIndices l at items s bad) =
    record { code = codes.Index; known = λ at. code_again shared at codes.Index tt; judged = rw (listed_refused count place items r bad) refl }
argument_refused inner shared count levels place number x r law (NoParams l at y other) =
    record { code = codes.Override; known = λ at. code_again shared at codes.Override tt; judged = rw (override_other count place x other) refl }
argument_refused inner shared count levels place number x r law (BadParams l at y s map bad) =
    record { code = codes.Override; known = λ at. code_again shared at codes.Override tt; judged = rw (override_refused count place x r map bad) refl }
argument_refused inner shared count levels place number x r law (NoTries l at y other) =
    record { code = codes.TryEach; known = λ at. code_again shared at codes.TryEach tt; judged = rw (try_other inner place x other) refl }
argument_refused inner shared count levels place number x r law (BadBranches l at items s two bad) =
    let enough : ltb (item_count items) 2 ≡ false = le-ltb _ _ two in
    record { code = codes.TryEach; known = λ at. code_again shared at codes.TryEach tt; judged = rw (enough, branches_refused inner shared count levels (elements_place place items) items r law bad) refl }
argument_refused inner shared count levels place number x r law (NoString l at y other) =
    record { code = codes.Run; known = λ at. code_again shared at codes.Run tt; judged = rw (run_other inner place x other) refl }
argument_refused inner shared count levels place number x r law (BadRun l at content s bad) =
    record { code = codes.Run; known = λ at. code_again shared at codes.Run tt; judged = rw (law.refuses place content r bad) refl }
