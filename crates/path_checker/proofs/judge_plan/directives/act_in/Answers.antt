use Rattle.std.proofs.Common.{◌∙◌, ℕ, Option, ap, subst, sym, [], ◌∷◌}
use Rattle.std.specs.Prelude.{IfOk, IfErr, is_some}
use Rattle.suit_commands.specs.declared.kinds.ActKind.{ActKind}
use Rattle.path_checker.specs.Exploring.{Explores, kept_if}
use Rattle.path_checker.specs.Halting.{Halts}
use Rattle.path_checker.specs.Steps.{ActsAt}
use Rattle.path_checker.proofs.DirectiveLeaves.{Explores-write, Explores-fetch, Explores-copy}
use Rattle.path_checker.proofs.judge_plan.directives.act_in.Goals as goal

pub returns-in_ok-happens_if-in-Write-clause-ok : goal.returns-in_ok-happens_if-in-Write-clause-ok
returns-in_ok-happens_if-in-Write-clause-ok c =
    subst (λ (m : ActKind). Explores (ActsAt m c.args.place c.args.component) (c.args.k.now ∷ []) (kept_if c.in_ok-happens_if-in-Write.field-0 c.happens_if.new.k) []) (sym c.in-Write.is)
    (Explores-write c.args.place c.args.component c.args.k.now c.happens_if.new.k c.k.inside.params c.has_content.result c.in_ok-happens_if-in-Write.field-0 (ap (λ k. k.state.parameters) c.k.view_is) c.has_content.ensures c.in_ok-happens_if-in-Write.ensures)

pub returns-in_ok-happens_if-in-Fetch-clause-ok : goal.returns-in_ok-happens_if-in-Fetch-clause-ok
returns-in_ok-happens_if-in-Fetch-clause-ok c =
    subst (λ (m : ActKind). Explores (ActsAt m c.args.place c.args.component) (c.args.k.now ∷ []) (kept_if c.in_ok-happens_if-in-Fetch.field-0 c.happens_if-in-Fetch.new.k) []) (sym c.in-Fetch.is)
    (Explores-fetch c.args.place c.args.component c.args.k.now c.happens_if-in-Fetch.new.k c.k-in-Fetch.inside.params c.has_uri.result c.in_ok-happens_if-in-Fetch.field-0 (ap (λ k. k.state.parameters) c.k-in-Fetch.view_is) c.has_uri.ensures c.in_ok-happens_if-in-Fetch.ensures)

pub returns-in_ok-happens_if-in-Copy-clause-ok : goal.returns-in_ok-happens_if-in-Copy-clause-ok
returns-in_ok-happens_if-in-Copy-clause-ok c =
    subst (λ (m : ActKind). Explores (ActsAt m c.args.place c.args.component) (c.args.k.now ∷ []) (kept_if c.in_ok-happens_if-in-Copy.field-0 c.happens_if-in-Copy.new.k) []) (sym c.in-Copy.is)
    (Explores-copy c.args.place c.args.component c.args.k.now c.happens_if-in-Copy.new.k c.k-in-Copy.inside.params c.is_some.result c.in_ok-happens_if-in-Copy.field-0 (ap (λ k. k.state.parameters) c.k-in-Copy.view_is) (c.is_some.ensures ∙ ap (λ (o : Option ℕ). is_some o) c.source.ensures) c.in_ok-happens_if-in-Copy.ensures)

pub returns-in_ok-swap-in-Swap-clause-ok : goal.returns-in_ok-swap-in-Swap-clause-ok
returns-in_ok-swap-in-Swap-clause-ok c = subst (λ (m : ActKind). Explores (ActsAt m c.args.place c.args.component) (c.args.k.now ∷ []) (kept_if c.in_ok-swap-in-Swap.field-0 c.swap.new.k) []) (sym c.in-Swap.is) (c.in_ok-swap-in-Swap.ensures c.args.place)

pub returns-in-Invoke-clause-ok : goal.returns-in-Invoke-clause-ok
returns-in-Invoke-clause-ok c = subst (λ (m : ActKind). IfOk c.invoke.result (λ b. Explores (ActsAt m c.args.place c.args.component) (c.args.k.now ∷ []) (kept_if b c.invoke.new.k) [])) (sym c.in-Invoke.is) c.invoke.ensures.ok

pub returns-in-Invoke-clause-err : goal.returns-in-Invoke-clause-err
returns-in-Invoke-clause-err c = subst (λ (m : ActKind). IfErr c.invoke.result (λ h. Halts (ActsAt m c.args.place c.args.component) (c.args.k.now ∷ []) h)) (sym c.in-Invoke.is) c.invoke.ensures.err
