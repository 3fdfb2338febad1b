use Rattle.std.proofs.Common.{◌≡◌, ◌-◌, Ok, rules, arith, refl, sym, ap}
use Rattle.std.proofs.lemmas.Bool.Decides.{nat_tests}
use Rattle.std.proofs.lemmas.Result.{err_from_is_err_and}
use Rattle.det_cbor.specs.HeadReading.{◌>>=◌}
use Rattle.serde_json.specs.View.{view}
use Rattle.json_fields.specs.Flaws.{under}
use Rattle.json_fields.specs.Pointers.{index_token}
use Rattle.author.specs.CommandNames.{name_of}
use Rattle.author.specs.Commands.{command_named}
use Rattle.suit_commands.specs.View.{command_tree}
use Rattle.author.proofs.Growing.{command_of-pair, sequence_of-listed, tries_of-two, tries_of-fewer, steps_one, steps_end, steps_bad, branches_one, branches_end, branches_bad, err_passes}
use Rattle.author.proofs.commands.+commands.Goals as goal

pub tries-returns-then-values-lt2 : goal.tries-returns-then-values-lt2
tries-returns-then-values-lt2 t c =
    rw (tries_of-fewer c.args.scope.now c.args.levels (view c.args.value.now) c.elements-values.result.now (omega arith) c.elements-values.ensures) c.flawed.ensures

pub command-returns-in_err-name-in-Some : goal.command-returns-in_err-name-in-Some
command-returns-in_err-name-in-Some t c =
    let same : c.scope.inside.shared ≡ c.args.scope.now.shared = ap (λ s. s.shared) c.scope.view_is in
    let p = err_from_is_err_and c.from_residual.result c.from_residual.ensures.1 in
    rw (command_of-pair c.args.scope.now c.args.levels (view c.args.value.now), sym c.in-Some.ensures, p.1, p.2)
    (err_passes (λ n. n) command_tree (λ r. r >>= λ n. command_named c.args.scope.now c.args.levels n (view c.in-Some.argument.now)) (λ f. refl) c.in_err-name-in-Some.field-0.0
    (under (index_token 0) (name_of c.args.scope.now.shared (view c.in-Some.first.now))) (c.in_err-name-in-Some.ensures _ (rw (sym same) c.name.ensures)))

pub command-returns-in_ok-name-in-Some : goal.command-returns-in_ok-name-in-Some
command-returns-in_ok-name-in-Some t c =
    let same : c.scope.inside.shared ≡ c.args.scope.now.shared = ap (λ s. s.shared) c.scope.view_is in
    let got : under (index_token 0) (name_of c.args.scope.now.shared (view c.in-Some.first.now)) ≡ Ok c.in_ok-name-in-Some.name = c.in_ok-name-in-Some.ensures _ (rw (sym same) c.name.ensures) in
    rw (command_of-pair c.args.scope.now c.args.levels (view c.args.value.now), sym c.in-Some.ensures, got) c.named.ensures

pub command-returns-in-None : goal.command-returns-in-None
command-returns-in-None t c =
    rw (command_of-pair c.args.scope.now c.args.levels (view c.args.value.now), sym c.in-None.ensures) (search rules)

pub sequence-loop-index-preserved : goal.sequence-loop-index-preserved
sequence-loop-index-preserved t c =
    steps_one c.args.scope.now (c.args.levels - 1) c.loop-index.index c.elements-values.result.now c.index-values-index.result c.loop-index.sequence _ _ _
    (omega arith) c.index-values-index.is c.in-Ok.ensures c.in_ok-push-in-Ok.ensures.ok c.loop-index.invariant

pub sequence-returns : goal.sequence-returns
sequence-returns t c =
    rw (sequence_of-listed c.args.scope.now c.args.levels (c.args.levels - 1) (view c.args.value.now) c.elements-values.result.now (omega arith) (grind (arith, nat_tests)) c.elements-values.ensures)
    (steps_end c.args.scope.now (c.args.levels - 1) c.loop-index.index c.elements-values.result.now c.loop-index.sequence _ (omega arith) c.loop-index.invariant)

pub sequence-returns-in-Err : goal.sequence-returns-in-Err
sequence-returns-in-Err t c =
    rw (sequence_of-listed c.args.scope.now c.args.levels (c.args.levels - 1) (view c.args.value.now) c.elements-values.result.now (omega arith) (grind (arith, nat_tests)) c.elements-values.ensures)
    (steps_bad c.args.scope.now (c.args.levels - 1) c.loop-index.index c.elements-values.result.now command_tree c.index-values-index.result c.loop-index.sequence _ c.in-Err.fault c.at_index.result
    (omega arith) c.index-values-index.is c.loop-index.invariant c.at_index.ensures c.in-Err.ensures)

pub tries-loop-index-preserved : goal.tries-loop-index-preserved
tries-loop-index-preserved t c =
    branches_one c.args.scope.now c.args.levels c.loop-index.index c.elements-values.result.now c.index-values-index.result c.loop-index.branches _ c.in_ok-branch.branch _
    (omega arith) c.index-values-index.is (c.in_ok-branch.ensures _ c.branch-alloc.ensures) c.in_ok-push.ensures.ok c.loop-index.invariant

pub tries-returns : goal.tries-returns
tries-returns t c =
    rw (tries_of-two c.args.scope.now c.args.levels (view c.args.value.now) c.elements-values.result.now (omega arith) c.elements-values.ensures)
    (branches_end c.args.scope.now c.args.levels c.loop-index.index c.elements-values.result.now c.loop-index.branches _ (omega arith) c.loop-index.invariant)

pub tries-returns-in_err-branch : goal.tries-returns-in_err-branch
tries-returns-in_err-branch t c =
    let p = err_from_is_err_and c.from_residual.result c.from_residual.ensures.1 in
    rw (p.1, p.2, tries_of-two c.args.scope.now c.args.levels (view c.args.value.now) c.elements-values.result.now (omega arith) c.elements-values.ensures)
    (branches_bad c.args.scope.now c.args.levels c.loop-index.index c.elements-values.result.now c.index-values-index.result c.loop-index.branches _ c.in_err-branch.field-0.0
    (omega arith) c.index-values-index.is (c.in_err-branch.ensures _ c.branch-alloc.ensures) c.loop-index.invariant)
