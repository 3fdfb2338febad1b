use Rattle.std.proofs.Common.{ℕ, refl, ap, arith}
use Rattle.step_machine.specs.PlanRuns.{counts_of}
use Rattle.step_machine.specs.Running.{state_of}
use Rattle.step_machine.proofs.Leaves.{no_standing}
use Rattle.step_machine.proofs.Looking.{looked, test_passed, test_failed, test_cut}
use Rattle.step_machine.proofs.acting.test.Goals as goal

pub returns-in-Ok-true : goal.returns-in-Ok-true
returns-in-Ok-true g c =
    record { runs = test_passed c.args.machine.now _ _ c.args.kind c.args.place c.args.component (state_of c.args.state.now) no_standing c.requires.inside (looked c.args.machine.now _ _ refl refl refl c.passes.ensures.size refl (λ t. refl) refl c.passes.ensures.same c.passes.ensures.grows) refl c.passes.ensures.same refl refl c.requires.under_way.sources (c.requires.ready.standings.each c.args.component no_standing c.requires.inside).component c.in-Ok-true.field-0 c.in-Ok-true.field-0-test (ap (λ (x : ℕ). counts_of (g.H.Host.faults c.args.work.now.host.now) x (g.L.Launcher.faults c.args.work.now.launcher.now)) c.in-Ok-true.ensures.counts) c.in-Ok-true.ensures.exact; leaves = record { unasked = λ none. refl; unfetched = λ none. refl; host = refl; disk = refl; launcher = refl; ram = refl; pieces = refl } }

pub returns-in-Ok-false : goal.returns-in-Ok-false
returns-in-Ok-false g c =
    record { runs = test_failed c.args.machine.now _ _ c.args.kind c.args.place c.args.component (state_of c.args.state.now) no_standing c.requires.inside (looked c.args.machine.now _ _ refl refl refl c.passes.ensures.size refl (λ t. refl) refl c.passes.ensures.same c.passes.ensures.grows) refl c.passes.ensures.same refl refl c.requires.under_way.sources (c.requires.ready.standings.each c.args.component no_standing c.requires.inside).component c.in-Ok-false.field-0 c.in-Ok-false.field-0-test (ap (λ (x : ℕ). counts_of (g.H.Host.faults c.args.work.now.host.now) x (g.L.Launcher.faults c.args.work.now.launcher.now)) c.in-Ok-false.ensures.counts) c.in-Ok-false.ensures.exact; leaves = record { unasked = λ none. refl; unfetched = λ none. refl; host = refl; disk = refl; launcher = refl; ram = refl; pieces = refl } }

pub returns-in-Err : goal.returns-in-Err
returns-in-Err g c =
    record { runs = test_cut c.args.machine.now _ _ c.args.kind c.args.place c.args.component (state_of c.args.state.now) no_standing c.requires.inside (looked c.args.machine.now _ _ refl refl refl c.passes.ensures.size refl (λ t. refl) refl c.passes.ensures.same c.passes.ensures.grows) refl c.passes.ensures.same refl refl c.requires.under_way.sources (c.requires.ready.standings.each c.args.component no_standing c.requires.inside).component (refl, c.in-Err.ensures.counts, omega arith) (λ t. c.in-Err.ensures.cuts); leaves = record { unasked = λ none. refl; unfetched = λ none. refl; host = refl; disk = refl; launcher = refl; ram = refl; pieces = refl } }
