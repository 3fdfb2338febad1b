use Rattle.std.proofs.Common.{◌≡◌, true, false, Some, None, Ok, Err, refl}
use Rattle.step_machine.specs.Fetching.{asked_at}
use Rattle.step_machine.specs.Keeping.{is_free_test}
use Rattle.step_machine.specs.Parts.{test_part, kept_test_part}
use Rattle.step_machine.specs.Running.{moment, state_of}
use Rattle.step_machine.specs.declared.stop.Stop.TheVariants as stops
use Rattle.step_machine.specs.Stages.{stage}
use Rattle.step_machine.proofs.Allowed.{ready_after}
use Rattle.step_machine.proofs.KeptSteps.{IsAsked, may_keep, runs_free, runs_recalled, runs_unfree}
use Rattle.step_machine.proofs.Spending.{asked_room, asked_spends, free_spends, same_spends}
use Rattle.step_machine.proofs.Recalling.{test_is_free, test_passes_as, test_fails_as, test_unfree}
use Rattle.step_machine.proofs.keeping.test_kept.Goals as goal

pub returns-then-not-is_free_test-clause-runs : goal.returns-then-not-is_free_test-clause-runs
returns-then-not-is_free_test-clause-runs g c =
    let none : is_free_test c.args.kind c.args.component c.args.state.now.params ≡ false = cc in
    runs_unfree c.args.machine.now (stage (moment (record { told = g.H.Host.told; files = g.H.Host.file c.args.work.now.host.now; asked = asked_at (g.H.Host.asked c.args.work.now.host.now) (g.H.Host.pulled c.args.work.now.host.now); faults = g.H.Host.faults c.args.work.now.host.now }) (record { told = g.D.Disk.told; size = g.D.Disk.extent c.args.work.now.disk.now; flash = g.D.Disk.flash c.args.work.now.disk.now; faults = g.D.Disk.faults c.args.work.now.disk.now }) (record { told = g.L.Launcher.told; launches = g.L.Launcher.launches c.args.work.now.launcher.now; faults = g.L.Launcher.faults c.args.work.now.launcher.now }) c.args.work.now.ram.now) (record { told = g.T.Trail.told; silent = g.T.Trail.silent; left = g.T.Trail.left c.args.trail.now; list = g.T.Trail.list c.args.trail.now; room = g.T.Trail.room c.args.trail.now; ranges = g.T.Trail.ranges c.args.trail.now; holds = g.T.Trail.holds c.args.trail.now })) _ (test_part c.args.kind c.args.place c.args.component) (kept_test_part c.args.kind c.args.place c.args.component) (state_of c.args.state.now) c.test.result c.requires.trailed (λ told. g.met.D.Disk.obeys c.test.new.work.disk.now told) (g.met.T.Trail.rests c.args.trail.now)
    (test_unfree c.args.kind c.args.place c.args.component (state_of c.args.state.now) none) c.test.ensures.runs

pub returns-in-Some-true-clause-runs : goal.returns-in-Some-true-clause-runs
returns-in-Some-true-clause-runs g c =
    let free : is_free_test c.args.kind c.args.component c.args.state.now.params ≡ true = cc in
    let asked : IsAsked (record { told = g.T.Trail.told; silent = g.T.Trail.silent; left = g.T.Trail.left c.args.trail.now; list = g.T.Trail.list c.args.trail.now; room = g.T.Trail.room c.args.trail.now; ranges = g.T.Trail.ranges c.args.trail.now; holds = g.T.Trail.holds c.args.trail.now }) (record { told = g.T.Trail.told; silent = g.T.Trail.silent; left = g.T.Trail.left c.recalled.new.self; list = g.T.Trail.list c.recalled.new.self; room = g.T.Trail.room c.recalled.new.self; ranges = g.T.Trail.ranges c.recalled.new.self; holds = g.T.Trail.holds c.recalled.new.self }) (Some c.in-Some-true.field-0) = record { taken_is = c.in-Some-true.ensures.taken; told = refl; silent = refl; list = c.in-Some-true.ensures.list; holds = c.in-Some-true.ensures.holds; room = c.in-Some-true.ensures.room; ranges = c.in-Some-true.ensures.ranges } in
    runs_recalled c.args.machine.now (stage (moment (record { told = g.H.Host.told; files = g.H.Host.file c.args.work.now.host.now; asked = asked_at (g.H.Host.asked c.args.work.now.host.now) (g.H.Host.pulled c.args.work.now.host.now); faults = g.H.Host.faults c.args.work.now.host.now }) (record { told = g.D.Disk.told; size = g.D.Disk.extent c.args.work.now.disk.now; flash = g.D.Disk.flash c.args.work.now.disk.now; faults = g.D.Disk.faults c.args.work.now.disk.now }) (record { told = g.L.Launcher.told; launches = g.L.Launcher.launches c.args.work.now.launcher.now; faults = g.L.Launcher.faults c.args.work.now.launcher.now }) c.args.work.now.ram.now) (record { told = g.T.Trail.told; silent = g.T.Trail.silent; left = g.T.Trail.left c.args.trail.now; list = g.T.Trail.list c.args.trail.now; room = g.T.Trail.room c.args.trail.now; ranges = g.T.Trail.ranges c.args.trail.now; holds = g.T.Trail.holds c.args.trail.now })) (record { told = g.T.Trail.told; silent = g.T.Trail.silent; left = g.T.Trail.left c.recalled.new.self; list = g.T.Trail.list c.recalled.new.self; room = g.T.Trail.room c.recalled.new.self; ranges = g.T.Trail.ranges c.recalled.new.self; holds = g.T.Trail.holds c.recalled.new.self }) c.in-Some-true.field-0 (kept_test_part c.args.kind c.args.place c.args.component) (state_of c.args.state.now) (Ok tt) c.requires.trailed asked c.requires.under_way.sources refl
    (test_passes_as c.args.kind c.args.place c.args.component (state_of c.args.state.now) free c.in-Some-true.field-0 c.in-Some-true.field-0-test)

pub returns-in-Some-false-clause-runs : goal.returns-in-Some-false-clause-runs
returns-in-Some-false-clause-runs g c =
    let free : is_free_test c.args.kind c.args.component c.args.state.now.params ≡ true = cc in
    let asked : IsAsked (record { told = g.T.Trail.told; silent = g.T.Trail.silent; left = g.T.Trail.left c.args.trail.now; list = g.T.Trail.list c.args.trail.now; room = g.T.Trail.room c.args.trail.now; ranges = g.T.Trail.ranges c.args.trail.now; holds = g.T.Trail.holds c.args.trail.now }) (record { told = g.T.Trail.told; silent = g.T.Trail.silent; left = g.T.Trail.left c.recalled.new.self; list = g.T.Trail.list c.recalled.new.self; room = g.T.Trail.room c.recalled.new.self; ranges = g.T.Trail.ranges c.recalled.new.self; holds = g.T.Trail.holds c.recalled.new.self }) (Some c.in-Some-false.field-0) = record { taken_is = c.in-Some-false.ensures.taken; told = refl; silent = refl; list = c.in-Some-false.ensures.list; holds = c.in-Some-false.ensures.holds; room = c.in-Some-false.ensures.room; ranges = c.in-Some-false.ensures.ranges } in
    runs_recalled c.args.machine.now (stage (moment (record { told = g.H.Host.told; files = g.H.Host.file c.args.work.now.host.now; asked = asked_at (g.H.Host.asked c.args.work.now.host.now) (g.H.Host.pulled c.args.work.now.host.now); faults = g.H.Host.faults c.args.work.now.host.now }) (record { told = g.D.Disk.told; size = g.D.Disk.extent c.args.work.now.disk.now; flash = g.D.Disk.flash c.args.work.now.disk.now; faults = g.D.Disk.faults c.args.work.now.disk.now }) (record { told = g.L.Launcher.told; launches = g.L.Launcher.launches c.args.work.now.launcher.now; faults = g.L.Launcher.faults c.args.work.now.launcher.now }) c.args.work.now.ram.now) (record { told = g.T.Trail.told; silent = g.T.Trail.silent; left = g.T.Trail.left c.args.trail.now; list = g.T.Trail.list c.args.trail.now; room = g.T.Trail.room c.args.trail.now; ranges = g.T.Trail.ranges c.args.trail.now; holds = g.T.Trail.holds c.args.trail.now })) (record { told = g.T.Trail.told; silent = g.T.Trail.silent; left = g.T.Trail.left c.recalled.new.self; list = g.T.Trail.list c.recalled.new.self; room = g.T.Trail.room c.recalled.new.self; ranges = g.T.Trail.ranges c.recalled.new.self; holds = g.T.Trail.holds c.recalled.new.self }) c.in-Some-false.field-0 (kept_test_part c.args.kind c.args.place c.args.component) (state_of c.args.state.now) (Err (stops.Condition c.args.place c.args.state.now.soft_failure)) c.requires.trailed asked c.requires.under_way.sources refl
    (test_fails_as c.args.kind c.args.place c.args.component (state_of c.args.state.now) free c.in-Some-false.field-0 c.in-Some-false.field-0-test)

pub kept-requires-clause-ready : goal.kept-requires-clause-ready
kept-requires-clause-ready g c = ready_after c.args.machine.now _ _ c.test-ended.ensures.runs.stays c.requires.ready

pub kept-requires-clause-trailed : goal.kept-requires-clause-trailed
kept-requires-clause-trailed g c =
    let asked : IsAsked (record { told = g.T.Trail.told; silent = g.T.Trail.silent; left = g.T.Trail.left c.args.trail.now; list = g.T.Trail.list c.args.trail.now; room = g.T.Trail.room c.args.trail.now; ranges = g.T.Trail.ranges c.args.trail.now; holds = g.T.Trail.holds c.args.trail.now }) (record { told = g.T.Trail.told; silent = g.T.Trail.silent; left = g.T.Trail.left c.recalled.new.self; list = g.T.Trail.list c.recalled.new.self; room = g.T.Trail.room c.recalled.new.self; ranges = g.T.Trail.ranges c.recalled.new.self; holds = g.T.Trail.holds c.recalled.new.self }) None = record { taken_is = c.in-None.ensures.taken; told = refl; silent = refl; list = c.in-None.ensures.list; holds = c.in-None.ensures.holds; room = c.in-None.ensures.room; ranges = c.in-None.ensures.ranges } in
    may_keep c.args.machine.now (stage (moment (record { told = g.H.Host.told; files = g.H.Host.file c.args.work.now.host.now; asked = asked_at (g.H.Host.asked c.args.work.now.host.now) (g.H.Host.pulled c.args.work.now.host.now); faults = g.H.Host.faults c.args.work.now.host.now }) (record { told = g.D.Disk.told; size = g.D.Disk.extent c.args.work.now.disk.now; flash = g.D.Disk.flash c.args.work.now.disk.now; faults = g.D.Disk.faults c.args.work.now.disk.now }) (record { told = g.L.Launcher.told; launches = g.L.Launcher.launches c.args.work.now.launcher.now; faults = g.L.Launcher.faults c.args.work.now.launcher.now }) c.args.work.now.ram.now) (record { told = g.T.Trail.told; silent = g.T.Trail.silent; left = g.T.Trail.left c.args.trail.now; list = g.T.Trail.list c.args.trail.now; room = g.T.Trail.room c.args.trail.now; ranges = g.T.Trail.ranges c.args.trail.now; holds = g.T.Trail.holds c.args.trail.now })) (record { told = g.T.Trail.told; silent = g.T.Trail.silent; left = g.T.Trail.left c.recalled.new.self; list = g.T.Trail.list c.recalled.new.self; room = g.T.Trail.room c.recalled.new.self; ranges = g.T.Trail.ranges c.recalled.new.self; holds = g.T.Trail.holds c.recalled.new.self }) (moment (record { told = g.H.Host.told; files = g.H.Host.file c.test-ended.new.work.host.now; asked = asked_at (g.H.Host.asked c.test-ended.new.work.host.now) (g.H.Host.pulled c.test-ended.new.work.host.now); faults = g.H.Host.faults c.test-ended.new.work.host.now }) (record { told = g.D.Disk.told; size = g.D.Disk.extent c.test-ended.new.work.disk.now; flash = g.D.Disk.flash c.test-ended.new.work.disk.now; faults = g.D.Disk.faults c.test-ended.new.work.disk.now }) (record { told = g.L.Launcher.told; launches = g.L.Launcher.launches c.test-ended.new.work.launcher.now; faults = g.L.Launcher.faults c.test-ended.new.work.launcher.now }) c.test-ended.new.work.ram.now) c.test-ended.result asked (λ told. g.met.D.Disk.obeys c.test-ended.new.work.disk.now told) (g.met.T.Trail.rests c.recalled.new.self) c.test-ended.ensures.runs.stays c.requires.trailed

pub returns-in-None-clause-runs : goal.returns-in-None-clause-runs
returns-in-None-clause-runs g c =
    let free : is_free_test c.args.kind c.args.component c.args.state.now.params ≡ true = cc in
    let asked : IsAsked (record { told = g.T.Trail.told; silent = g.T.Trail.silent; left = g.T.Trail.left c.args.trail.now; list = g.T.Trail.list c.args.trail.now; room = g.T.Trail.room c.args.trail.now; ranges = g.T.Trail.ranges c.args.trail.now; holds = g.T.Trail.holds c.args.trail.now }) (record { told = g.T.Trail.told; silent = g.T.Trail.silent; left = g.T.Trail.left c.recalled.new.self; list = g.T.Trail.list c.recalled.new.self; room = g.T.Trail.room c.recalled.new.self; ranges = g.T.Trail.ranges c.recalled.new.self; holds = g.T.Trail.holds c.recalled.new.self }) None = record { taken_is = c.in-None.ensures.taken; told = refl; silent = refl; list = c.in-None.ensures.list; holds = c.in-None.ensures.holds; room = c.in-None.ensures.room; ranges = c.in-None.ensures.ranges } in
    runs_free c.args.machine.now (stage (moment (record { told = g.H.Host.told; files = g.H.Host.file c.args.work.now.host.now; asked = asked_at (g.H.Host.asked c.args.work.now.host.now) (g.H.Host.pulled c.args.work.now.host.now); faults = g.H.Host.faults c.args.work.now.host.now }) (record { told = g.D.Disk.told; size = g.D.Disk.extent c.args.work.now.disk.now; flash = g.D.Disk.flash c.args.work.now.disk.now; faults = g.D.Disk.faults c.args.work.now.disk.now }) (record { told = g.L.Launcher.told; launches = g.L.Launcher.launches c.args.work.now.launcher.now; faults = g.L.Launcher.faults c.args.work.now.launcher.now }) c.args.work.now.ram.now) (record { told = g.T.Trail.told; silent = g.T.Trail.silent; left = g.T.Trail.left c.args.trail.now; list = g.T.Trail.list c.args.trail.now; room = g.T.Trail.room c.args.trail.now; ranges = g.T.Trail.ranges c.args.trail.now; holds = g.T.Trail.holds c.args.trail.now })) (stage (moment (record { told = g.H.Host.told; files = g.H.Host.file c.kept.new.work.host.now; asked = asked_at (g.H.Host.asked c.kept.new.work.host.now) (g.H.Host.pulled c.kept.new.work.host.now); faults = g.H.Host.faults c.kept.new.work.host.now }) (record { told = g.D.Disk.told; size = g.D.Disk.extent c.kept.new.work.disk.now; flash = g.D.Disk.flash c.kept.new.work.disk.now; faults = g.D.Disk.faults c.kept.new.work.disk.now }) (record { told = g.L.Launcher.told; launches = g.L.Launcher.launches c.kept.new.work.launcher.now; faults = g.L.Launcher.faults c.kept.new.work.launcher.now }) c.kept.new.work.ram.now) (record { told = g.T.Trail.told; silent = g.T.Trail.silent; left = g.T.Trail.left c.kept.new.trail; list = g.T.Trail.list c.kept.new.trail; room = g.T.Trail.room c.kept.new.trail; ranges = g.T.Trail.ranges c.kept.new.trail; holds = g.T.Trail.holds c.kept.new.trail })) (record { told = g.T.Trail.told; silent = g.T.Trail.silent; left = g.T.Trail.left c.recalled.new.self; list = g.T.Trail.list c.recalled.new.self; room = g.T.Trail.room c.recalled.new.self; ranges = g.T.Trail.ranges c.recalled.new.self; holds = g.T.Trail.holds c.recalled.new.self }) (moment (record { told = g.H.Host.told; files = g.H.Host.file c.test-ended.new.work.host.now; asked = asked_at (g.H.Host.asked c.test-ended.new.work.host.now) (g.H.Host.pulled c.test-ended.new.work.host.now); faults = g.H.Host.faults c.test-ended.new.work.host.now }) (record { told = g.D.Disk.told; size = g.D.Disk.extent c.test-ended.new.work.disk.now; flash = g.D.Disk.flash c.test-ended.new.work.disk.now; faults = g.D.Disk.faults c.test-ended.new.work.disk.now }) (record { told = g.L.Launcher.told; launches = g.L.Launcher.launches c.test-ended.new.work.launcher.now; faults = g.L.Launcher.faults c.test-ended.new.work.launcher.now }) c.test-ended.new.work.ram.now) (test_part c.args.kind c.args.place c.args.component) (kept_test_part c.args.kind c.args.place c.args.component) (state_of c.args.state.now) c.args.place asked (λ told. g.met.D.Disk.obeys c.args.work.now.disk.now told) (λ told. g.met.D.Disk.obeys c.test-ended.new.work.disk.now told)
    (test_is_free c.args.kind c.args.place c.args.component (state_of c.args.state.now) free) c.test-ended.result c.kept.result c.test-ended.ensures.runs c.kept.ensures.kept

-- ---- room for its outcome

pub returns-then-not-is_free_test-clause-room : goal.returns-then-not-is_free_test-clause-room
returns-then-not-is_free_test-clause-room g c = same_spends (stage (moment (record { told = g.H.Host.told; files = g.H.Host.file c.args.work.now.host.now; asked = asked_at (g.H.Host.asked c.args.work.now.host.now) (g.H.Host.pulled c.args.work.now.host.now); faults = g.H.Host.faults c.args.work.now.host.now }) (record { told = g.D.Disk.told; size = g.D.Disk.extent c.args.work.now.disk.now; flash = g.D.Disk.flash c.args.work.now.disk.now; faults = g.D.Disk.faults c.args.work.now.disk.now }) (record { told = g.L.Launcher.told; launches = g.L.Launcher.launches c.args.work.now.launcher.now; faults = g.L.Launcher.faults c.args.work.now.launcher.now }) c.args.work.now.ram.now) (record { told = g.T.Trail.told; silent = g.T.Trail.silent; left = g.T.Trail.left c.args.trail.now; list = g.T.Trail.list c.args.trail.now; room = g.T.Trail.room c.args.trail.now; ranges = g.T.Trail.ranges c.args.trail.now; holds = g.T.Trail.holds c.args.trail.now })) (moment (record { told = g.H.Host.told; files = g.H.Host.file c.test.new.work.host.now; asked = asked_at (g.H.Host.asked c.test.new.work.host.now) (g.H.Host.pulled c.test.new.work.host.now); faults = g.H.Host.faults c.test.new.work.host.now }) (record { told = g.D.Disk.told; size = g.D.Disk.extent c.test.new.work.disk.now; flash = g.D.Disk.flash c.test.new.work.disk.now; faults = g.D.Disk.faults c.test.new.work.disk.now }) (record { told = g.L.Launcher.told; launches = g.L.Launcher.launches c.test.new.work.launcher.now; faults = g.L.Launcher.faults c.test.new.work.launcher.now }) c.test.new.work.ram.now) c.test.result

pub kept-requires-clause-room : goal.kept-requires-clause-room
kept-requires-clause-room g c =
    let asked : IsAsked (record { told = g.T.Trail.told; silent = g.T.Trail.silent; left = g.T.Trail.left c.args.trail.now; list = g.T.Trail.list c.args.trail.now; room = g.T.Trail.room c.args.trail.now; ranges = g.T.Trail.ranges c.args.trail.now; holds = g.T.Trail.holds c.args.trail.now }) (record { told = g.T.Trail.told; silent = g.T.Trail.silent; left = g.T.Trail.left c.recalled.new.self; list = g.T.Trail.list c.recalled.new.self; room = g.T.Trail.room c.recalled.new.self; ranges = g.T.Trail.ranges c.recalled.new.self; holds = g.T.Trail.holds c.recalled.new.self }) None = record { taken_is = c.in-None.ensures.taken; told = refl; silent = refl; list = c.in-None.ensures.list; holds = c.in-None.ensures.holds; room = c.in-None.ensures.room; ranges = c.in-None.ensures.ranges } in
    asked_room (stage (moment (record { told = g.H.Host.told; files = g.H.Host.file c.args.work.now.host.now; asked = asked_at (g.H.Host.asked c.args.work.now.host.now) (g.H.Host.pulled c.args.work.now.host.now); faults = g.H.Host.faults c.args.work.now.host.now }) (record { told = g.D.Disk.told; size = g.D.Disk.extent c.args.work.now.disk.now; flash = g.D.Disk.flash c.args.work.now.disk.now; faults = g.D.Disk.faults c.args.work.now.disk.now }) (record { told = g.L.Launcher.told; launches = g.L.Launcher.launches c.args.work.now.launcher.now; faults = g.L.Launcher.faults c.args.work.now.launcher.now }) c.args.work.now.ram.now) (record { told = g.T.Trail.told; silent = g.T.Trail.silent; left = g.T.Trail.left c.args.trail.now; list = g.T.Trail.list c.args.trail.now; room = g.T.Trail.room c.args.trail.now; ranges = g.T.Trail.ranges c.args.trail.now; holds = g.T.Trail.holds c.args.trail.now })) (record { told = g.T.Trail.told; silent = g.T.Trail.silent; left = g.T.Trail.left c.recalled.new.self; list = g.T.Trail.list c.recalled.new.self; room = g.T.Trail.room c.recalled.new.self; ranges = g.T.Trail.ranges c.recalled.new.self; holds = g.T.Trail.holds c.recalled.new.self }) (moment (record { told = g.H.Host.told; files = g.H.Host.file c.test-ended.new.work.host.now; asked = asked_at (g.H.Host.asked c.test-ended.new.work.host.now) (g.H.Host.pulled c.test-ended.new.work.host.now); faults = g.H.Host.faults c.test-ended.new.work.host.now }) (record { told = g.D.Disk.told; size = g.D.Disk.extent c.test-ended.new.work.disk.now; flash = g.D.Disk.flash c.test-ended.new.work.disk.now; faults = g.D.Disk.faults c.test-ended.new.work.disk.now }) (record { told = g.L.Launcher.told; launches = g.L.Launcher.launches c.test-ended.new.work.launcher.now; faults = g.L.Launcher.faults c.test-ended.new.work.launcher.now }) c.test-ended.new.work.ram.now) 1 asked c.requires.room

pub returns-in-None-clause-room : goal.returns-in-None-clause-room
returns-in-None-clause-room g c =
    let asked : IsAsked (record { told = g.T.Trail.told; silent = g.T.Trail.silent; left = g.T.Trail.left c.args.trail.now; list = g.T.Trail.list c.args.trail.now; room = g.T.Trail.room c.args.trail.now; ranges = g.T.Trail.ranges c.args.trail.now; holds = g.T.Trail.holds c.args.trail.now }) (record { told = g.T.Trail.told; silent = g.T.Trail.silent; left = g.T.Trail.left c.recalled.new.self; list = g.T.Trail.list c.recalled.new.self; room = g.T.Trail.room c.recalled.new.self; ranges = g.T.Trail.ranges c.recalled.new.self; holds = g.T.Trail.holds c.recalled.new.self }) None = record { taken_is = c.in-None.ensures.taken; told = refl; silent = refl; list = c.in-None.ensures.list; holds = c.in-None.ensures.holds; room = c.in-None.ensures.room; ranges = c.in-None.ensures.ranges } in
    free_spends (stage (moment (record { told = g.H.Host.told; files = g.H.Host.file c.args.work.now.host.now; asked = asked_at (g.H.Host.asked c.args.work.now.host.now) (g.H.Host.pulled c.args.work.now.host.now); faults = g.H.Host.faults c.args.work.now.host.now }) (record { told = g.D.Disk.told; size = g.D.Disk.extent c.args.work.now.disk.now; flash = g.D.Disk.flash c.args.work.now.disk.now; faults = g.D.Disk.faults c.args.work.now.disk.now }) (record { told = g.L.Launcher.told; launches = g.L.Launcher.launches c.args.work.now.launcher.now; faults = g.L.Launcher.faults c.args.work.now.launcher.now }) c.args.work.now.ram.now) (record { told = g.T.Trail.told; silent = g.T.Trail.silent; left = g.T.Trail.left c.args.trail.now; list = g.T.Trail.list c.args.trail.now; room = g.T.Trail.room c.args.trail.now; ranges = g.T.Trail.ranges c.args.trail.now; holds = g.T.Trail.holds c.args.trail.now })) (stage (moment (record { told = g.H.Host.told; files = g.H.Host.file c.kept.new.work.host.now; asked = asked_at (g.H.Host.asked c.kept.new.work.host.now) (g.H.Host.pulled c.kept.new.work.host.now); faults = g.H.Host.faults c.kept.new.work.host.now }) (record { told = g.D.Disk.told; size = g.D.Disk.extent c.kept.new.work.disk.now; flash = g.D.Disk.flash c.kept.new.work.disk.now; faults = g.D.Disk.faults c.kept.new.work.disk.now }) (record { told = g.L.Launcher.told; launches = g.L.Launcher.launches c.kept.new.work.launcher.now; faults = g.L.Launcher.faults c.kept.new.work.launcher.now }) c.kept.new.work.ram.now) (record { told = g.T.Trail.told; silent = g.T.Trail.silent; left = g.T.Trail.left c.kept.new.trail; list = g.T.Trail.list c.kept.new.trail; room = g.T.Trail.room c.kept.new.trail; ranges = g.T.Trail.ranges c.kept.new.trail; holds = g.T.Trail.holds c.kept.new.trail })) (record { told = g.T.Trail.told; silent = g.T.Trail.silent; left = g.T.Trail.left c.recalled.new.self; list = g.T.Trail.list c.recalled.new.self; room = g.T.Trail.room c.recalled.new.self; ranges = g.T.Trail.ranges c.recalled.new.self; holds = g.T.Trail.holds c.recalled.new.self }) (moment (record { told = g.H.Host.told; files = g.H.Host.file c.test-ended.new.work.host.now; asked = asked_at (g.H.Host.asked c.test-ended.new.work.host.now) (g.H.Host.pulled c.test-ended.new.work.host.now); faults = g.H.Host.faults c.test-ended.new.work.host.now }) (record { told = g.D.Disk.told; size = g.D.Disk.extent c.test-ended.new.work.disk.now; flash = g.D.Disk.flash c.test-ended.new.work.disk.now; faults = g.D.Disk.faults c.test-ended.new.work.disk.now }) (record { told = g.L.Launcher.told; launches = g.L.Launcher.launches c.test-ended.new.work.launcher.now; faults = g.L.Launcher.faults c.test-ended.new.work.launcher.now }) c.test-ended.new.work.ram.now) c.kept.result asked c.kept.ensures.room

pub returns-in-Some-true-clause-room : goal.returns-in-Some-true-clause-room
returns-in-Some-true-clause-room g c =
    let asked : IsAsked (record { told = g.T.Trail.told; silent = g.T.Trail.silent; left = g.T.Trail.left c.args.trail.now; list = g.T.Trail.list c.args.trail.now; room = g.T.Trail.room c.args.trail.now; ranges = g.T.Trail.ranges c.args.trail.now; holds = g.T.Trail.holds c.args.trail.now }) (record { told = g.T.Trail.told; silent = g.T.Trail.silent; left = g.T.Trail.left c.recalled.new.self; list = g.T.Trail.list c.recalled.new.self; room = g.T.Trail.room c.recalled.new.self; ranges = g.T.Trail.ranges c.recalled.new.self; holds = g.T.Trail.holds c.recalled.new.self }) (Some c.in-Some-true.field-0) = record { taken_is = c.in-Some-true.ensures.taken; told = refl; silent = refl; list = c.in-Some-true.ensures.list; holds = c.in-Some-true.ensures.holds; room = c.in-Some-true.ensures.room; ranges = c.in-Some-true.ensures.ranges } in
    asked_spends (stage (moment (record { told = g.H.Host.told; files = g.H.Host.file c.args.work.now.host.now; asked = asked_at (g.H.Host.asked c.args.work.now.host.now) (g.H.Host.pulled c.args.work.now.host.now); faults = g.H.Host.faults c.args.work.now.host.now }) (record { told = g.D.Disk.told; size = g.D.Disk.extent c.args.work.now.disk.now; flash = g.D.Disk.flash c.args.work.now.disk.now; faults = g.D.Disk.faults c.args.work.now.disk.now }) (record { told = g.L.Launcher.told; launches = g.L.Launcher.launches c.args.work.now.launcher.now; faults = g.L.Launcher.faults c.args.work.now.launcher.now }) c.args.work.now.ram.now) (record { told = g.T.Trail.told; silent = g.T.Trail.silent; left = g.T.Trail.left c.args.trail.now; list = g.T.Trail.list c.args.trail.now; room = g.T.Trail.room c.args.trail.now; ranges = g.T.Trail.ranges c.args.trail.now; holds = g.T.Trail.holds c.args.trail.now })) (record { told = g.T.Trail.told; silent = g.T.Trail.silent; left = g.T.Trail.left c.recalled.new.self; list = g.T.Trail.list c.recalled.new.self; room = g.T.Trail.room c.recalled.new.self; ranges = g.T.Trail.ranges c.recalled.new.self; holds = g.T.Trail.holds c.recalled.new.self }) c.in-Some-true.field-0 (Ok tt) asked

pub returns-in-Some-false-clause-room : goal.returns-in-Some-false-clause-room
returns-in-Some-false-clause-room g c =
    let asked : IsAsked (record { told = g.T.Trail.told; silent = g.T.Trail.silent; left = g.T.Trail.left c.args.trail.now; list = g.T.Trail.list c.args.trail.now; room = g.T.Trail.room c.args.trail.now; ranges = g.T.Trail.ranges c.args.trail.now; holds = g.T.Trail.holds c.args.trail.now }) (record { told = g.T.Trail.told; silent = g.T.Trail.silent; left = g.T.Trail.left c.recalled.new.self; list = g.T.Trail.list c.recalled.new.self; room = g.T.Trail.room c.recalled.new.self; ranges = g.T.Trail.ranges c.recalled.new.self; holds = g.T.Trail.holds c.recalled.new.self }) (Some c.in-Some-false.field-0) = record { taken_is = c.in-Some-false.ensures.taken; told = refl; silent = refl; list = c.in-Some-false.ensures.list; holds = c.in-Some-false.ensures.holds; room = c.in-Some-false.ensures.room; ranges = c.in-Some-false.ensures.ranges } in
    asked_spends (stage (moment (record { told = g.H.Host.told; files = g.H.Host.file c.args.work.now.host.now; asked = asked_at (g.H.Host.asked c.args.work.now.host.now) (g.H.Host.pulled c.args.work.now.host.now); faults = g.H.Host.faults c.args.work.now.host.now }) (record { told = g.D.Disk.told; size = g.D.Disk.extent c.args.work.now.disk.now; flash = g.D.Disk.flash c.args.work.now.disk.now; faults = g.D.Disk.faults c.args.work.now.disk.now }) (record { told = g.L.Launcher.told; launches = g.L.Launcher.launches c.args.work.now.launcher.now; faults = g.L.Launcher.faults c.args.work.now.launcher.now }) c.args.work.now.ram.now) (record { told = g.T.Trail.told; silent = g.T.Trail.silent; left = g.T.Trail.left c.args.trail.now; list = g.T.Trail.list c.args.trail.now; room = g.T.Trail.room c.args.trail.now; ranges = g.T.Trail.ranges c.args.trail.now; holds = g.T.Trail.holds c.args.trail.now })) (record { told = g.T.Trail.told; silent = g.T.Trail.silent; left = g.T.Trail.left c.recalled.new.self; list = g.T.Trail.list c.recalled.new.self; room = g.T.Trail.room c.recalled.new.self; ranges = g.T.Trail.ranges c.recalled.new.self; holds = g.T.Trail.holds c.recalled.new.self }) c.in-Some-false.field-0 (Err (stops.Condition c.args.place c.args.state.now.soft_failure)) asked
