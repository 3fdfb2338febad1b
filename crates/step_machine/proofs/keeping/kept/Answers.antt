use Rattle.std.proofs.Common.{refl, sym, ◌∙◌}
use Rattle.step_machine.specs.Fetching.{asked_at}
use Rattle.step_machine.specs.Running.{moment}
use Rattle.step_machine.specs.Stages.{stage}
use Rattle.step_machine.proofs.KeptSteps.{keep_done, keep_failed, keep_holds, keep_within}
use Rattle.step_machine.proofs.Spending.{kept_spends, some_room, unkept_spends}
use Rattle.step_machine.proofs.keeping.kept.Goals as goal

pub keep-requires-clause-holds : goal.keep-requires-clause-holds
keep-requires-clause-holds g c = keep_holds c.args.machine.now _ c.args.ended c.in-Some.passed (sym c.outcome_of.ensures ∙ c.in-Some.is) c.requires.trailed

pub keep-requires-clause-room : goal.keep-requires-clause-room
keep-requires-clause-room g c = some_room (stage (moment (record { told = g.H.Host.told; files = g.H.Host.file c.args.work.now.host.now; asked = asked_at (g.H.Host.asked c.args.work.now.host.now) (g.H.Host.pulled c.args.work.now.host.now); faults = g.H.Host.faults c.args.work.now.host.now }) (record { told = g.D.Disk.told; size = g.D.Disk.extent c.args.work.now.disk.now; flash = g.D.Disk.flash c.args.work.now.disk.now; faults = g.D.Disk.faults c.args.work.now.disk.now }) (record { told = g.L.Launcher.told; launches = g.L.Launcher.launches c.args.work.now.launcher.now; faults = g.L.Launcher.faults c.args.work.now.launcher.now }) c.args.work.now.ram.now) (record { told = g.T.Trail.told; silent = g.T.Trail.silent; left = g.T.Trail.left c.args.trail.now; list = g.T.Trail.list c.args.trail.now; room = g.T.Trail.room c.args.trail.now; ranges = g.T.Trail.ranges c.args.trail.now; holds = g.T.Trail.holds c.args.trail.now })) c.requires.room

pub keep-requires-clause-within : goal.keep-requires-clause-within
keep-requires-clause-within g c = keep_within c.args.machine.now _ c.args.ended c.in-Some.passed (sym c.outcome_of.ensures ∙ c.in-Some.is) c.requires.trailed

pub returns-in-Done-clause-kept : goal.returns-in-Done-clause-kept
returns-in-Done-clause-kept g c =
    keep_done c.args.machine.now (record { told = g.H.Host.told; files = g.H.Host.file c.args.work.now.host.now; asked = asked_at (g.H.Host.asked c.args.work.now.host.now) (g.H.Host.pulled c.args.work.now.host.now); faults = g.H.Host.faults c.args.work.now.host.now }) (record { told = g.L.Launcher.told; launches = g.L.Launcher.launches c.args.work.now.launcher.now; faults = g.L.Launcher.faults c.args.work.now.launcher.now }) c.args.work.now.ram.now (record { told = g.D.Disk.told; size = g.D.Disk.extent c.args.work.now.disk.now; flash = g.D.Disk.flash c.args.work.now.disk.now; faults = g.D.Disk.faults c.args.work.now.disk.now }) (record { told = g.D.Disk.told; size = g.D.Disk.extent c.keep.new.disk; flash = g.D.Disk.flash c.keep.new.disk; faults = g.D.Disk.faults c.keep.new.disk }) (record { told = g.T.Trail.told; silent = g.T.Trail.silent; left = g.T.Trail.left c.args.trail.now; list = g.T.Trail.list c.args.trail.now; room = g.T.Trail.room c.args.trail.now; ranges = g.T.Trail.ranges c.args.trail.now; holds = g.T.Trail.holds c.args.trail.now }) (record { told = g.T.Trail.told; silent = g.T.Trail.silent; left = g.T.Trail.left c.keep.new.self; list = g.T.Trail.list c.keep.new.self; room = g.T.Trail.room c.keep.new.self; ranges = g.T.Trail.ranges c.keep.new.self; holds = g.T.Trail.holds c.keep.new.self }) c.args.place c.args.ended c.in-Some.passed c.requires.ready
    (sym c.outcome_of.ensures ∙ c.in-Some.is) (λ told. g.met.D.Disk.obeys c.args.work.now.disk.now told) c.requires.trailed (record { told = refl; size = c.keep.ensures.size; counts = c.in-Done.ensures.counts; left = c.keep.ensures.left; list = c.in-Done.ensures.list; holds = c.in-Done.ensures.holds; keeps = c.keep.ensures.keeps; grows = c.keep.ensures.grows; told_same = refl; silent_same = refl; room = c.keep.ensures.room; ranges = c.keep.ensures.ranges; silent = λ quiet. (c.in-Done.ensures.silent quiet).0 })

pub returns-in-Failed-clause-kept : goal.returns-in-Failed-clause-kept
returns-in-Failed-clause-kept g c =
    keep_failed c.args.machine.now (record { told = g.H.Host.told; files = g.H.Host.file c.args.work.now.host.now; asked = asked_at (g.H.Host.asked c.args.work.now.host.now) (g.H.Host.pulled c.args.work.now.host.now); faults = g.H.Host.faults c.args.work.now.host.now }) (record { told = g.L.Launcher.told; launches = g.L.Launcher.launches c.args.work.now.launcher.now; faults = g.L.Launcher.faults c.args.work.now.launcher.now }) c.args.work.now.ram.now (record { told = g.D.Disk.told; size = g.D.Disk.extent c.args.work.now.disk.now; flash = g.D.Disk.flash c.args.work.now.disk.now; faults = g.D.Disk.faults c.args.work.now.disk.now }) (record { told = g.D.Disk.told; size = g.D.Disk.extent c.keep.new.disk; flash = g.D.Disk.flash c.keep.new.disk; faults = g.D.Disk.faults c.keep.new.disk }) (record { told = g.T.Trail.told; silent = g.T.Trail.silent; left = g.T.Trail.left c.args.trail.now; list = g.T.Trail.list c.args.trail.now; room = g.T.Trail.room c.args.trail.now; ranges = g.T.Trail.ranges c.args.trail.now; holds = g.T.Trail.holds c.args.trail.now }) (record { told = g.T.Trail.told; silent = g.T.Trail.silent; left = g.T.Trail.left c.keep.new.self; list = g.T.Trail.list c.keep.new.self; room = g.T.Trail.room c.keep.new.self; ranges = g.T.Trail.ranges c.keep.new.self; holds = g.T.Trail.holds c.keep.new.self }) c.args.place c.args.ended c.in-Some.passed c.requires.ready
    (sym c.outcome_of.ensures ∙ c.in-Some.is) (λ told. g.met.D.Disk.obeys c.args.work.now.disk.now told) c.requires.trailed (record { told = refl; size = c.keep.ensures.size; counts = c.in-Failed.ensures.counts; left = c.keep.ensures.left; list = c.in-Failed.ensures.list; holds = c.in-Failed.ensures.holds; keeps = c.keep.ensures.keeps; grows = c.keep.ensures.grows; told_same = refl; silent_same = refl; room = c.keep.ensures.room; ranges = c.keep.ensures.ranges; silent = λ quiet. (c.in-Failed.ensures.silent quiet).0 })

pub returns-in-Done-clause-room : goal.returns-in-Done-clause-room
returns-in-Done-clause-room g c = kept_spends (stage (moment (record { told = g.H.Host.told; files = g.H.Host.file c.args.work.now.host.now; asked = asked_at (g.H.Host.asked c.args.work.now.host.now) (g.H.Host.pulled c.args.work.now.host.now); faults = g.H.Host.faults c.args.work.now.host.now }) (record { told = g.D.Disk.told; size = g.D.Disk.extent c.args.work.now.disk.now; flash = g.D.Disk.flash c.args.work.now.disk.now; faults = g.D.Disk.faults c.args.work.now.disk.now }) (record { told = g.L.Launcher.told; launches = g.L.Launcher.launches c.args.work.now.launcher.now; faults = g.L.Launcher.faults c.args.work.now.launcher.now }) c.args.work.now.ram.now) (record { told = g.T.Trail.told; silent = g.T.Trail.silent; left = g.T.Trail.left c.args.trail.now; list = g.T.Trail.list c.args.trail.now; room = g.T.Trail.room c.args.trail.now; ranges = g.T.Trail.ranges c.args.trail.now; holds = g.T.Trail.holds c.args.trail.now })) (stage (moment (record { told = g.H.Host.told; files = g.H.Host.file c.args.work.now.host.now; asked = asked_at (g.H.Host.asked c.args.work.now.host.now) (g.H.Host.pulled c.args.work.now.host.now); faults = g.H.Host.faults c.args.work.now.host.now }) (record { told = g.D.Disk.told; size = g.D.Disk.extent c.keep.new.disk; flash = g.D.Disk.flash c.keep.new.disk; faults = g.D.Disk.faults c.keep.new.disk }) (record { told = g.L.Launcher.told; launches = g.L.Launcher.launches c.args.work.now.launcher.now; faults = g.L.Launcher.faults c.args.work.now.launcher.now }) c.args.work.now.ram.now) (record { told = g.T.Trail.told; silent = g.T.Trail.silent; left = g.T.Trail.left c.keep.new.self; list = g.T.Trail.list c.keep.new.self; room = g.T.Trail.room c.keep.new.self; ranges = g.T.Trail.ranges c.keep.new.self; holds = g.T.Trail.holds c.keep.new.self })) c.in-Some.passed c.args.ended refl c.keep.ensures.room c.in-Done.ensures.list

pub returns-in-Failed-clause-room : goal.returns-in-Failed-clause-room
returns-in-Failed-clause-room g c = record { others = λ n has. tt }

pub returns-in-None-clause-room : goal.returns-in-None-clause-room
returns-in-None-clause-room g c = unkept_spends (stage (moment (record { told = g.H.Host.told; files = g.H.Host.file c.args.work.now.host.now; asked = asked_at (g.H.Host.asked c.args.work.now.host.now) (g.H.Host.pulled c.args.work.now.host.now); faults = g.H.Host.faults c.args.work.now.host.now }) (record { told = g.D.Disk.told; size = g.D.Disk.extent c.args.work.now.disk.now; flash = g.D.Disk.flash c.args.work.now.disk.now; faults = g.D.Disk.faults c.args.work.now.disk.now }) (record { told = g.L.Launcher.told; launches = g.L.Launcher.launches c.args.work.now.launcher.now; faults = g.L.Launcher.faults c.args.work.now.launcher.now }) c.args.work.now.ram.now) (record { told = g.T.Trail.told; silent = g.T.Trail.silent; left = g.T.Trail.left c.args.trail.now; list = g.T.Trail.list c.args.trail.now; room = g.T.Trail.room c.args.trail.now; ranges = g.T.Trail.ranges c.args.trail.now; holds = g.T.Trail.holds c.args.trail.now })) (stage (moment (record { told = g.H.Host.told; files = g.H.Host.file c.args.work.now.host.now; asked = asked_at (g.H.Host.asked c.args.work.now.host.now) (g.H.Host.pulled c.args.work.now.host.now); faults = g.H.Host.faults c.args.work.now.host.now }) (record { told = g.D.Disk.told; size = g.D.Disk.extent c.args.work.now.disk.now; flash = g.D.Disk.flash c.args.work.now.disk.now; faults = g.D.Disk.faults c.args.work.now.disk.now }) (record { told = g.L.Launcher.told; launches = g.L.Launcher.launches c.args.work.now.launcher.now; faults = g.L.Launcher.faults c.args.work.now.launcher.now }) c.args.work.now.ram.now) (record { told = g.T.Trail.told; silent = g.T.Trail.silent; left = g.T.Trail.left c.args.trail.now; list = g.T.Trail.list c.args.trail.now; room = g.T.Trail.room c.args.trail.now; ranges = g.T.Trail.ranges c.args.trail.now; holds = g.T.Trail.holds c.args.trail.now })) c.args.ended (sym c.outcome_of.ensures ∙ c.in-None.is)
