use Rattle.std.proofs.Common.{inl, ◌++◌, ◌∙◌, ℕ, length, sym, ap, subst, rules}
use Rattle.std.specs.Prelude.{◌+◌, ◌≤◌, IfSome, List}
use Rattle.suit_commands.specs.Numbers.{work_number}
use Rattle.step_machine.specs.declared.plan_end.PlanEnd.{PlanEnd}
use Rattle.step_machine.specs.declared.program.Program.{Program}
use Rattle.step_machine.specs.declared.spot.Standing.{Standing}
use Rattle.step_machine.specs.Fetching.{asked_at}
use Rattle.step_machine.specs.PlanRuns.{EndCounts, counts_of}
use Rattle.step_machine.specs.Programs.{program_tree}
use Rattle.step_machine.specs.KeptRuns.{kept_at}
use Rattle.step_machine.specs.Devices.{contents_of}
use Rattle.step_machine.specs.PlanRuns.{setting_of}
use Rattle.step_machine.specs.Running.{moment}
use Rattle.step_machine.specs.Stages.{OutsideStandings, Stage, stage}
use Rattle.step_machine.specs.UrisSet.{HasFetch}
use Rattle.step_machine.specs.Worlds.{AreStandings}
use Rattle.suit_commands.specs.Allowed.{IsPlan}
use Rattle.step_machine.proofs.Played.{asked_among, holds_again, keeps_others, kept_played, plain_plays}
use Rattle.step_machine.proofs.Procedures.{end_counts}
use Rattle.step_machine.proofs.procedure.run_plan.Goals as goal

pub run_lent-ended-requires-clause-ready : goal.run_lent-ended-requires-clause-ready
run_lent-ended-requires-clause-ready g c =
    let e = c.as_slice-standings.ensures.value in
    record {
      standings = subst (λ (l : List Standing). AreStandings (g.D.Disk.extent c.args.disk.now) c.args.world.now.ram l) (sym e) c.requires.standings;
      count = ap (λ (x : Program). x.count) c.copy-again.ensures.copied ∙ c.requires.count ∙ ap length (sym e);
    }

pub run_lent-ended-requires-clause-same : goal.run_lent-ended-requires-clause-same
run_lent-ended-requires-clause-same g c = c.copy-again.ensures.same ∙ sym c.copy-again.ensures.copied

pub run_lent-ended-requires-clause-plan : goal.run_lent-ended-requires-clause-plan
run_lent-ended-requires-clause-plan g c = subst (λ (x : Program). IsPlan (program_tree x)) (sym c.copy-again.ensures.copied) c.requires.plan

pub run_lent-ended-requires-clause-trailed : goal.run_lent-ended-requires-clause-trailed
run_lent-ended-requires-clause-trailed g c = record {
  clear = λ i h. subst (λ (l : List Standing). OutsideStandings l i) (sym c.as_slice-standings.ensures.value) (c.requires.clear i h);
  within = c.requires.within;
  holds = c.requires.holds;
}

pub run_lent-ended-requires-clause-room : goal.run_lent-ended-requires-clause-room
run_lent-ended-requires-clause-room g c = record {
  fits = λ told. subst (λ (x : Program). IfSome (g.T.Trail.room c.args.trail.now) (λ n. length (g.T.Trail.list c.args.trail.now) + work_number (program_tree x) ≤ n)) (sym c.copy-again.ensures.copied) (c.requires.room told);
}

pub returns : goal.returns
returns g c =
    let e = c.as_slice-standings.ensures.value in
    let p = c.copy-again.ensures.copied in
    let runs = c.run_lent-ended.ensures.runs.1 in
    let m : Stage = stage (moment (record { told = g.H.Host.told; files = g.H.Host.file c.args.host.now; asked = asked_at (g.H.Host.asked c.args.host.now) (g.H.Host.pulled c.args.host.now); faults = g.H.Host.faults c.args.host.now }) (record { told = g.D.Disk.told; size = g.D.Disk.extent c.args.disk.now; flash = g.D.Disk.flash c.args.disk.now; faults = g.D.Disk.faults c.args.disk.now }) (record { told = g.L.Launcher.told; launches = g.L.Launcher.launches c.args.launcher.now; faults = g.L.Launcher.faults c.args.launcher.now }) c.args.world.now.ram) (record { told = g.T.Trail.told; silent = g.T.Trail.silent; left = g.T.Trail.left c.args.trail.now; list = g.T.Trail.list c.args.trail.now; room = g.T.Trail.room c.args.trail.now; ranges = g.T.Trail.ranges c.args.trail.now; holds = g.T.Trail.holds c.args.trail.now }) in
    let n : Stage = stage (moment (record { told = g.H.Host.told; files = g.H.Host.file c.run_lent-ended.new.host; asked = asked_at (g.H.Host.asked c.run_lent-ended.new.host) (g.H.Host.pulled c.run_lent-ended.new.host); faults = g.H.Host.faults c.run_lent-ended.new.host }) (record { told = g.D.Disk.told; size = g.D.Disk.extent c.run_lent-ended.new.disk; flash = g.D.Disk.flash c.run_lent-ended.new.disk; faults = g.D.Disk.faults c.run_lent-ended.new.disk }) (record { told = g.L.Launcher.told; launches = g.L.Launcher.launches c.run_lent-ended.new.launcher; faults = g.L.Launcher.faults c.run_lent-ended.new.launcher }) c.run_lent-ended.new.ram) (record { told = g.T.Trail.told; silent = g.T.Trail.silent; left = g.T.Trail.left c.run_lent-ended.new.trail; list = g.T.Trail.list c.run_lent-ended.new.trail; room = g.T.Trail.room c.run_lent-ended.new.trail; ranges = g.T.Trail.ranges c.run_lent-ended.new.trail; holds = g.T.Trail.holds c.run_lent-ended.new.trail }) in
    let items = c.args.world.now.standings.items in
    let r = c.run_lent-ended.result in
    let next = c.run_lent-ended.ensures.runs.0 in
    record {
      standings = search rules;
      rooms = runs.stays.outside.rooms;
      size = runs.stays.outside.size;
      counts = subst (λ (x : PlanEnd). EndCounts x (counts_of (g.H.Host.faults c.args.host.now) (g.D.Disk.faults c.args.disk.now) (g.L.Launcher.faults c.args.launcher.now)) (counts_of (g.H.Host.faults c.run_lent-ended.new.host) (g.D.Disk.faults c.run_lent-ended.new.disk) (g.L.Launcher.faults c.run_lent-ended.new.launcher))) (sym c.end_of.ensures)
          (end_counts r _ _ runs.counts);
      files = λ told. runs.stays.outside.files (inl told);
      asked = λ told room rooms. asked_among _ m n next c.args.program items p e r runs told room rooms;
      unasked = c.run_lent-ended.ensures.unasked;
      unfetched = λ none. c.run_lent-ended.ensures.unfetched (λ has. none (subst (λ (x : Program). HasFetch (program_tree x)) p has));
      recalls = λ disk_told launcher_told payloads are. kept_played _ m n next c.args.program items p e r runs c.end_of.result (sym c.end_of.ensures) disk_told launcher_told payloads are;
      plays = λ quiet none disk_told launcher_told payloads are.
          let k = kept_played _ m n next c.args.program items p e r runs c.end_of.result (sym c.end_of.ensures) disk_told launcher_told payloads are in
          let q = plain_plays (program_tree c.args.program) (setting_of items payloads c.args.world.now.uris.now k.0) g.T.Trail.silent c.end_of.result (kept_at (contents_of items c.args.world.now.ram (g.D.Disk.flash c.args.disk.now).reads) (g.T.Trail.left c.args.trail.now)) (kept_at (contents_of items c.run_lent-ended.new.ram (g.D.Disk.flash c.run_lent-ended.new.disk).reads) (g.T.Trail.left c.run_lent-ended.new.trail)) (g.L.Launcher.launches c.args.launcher.now) (g.L.Launcher.launches c.run_lent-ended.new.launcher) quiet none k.2 in
          (k.0, k.1, q.0, λ told. k.3 told ∙ ap (λ (l : List (List ℕ)). g.H.Host.asked c.args.host.now ++ l) (sym q.1));
      holds = λ told. holds_again _ m n next c.args.program items p e r runs c.end_of.result (sym c.end_of.ensures) told;
      keeps = λ told. keeps_others _ m n next c.args.program items p e r runs told;
      grows = runs.stays.outside.grows;
    }
