use Rattle.std.proofs.Common.{◌≡◌, [], Bool, true, false, Option, refl, inl, inr, ⊎_elim, sym, subst, ap, ◌∙◌}
use Rattle.std.specs.Borrow.{Bor}
use Rattle.manifest_view.specs.Views.{manifest_of}
use Rattle.step_machine.specs.Devices.{device_at}
use Rattle.suit_commands.specs.Allowed.{IsPlan}
use Rattle.suit_commands.specs.Tree.{PlanTree}
use Rattle.suit_edge.specs.Flash.{IsSame}
use Rattle.suit_envelope.specs.declared.envelope.Envelope.{Envelope}
use Rattle.step_machine.specs.declared.program.Program.{Program}
use Rattle.step_machine.specs.Fetching.{ArePayloads}
use Rattle.step_machine.specs.Programs.{program_tree}
use Rattle.invoke_proc.specs.Booting.{KeepsOthers, PlaysOn}
use Rattle.invoke_proc.proofs.Played.{counts_after, kept_after, keeps_on, plays_after, plays_on, starts_after, unfaulted, unwritten}
use Rattle.invoke_proc.proofs.WritingSteps.{WritesNothing, writes_nothing}
use Rattle.invoke_proc.proofs.running.start.Goals as goal

-- the program that is run is the one that was lent again
same_tree : (program again : Program) (plan : PlanTree) → again ≡ program → program_tree program ≡ plan → program_tree again ≡ plan
same_tree program again plan same is = ap program_tree same ∙ is

not_both : (b : Bool) → b ≡ false → b ≡ true → ⊥
not_both b low high = let never : false ≡ true = sym low ∙ high in absurd cc

pub run_plan-end-requires-clause-standings : goal.run_plan-end-requires-clause-standings
run_plan-end-requires-clause-standings g c = c.world_in-world.ensures.fit (g.D.Disk.extent c.args.disk.now) c.requires.layout

pub world_in-world-requires-clause-layout : goal.world_in-world-requires-clause-layout
world_in-world-requires-clause-layout g c = (g.D.Disk.extent c.args.disk.now, c.requires.layout)

pub run_plan-end-requires-clause-plan : goal.run_plan-end-requires-clause-plan
run_plan-end-requires-clause-plan g c = subst IsPlan (sym (same_tree c.invocation_program-program.result c.copy.new.self _ c.copy.ensures.same c.invocation_program-program.ensures)) c.requires.plan

pub run_plan-end-requires-clause-count : goal.run_plan-end-requires-clause-count
run_plan-end-requires-clause-count g c = ap (λ (t : PlanTree). t.count) (same_tree c.invocation_program-program.result c.copy.new.self _ c.copy.ensures.same c.invocation_program-program.ensures) ∙ sym c.world_in-world.ensures.count

pub returns-clause-starts : goal.returns-clause-starts
returns-clause-starts g c = starts_after c.run_plan-end.result c.settle.result _ _ c.settle.ensures.read.counts

pub returns-clause-counts : goal.returns-clause-counts
returns-clause-counts g c = counts_after c.run_plan-end.result c.settle.result _ _ c.settle.ensures.read.counts _ _ _ _ _ c.run_plan-end.ensures.counts

pub returns-clause-plays : goal.returns-clause-plays
returns-clause-plays g c td tl =
    let d = g.D.Disk in
    let w = c.world_in-world.result in
    let m = manifest_of c.args.startable.manifest in
    let before = (d.flash c.args.disk.now).reads in
    let between = (d.flash c.run_plan-end.new.disk).reads in
    let after = (d.flash c.settle.new.disk).reads in
    let files = g.H.Host.file c.args.host.now in
    let launched = g.L.Launcher.launches c.args.launcher.now in
    let now = g.L.Launcher.launches c.run_plan-end.new.launcher in
    let run = c.run_plan-end.ensures.plays refl refl td tl [] (subst (λ (e : Option (Bor Envelope)). ArePayloads e []) (sym c.world_in-world.ensures.envelope) refl) in
    plays_after c.run_plan-end.result c.settle.result _ _ c.settle.ensures.read.counts
    (PlaysOn c.args.layout.now m c.args.installed.now.active files (device_at before launched) (device_at after now)) (after ≡ before) launched now
    (plays_on c.args.layout.now m c.args.installed.now.active w.uris.now files before between after launched now c.run_plan-end.result
    w.standings.items w.ram c.run_plan-end.new.world.ram c.world_in-world.ensures.stand c.world_in-world.ensures.ram (c.world_in-world.ensures.uris ∙ c.requires.uris) (c.settle.ensures.read.same td).reads _ (same_tree c.invocation_program-program.result c.copy.new.self _ c.copy.ensures.same c.invocation_program-program.ensures)
    run.0 (run.1 (inr (c.world_in-world.ensures.uris ∙ c.requires.uris))) run.2)

pub returns-clause-keeps : goal.returns-clause-keeps
returns-clause-keeps g c td =
    let d = g.D.Disk in
    let m = manifest_of c.args.startable.manifest in
    let a = d.flash c.args.disk.now in
    let e = d.flash c.settle.new.disk in
    kept_after c.run_plan-end.result c.settle.result _ _ c.settle.ensures.read.counts
    (KeepsOthers c.args.layout.now m c.args.installed.now.active a e) (IsSame a e)
    (keeps_on c.args.layout.now m c.args.installed.now.active c.world_in-world.result.standings.items a (d.flash c.run_plan-end.new.disk) e _
    (g.met.D.Disk.obeys c.run_plan-end.new.disk td) c.world_in-world.ensures.stand _ (same_tree c.invocation_program-program.result c.copy.new.self _ c.copy.ensures.same c.invocation_program-program.ensures) (c.run_plan-end.ensures.keeps td) (c.settle.ensures.read.same td))

pub returns-clause-unasked : goal.returns-clause-unasked
returns-clause-unasked g c = c.run_plan-end.ensures.unasked (c.world_in-world.ensures.uris ∙ c.requires.uris)

pub returns-clause-settled : goal.returns-clause-settled
returns-clause-settled g c td =
    let again = ap program_tree (c.copy.ensures.copied ∙ sym c.copy.ensures.same) in
    let nothing = λ (is : c.may_write-writes.result ≡ false). subst WritesNothing again (writes_nothing _ (λ some. not_both _ is (c.may_write-writes.ensures.1 some))) in
    unfaulted _ _ c.settle.result
    (λ either. ⊎_elim
    (λ is. inl (unwritten _ c.world_in-world.result.standings.items _ _ _ _ (g.met.D.Disk.obeys c.run_plan-end.new.disk td) (c.run_plan-end.ensures.keeps td) (c.settle.ensures.read.same td) (nothing is)))
    (λ settled. inr settled) either) (c.settle.ensures.settled td)
