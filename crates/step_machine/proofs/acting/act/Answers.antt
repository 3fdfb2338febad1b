use Rattle.std.proofs.Common.{⊎_elim, ap, refl, arith}
use Rattle.std.specs.Prelude.{get_or}
use Rattle.step_machine.specs.Programs.{program_tree}
use Rattle.suit_commands.specs.declared.kinds.ActKind.TheVariants as acts
use Rattle.step_machine.specs.Running.{state_of}
use Rattle.step_machine.proofs.Asking.{asks_none, asks_one}
use Rattle.step_machine.proofs.Directing.{act_as, writes_as, write_runs, fetch_runs, invoke_runs}
use Rattle.step_machine.proofs.Leaves.{no_standing, one_stays, cause_counts, fetch_counts}
use Rattle.step_machine.proofs.Looking.{invoke_counts, looked}
use Rattle.step_machine.proofs.acting.act.Goals as goal

pub returns-in-Write : goal.returns-in-Write
returns-in-Write g c =
    let r = c.requires in
    let w = c.write.ensures in
    let may = writes_as c.args.machine.now c.args.kind acts.Write c.args.component c.in-Write.is tt r.target in
    record {
      runs = act_as c.args.machine.now c.args.kind acts.Write c.args.place c.args.component c.in-Write.is _ _ _ _ _
          (write_runs c.args.machine.now _ _ (state_of c.args.state.now) c.args.place c.args.component r.inside r.ready r.under_way (λ t. g.met.D.Disk.obeys c.args.work.now.disk.now t) c.write.result _ c.stopped.ensures
          (one_stays c.args.machine.now _ _ c.args.component no_standing r.inside r.ready w.ram refl refl refl w.size (λ t. refl) (λ t room rooms. asks_none (program_tree c.args.machine.now.program.now) c.args.machine.now.uris.now room _) may w.keeps w.grows) refl
          (cause_counts c.write.result c.args.place _ _ _ _ w.counts) w.ram w.keeps refl w.writes);
      leaves = record { unasked = λ none. refl; unfetched = λ none. refl; host = refl; disk = refl; launcher = refl; ram = refl; pieces = refl };
    }

pub returns-in-Fetch : goal.returns-in-Fetch
returns-in-Fetch g c =
    let r = c.requires in
    let w = c.fetch-fetched.ensures in
    let may = writes_as c.args.machine.now c.args.kind acts.Fetch c.args.component c.in-Fetch.is tt r.target in
    record {
      runs = act_as c.args.machine.now c.args.kind acts.Fetch c.args.place c.args.component c.in-Fetch.is _ _ _ _ _
          (fetch_runs c.args.machine.now _ _ (state_of c.args.state.now) c.args.place c.args.component r.inside r.ready r.under_way (λ t. g.met.D.Disk.obeys c.args.work.now.disk.now t) c.fetch-fetched.result _ c.stopped-in-Fetch.ensures
          (one_stays c.args.machine.now _ _ c.args.component no_standing r.inside r.ready w.ram refl refl refl w.size (⊎_elim w.files (λ none. ap g.H.Host.file (w.unasked none)))
          (λ t room rooms. asks_one (program_tree c.args.machine.now.program.now) c.args.machine.now.uris.now room (get_or c.args.machine.now.standings.now c.args.component no_standing).component _ c.args.state.now.params _ _ (λ uri in_use. r.under_way.sources.uris (get_or c.args.machine.now.standings.now c.args.component no_standing).component uri (omega (arith, (r.ready.standings.each c.args.component no_standing r.inside).component, r.inside, r.ready.standings.few)) in_use) (rooms c.args.component no_standing r.inside) (w.asked t)) may w.keeps w.grows) refl
          (fetch_counts c.fetch-fetched.result c.args.place _ _ _ _ _ w.counts) w.ram w.keeps w.fetches);
      leaves = record { unasked = w.unasked; unfetched = λ none. absurd (none (r.fetches c.in-Fetch.is)); host = refl; disk = refl; launcher = refl; ram = refl; pieces = refl };
    }

pub returns-in-Invoke : goal.returns-in-Invoke
returns-in-Invoke g c =
    let r = c.requires in
    let w = c.invoke.ensures in
    record {
      runs = act_as c.args.machine.now c.args.kind acts.Invoke c.args.place c.args.component c.in-Invoke.is _ _ _ _ _
          (invoke_runs c.args.machine.now _ _ (state_of c.args.state.now) c.args.place c.args.component r.inside r.ready r.under_way c.invoke.result _ c.stopped-in-Invoke.ensures
          (looked c.args.machine.now _ _ refl refl refl w.size refl (λ t. refl) refl w.same w.grows) refl w.same refl (invoke_counts c.invoke.result c.args.place _ _ _ _ _ w.counts) w.invokes);
      leaves = record { unasked = λ none. refl; unfetched = λ none. refl; host = refl; disk = refl; launcher = refl; ram = refl; pieces = refl };
    }
