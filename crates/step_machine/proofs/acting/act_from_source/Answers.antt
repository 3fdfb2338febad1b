use Rattle.std.proofs.Common.{◌^◌, ◌≡◌, ◌<◌, ◌*◌, Some, refl, ⊎_elim, arith, inr}
use Rattle.step_machine.specs.Programs.{program_tree}
use Rattle.suit_commands.specs.declared.kinds.ActKind.TheVariants as acts
use Rattle.suit_params.specs.declared.param.ParamKey.TheVariants as keys
use Rattle.suit_params.specs.InForce.{in_force, number_of}
use Rattle.step_machine.specs.Running.{state_of}
use Rattle.step_machine.proofs.Asking.{asks_none}
use Rattle.step_machine.proofs.Directing.{act_as, copies, named_in, source_below, source_spot, source_apart, source_named, copy_runs, swap_runs}
use Rattle.step_machine.proofs.Copied.{copy_missing, swap_missing, two_stay}
use Rattle.step_machine.proofs.Leaves.{no_standing, one_stays, cause_counts}
use Rattle.step_machine.proofs.acting.act_from_source.Goals as goal

pub bounds-machine-source : goal.bounds-machine-source
bounds-machine-source g c = source_below c.args.machine.now _ _ (state_of c.args.state.now) c.args.component c.in-Some.source c.requires.inside c.requires.ready c.requires.under_way (named_in (state_of c.args.state.now) c.args.component _ _ _ c.get.ensures c.number.ensures c.in-Some.is)

pub offset_bounds-machine-source : goal.offset_bounds-machine-source
offset_bounds-machine-source g c =
    let below = source_below c.args.machine.now _ _ (state_of c.args.state.now) c.args.component c.in-Some.source c.requires.inside c.requires.ready c.requires.under_way (named_in (state_of c.args.state.now) c.args.component _ _ _ c.get.ensures c.number.ensures c.in-Some.is) in
    let bound : c.in-Some.source * 104 < 2 ^ 64 = omega (arith, below, c.requires.ready.standings.few) in
    search (arith, below, bound)

pub copy-requires-clause-source : goal.copy-requires-clause-source
copy-requires-clause-source g c = source_spot c.args.machine.now _ _ (state_of c.args.state.now) c.args.component c.in-Some.source c.requires.inside c.requires.ready c.requires.under_way (named_in (state_of c.args.state.now) c.args.component _ _ _ c.get.ensures c.number.ensures c.in-Some.is)

pub copy-requires-clause-apart : goal.copy-requires-clause-apart
copy-requires-clause-apart g c other = source_apart c.args.machine.now _ _ (state_of c.args.state.now) c.args.component c.in-Some.source c.requires.inside c.requires.ready c.requires.under_way (named_in (state_of c.args.state.now) c.args.component _ _ _ c.get.ensures c.number.ensures c.in-Some.is) other

pub swap-swapped-requires-clause-source : goal.swap-swapped-requires-clause-source
swap-swapped-requires-clause-source g c = source_spot c.args.machine.now _ _ (state_of c.args.state.now) c.args.component c.in-Some.source c.requires.inside c.requires.ready c.requires.under_way (named_in (state_of c.args.state.now) c.args.component _ _ _ c.get.ensures c.number.ensures c.in-Some.is)

pub swap-swapped-requires-clause-apart : goal.swap-swapped-requires-clause-apart
swap-swapped-requires-clause-apart g c other = source_apart c.args.machine.now _ _ (state_of c.args.state.now) c.args.component c.in-Some.source c.requires.inside c.requires.ready c.requires.under_way (named_in (state_of c.args.state.now) c.args.component _ _ _ c.get.ensures c.number.ensures c.in-Some.is) other

pub returns-in_default : goal.returns-in_default
returns-in_default g c =
    let r = c.requires in
    let w = c.copy.ensures in
    let named : number_of (in_force (state_of c.args.state.now).parameters c.args.component keys.Source) ≡ Some c.in-Some.source = named_in (state_of c.args.state.now) c.args.component _ _ _ c.get.ensures c.number.ensures c.in-Some.is in
    record {
      runs = act_as c.args.machine.now c.args.kind acts.Copy c.args.place c.args.component (copies c.args.kind c.requires.from c.in_default.not-Swap) _ _ _ _ _
          (copy_runs c.args.machine.now _ _ (state_of c.args.state.now) c.args.place c.args.component r.inside r.ready r.under_way (λ t. g.met.D.Disk.obeys c.args.work.now.disk.now t) c.copy.result _ c.stopped-in_default.ensures
          (one_stays c.args.machine.now _ _ c.args.component no_standing r.inside r.ready w.ram refl refl refl w.size (λ t. refl) (λ t room rooms. asks_none (program_tree c.args.machine.now.program.now) c.args.machine.now.uris.now room _) r.target w.keeps w.grows) refl
          (cause_counts c.copy.result c.args.place _ _ _ _ w.counts) w.ram w.keeps refl c.in-Some.source named w.copies);
      leaves = record { unasked = λ none. refl; unfetched = λ none. refl; host = refl; disk = refl; launcher = refl; ram = refl; pieces = refl };
    }

pub returns-in-Swap : goal.returns-in-Swap
returns-in-Swap g c =
    let r = c.requires in
    let w = c.swap-swapped.ensures in
    let named : number_of (in_force (state_of c.args.state.now).parameters c.args.component keys.Source) ≡ Some c.in-Some.source = named_in (state_of c.args.state.now) c.args.component _ _ _ c.get.ensures c.number.ensures c.in-Some.is in
    record {
      runs = act_as c.args.machine.now c.args.kind acts.Swap c.args.place c.args.component (c.in-Swap.is) _ _ _ _ _
          (swap_runs c.args.machine.now _ _ (state_of c.args.state.now) c.args.place c.args.component r.inside r.ready r.under_way (λ t. g.met.D.Disk.obeys c.args.work.now.disk.now t) c.swap-swapped.result _ c.stopped.ensures
          (two_stay c.args.machine.now _ _ c.args.component c.in-Some.source no_standing r.inside (source_below c.args.machine.now _ _ (state_of c.args.state.now) c.args.component c.in-Some.source c.requires.inside c.requires.ready c.requires.under_way named) r.ready w.ram refl refl refl w.size (λ t. refl) refl r.target (inr (r.swaps c.in-Swap.is, source_named c.args.machine.now _ _ (state_of c.args.state.now) c.args.component c.in-Some.source c.requires.inside c.requires.ready c.requires.under_way named)) w.keeps w.grows) refl
          (cause_counts c.swap-swapped.result c.args.place _ _ _ _ w.counts) refl c.in-Some.source named w.ram w.keeps w.swaps);
      leaves = record { unasked = λ none. refl; unfetched = λ none. refl; host = refl; disk = refl; launcher = refl; ram = refl; pieces = refl };
    }

pub returns-in-None : goal.returns-in-None
returns-in-None g c =
    let none = named_in (state_of c.args.state.now) c.args.component _ _ _ c.get.ensures c.number.ensures c.in-None.is in
    record {
      runs = ⊎_elim
          (λ copy. act_as c.args.machine.now c.args.kind acts.Copy c.args.place c.args.component copy _ _ _ _ _
          (copy_missing c.args.machine.now c.args.place c.args.component (state_of c.args.state.now) _ c.requires.under_way.sources none))
          (λ swap. act_as c.args.machine.now c.args.kind acts.Swap c.args.place c.args.component swap _ _ _ _ _
          (swap_missing c.args.machine.now c.args.place c.args.component (state_of c.args.state.now) _ c.requires.under_way.sources none))
          c.requires.from;
      leaves = record { unasked = λ none. refl; unfetched = λ none. refl; host = refl; disk = refl; launcher = refl; ram = refl; pieces = refl };
    }
