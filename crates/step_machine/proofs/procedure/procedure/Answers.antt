use Rattle.std.proofs.Common.{[], ◌∷◌, ◌∙◌, refl, sym, subst}
use Rattle.std.proofs.lemmas.Result.{err_from_is_err_and}
use Rattle.suit_commands.specs.Tree.{SequenceTree}
use Rattle.step_machine.specs.Allowing.{AllowsSequence}
use Rattle.step_machine.specs.Running.{state_of}
use Rattle.step_machine.proofs.Allowed.{ready_after}
use Rattle.step_machine.proofs.Going.{ends_there, next, stops_there}
use Rattle.step_machine.proofs.Procedures.{allows_shared, allows_first, allows_second, allows_third, left_1, left_2, left_3, left_4, left_5, members_begun, part_as, shared_is, first_is, second_is, third_is}
use Rattle.suit_commands.specs.Numbers.{work_number, work_of}
use Rattle.step_machine.specs.Programs.{program_tree}
use Rattle.step_machine.proofs.Spending.{all_work, last_work, leaves_all, leaves_next, part_room, part_spends, room_next, work_left_1, work_left_2, work_left_3, work_left_4, work_left_5}
use Rattle.step_machine.proofs.Leaving.{leaves_then}
use Rattle.step_machine.proofs.procedure.procedure.Goals as goal

pub part-requires-clause-allowed : goal.part-requires-clause-allowed
part-requires-clause-allowed g c = subst (λ (x : SequenceTree). AllowsSequence c.args.machine.now x (0 ∷ [])) (sym (shared_is c.args.program c.args.machine.now.program.now c.lent_again.result (c.lent_again.ensures.copied) c.requires.same)) (allows_shared c.args.machine.now c.requires.plan)

pub returns-in_err-part : goal.returns-in_err-part
returns-in_err-part g c =
    let p = err_from_is_err_and c.from_residual.result c.from_residual.ensures.1 in
    rw (p.1, p.2) (record { runs = stops_there (left_1 c.args.machine.now) (members_begun c.args.machine.now (state_of c.args.state.now) _ c.requires.sources c.requires.trailed) (λ told. g.met.D.Disk.obeys c.args.work.now.disk.now told) (part_as c.args.machine.now c.lent_again.result _ (shared_is c.args.program c.args.machine.now.program.now c.lent_again.result (c.lent_again.ensures.copied) c.requires.same) _ _ _ _ _ c.in_err-part.ensures.runs); leaves = c.in_err-part.ensures.leaves })

pub part-requires-2-clause-allowed : goal.part-requires-2-clause-allowed
part-requires-2-clause-allowed g c = subst (λ (x : SequenceTree). AllowsSequence c.args.machine.now x (0 ∷ [])) (sym (first_is c.args.program c.args.machine.now.program.now c.requires.same)) (allows_first c.args.machine.now c.requires.plan)

pub part-requires-2-clause-ready : goal.part-requires-2-clause-ready
part-requires-2-clause-ready g c = ready_after c.args.machine.now _ _ (next (left_1 c.args.machine.now) (members_begun c.args.machine.now (state_of c.args.state.now) _ c.requires.sources c.requires.trailed) (λ told. g.met.D.Disk.obeys c.args.work.now.disk.now told) (part_as c.args.machine.now c.lent_again.result _ (shared_is c.args.program c.args.machine.now.program.now c.lent_again.result (c.lent_again.ensures.copied) c.requires.same) _ _ _ _ _ c.in_ok-part.ensures.runs)).stays.outside c.requires.ready

pub returns-in_err-part-2 : goal.returns-in_err-part-2
returns-in_err-part-2 g c =
    let p = err_from_is_err_and c.from_residual-in_err-part-2.result c.from_residual-in_err-part-2.ensures.1 in
    rw (p.1, p.2) (record { runs = stops_there (left_2 c.args.machine.now) (next (left_1 c.args.machine.now) (members_begun c.args.machine.now (state_of c.args.state.now) _ c.requires.sources c.requires.trailed) (λ told. g.met.D.Disk.obeys c.args.work.now.disk.now told) (part_as c.args.machine.now c.lent_again.result _ (shared_is c.args.program c.args.machine.now.program.now c.lent_again.result (c.lent_again.ensures.copied) c.requires.same) _ _ _ _ _ c.in_ok-part.ensures.runs)) (λ told. g.met.D.Disk.obeys c.part.new.work.disk.now told) (part_as c.args.machine.now c.args.program.first _ (first_is c.args.program c.args.machine.now.program.now c.requires.same) _ _ _ _ _ c.in_err-part-2.ensures.runs); leaves = (leaves_then c.in_ok-part.ensures.leaves c.in_err-part-2.ensures.leaves) })

pub part-requires-3-clause-allowed : goal.part-requires-3-clause-allowed
part-requires-3-clause-allowed g c = subst (λ (x : SequenceTree). AllowsSequence c.args.machine.now x (0 ∷ [])) (sym (shared_is c.args.program c.args.machine.now.program.now c.lent_again-2.result (c.lent_again-2.ensures.copied ∙ c.lent_again.ensures.same) c.requires.same)) (allows_shared c.args.machine.now c.requires.plan)

pub part-requires-3-clause-ready : goal.part-requires-3-clause-ready
part-requires-3-clause-ready g c = ready_after c.args.machine.now _ _ (next (left_2 c.args.machine.now) (next (left_1 c.args.machine.now) (members_begun c.args.machine.now (state_of c.args.state.now) _ c.requires.sources c.requires.trailed) (λ told. g.met.D.Disk.obeys c.args.work.now.disk.now told) (part_as c.args.machine.now c.lent_again.result _ (shared_is c.args.program c.args.machine.now.program.now c.lent_again.result (c.lent_again.ensures.copied) c.requires.same) _ _ _ _ _ c.in_ok-part.ensures.runs)) (λ told. g.met.D.Disk.obeys c.part.new.work.disk.now told) (part_as c.args.machine.now c.args.program.first _ (first_is c.args.program c.args.machine.now.program.now c.requires.same) _ _ _ _ _ c.in_ok-part-2.ensures.runs)).stays.outside c.requires.ready

pub returns-in_err-part-3 : goal.returns-in_err-part-3
returns-in_err-part-3 g c =
    let p = err_from_is_err_and c.from_residual-in_err-part-3.result c.from_residual-in_err-part-3.ensures.1 in
    rw (p.1, p.2) (record { runs = stops_there (left_3 c.args.machine.now) (next (left_2 c.args.machine.now) (next (left_1 c.args.machine.now) (members_begun c.args.machine.now (state_of c.args.state.now) _ c.requires.sources c.requires.trailed) (λ told. g.met.D.Disk.obeys c.args.work.now.disk.now told) (part_as c.args.machine.now c.lent_again.result _ (shared_is c.args.program c.args.machine.now.program.now c.lent_again.result (c.lent_again.ensures.copied) c.requires.same) _ _ _ _ _ c.in_ok-part.ensures.runs)) (λ told. g.met.D.Disk.obeys c.part.new.work.disk.now told) (part_as c.args.machine.now c.args.program.first _ (first_is c.args.program c.args.machine.now.program.now c.requires.same) _ _ _ _ _ c.in_ok-part-2.ensures.runs)) (λ told. g.met.D.Disk.obeys c.part-2.new.work.disk.now told) (part_as c.args.machine.now c.lent_again-2.result _ (shared_is c.args.program c.args.machine.now.program.now c.lent_again-2.result (c.lent_again-2.ensures.copied ∙ c.lent_again.ensures.same) c.requires.same) _ _ _ _ _ c.in_err-part-3.ensures.runs); leaves = (leaves_then (leaves_then c.in_ok-part.ensures.leaves c.in_ok-part-2.ensures.leaves) c.in_err-part-3.ensures.leaves) })

pub part-requires-4-clause-allowed : goal.part-requires-4-clause-allowed
part-requires-4-clause-allowed g c = subst (λ (x : SequenceTree). AllowsSequence c.args.machine.now x (0 ∷ [])) (sym (second_is c.args.program c.args.machine.now.program.now c.requires.same)) (allows_second c.args.machine.now c.requires.plan)

pub part-requires-4-clause-ready : goal.part-requires-4-clause-ready
part-requires-4-clause-ready g c = ready_after c.args.machine.now _ _ (next (left_3 c.args.machine.now) (next (left_2 c.args.machine.now) (next (left_1 c.args.machine.now) (members_begun c.args.machine.now (state_of c.args.state.now) _ c.requires.sources c.requires.trailed) (λ told. g.met.D.Disk.obeys c.args.work.now.disk.now told) (part_as c.args.machine.now c.lent_again.result _ (shared_is c.args.program c.args.machine.now.program.now c.lent_again.result (c.lent_again.ensures.copied) c.requires.same) _ _ _ _ _ c.in_ok-part.ensures.runs)) (λ told. g.met.D.Disk.obeys c.part.new.work.disk.now told) (part_as c.args.machine.now c.args.program.first _ (first_is c.args.program c.args.machine.now.program.now c.requires.same) _ _ _ _ _ c.in_ok-part-2.ensures.runs)) (λ told. g.met.D.Disk.obeys c.part-2.new.work.disk.now told) (part_as c.args.machine.now c.lent_again-2.result _ (shared_is c.args.program c.args.machine.now.program.now c.lent_again-2.result (c.lent_again-2.ensures.copied ∙ c.lent_again.ensures.same) c.requires.same) _ _ _ _ _ c.in_ok-part-3.ensures.runs)).stays.outside c.requires.ready

pub returns-in_err-part-4 : goal.returns-in_err-part-4
returns-in_err-part-4 g c =
    let p = err_from_is_err_and c.from_residual-in_err-part-4.result c.from_residual-in_err-part-4.ensures.1 in
    rw (p.1, p.2) (record { runs = stops_there (left_4 c.args.machine.now) (next (left_3 c.args.machine.now) (next (left_2 c.args.machine.now) (next (left_1 c.args.machine.now) (members_begun c.args.machine.now (state_of c.args.state.now) _ c.requires.sources c.requires.trailed) (λ told. g.met.D.Disk.obeys c.args.work.now.disk.now told) (part_as c.args.machine.now c.lent_again.result _ (shared_is c.args.program c.args.machine.now.program.now c.lent_again.result (c.lent_again.ensures.copied) c.requires.same) _ _ _ _ _ c.in_ok-part.ensures.runs)) (λ told. g.met.D.Disk.obeys c.part.new.work.disk.now told) (part_as c.args.machine.now c.args.program.first _ (first_is c.args.program c.args.machine.now.program.now c.requires.same) _ _ _ _ _ c.in_ok-part-2.ensures.runs)) (λ told. g.met.D.Disk.obeys c.part-2.new.work.disk.now told) (part_as c.args.machine.now c.lent_again-2.result _ (shared_is c.args.program c.args.machine.now.program.now c.lent_again-2.result (c.lent_again-2.ensures.copied ∙ c.lent_again.ensures.same) c.requires.same) _ _ _ _ _ c.in_ok-part-3.ensures.runs)) (λ told. g.met.D.Disk.obeys c.part-3.new.work.disk.now told) (part_as c.args.machine.now c.args.program.second _ (second_is c.args.program c.args.machine.now.program.now c.requires.same) _ _ _ _ _ c.in_err-part-4.ensures.runs); leaves = (leaves_then (leaves_then (leaves_then c.in_ok-part.ensures.leaves c.in_ok-part-2.ensures.leaves) c.in_ok-part-3.ensures.leaves) c.in_err-part-4.ensures.leaves) })

pub part-requires-5-clause-allowed : goal.part-requires-5-clause-allowed
part-requires-5-clause-allowed g c = subst (λ (x : SequenceTree). AllowsSequence c.args.machine.now x (0 ∷ [])) (sym (shared_is c.args.program c.args.machine.now.program.now c.lent_again-2.new.part (c.lent_again-2.ensures.same ∙ c.lent_again.ensures.same) c.requires.same)) (allows_shared c.args.machine.now c.requires.plan)

pub part-requires-5-clause-ready : goal.part-requires-5-clause-ready
part-requires-5-clause-ready g c = ready_after c.args.machine.now _ _ (next (left_4 c.args.machine.now) (next (left_3 c.args.machine.now) (next (left_2 c.args.machine.now) (next (left_1 c.args.machine.now) (members_begun c.args.machine.now (state_of c.args.state.now) _ c.requires.sources c.requires.trailed) (λ told. g.met.D.Disk.obeys c.args.work.now.disk.now told) (part_as c.args.machine.now c.lent_again.result _ (shared_is c.args.program c.args.machine.now.program.now c.lent_again.result (c.lent_again.ensures.copied) c.requires.same) _ _ _ _ _ c.in_ok-part.ensures.runs)) (λ told. g.met.D.Disk.obeys c.part.new.work.disk.now told) (part_as c.args.machine.now c.args.program.first _ (first_is c.args.program c.args.machine.now.program.now c.requires.same) _ _ _ _ _ c.in_ok-part-2.ensures.runs)) (λ told. g.met.D.Disk.obeys c.part-2.new.work.disk.now told) (part_as c.args.machine.now c.lent_again-2.result _ (shared_is c.args.program c.args.machine.now.program.now c.lent_again-2.result (c.lent_again-2.ensures.copied ∙ c.lent_again.ensures.same) c.requires.same) _ _ _ _ _ c.in_ok-part-3.ensures.runs)) (λ told. g.met.D.Disk.obeys c.part-3.new.work.disk.now told) (part_as c.args.machine.now c.args.program.second _ (second_is c.args.program c.args.machine.now.program.now c.requires.same) _ _ _ _ _ c.in_ok-part-4.ensures.runs)).stays.outside c.requires.ready

pub returns-in_err-part-5 : goal.returns-in_err-part-5
returns-in_err-part-5 g c =
    let p = err_from_is_err_and c.from_residual-in_err-part-5.result c.from_residual-in_err-part-5.ensures.1 in
    rw (p.1, p.2) (record { runs = stops_there (left_5 c.args.machine.now) (next (left_4 c.args.machine.now) (next (left_3 c.args.machine.now) (next (left_2 c.args.machine.now) (next (left_1 c.args.machine.now) (members_begun c.args.machine.now (state_of c.args.state.now) _ c.requires.sources c.requires.trailed) (λ told. g.met.D.Disk.obeys c.args.work.now.disk.now told) (part_as c.args.machine.now c.lent_again.result _ (shared_is c.args.program c.args.machine.now.program.now c.lent_again.result (c.lent_again.ensures.copied) c.requires.same) _ _ _ _ _ c.in_ok-part.ensures.runs)) (λ told. g.met.D.Disk.obeys c.part.new.work.disk.now told) (part_as c.args.machine.now c.args.program.first _ (first_is c.args.program c.args.machine.now.program.now c.requires.same) _ _ _ _ _ c.in_ok-part-2.ensures.runs)) (λ told. g.met.D.Disk.obeys c.part-2.new.work.disk.now told) (part_as c.args.machine.now c.lent_again-2.result _ (shared_is c.args.program c.args.machine.now.program.now c.lent_again-2.result (c.lent_again-2.ensures.copied ∙ c.lent_again.ensures.same) c.requires.same) _ _ _ _ _ c.in_ok-part-3.ensures.runs)) (λ told. g.met.D.Disk.obeys c.part-3.new.work.disk.now told) (part_as c.args.machine.now c.args.program.second _ (second_is c.args.program c.args.machine.now.program.now c.requires.same) _ _ _ _ _ c.in_ok-part-4.ensures.runs)) (λ told. g.met.D.Disk.obeys c.part-4.new.work.disk.now told) (part_as c.args.machine.now c.lent_again-2.new.part _ (shared_is c.args.program c.args.machine.now.program.now c.lent_again-2.new.part (c.lent_again-2.ensures.same ∙ c.lent_again.ensures.same) c.requires.same) _ _ _ _ _ c.in_err-part-5.ensures.runs); leaves = (leaves_then (leaves_then (leaves_then (leaves_then c.in_ok-part.ensures.leaves c.in_ok-part-2.ensures.leaves) c.in_ok-part-3.ensures.leaves) c.in_ok-part-4.ensures.leaves) c.in_err-part-5.ensures.leaves) })

pub part-requires-6-clause-allowed : goal.part-requires-6-clause-allowed
part-requires-6-clause-allowed g c = subst (λ (x : SequenceTree). AllowsSequence c.args.machine.now x (0 ∷ [])) (sym (third_is c.args.program c.args.machine.now.program.now c.requires.same)) (allows_third c.args.machine.now c.requires.plan)

pub part-requires-6-clause-ready : goal.part-requires-6-clause-ready
part-requires-6-clause-ready g c = ready_after c.args.machine.now _ _ (next (left_5 c.args.machine.now) (next (left_4 c.args.machine.now) (next (left_3 c.args.machine.now) (next (left_2 c.args.machine.now) (next (left_1 c.args.machine.now) (members_begun c.args.machine.now (state_of c.args.state.now) _ c.requires.sources c.requires.trailed) (λ told. g.met.D.Disk.obeys c.args.work.now.disk.now told) (part_as c.args.machine.now c.lent_again.result _ (shared_is c.args.program c.args.machine.now.program.now c.lent_again.result (c.lent_again.ensures.copied) c.requires.same) _ _ _ _ _ c.in_ok-part.ensures.runs)) (λ told. g.met.D.Disk.obeys c.part.new.work.disk.now told) (part_as c.args.machine.now c.args.program.first _ (first_is c.args.program c.args.machine.now.program.now c.requires.same) _ _ _ _ _ c.in_ok-part-2.ensures.runs)) (λ told. g.met.D.Disk.obeys c.part-2.new.work.disk.now told) (part_as c.args.machine.now c.lent_again-2.result _ (shared_is c.args.program c.args.machine.now.program.now c.lent_again-2.result (c.lent_again-2.ensures.copied ∙ c.lent_again.ensures.same) c.requires.same) _ _ _ _ _ c.in_ok-part-3.ensures.runs)) (λ told. g.met.D.Disk.obeys c.part-3.new.work.disk.now told) (part_as c.args.machine.now c.args.program.second _ (second_is c.args.program c.args.machine.now.program.now c.requires.same) _ _ _ _ _ c.in_ok-part-4.ensures.runs)) (λ told. g.met.D.Disk.obeys c.part-4.new.work.disk.now told) (part_as c.args.machine.now c.lent_again-2.new.part _ (shared_is c.args.program c.args.machine.now.program.now c.lent_again-2.new.part (c.lent_again-2.ensures.same ∙ c.lent_again.ensures.same) c.requires.same) _ _ _ _ _ c.in_ok-part-5.ensures.runs)).stays.outside c.requires.ready

pub returns : goal.returns
returns g c =
    record { runs = ends_there (next (left_5 c.args.machine.now) (next (left_4 c.args.machine.now) (next (left_3 c.args.machine.now) (next (left_2 c.args.machine.now) (next (left_1 c.args.machine.now) (members_begun c.args.machine.now (state_of c.args.state.now) _ c.requires.sources c.requires.trailed) (λ told. g.met.D.Disk.obeys c.args.work.now.disk.now told) (part_as c.args.machine.now c.lent_again.result _ (shared_is c.args.program c.args.machine.now.program.now c.lent_again.result (c.lent_again.ensures.copied) c.requires.same) _ _ _ _ _ c.in_ok-part.ensures.runs)) (λ told. g.met.D.Disk.obeys c.part.new.work.disk.now told) (part_as c.args.machine.now c.args.program.first _ (first_is c.args.program c.args.machine.now.program.now c.requires.same) _ _ _ _ _ c.in_ok-part-2.ensures.runs)) (λ told. g.met.D.Disk.obeys c.part-2.new.work.disk.now told) (part_as c.args.machine.now c.lent_again-2.result _ (shared_is c.args.program c.args.machine.now.program.now c.lent_again-2.result (c.lent_again-2.ensures.copied ∙ c.lent_again.ensures.same) c.requires.same) _ _ _ _ _ c.in_ok-part-3.ensures.runs)) (λ told. g.met.D.Disk.obeys c.part-3.new.work.disk.now told) (part_as c.args.machine.now c.args.program.second _ (second_is c.args.program c.args.machine.now.program.now c.requires.same) _ _ _ _ _ c.in_ok-part-4.ensures.runs)) (λ told. g.met.D.Disk.obeys c.part-4.new.work.disk.now told) (part_as c.args.machine.now c.lent_again-2.new.part _ (shared_is c.args.program c.args.machine.now.program.now c.lent_again-2.new.part (c.lent_again-2.ensures.same ∙ c.lent_again.ensures.same) c.requires.same) _ _ _ _ _ c.in_ok-part-5.ensures.runs)) (λ told. g.met.D.Disk.obeys c.part-5.new.work.disk.now told) (part_as c.args.machine.now c.args.program.third _ (third_is c.args.program c.args.machine.now.program.now c.requires.same) _ _ _ _ _ c.part-6.ensures.runs); leaves = (leaves_then (leaves_then (leaves_then (leaves_then (leaves_then c.in_ok-part.ensures.leaves c.in_ok-part-2.ensures.leaves) c.in_ok-part-3.ensures.leaves) c.in_ok-part-4.ensures.leaves) c.in_ok-part-5.ensures.leaves) c.part-6.ensures.leaves) }

pub part-requires-2-clause-trailed : goal.part-requires-2-clause-trailed
part-requires-2-clause-trailed g c = (next (left_1 c.args.machine.now) (members_begun c.args.machine.now (state_of c.args.state.now) _ c.requires.sources c.requires.trailed) (λ told. g.met.D.Disk.obeys c.args.work.now.disk.now told) (part_as c.args.machine.now c.lent_again.result _ (shared_is c.args.program c.args.machine.now.program.now c.lent_again.result (c.lent_again.ensures.copied) c.requires.same) _ _ _ _ _ c.in_ok-part.ensures.runs)).trailed

pub part-requires-3-clause-trailed : goal.part-requires-3-clause-trailed
part-requires-3-clause-trailed g c = (next (left_2 c.args.machine.now) (next (left_1 c.args.machine.now) (members_begun c.args.machine.now (state_of c.args.state.now) _ c.requires.sources c.requires.trailed) (λ told. g.met.D.Disk.obeys c.args.work.now.disk.now told) (part_as c.args.machine.now c.lent_again.result _ (shared_is c.args.program c.args.machine.now.program.now c.lent_again.result (c.lent_again.ensures.copied) c.requires.same) _ _ _ _ _ c.in_ok-part.ensures.runs)) (λ told. g.met.D.Disk.obeys c.part.new.work.disk.now told) (part_as c.args.machine.now c.args.program.first _ (first_is c.args.program c.args.machine.now.program.now c.requires.same) _ _ _ _ _ c.in_ok-part-2.ensures.runs)).trailed

pub part-requires-4-clause-trailed : goal.part-requires-4-clause-trailed
part-requires-4-clause-trailed g c = (next (left_3 c.args.machine.now) (next (left_2 c.args.machine.now) (next (left_1 c.args.machine.now) (members_begun c.args.machine.now (state_of c.args.state.now) _ c.requires.sources c.requires.trailed) (λ told. g.met.D.Disk.obeys c.args.work.now.disk.now told) (part_as c.args.machine.now c.lent_again.result _ (shared_is c.args.program c.args.machine.now.program.now c.lent_again.result (c.lent_again.ensures.copied) c.requires.same) _ _ _ _ _ c.in_ok-part.ensures.runs)) (λ told. g.met.D.Disk.obeys c.part.new.work.disk.now told) (part_as c.args.machine.now c.args.program.first _ (first_is c.args.program c.args.machine.now.program.now c.requires.same) _ _ _ _ _ c.in_ok-part-2.ensures.runs)) (λ told. g.met.D.Disk.obeys c.part-2.new.work.disk.now told) (part_as c.args.machine.now c.lent_again-2.result _ (shared_is c.args.program c.args.machine.now.program.now c.lent_again-2.result (c.lent_again-2.ensures.copied ∙ c.lent_again.ensures.same) c.requires.same) _ _ _ _ _ c.in_ok-part-3.ensures.runs)).trailed

pub part-requires-5-clause-trailed : goal.part-requires-5-clause-trailed
part-requires-5-clause-trailed g c = (next (left_4 c.args.machine.now) (next (left_3 c.args.machine.now) (next (left_2 c.args.machine.now) (next (left_1 c.args.machine.now) (members_begun c.args.machine.now (state_of c.args.state.now) _ c.requires.sources c.requires.trailed) (λ told. g.met.D.Disk.obeys c.args.work.now.disk.now told) (part_as c.args.machine.now c.lent_again.result _ (shared_is c.args.program c.args.machine.now.program.now c.lent_again.result (c.lent_again.ensures.copied) c.requires.same) _ _ _ _ _ c.in_ok-part.ensures.runs)) (λ told. g.met.D.Disk.obeys c.part.new.work.disk.now told) (part_as c.args.machine.now c.args.program.first _ (first_is c.args.program c.args.machine.now.program.now c.requires.same) _ _ _ _ _ c.in_ok-part-2.ensures.runs)) (λ told. g.met.D.Disk.obeys c.part-2.new.work.disk.now told) (part_as c.args.machine.now c.lent_again-2.result _ (shared_is c.args.program c.args.machine.now.program.now c.lent_again-2.result (c.lent_again-2.ensures.copied ∙ c.lent_again.ensures.same) c.requires.same) _ _ _ _ _ c.in_ok-part-3.ensures.runs)) (λ told. g.met.D.Disk.obeys c.part-3.new.work.disk.now told) (part_as c.args.machine.now c.args.program.second _ (second_is c.args.program c.args.machine.now.program.now c.requires.same) _ _ _ _ _ c.in_ok-part-4.ensures.runs)).trailed

pub part-requires-6-clause-trailed : goal.part-requires-6-clause-trailed
part-requires-6-clause-trailed g c = (next (left_5 c.args.machine.now) (next (left_4 c.args.machine.now) (next (left_3 c.args.machine.now) (next (left_2 c.args.machine.now) (next (left_1 c.args.machine.now) (members_begun c.args.machine.now (state_of c.args.state.now) _ c.requires.sources c.requires.trailed) (λ told. g.met.D.Disk.obeys c.args.work.now.disk.now told) (part_as c.args.machine.now c.lent_again.result _ (shared_is c.args.program c.args.machine.now.program.now c.lent_again.result (c.lent_again.ensures.copied) c.requires.same) _ _ _ _ _ c.in_ok-part.ensures.runs)) (λ told. g.met.D.Disk.obeys c.part.new.work.disk.now told) (part_as c.args.machine.now c.args.program.first _ (first_is c.args.program c.args.machine.now.program.now c.requires.same) _ _ _ _ _ c.in_ok-part-2.ensures.runs)) (λ told. g.met.D.Disk.obeys c.part-2.new.work.disk.now told) (part_as c.args.machine.now c.lent_again-2.result _ (shared_is c.args.program c.args.machine.now.program.now c.lent_again-2.result (c.lent_again-2.ensures.copied ∙ c.lent_again.ensures.same) c.requires.same) _ _ _ _ _ c.in_ok-part-3.ensures.runs)) (λ told. g.met.D.Disk.obeys c.part-3.new.work.disk.now told) (part_as c.args.machine.now c.args.program.second _ (second_is c.args.program c.args.machine.now.program.now c.requires.same) _ _ _ _ _ c.in_ok-part-4.ensures.runs)) (λ told. g.met.D.Disk.obeys c.part-4.new.work.disk.now told) (part_as c.args.machine.now c.lent_again-2.new.part _ (shared_is c.args.program c.args.machine.now.program.now c.lent_again-2.new.part (c.lent_again-2.ensures.same ∙ c.lent_again.ensures.same) c.requires.same) _ _ _ _ _ c.in_ok-part-5.ensures.runs)).trailed

pub part-requires-clause-room : goal.part-requires-clause-room
part-requires-clause-room g c =
    part_room c.lent_again.result (program_tree c.args.machine.now.program.now).shared c.args.machine.now.program.now.count _ (shared_is c.args.program c.args.machine.now.program.now c.lent_again.result (c.lent_again.ensures.copied) c.requires.same) (room_next (work_number (program_tree c.args.machine.now.program.now)) (work_number (program_tree c.args.machine.now.program.now)) (work_of (program_tree c.args.machine.now.program.now).shared c.args.machine.now.program.now.count 1) (work_left_1 (program_tree c.args.machine.now.program.now)) _ _ (leaves_all (work_number (program_tree c.args.machine.now.program.now)) (work_number (program_tree c.args.machine.now.program.now)) _ refl) (all_work (program_tree c.args.machine.now.program.now)) c.requires.room)

pub part-requires-2-clause-room : goal.part-requires-2-clause-room
part-requires-2-clause-room g c =
    part_room c.args.program.first (program_tree c.args.machine.now.program.now).first c.args.machine.now.program.now.count _ (first_is c.args.program c.args.machine.now.program.now c.requires.same) (room_next (work_number (program_tree c.args.machine.now.program.now)) (work_left_1 (program_tree c.args.machine.now.program.now)) (work_of (program_tree c.args.machine.now.program.now).first c.args.machine.now.program.now.count 1) (work_left_2 (program_tree c.args.machine.now.program.now)) _ _ (leaves_next (work_number (program_tree c.args.machine.now.program.now)) (work_number (program_tree c.args.machine.now.program.now)) (work_of (program_tree c.args.machine.now.program.now).shared c.args.machine.now.program.now.count 1) (work_left_1 (program_tree c.args.machine.now.program.now)) _ _ (leaves_all (work_number (program_tree c.args.machine.now.program.now)) (work_number (program_tree c.args.machine.now.program.now)) _ refl) (all_work (program_tree c.args.machine.now.program.now)) _ _ (part_spends c.lent_again.result (program_tree c.args.machine.now.program.now).shared c.args.machine.now.program.now.count _ _ _ (shared_is c.args.program c.args.machine.now.program.now c.lent_again.result (c.lent_again.ensures.copied) c.requires.same) c.in_ok-part.ensures.room)) refl c.requires.room)

pub part-requires-3-clause-room : goal.part-requires-3-clause-room
part-requires-3-clause-room g c =
    part_room c.lent_again-2.result (program_tree c.args.machine.now.program.now).shared c.args.machine.now.program.now.count _ (shared_is c.args.program c.args.machine.now.program.now c.lent_again-2.result (c.lent_again-2.ensures.copied ∙ c.lent_again.ensures.same) c.requires.same) (room_next (work_number (program_tree c.args.machine.now.program.now)) (work_left_2 (program_tree c.args.machine.now.program.now)) (work_of (program_tree c.args.machine.now.program.now).shared c.args.machine.now.program.now.count 1) (work_left_3 (program_tree c.args.machine.now.program.now)) _ _ (leaves_next (work_number (program_tree c.args.machine.now.program.now)) (work_left_1 (program_tree c.args.machine.now.program.now)) (work_of (program_tree c.args.machine.now.program.now).first c.args.machine.now.program.now.count 1) (work_left_2 (program_tree c.args.machine.now.program.now)) _ _ (leaves_next (work_number (program_tree c.args.machine.now.program.now)) (work_number (program_tree c.args.machine.now.program.now)) (work_of (program_tree c.args.machine.now.program.now).shared c.args.machine.now.program.now.count 1) (work_left_1 (program_tree c.args.machine.now.program.now)) _ _ (leaves_all (work_number (program_tree c.args.machine.now.program.now)) (work_number (program_tree c.args.machine.now.program.now)) _ refl) (all_work (program_tree c.args.machine.now.program.now)) _ _ (part_spends c.lent_again.result (program_tree c.args.machine.now.program.now).shared c.args.machine.now.program.now.count _ _ _ (shared_is c.args.program c.args.machine.now.program.now c.lent_again.result (c.lent_again.ensures.copied) c.requires.same) c.in_ok-part.ensures.room)) refl _ _ (part_spends c.args.program.first (program_tree c.args.machine.now.program.now).first c.args.machine.now.program.now.count _ _ _ (first_is c.args.program c.args.machine.now.program.now c.requires.same) c.in_ok-part-2.ensures.room)) refl c.requires.room)

pub part-requires-4-clause-room : goal.part-requires-4-clause-room
part-requires-4-clause-room g c =
    part_room c.args.program.second (program_tree c.args.machine.now.program.now).second c.args.machine.now.program.now.count _ (second_is c.args.program c.args.machine.now.program.now c.requires.same) (room_next (work_number (program_tree c.args.machine.now.program.now)) (work_left_3 (program_tree c.args.machine.now.program.now)) (work_of (program_tree c.args.machine.now.program.now).second c.args.machine.now.program.now.count 1) (work_left_4 (program_tree c.args.machine.now.program.now)) _ _ (leaves_next (work_number (program_tree c.args.machine.now.program.now)) (work_left_2 (program_tree c.args.machine.now.program.now)) (work_of (program_tree c.args.machine.now.program.now).shared c.args.machine.now.program.now.count 1) (work_left_3 (program_tree c.args.machine.now.program.now)) _ _ (leaves_next (work_number (program_tree c.args.machine.now.program.now)) (work_left_1 (program_tree c.args.machine.now.program.now)) (work_of (program_tree c.args.machine.now.program.now).first c.args.machine.now.program.now.count 1) (work_left_2 (program_tree c.args.machine.now.program.now)) _ _ (leaves_next (work_number (program_tree c.args.machine.now.program.now)) (work_number (program_tree c.args.machine.now.program.now)) (work_of (program_tree c.args.machine.now.program.now).shared c.args.machine.now.program.now.count 1) (work_left_1 (program_tree c.args.machine.now.program.now)) _ _ (leaves_all (work_number (program_tree c.args.machine.now.program.now)) (work_number (program_tree c.args.machine.now.program.now)) _ refl) (all_work (program_tree c.args.machine.now.program.now)) _ _ (part_spends c.lent_again.result (program_tree c.args.machine.now.program.now).shared c.args.machine.now.program.now.count _ _ _ (shared_is c.args.program c.args.machine.now.program.now c.lent_again.result (c.lent_again.ensures.copied) c.requires.same) c.in_ok-part.ensures.room)) refl _ _ (part_spends c.args.program.first (program_tree c.args.machine.now.program.now).first c.args.machine.now.program.now.count _ _ _ (first_is c.args.program c.args.machine.now.program.now c.requires.same) c.in_ok-part-2.ensures.room)) refl _ _ (part_spends c.lent_again-2.result (program_tree c.args.machine.now.program.now).shared c.args.machine.now.program.now.count _ _ _ (shared_is c.args.program c.args.machine.now.program.now c.lent_again-2.result (c.lent_again-2.ensures.copied ∙ c.lent_again.ensures.same) c.requires.same) c.in_ok-part-3.ensures.room)) refl c.requires.room)

pub part-requires-5-clause-room : goal.part-requires-5-clause-room
part-requires-5-clause-room g c =
    part_room c.lent_again-2.new.part (program_tree c.args.machine.now.program.now).shared c.args.machine.now.program.now.count _ (shared_is c.args.program c.args.machine.now.program.now c.lent_again-2.new.part (c.lent_again-2.ensures.same ∙ c.lent_again.ensures.same) c.requires.same) (room_next (work_number (program_tree c.args.machine.now.program.now)) (work_left_4 (program_tree c.args.machine.now.program.now)) (work_of (program_tree c.args.machine.now.program.now).shared c.args.machine.now.program.now.count 1) (work_left_5 (program_tree c.args.machine.now.program.now)) _ _ (leaves_next (work_number (program_tree c.args.machine.now.program.now)) (work_left_3 (program_tree c.args.machine.now.program.now)) (work_of (program_tree c.args.machine.now.program.now).second c.args.machine.now.program.now.count 1) (work_left_4 (program_tree c.args.machine.now.program.now)) _ _ (leaves_next (work_number (program_tree c.args.machine.now.program.now)) (work_left_2 (program_tree c.args.machine.now.program.now)) (work_of (program_tree c.args.machine.now.program.now).shared c.args.machine.now.program.now.count 1) (work_left_3 (program_tree c.args.machine.now.program.now)) _ _ (leaves_next (work_number (program_tree c.args.machine.now.program.now)) (work_left_1 (program_tree c.args.machine.now.program.now)) (work_of (program_tree c.args.machine.now.program.now).first c.args.machine.now.program.now.count 1) (work_left_2 (program_tree c.args.machine.now.program.now)) _ _ (leaves_next (work_number (program_tree c.args.machine.now.program.now)) (work_number (program_tree c.args.machine.now.program.now)) (work_of (program_tree c.args.machine.now.program.now).shared c.args.machine.now.program.now.count 1) (work_left_1 (program_tree c.args.machine.now.program.now)) _ _ (leaves_all (work_number (program_tree c.args.machine.now.program.now)) (work_number (program_tree c.args.machine.now.program.now)) _ refl) (all_work (program_tree c.args.machine.now.program.now)) _ _ (part_spends c.lent_again.result (program_tree c.args.machine.now.program.now).shared c.args.machine.now.program.now.count _ _ _ (shared_is c.args.program c.args.machine.now.program.now c.lent_again.result (c.lent_again.ensures.copied) c.requires.same) c.in_ok-part.ensures.room)) refl _ _ (part_spends c.args.program.first (program_tree c.args.machine.now.program.now).first c.args.machine.now.program.now.count _ _ _ (first_is c.args.program c.args.machine.now.program.now c.requires.same) c.in_ok-part-2.ensures.room)) refl _ _ (part_spends c.lent_again-2.result (program_tree c.args.machine.now.program.now).shared c.args.machine.now.program.now.count _ _ _ (shared_is c.args.program c.args.machine.now.program.now c.lent_again-2.result (c.lent_again-2.ensures.copied ∙ c.lent_again.ensures.same) c.requires.same) c.in_ok-part-3.ensures.room)) refl _ _ (part_spends c.args.program.second (program_tree c.args.machine.now.program.now).second c.args.machine.now.program.now.count _ _ _ (second_is c.args.program c.args.machine.now.program.now c.requires.same) c.in_ok-part-4.ensures.room)) refl c.requires.room)

pub part-requires-6-clause-room : goal.part-requires-6-clause-room
part-requires-6-clause-room g c =
    part_room c.args.program.third (program_tree c.args.machine.now.program.now).third c.args.machine.now.program.now.count _ (third_is c.args.program c.args.machine.now.program.now c.requires.same) (room_next (work_number (program_tree c.args.machine.now.program.now)) (work_left_5 (program_tree c.args.machine.now.program.now)) (work_of (program_tree c.args.machine.now.program.now).third c.args.machine.now.program.now.count 1) 0 _ _ (leaves_next (work_number (program_tree c.args.machine.now.program.now)) (work_left_4 (program_tree c.args.machine.now.program.now)) (work_of (program_tree c.args.machine.now.program.now).shared c.args.machine.now.program.now.count 1) (work_left_5 (program_tree c.args.machine.now.program.now)) _ _ (leaves_next (work_number (program_tree c.args.machine.now.program.now)) (work_left_3 (program_tree c.args.machine.now.program.now)) (work_of (program_tree c.args.machine.now.program.now).second c.args.machine.now.program.now.count 1) (work_left_4 (program_tree c.args.machine.now.program.now)) _ _ (leaves_next (work_number (program_tree c.args.machine.now.program.now)) (work_left_2 (program_tree c.args.machine.now.program.now)) (work_of (program_tree c.args.machine.now.program.now).shared c.args.machine.now.program.now.count 1) (work_left_3 (program_tree c.args.machine.now.program.now)) _ _ (leaves_next (work_number (program_tree c.args.machine.now.program.now)) (work_left_1 (program_tree c.args.machine.now.program.now)) (work_of (program_tree c.args.machine.now.program.now).first c.args.machine.now.program.now.count 1) (work_left_2 (program_tree c.args.machine.now.program.now)) _ _ (leaves_next (work_number (program_tree c.args.machine.now.program.now)) (work_number (program_tree c.args.machine.now.program.now)) (work_of (program_tree c.args.machine.now.program.now).shared c.args.machine.now.program.now.count 1) (work_left_1 (program_tree c.args.machine.now.program.now)) _ _ (leaves_all (work_number (program_tree c.args.machine.now.program.now)) (work_number (program_tree c.args.machine.now.program.now)) _ refl) (all_work (program_tree c.args.machine.now.program.now)) _ _ (part_spends c.lent_again.result (program_tree c.args.machine.now.program.now).shared c.args.machine.now.program.now.count _ _ _ (shared_is c.args.program c.args.machine.now.program.now c.lent_again.result (c.lent_again.ensures.copied) c.requires.same) c.in_ok-part.ensures.room)) refl _ _ (part_spends c.args.program.first (program_tree c.args.machine.now.program.now).first c.args.machine.now.program.now.count _ _ _ (first_is c.args.program c.args.machine.now.program.now c.requires.same) c.in_ok-part-2.ensures.room)) refl _ _ (part_spends c.lent_again-2.result (program_tree c.args.machine.now.program.now).shared c.args.machine.now.program.now.count _ _ _ (shared_is c.args.program c.args.machine.now.program.now c.lent_again-2.result (c.lent_again-2.ensures.copied ∙ c.lent_again.ensures.same) c.requires.same) c.in_ok-part-3.ensures.room)) refl _ _ (part_spends c.args.program.second (program_tree c.args.machine.now.program.now).second c.args.machine.now.program.now.count _ _ _ (second_is c.args.program c.args.machine.now.program.now c.requires.same) c.in_ok-part-4.ensures.room)) refl _ _ (part_spends c.lent_again-2.new.part (program_tree c.args.machine.now.program.now).shared c.args.machine.now.program.now.count _ _ _ (shared_is c.args.program c.args.machine.now.program.now c.lent_again-2.new.part (c.lent_again-2.ensures.same ∙ c.lent_again.ensures.same) c.requires.same) c.in_ok-part-5.ensures.room)) (last_work (program_tree c.args.machine.now.program.now)) c.requires.room)
