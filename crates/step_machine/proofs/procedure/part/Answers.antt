use Rattle.std.proofs.Common.{[], ◌∷◌, Option, subst}
use Rattle.step_machine.specs.Programs.{part_tree}
use Rattle.suit_commands.specs.Tree.{SequenceTree}
use Rattle.step_machine.specs.Allowing.{AllowsSequence}
use Rattle.step_machine.specs.Running.{state_of}
use Rattle.step_machine.proofs.Procedures.{lent_as, runs_started, runs_absent}
use Rattle.step_machine.proofs.Leaving.{leaves_start}
use Rattle.step_machine.proofs.Spending.{lent_spends, spends_none}
use Rattle.step_machine.proofs.procedure.part.Goals as goal

pub sequence-requires-clause-allowed : goal.sequence-requires-clause-allowed
sequence-requires-clause-allowed g c =
    subst (λ (o : Option SequenceTree). AllowsSequence c.args.machine.now (part_tree o) (0 ∷ [])) c.in-Some.is c.requires.allowed

pub sequence-requires-clause-under_way : goal.sequence-requires-clause-under_way
sequence-requires-clause-under_way g c = record { sources = c.requires.sources; selection = (c.requires.some, tt) }

pub returns-in-Some : goal.returns-in-Some
returns-in-Some g c =
    record { runs = lent_as c.args.machine.now _ _ c.in-Some.is _ _ _ _ _ (runs_started c.args.machine.now c.in-Some.inner c.args.machine.now.program.now.count _ _ _ _ _ c.sequence.ensures.runs); leaves = c.sequence.ensures.leaves; room = lent_spends _ _ c.args.machine.now.program.now.count _ _ _ c.in-Some.is c.sequence.ensures.room }

pub returns-in-None : goal.returns-in-None
returns-in-None g c =
    record { runs = lent_as c.args.machine.now _ _ c.in-None.is _ _ _ _ _ (runs_absent c.args.machine.now c.args.machine.now.program.now.count (state_of c.args.state.now) _ c.requires.sources c.requires.trailed); leaves = leaves_start _ _; room = lent_spends _ _ c.args.machine.now.program.now.count _ _ _ c.in-None.is (spends_none 0 _ _) }
