use Rattle.update_proc.specs.Choices.{active_slots}
use Rattle.suit_commands.specs.Plans.{plan_tree}
use Rattle.std.proofs.Common.{Bor, Option, option_map}
use Rattle.flash_layout.specs.declared.slot.Record.{Record}
use Rattle.step_machine.proofs.Fitting.{few_entries}
use Rattle.update_proc.proofs.InUseSlots.{at_most_one, is_choice}
use Rattle.update_proc.proofs.in_use.choose_slots.Goals as goal

abbrev held_of : Option (Bor Record) → Option Record
held_of held = option_map (λ r. r.now) held

pub slots_held-active-requires : goal.slots_held-active-requires
slots_held-active-requires c = few_entries c.requires.layout.0 c.requires.layout.1 c.args.layout.now c.requires.layout.2

pub choose-requires-clause-layout : goal.choose-requires-clause-layout
choose-requires-clause-layout c = few_entries c.requires.layout.0 c.requires.layout.1 c.args.layout.now c.requires.layout.2

pub choose-requires-clause-active : goal.choose-requires-clause-active
choose-requires-clause-active c = at_most_one c.args.layout.now (active_slots (held_of c.args.held)) c.slots_held-active.result c.slots_held-active.ensures

pub returns-clause-choice : goal.returns-clause-choice
returns-clause-choice c =
    is_choice c.requires.layout.0 c.requires.layout.1 c.args.layout.now c.requires.layout.2 (active_slots (held_of c.args.held)) c.slots_held-active.result c.args.places.now (plan_tree c.args.plan.now) c.choose.result c.slots_held-active.ensures
    c.choose.ensures
