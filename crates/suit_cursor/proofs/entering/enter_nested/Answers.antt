use Rattle.std.proofs.Common.{◌∙◌, Result, subst}
use Rattle.std.specs.Prelude.{IsOk}
use Rattle.suit_params.specs.declared.refusal.Refusal.{Refusal}
use Rattle.suit_commands.specs.Tree.{SequenceTree}
use Rattle.suit_cursor.proofs.ItsHead.{below, nested_is}
use Rattle.suit_cursor.proofs.entering.enter_nested.Goals as goal

pub overflow_sub-inside : goal.overflow_sub-inside
overflow_sub-inside c = below c.args.rules.shared c.args.rules.count c.args.rules.levels c.args.place c.args.content c.requires

pub enter-requires : goal.enter-requires
enter-requires c =
    subst (λ (r : Result SequenceTree Refusal). IsOk r)
    (nested_is c.args.rules.shared c.args.rules.count c.args.rules.levels c.args.place c.args.content c.requires) c.requires

pub returns : goal.returns
returns c = nested_is c.args.rules.shared c.args.rules.count c.args.rules.levels c.args.place c.args.content c.requires ∙ c.enter.ensures
