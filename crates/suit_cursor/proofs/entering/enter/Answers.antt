use Rattle.std.proofs.Common.{◌∙◌, ◌/◌, ℕ, Result, subst}
use Rattle.std.specs.Prelude.{IsOk}
use Rattle.suit_params.specs.declared.refusal.Refusal.{Refusal}
use Rattle.suit_commands.specs.Judged.{inner_by}
use Rattle.suit_commands.specs.SequenceReading.{steps_from}
use Rattle.suit_commands.specs.Tree.{SequenceTree, NoSteps}
use Rattle.suit_cursor.proofs.Known.{answers, answer_is, read_is}
use Rattle.suit_cursor.proofs.ItsHead.{head_ok, steps_behind}
use Rattle.suit_cursor.proofs.entering.enter.Goals as goal

pub unwrap-elements-requires : goal.unwrap-elements-requires
unwrap-elements-requires c =
    answers (λ (n : ℕ). (n, c.read_kind.new.cursor)) c.read_kind.result _ c.read_kind.ensures
    (head_ok c.args.rules.shared c.args.rules.count c.args.rules.levels c.args.content c.same_place-item.result c.same_place-item.ensures.copied c.same_place-item.ensures.bytes c.requires)

pub invariant_of-result : goal.invariant_of-result
invariant_of-result c =
    subst (λ (r : Result SequenceTree Refusal). IsOk r)
    (steps_behind c.args.rules.shared c.args.rules.count c.args.rules.levels c.args.content c.same_place-item.result c.same_place-item.ensures.copied c.same_place-item.ensures.bytes c.requires
    c.unwrap-elements.result c.read_kind.new.cursor (answer_is (λ (n : ℕ). (n, c.read_kind.new.cursor)) c.read_kind.result _ c.unwrap-elements.result c.read_kind.ensures c.unwrap-elements.ensures))
    c.requires

pub returns : goal.returns
returns c =
    let goes = steps_behind c.args.rules.shared c.args.rules.count c.args.rules.levels c.args.content c.same_place-item.result c.same_place-item.ensures.copied c.same_place-item.ensures.bytes c.requires
    c.unwrap-elements.result c.read_kind.new.cursor (answer_is (λ (n : ℕ). (n, c.read_kind.new.cursor)) c.read_kind.result _ c.unwrap-elements.result c.read_kind.ensures c.unwrap-elements.ensures) in
    goes
    ∙ read_is NoSteps (steps_from (inner_by c.args.rules) c.args.rules.shared c.args.rules.count (c.unwrap-elements.result / 2) c.read_kind.new.cursor)
    (subst (λ (r : Result SequenceTree Refusal). IsOk r) goes c.requires)
