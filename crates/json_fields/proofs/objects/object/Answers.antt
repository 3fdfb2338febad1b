use Rattle.std.proofs.Common.{◌≡◌, rules, sym, ◌∙◌, ap}
use Rattle.serde_json.specs.View.{view, members_view}
use Rattle.json_fields.proofs.Folds.{members_of-taken, fault_told, object_of-Some}
use Rattle.json_fields.specs.Objects.{members_of}
use Rattle.json_fields.proofs.objects.object.Goals as goal

pub loop-key-preserved : goal.loop-key-preserved
loop-key-preserved g c =
    let takes = g.D.Draft.takes in
    let taken = rw c.as_str-key.ensures.value at c.in-Ok.ensures in
    c.loop-key.invariant ∙ ap (λ es. members_of takes c.loop-key.draft (members_view es)) c.in-Some-2.ensures.steps
    ∙ members_of-taken takes _ _ _ _ (members_view c.next.new.self) taken

pub returns-in-Err : goal.returns-in-Err
returns-in-Err g c =
    let takes = g.D.Draft.takes in
    let whole = object_of-Some takes c.args.draft.now (view c.args.value.now) _ c.in-Some.ensures in
    let all : c.into_iter-key-iterator.result ≡ c.in-Some.members.now.entries = search rules in
    let start = ap (λ es. members_of takes c.args.draft.now (members_view es)) (sym all) in
    let here = c.loop-key.invariant ∙ ap (λ es. members_of takes c.loop-key.draft (members_view es)) c.in-Some-2.ensures.steps in
    let moved = rw c.as_str-key.ensures.value at c.at_key.ensures in
    let taken = rw c.as_str-key.ensures.value at c.in-Err.ensures in
    rw (whole ∙ start ∙ here) (fault_told takes c.loop-key.draft _ _ (members_view c.next.new.self) (λ _. c.args.draft.now) _ c.in-Err.fault c.at_key.result moved taken)
