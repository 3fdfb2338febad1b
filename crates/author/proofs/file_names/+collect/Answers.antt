use Rattle.std.proofs.Common.{sym, ap, ◌∙◌, arith}
use Rattle.serde_json.specs.View.{view, items_view}
use Rattle.serde_json.proofs.Views.{view-Array}
use Rattle.author.specs.FileNames.{once, names_in, names_in_items, one_or}
use Rattle.author.proofs.Naming.{items_turn, items_end, members_turn}
use Rattle.author.proofs.file_names.+collect.Goals as goal

pub loop-item-preserved : goal.loop-item-preserved
loop-item-preserved t c =
    items_turn c.deref-item-items.result.now c.loop-item.item-index c.item-item.result c.loop-item.names _ _ (omega arith) c.item-item.is c.in_ok-collect-in-Array.ensures c.loop-item.invariant

pub returns-after-loop-item : goal.returns-after-loop-item
returns-after-loop-item t c =
    let start = c.args.names.now in
    sym (items_end c.deref-item-items.result.now c.loop-item.item-index c.loop-item.names _ (omega arith) c.loop-item.invariant)
    ∙ ap (λ vs. once start (names_in_items (items_view vs))) c.deref-item-items.ensures.value
    ∙ ap (λ d. once start (names_in d)) (sym (ap view c.in-Array.is ∙ view-Array c.in-Array.items))

pub loop-key-preserved : goal.loop-key-preserved
loop-key-preserved t c =
    let none = rw c.as_str.ensures.value at c.in-None-name_under.ensures in
    members_turn _ c.next.new.self c.in-Some.key.now c.in-Some.member.now c.loop-key.names _ _ c.in-Some.ensures.steps
    (c.in_ok-collect-in-None-name_under.ensures ∙ ap (λ o. once c.loop-key.names (one_or o (names_in (view c.in-Some.member.now)))) none) c.loop-key.invariant
