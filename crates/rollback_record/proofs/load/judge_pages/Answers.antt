use Rattle.std.proofs.Common.{◌≡◌, ◌<◌, ℕ, Option, IfSome, get_or, ◌∙◌, sym, subst}
use Rattle.suit_edge.specs.Gate.{IsGate}
use Rattle.flash_layout.specs.declared.slot.Record.{Record}
use Rattle.flash_layout.specs.Frames.{config_page_of, record_from}
use Rattle.rollback_record.specs.HeadRecord.{IsLoadable}
use Rattle.rollback_record.proofs.Loads.{beside_two, first_gate, higher_loadable, pages, second_gate}
use Rattle.rollback_record.proofs.SlotCounts.{every_page, some_page}
use Rattle.rollback_record.proofs.load.judge_pages.Goals as goal
use Rattle.rollback_record.proofs.load.judge_pages.Goals.{then-which-eq0, else-which-eq0}

pub returns-clause-loadable : goal.returns-clause-loadable
returns-clause-loadable c =
    subst (λ (o : Option Record). IfSome o (IsLoadable c.args.frame)) (sym c.higher_of-held.ensures.record)
    (higher_loadable c.args.frame c.args.slots.now c.args.first.now c.args.second.now c.decode.result c.decode-2.result
    c.decode.ensures.some c.decode-2.ensures.some)

pub returns-clause-exact : goal.returns-clause-exact
returns-clause-exact c head whole read counts =
    let config = config_page_of c.args.frame head in
    let slots = c.args.slots.now in
    let which = c.higher_of-held.result.1 in
    let two : which < 2 = subst (λ (k : ℕ). k < 2) (sym c.higher_of-held.ensures.spare) (beside_two c.decode.result c.decode-2.result) in
    let gate : c.if-which-eq0.gate ≡ get_or head (record_from c.args.frame which) 0 = elim c.if-which-eq0.branch [
      | then-which-eq0 w ↦ w.gate-is ∙ first_gate c.args.frame head _ _ whole read which w.if-which-eq0.true
      | else-which-eq0 w ↦ w.gate-is ∙ second_gate c.args.frame head _ _ whole read which two w.if-which-eq0.false
    ] in
    pages c.args.frame head _ _ whole read c.decode.result c.decode-2.result
    (some_page c.args.frame config slots counts _ _ c.decode.ensures.some) (some_page c.args.frame config slots counts _ _ c.decode-2.ensures.some)
    (every_page c.args.frame config slots counts _ _ c.decode.ensures.every) (every_page c.args.frame config slots counts _ _ c.decode-2.ensures.every)
    _ which c.gate_of.result c.higher_of-held.ensures.record c.higher_of-held.ensures.spare (subst (λ (b : ℕ). IsGate c.gate_of.result b) gate c.gate_of.ensures)
