use Rattle.std.proofs.Common.{◌++◌, ◌-◌, ◌∙◌, ℕ, List, ap, take, drop, length, replicate, arith}
use Rattle.std.proofs.lemmas.List.{drop-replicate, length-drop, take_all}
use Rattle.flash_layout.specs.ConfigPage.{padded}
use Rattle.rollback_record.proofs.page.read_active.Goals as goal

pub returns : goal.returns
returns c =
    let page = c.args.page.now in
    let borne = take (length page - 91) (drop 91 page) in
    ap (λ (l : List ℕ). l ++ drop (length borne) (replicate 32 0)) c.copy_from_slice.ensures.after ∙ ap (λ (l : List ℕ). borne ++ l) (drop-replicate (length borne) 32 0)
    ∙ ap (λ (l : List ℕ). padded 32 l) (take_all (length page - 91) (drop 91 page) (omega (arith, length-drop 91 page)))
