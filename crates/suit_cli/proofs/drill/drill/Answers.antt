use Rattle.std.proofs.Common.{◌∙◌, List, length, refl, ap}
use Rattle.suit_edge.specs.declared.launch.Launch.{Launch}
use Rattle.suit_cli.specs.Drilling.{wrong_in}
use Rattle.suit_cli.specs.Stages.{Ends}
use Rattle.suit_cli.proofs.Chains.{lacks_last}
use Rattle.suit_cli.proofs.DrillLoop.{tells_drill}
use Rattle.suit_cli.proofs.drill.drill.Goals as goal

pub returns-in_err-launcher : goal.returns-in_err-launcher
returns-in_err-launcher c here = lacks_last _ _ c.from_residual.result c.from_residual.ensures.1

pub returns-in_err-tally : goal.returns-in_err-tally
returns-in_err-tally c here = lacks_last _ _ c.from_residual-in_err-tally.result c.from_residual-in_err-tally.ensures.1

pub returns-in_err-line : goal.returns-in_err-line
returns-in_err-line c here = lacks_last _ _ c.from_residual-in_err-line.result c.from_residual-in_err-line.ensures.1

pub returns : goal.returns
returns c here =
    let launches = c.launches-launches.ensures in
    Ends _ refl
    (tells_drill c.args.number c.in_ok-tally.tally c.run_rounds.new.launcher.launches c.in_ok-tally.ensures c.len.result c.wrong_launches-wrong.result
    (c.len.ensures ∙ ap (λ (l : List Launch). length l) launches) (c.wrong_launches-wrong.ensures ∙ ap wrong_in (c.as_slice.ensures ∙ launches)) _ refl
    (c.from_string.ensures ∙ c.in_ok-line.ensures))
