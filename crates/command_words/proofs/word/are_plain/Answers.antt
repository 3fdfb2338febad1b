use Rattle.std.proofs.Common.{rules, tests, ◌∙◌, sym, Bor}
use Rattle.std.proofs.lemmas.Iterator.{YieldsList-from_slice}
use Rattle.std.proofs.lemmas.Iterator.Search.{all_from_yields_List}
use Rattle.std.proofs.lemmas.List.Folds.{list_all-map}
use Rattle.command_words.specs.Tasks.{Word}
use Rattle.command_words.specs.Words.{is_plain}
use Rattle.command_words.proofs.word.are_plain.Goals as goal

pub returns : goal.returns
returns c =
    all_from_yields_List (λ (w : Bor Word). is_plain w.now) _ _ c.all.result c.all.ensures.ran (YieldsList-from_slice c.args.words.now cc) (λ x b q k. search (rules, tests))
    ∙ sym (list_all-map is_plain (λ (w : Bor Word). w.now) c.args.words.now)
