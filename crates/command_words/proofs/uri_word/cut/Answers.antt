use Rattle.std.proofs.Common.{◌≡◌, ◌∙◌, option_map, ◌∷◌, ◌++◌, take, drop, Some, None, sym, ap, ap₂, arith}
use Rattle.std.specs.Str.Pattern.{RFindsChar, SplitsAroundMatch}
use Rattle.std.proofs.lemmas.List.{take-append-drop}
use Rattle.std.proofs.lemmas.Str.Pattern.{NoCharPasses-char, drop_at_char}
use Rattle.command_words.specs.Tasks.{Word}
use Rattle.command_words.specs.UriWords.{answer_said, cut}
use Rattle.command_words.proofs.Cuts.{Lacks, cut_none, cut_there}
use Rattle.command_words.proofs.uri_word.cut.Goals as goal

none_there : (word : Word) → RFindsChar 61 word None → cut word ≡ None
none_there word found = cut_none word (λ i within. NoCharPasses-char 61 word i found (omega arith) within)

there : (word front back : Word) → SplitsAroundMatch (RFindsChar 61) word front back → cut word ≡ Some (record { uri = front; name = back })
there word front back split =
    let i = split.0 in
    let j = split.1 in
    let found = split.2 in
    let is_front : front ≡ take i word = split.3 in
    let is_back : back ≡ drop j word = split.4 in
    let whole : word ≡ take i word ++ 61 ∷ drop j word = sym (take-append-drop i word) ∙ ap (λ rest. take i word ++ rest) (drop_at_char 61 word i j found.1 (omega arith)) in
    let lacks : Lacks (drop j word) = λ k within. NoCharPasses-char 61 (drop j word) k found.0 (omega arith) within in
    ap cut whole ∙ cut_there (take i word) (drop j word) lacks ∙ ap₂ (λ (u n : Word). Some (record { uri = u; name = n })) (sym is_front) (sym is_back)

pub returns-in_err-uri : goal.returns-in_err-uri
returns-in_err-uri c = ap (option_map answer_said) c.from_residual.ensures ∙ sym (none_there c.args.word.now c.in_err-uri.ensures.cases)

pub returns : goal.returns
returns c = sym (there c.args.word.now c.in_ok-uri.uri.now c.in_ok-uri.name.now c.in_ok-uri.ensures.cases)
