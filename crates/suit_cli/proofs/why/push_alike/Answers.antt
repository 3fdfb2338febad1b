use Rattle.std.proofs.Common.{List, ℕ, [], ◌++◌, append_assoc, string_bytes, ap, ◌∙◌}
use Rattle.std.specs.Fmt.{decimal}
use Rattle.std.specs.Prelude.{codes}
use Rattle.suit_cli.specs.Texts.{numbered}
use Rattle.suit_cli.proofs.why.push_alike.Goals as goal

pub returns-clause-text : goal.returns-clause-text
returns-clause-text c =
    let before = string_bytes c.args.line.now in
    let one = decimal c.args.first in
    let other = decimal c.args.second in
    let first = numbered (codes "components") c.args.first in
    let second = numbered (codes " and") c.args.second in
    let behind = codes " are alike" in
    c.push.ensures.text
    ∙ ap (λ (l : List ℕ). l ++ behind) (c.push_numbered-2.ensures.text ∙ ap (λ (l : List ℕ). l ++ second) c.push_numbered.ensures.text)
    ∙ append_assoc (before ++ first) second behind
    ∙ append_assoc before first (second ++ behind)
    ∙ ap (λ (l : List ℕ). before ++ (codes "components " ++ l)) (append_assoc one [] (second ++ behind))
    ∙ ap (λ (l : List ℕ). before ++ (codes "components " ++ (one ++ (codes " and " ++ l)))) (append_assoc other [] behind)
