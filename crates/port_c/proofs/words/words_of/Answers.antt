use Rattle.std.proofs.Common.{◌≡◌, ◌==◌, ◌∙◌, IfOk, ap, map, subst}
use Rattle.std.proofs.lemmas.List.{take_all}
use Rattle.std.specs.List.{slice_split}
use Rattle.port_c.specs.Words.{Parted}
use Rattle.port_c.proofs.words.words_of.Goals as goal

pub returns : goal.returns
returns c =
    let parts = subst (λ r. IfOk r (λ v. map (λ x. x.now) v.items ≡ slice_split (λ b. b == 0) c.in-Ok.text.now)) c.in_ok-words.was c.parts.ensures in
    let whole = take_all c.loop-word.word-index c.as_slice-word-items.result.now c.loop-word-test.false in
    Parted c.in-Ok.ensures.cases.1 (c.loop-word.invariant ∙ ap (map (λ x. x.now)) (whole ∙ c.as_slice-word-items.ensures.value) ∙ parts ∙ ap (slice_split (λ b. b == 0)) c.in-Ok.ensures.cases.0)
