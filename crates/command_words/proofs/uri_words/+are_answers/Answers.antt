use Rattle.std.proofs.Common.{◌≡◌, ◌∙◌, ◌<◌, ◌&&◌, refl, sym, ap, List, [], ◌∷◌, Bool, true, length, take, drop, ◌-◌, slice_index_or, Bor, arith}
use Rattle.command_words.specs.Tasks.{Word, Words, texts}
use Rattle.command_words.specs.UriWords.{are_answers, is_last}
use Rattle.command_words.proofs.TextLists.{first_and_rest}
use Rattle.command_words.proofs.uri_words.+are_answers.Goals as goal

nothing : (words : List (Bor Word)) → length words < 1 → true ≡ are_answers (texts words)
unfolding are_answers
nothing [] none = refl
nothing (word ∷ words) none = absurd (omega arith)

step : (words : Words) (word : Word) (later : Words) → words ≡ word ∷ later → are_answers words ≡ (is_last word later && are_answers later)
unfolding are_answers
step words word later is = ap are_answers is

abbrev no_text : Bor Word
no_text = record { ref_ptr = (0, 0); now = [] }

abbrev rest : List (Bor Word) → Words
rest words = texts (take (length words - 1) (drop 1 words))

pub returns-in-empty : goal.returns-in-empty
returns-in-empty t c = nothing c.args.words.now c.in-empty.len_below

pub returns-then-is_last : goal.returns-then-is_last
returns-then-is_last t c =
    let later = rest c.args.words.now in
    let whole = step (texts c.args.words.now) (slice_index_or c.args.words.now 0 no_text).now later (first_and_rest c.args.words.now no_text c.in-len1-up.len_at_least) in
    c.are_answers.ensures ∙ sym (whole ∙ ap (λ (b : Bool). b && are_answers later) (sym c.is_last.ensures ∙ c.if-is_last.true))

pub returns-else-is_last : goal.returns-else-is_last
returns-else-is_last t c =
    let later = rest c.args.words.now in
    let whole = step (texts c.args.words.now) (slice_index_or c.args.words.now 0 no_text).now later (first_and_rest c.args.words.now no_text c.in-len1-up.len_at_least) in
    c.if-is_last.false ∙ sym (whole ∙ ap (λ (b : Bool). b && are_answers later) (sym c.is_last.ensures ∙ c.if-is_last.false))
