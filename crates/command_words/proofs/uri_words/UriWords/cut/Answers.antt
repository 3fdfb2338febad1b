use Rattle.std.proofs.Common.{◌≡◌, ◌∙◌, ◌<◌, ◌+◌, ℕ, List, [], ◌∷◌, ◌++◌, length, take, get_or, sym, ap, Bor, arith, add-one}
use Rattle.std.specs.Prelude.{filter_map}
use Rattle.std.proofs.Math.Seq.{take-suc, take-length}
use Rattle.std.proofs.lemmas.List.{map-append}
use Rattle.std.proofs.lemmas.List.Elements.{filter_map-append}
use Rattle.command_words.specs.Tasks.{Word, Answer, texts}
use Rattle.command_words.specs.UriWords.{cut}
use Rattle.command_words.proofs.uri_words.UriWords.cut.Goals as goal

abbrev cut_of : List (Bor Word) → List Answer
cut_of words = filter_map cut (texts words)

-- one more word
one_more : (words : List (Bor Word)) (i : ℕ) (none : Bor Word) → i < length words → cut_of (take (i + 1) words) ≡ cut_of (take i words) ++ cut_of (get_or words i none ∷ [])
one_more words i none within =
    rw add-one (ap cut_of (take-suc words i none within) ∙ ap (filter_map cut) (map-append (λ (w : Bor Word). w.now) (take i words) (get_or words i none ∷ []))
    ∙ filter_map-append cut (texts (take i words)) (texts (get_or words i none ∷ [])))

pub loop-word-preserved : goal.loop-word-preserved
loop-word-preserved c =
    c.in_ok-push.ensures ∙ ap (λ (said : List Answer). said ++ cut_of (get_or c.args.words.now c.loop-word.word-index (record { ref_ptr = (0, 0); now = [] }) ∷ [])) c.loop-word.invariant
    ∙ sym (one_more c.args.words.now c.loop-word.word-index (record { ref_ptr = (0, 0); now = [] }) c.loop-word-test.true)

pub returns : goal.returns
returns c =
    let all : c.loop-word.word-index ≡ length c.args.words.now = omega (arith, c.loop-word-test.false, c.loop-word.auto.word-index-end) in
    c.loop-word.invariant ∙ ap (λ (n : ℕ). cut_of (take n c.args.words.now)) all ∙ ap cut_of (take-length c.args.words.now)
