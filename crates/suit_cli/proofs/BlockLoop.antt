-- The lines of the blocks, one after another.
use Rattle.std.proofs.Common.{◌≡◌, ℕ, suc, ◌+◌, ◌≤◌, ◌<◌, Bool, List, [], ◌∷◌, ◌++◌, length, drop, get_or, Some, sym, ap, subst, ◌∙◌}
use Rattle.std.specs.List.{slice_get}
use Rattle.std.proofs.Math.Seq.{drop-cons}
use Rattle.std.proofs.Math.Numerals.{suc-eq-add-one}
use Rattle.std.proofs.lemmas.Option.{slice_get_within, get_or_from_slice_get, slice_get-get_or}
use Rattle.std.proofs.lemmas.List.{append-nil, append_assoc, drop_all}
use Rattle.suit_params.specs.declared.digest.Digest.{Digest}
use Rattle.suit_envelope.specs.WrapperParts.{WrapperSays}
use Rattle.suit_cli.specs.Texts.{block_line}
use Rattle.suit_cli.specs.Shown.{HasKind, kind_text, BlockLines, NoLines, LineThen}

drop_is : (xs : List (List ℕ)) (n : ℕ) (x : List ℕ) → Some x ≡ slice_get xs n → drop n xs ≡ x ∷ drop (n + 1) xs
drop_is xs n x is =
    drop-cons xs n x (slice_get_within xs n x (sym is)) ∙ ap (λ (y : List ℕ). y ∷ drop (suc n) xs) (get_or_from_slice_get xs n x x (sym is))
    ∙ ap (λ (k : ℕ). x ∷ drop k xs) (suc-eq-add-one n)

-- the walk is at the blocks from a number on
abbrev pub Walks : List ℕ → ℕ → List (List ℕ) → Type 0
Walks wrapper number rest = (digest : Digest) (all : List (List ℕ)) → WrapperSays wrapper digest all → rest ≡ drop number all

-- the list that is left, by its head
left_is : (wrapper : List ℕ) (number : ℕ) (rest : List (List ℕ)) → Walks wrapper number rest → (digest : Digest) (all : List (List ℕ)) → WrapperSays wrapper digest all → number < length all
    → rest ≡ get_or all number [] ∷ drop (suc number) all
left_is wrapper number rest walks digest all says within = walks digest all says ∙ drop-cons all number [] within

pub walks_on : (wrapper : List ℕ) (number : ℕ) (rest later : List (List ℕ)) → Walks wrapper number rest → later ≡ drop 1 rest
    → ((digest : Digest) (all : List (List ℕ)) → WrapperSays wrapper digest all → number < length all) → Walks wrapper (number + 1) later
walks_on wrapper number rest later walks is within digest all says =
    is ∙ ap (drop 1) (left_is wrapper number rest walks digest all says (within digest all says)) ∙ ap (λ (k : ℕ). drop k all) (suc-eq-add-one number)

pub walk_finds : (wrapper : List ℕ) (number : ℕ) (rest : List (List ℕ)) (block : List ℕ) → Walks wrapper number rest → Some block ≡ slice_get rest 0
    → ((digest : Digest) (all : List (List ℕ)) → WrapperSays wrapper digest all → number < length all)
    → (digest : Digest) (all : List (List ℕ)) → WrapperSays wrapper digest all → Some block ≡ slice_get all number
walk_finds wrapper number rest block walks found within digest all says =
    found ∙ ap (λ (r : List (List ℕ)). slice_get r 0) (left_is wrapper number rest walks digest all says (within digest all says))
    ∙ sym (slice_get-get_or all number [] (within digest all says))

-- with the lines of the blocks that are left, the text is the old one and the lines of all blocks
abbrev pub Goes : List ℕ → List ℕ → ℕ → List ℕ → Type 0
Goes wrapper old number text = (digest : Digest) (all : List (List ℕ)) → WrapperSays wrapper digest all → (rest : List ℕ) → BlockLines number (drop number all) rest
    → (lines : List ℕ) × BlockLines 0 all lines × (text ++ rest ≡ old ++ lines)

pub goes_on : (wrapper old text new : List ℕ) (number : ℕ) (block : List ℕ) (is_mac : Bool) → Goes wrapper old number text
    → ((digest : Digest) (all : List (List ℕ)) → WrapperSays wrapper digest all → Some block ≡ slice_get all number) → HasKind block is_mac
    → new ≡ text ++ block_line number (kind_text is_mac) → Goes wrapper old (number + 1) new
goes_on wrapper old text new number block is_mac before found kind is digest all says rest lines =
    let line = block_line number (kind_text is_mac) in
    let whole : BlockLines number (drop number all) (line ++ rest) =
    subst (λ (bs : List (List ℕ)). BlockLines number bs (line ++ rest)) (sym (drop_is all number block (found digest all says))) (LineThen number block (drop (number + 1) all) is_mac rest kind lines) in
    let by = before digest all says (line ++ rest) whole in
    (by.0, by.1, ap (λ (t : List ℕ). t ++ rest) is ∙ append_assoc text line rest ∙ by.2)

pub goes_end : (wrapper old text : List ℕ) (count : ℕ) → Goes wrapper old count text → ((digest : Digest) (all : List (List ℕ)) → WrapperSays wrapper digest all → length all ≤ count)
    → (digest : Digest) (all : List (List ℕ)) → WrapperSays wrapper digest all → (lines : List ℕ) × BlockLines 0 all lines × (text ≡ old ++ lines)
goes_end wrapper old text count goes counted digest all says =
    let none : drop count all ≡ [] = drop_all count all (counted digest all says) in
    let by = goes digest all says [] (subst (λ (bs : List (List ℕ)). BlockLines count bs []) (sym none) (NoLines count)) in
    (by.0, by.1, sym (append-nil text) ∙ by.2)
