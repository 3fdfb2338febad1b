-- Where a word is cut, and what words that are cut so say.
use Rattle.std.proofs.Common.{◌≡◌, ◌∙◌, ◌≢◌, ◌<◌, ◌||◌, ◌&&◌, not, ℕ, List, [], ◌∷◌, ◌++◌, length, map, get_or, eqb, Option, Some, None, refl, sym, ap, ap₂, subst, zero, suc, arith, Bool, true, false, if◌then◌else◌}
use Rattle.std.specs.Prelude.{filter_map, unwrap_or}
use Rattle.std.specs.Option.{option_map_or}
use Rattle.std.specs.List.{AllByRecursion, list_any, cons_option}
use Rattle.std.specs.Str.{bytes_eq}
use lib.Pointwise.{bytes_decides}
use Rattle.command_words.specs.Tasks.{Word, Words, Answer}
use Rattle.command_words.specs.UriWords.{cut, cut_before, names, is_last, are_answers}
use Rattle.command_words.specs.Spelled.{spelled_answer, IsAfterLast, AreDistinct}
use Rattle.command_words.proofs.Handed.{both}

-- no byte is a `=`
abbrev pub Lacks : Word → Type 0
Lacks word = (i : ℕ) → i < length word → get_or word i 0 ≢ 61

abbrev pub LacksAll : Word → Type 0
LacksAll word = AllByRecursion (λ byte. byte ≢ 61) word

pub lacks_at : (word : Word) → LacksAll word → Lacks word
lacks_at [] all i within = absurd (omega arith)
lacks_at (byte ∷ rest) all zero within = all.0
lacks_at (byte ∷ rest) all (suc i) within = lacks_at rest all.1 i (omega arith)

not_equals : (byte : ℕ) → byte ≢ 61 → eqb byte 61 ≡ false
not_equals byte never = grind arith

is_other : (byte : ℕ) → eqb byte 61 ≡ false → byte ≢ 61
is_other byte h = grind arith

is_equals : (byte : ℕ) → eqb byte 61 ≡ true → byte ≡ 61
is_equals byte h = grind arith

later : (byte : ℕ) (rest : Word) → Lacks (byte ∷ rest) → Lacks rest
later byte rest lacks i within = lacks (suc i) (omega arith)

pub cut_none : (word : Word) → Lacks word → cut word ≡ None
unfolding cut
cut_none [] lacks = refl
cut_none (byte ∷ rest) lacks = ap (cut_before byte rest) (cut_none rest (later byte rest lacks)) ∙ rw (not_equals byte (lacks 0 (omega arith))) refl

pub cut_there : (uri name : Word) → Lacks name → cut (uri ++ 61 ∷ name) ≡ Some (record { uri = uri; name = name })
unfolding cut
cut_there [] name lacks = ap (cut_before 61 name) (cut_none name lacks)
cut_there (byte ∷ uri) name lacks = ap (cut_before byte (uri ++ 61 ∷ name)) (cut_there uri name lacks)

-- ---- back from a cut

abbrev no_answer : Answer
no_answer = record { uri = []; name = [] }

same_answer : (a b : Answer) → Some a ≡ Some b → a ≡ b
same_answer a b e = ap (λ (o : Option Answer). unwrap_or o no_answer) e

pub lacks_none : (word : Word) → cut word ≡ None → LacksAll word
unfolding cut
lacks_none [] is = tt
lacks_none (byte ∷ rest) is = of (λ there. lacks_none rest there) (cut rest) refl is where
  of : (cut rest ≡ None → LacksAll rest) → (found : Option Answer) → cut rest ≡ found → cut_before byte rest found ≡ None → LacksAll (byte ∷ rest)
  of ih (Some answer) there none = let never : None ≡ Some (record answer { uri = byte ∷ answer.uri }) = sym none in cc
  of ih None there none = at (eqb byte 61) refl none where
    at : (b : Bool) → eqb byte 61 ≡ b → (if b then Some (record no_answer { name = rest }) else None) ≡ None → LacksAll (byte ∷ rest)
    at true e h = let never : None ≡ Some (record no_answer { name = rest }) = sym h in cc
    at false e h = (is_other byte e, ih there)

-- the word is spelled as its cut says
pub record IsCut (word : Word) (answer : Answer) : Type 0 where
  pub spells : word ≡ spelled_answer answer
  pub lacks : IsAfterLast answer

pub cut_reads : (word : Word) (answer : Answer) → cut word ≡ Some answer → IsCut word answer
unfolding cut
cut_reads [] answer is = let never : None ≡ Some answer = is in cc
cut_reads (byte ∷ rest) answer is = of (λ inner there. cut_reads rest inner there) (cut rest) refl is where
  of : ((inner : Answer) → cut rest ≡ Some inner → IsCut rest inner) → (found : Option Answer) → cut rest ≡ found → cut_before byte rest found ≡ Some answer
      → IsCut (byte ∷ rest) answer
  of ih (Some inner) there some =
      let h = ih inner there in
      let whole : IsCut (byte ∷ rest) (record inner { uri = byte ∷ inner.uri }) = record { spells = ap (λ (w : Word). byte ∷ w) h.spells; lacks = h.lacks } in
      subst (IsCut (byte ∷ rest)) (same_answer (record inner { uri = byte ∷ inner.uri }) answer some) whole
  of ih None there some = at (eqb byte 61) refl some where
    at : (b : Bool) → eqb byte 61 ≡ b → (if b then Some (record no_answer { name = rest }) else None) ≡ Some answer → IsCut (byte ∷ rest) answer
    at false e h = let never : None ≡ Some answer = h in cc
    at true e h =
        let whole : IsCut (byte ∷ rest) (record no_answer { name = rest }) = record { spells = ap (λ (n : ℕ). n ∷ rest) (is_equals byte e); lacks = lacks_none rest there } in
        subst (IsCut (byte ∷ rest)) (same_answer (record no_answer { name = rest }) answer h) whole

-- ---- all words of an update

neither : (a b : Bool) → (a || b) ≡ false → (a ≡ false) × (b ≡ false)
neither true b h = let never : true ≡ false = h in cc
neither false b h = (refl, h)

pub denied : (b : Bool) → not b ≡ true → b ≡ false
denied true h = let never : false ≡ true = h in cc
denied false h = refl

-- none of the words names this URI
unnamed : (uri : Word) (words : Words) → list_any (names uri) words ≡ false → AllByRecursion (λ (other : Answer). other.uri ≢ uri) (filter_map cut words)
unnamed uri [] none = tt
unnamed uri (word ∷ words) none =
    let parts = neither (names uri word) (list_any (names uri) words) none in
    of parts.0 (unnamed uri words parts.1) (cut word) refl
  where
    of : names uri word ≡ false → AllByRecursion (λ (other : Answer). other.uri ≢ uri) (filter_map cut words) → (found : Option Answer) → cut word ≡ found
        → AllByRecursion (λ (other : Answer). other.uri ≢ uri) (cons_option found (filter_map cut words))
    of not_it rest None is = rest
    of not_it rest (Some answer) is = (differs, rest) where
      differs : answer.uri ≢ uri
      differs same =
          let is_named : names uri word ≡ true = ap (λ (o : Option Answer). option_map_or (λ (a : Answer). bytes_eq a.uri uri) o false) is ∙ (bytes_decides answer.uri uri).1 same in
          let never : true ≡ false = sym is_named ∙ not_it in
          cc

pub record AreCut (words : Words) (answers : List Answer) : Type 0 where
  pub spell : words ≡ map spelled_answer answers
  pub lack : AllByRecursion IsAfterLast answers
  pub distinct : AreDistinct answers

pub answers_read : (words : Words) → are_answers words ≡ true → AreCut words (filter_map cut words)
unfolding are_answers
answers_read [] all = record { spell = refl; lack = tt; distinct = tt }
answers_read (word ∷ words) all =
    let parts = both (is_last word words) (are_answers words) all in
    of (answers_read words parts.1) (cut word) refl parts.0
  where
    of : AreCut words (filter_map cut words) → (found : Option Answer) → cut word ≡ found → is_last word words ≡ true → AreCut (word ∷ words) (cons_option found (filter_map cut words))
    of rest None is last =
        let never : false ≡ true = sym (ap (λ (o : Option Answer). option_map_or (λ (a : Answer). not (list_any (names a.uri) words)) o false) is) ∙ last in
        cc
    of rest (Some answer) is last =
        let alone : not (list_any (names answer.uri) words) ≡ true =
        sym (ap (λ (o : Option Answer). option_map_or (λ (a : Answer). not (list_any (names a.uri) words)) o false) is) ∙ last in
        let h = cut_reads word answer is in
        record {
          spell = ap₂ (λ (w : Word) (ws : Words). w ∷ ws) h.spells rest.spell;
          lack = (h.lacks, rest.lack);
          distinct = (unnamed answer.uri words (denied (list_any (names answer.uri) words) alone), rest.distinct);
        }

-- an answer that is spelled and cut is the same answer
pub spelled_cut : (answer : Answer) → IsAfterLast answer → cut (spelled_answer answer) ≡ Some answer
spelled_cut answer lacks = cut_there answer.uri answer.name (lacks_at answer.name lacks)

not_named : (uri : Word) (answers : List Answer) → AllByRecursion IsAfterLast answers → AllByRecursion (λ (other : Answer). other.uri ≢ uri) answers
    → list_any (names uri) (map spelled_answer answers) ≡ false
not_named uri [] lack differ = refl
not_named uri (answer ∷ answers) lack differ =
    ap₂ ◌||◌ (ap (λ (o : Option Answer). option_map_or (λ (a : Answer). bytes_eq a.uri uri) o false) (spelled_cut answer lack.0) ∙ other (bytes_eq answer.uri uri) refl)
    (not_named uri answers lack.1 differ.1)
  where
    other : (b : Bool) → bytes_eq answer.uri uri ≡ b → b ≡ false
    other true e = absurd (differ.0 ((bytes_decides answer.uri uri).0 e))
    other false e = refl

pub answers_spelled : (answers : List Answer) → AllByRecursion IsAfterLast answers → AreDistinct answers
    → (are_answers (map spelled_answer answers) ≡ true) × (filter_map cut (map spelled_answer answers) ≡ answers)
unfolding are_answers
answers_spelled [] lack distinct = (refl, refl)
answers_spelled (answer ∷ answers) lack distinct =
    let rest = answers_spelled answers lack.1 distinct.1 in
    let is = spelled_cut answer lack.0 in
    let last : is_last (spelled_answer answer) (map spelled_answer answers) ≡ true =
    ap (λ (o : Option Answer). option_map_or (λ (a : Answer). not (list_any (names a.uri) (map spelled_answer answers))) o false) is
    ∙ ap not (not_named answer.uri answers lack.1 distinct.0) in
    (ap₂ ◌&&◌ last rest.0, ap (λ (o : Option Answer). cons_option o (filter_map cut (map spelled_answer answers))) is ∙ ap (λ (l : List Answer). answer ∷ l) rest.1)
