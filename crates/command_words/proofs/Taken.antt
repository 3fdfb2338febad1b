-- The words that the commands take, and their values.
use Rattle.std.proofs.Common.{◌≡◌, ℕ, [], ◌∷◌, length, eqb, true, false, ◌≤◌, ◌∙◌, List, Option, Some, None, refl, codes, drop, Bor, arith}
use Rattle.std.specs.List.{list_all}
use Rattle.clap.specs.Lexer.{short_of}
use Rattle.clap.specs.Takes.{takes}
use Rattle.clap.proofs.OnLiterals.{clap_on_literals}
use Rattle.command_words.specs.Tasks.{Word, Words, texts, Task, Make, Describe, Show, Init}
use Rattle.command_words.specs.Words.{is_plain}
use Rattle.command_words.specs.Table.{make_of, show_of, init_of}
use Rattle.command_words.specs.Arguments.{app_for}
use Rattle.command_words.specs.declared.arguments.Row.{Row}
use Rattle.command_words.specs.declared.arguments.Row.TheVariants as row
use Rattle.command_words.proofs.Handed.{both, value_in}
use Rattle.command_words.proofs.TextLists.{as_many}

pub no_minus : (x : ℕ) (xs : Word) → is_plain (x ∷ xs) ≡ true → eqb x 45 ≡ false
no_minus x xs h = grind arith

pub no_short : (x : ℕ) (xs : Word) → eqb x 45 ≡ false → short_of (x ∷ xs) ≡ None
no_short x xs e = rw e refl

-- ---- the words of a list that are plain

pub first_plain : (word : Word) (more : Words) → list_all is_plain (word ∷ more) ≡ true → is_plain word ≡ true
first_plain word more plain = (both (is_plain word) (list_all is_plain more) plain).0

pub rest_plain : (word : Word) (more : Words) → list_all is_plain (word ∷ more) ≡ true → list_all is_plain more ≡ true
rest_plain word more plain = (both (is_plain word) (list_all is_plain more) plain).1

-- ---- `check`, `drill`, `diag` and `run migrate`

-- a row takes any plain word after its name as this argument
abbrev TakesOne : Row → Word → Type 0
TakesOne r id = (n w : Word) → is_plain w ≡ true → (takes (app_for r) (w ∷ []) ≡ true) × (value_in (app_for r) id (n ∷ w ∷ []) ≡ Some w)

takes_check : TakesOne row.Check (codes "FILE")
unfolding clap_on_literals
takes_check n [] hw = (refl, refl)
takes_check n (w ∷ ws) hw = let ew = no_minus w ws hw in rw (ew, no_short w ws ew) (refl, refl)

takes_drill : TakesOne row.Drill (codes "NUMBER")
unfolding clap_on_literals
takes_drill n [] hw = (refl, refl)
takes_drill n (w ∷ ws) hw = let ew = no_minus w ws hw in rw (ew, no_short w ws ew) (refl, refl)

takes_diag : TakesOne row.Diagnose (codes "FILE")
unfolding clap_on_literals
takes_diag n [] hw = (refl, refl)
takes_diag n (w ∷ ws) hw = let ew = no_minus w ws hw in rw (ew, no_short w ws ew) (refl, refl)

takes_migrate : TakesOne row.Migrate (codes "BASE")
unfolding clap_on_literals
takes_migrate n [] hw = (refl, refl)
takes_migrate n (w ∷ ws) hw = let ew = no_minus w ws hw in rw (ew, no_short w ws ew) (refl, refl)

-- two words, the second of which a row takes as this argument
pub record Ones (r : Row) (id : Word) (words : Words) : Type 0 where
  pub takes_them : takes (app_for r) (drop 1 words) ≡ true
  pub name : Word
  pub value : Word
  pub are : words ≡ name ∷ value ∷ []
  pub has_value : value_in (app_for r) id words ≡ Some value

ones : (r : Row) (id : Word) → TakesOne r id → (words : Words) → length words ≡ 2 → list_all is_plain words ≡ true → Ones r id words
ones r id takes_one [] many plain = absurd (omega arith)
ones r id takes_one (n ∷ []) many plain = absurd (omega arith)
ones r id takes_one (n ∷ w ∷ []) many plain =
    let t = takes_one n w (first_plain w [] (rest_plain n (w ∷ []) plain)) in
    record { takes_them = t.0; name = n; value = w; are = refl; has_value = t.1 }
ones r id takes_one (n ∷ w ∷ x ∷ more) many plain = absurd (omega arith)

pub checks_texts : (words : List (Bor Word)) → length words ≡ 2 → list_all is_plain (texts words) ≡ true → Ones row.Check (codes "FILE") (texts words)
checks_texts words many plain = ones row.Check (codes "FILE") takes_check (texts words) (as_many words ∙ many) plain

pub drills_texts : (words : List (Bor Word)) → length words ≡ 2 → list_all is_plain (texts words) ≡ true → Ones row.Drill (codes "NUMBER") (texts words)
drills_texts words many plain = ones row.Drill (codes "NUMBER") takes_drill (texts words) (as_many words ∙ many) plain

pub diags_texts : (words : List (Bor Word)) → length words ≡ 2 → list_all is_plain (texts words) ≡ true → Ones row.Diagnose (codes "FILE") (texts words)
diags_texts words many plain = ones row.Diagnose (codes "FILE") takes_diag (texts words) (as_many words ∙ many) plain

pub migrates_texts : (words : List (Bor Word)) → length words ≡ 2 → list_all is_plain (texts words) ≡ true → Ones row.Migrate (codes "BASE") (texts words)
migrates_texts words many plain = ones row.Migrate (codes "BASE") takes_migrate (texts words) (as_many words ∙ many) plain

-- ---- `run init`

-- a row takes two words after its name as these arguments
abbrev AreTaken : Row → Word → Word → Word → Word → Word → Type 0
AreTaken r first second n v w =
    (takes (app_for r) (v ∷ w ∷ []) ≡ true)
    × (value_in (app_for r) first (n ∷ v ∷ w ∷ []) ≡ Some v)
    × (value_in (app_for r) second (n ∷ v ∷ w ∷ []) ≡ Some w)

-- two plain words, each of which is empty or does not begin with a dash
two_plain : (P : Word → Word → Type 0) → P [] []
    → ((w : ℕ) (ws : Word) → eqb w 45 ≡ false → short_of (w ∷ ws) ≡ None → P [] (w ∷ ws))
    → ((v : ℕ) (vs : Word) → eqb v 45 ≡ false → short_of (v ∷ vs) ≡ None → P (v ∷ vs) [])
    → ((v : ℕ) (vs : Word) → eqb v 45 ≡ false → short_of (v ∷ vs) ≡ None
    → (w : ℕ) (ws : Word) → eqb w 45 ≡ false → short_of (w ∷ ws) ≡ None → P (v ∷ vs) (w ∷ ws))
    → (v w : Word) → is_plain v ≡ true → is_plain w ≡ true → P v w
two_plain P none second first both [] [] hv hw = none
two_plain P none second first both [] (w ∷ ws) hv hw = let ew = no_minus w ws hw in second w ws ew (no_short w ws ew)
two_plain P none second first both (v ∷ vs) [] hv hw = let ev = no_minus v vs hv in first v vs ev (no_short v vs ev)
two_plain P none second first both (v ∷ vs) (w ∷ ws) hv hw =
    let ev = no_minus v vs hv in let ew = no_minus w ws hw in
    both v vs ev (no_short v vs ev) w ws ew (no_short w ws ew)

takes_init : (n v w : Word) → is_plain v ≡ true → is_plain w ≡ true → AreTaken row.Init (codes "DEVICE") (codes "KEY") n v w
unfolding clap_on_literals
takes_init n =
    two_plain (AreTaken row.Init (codes "DEVICE") (codes "KEY") n) (refl, refl, refl) (λ w ws e s. rw (e, s) (refl, refl, refl)) (λ v vs e s. rw (e, s) (refl, refl, refl))
    (λ v vs ev sv w ws ew sw. rw (ev, sv, ew, sw) (refl, refl, refl))

pub record Inits (words : Words) : Type 0 where
  pub takes_them : takes (app_for row.Init) (drop 1 words) ≡ true
  pub device : Word
  pub key : Word
  pub has_device : value_in (app_for row.Init) (codes "DEVICE") words ≡ Some device
  pub has_key : value_in (app_for row.Init) (codes "KEY") words ≡ Some key
  pub table : init_of words ≡ Some (Init device key)

pub inits : (words : Words) → length words ≡ 3 → list_all is_plain words ≡ true → Inits words
inits [] many plain = absurd (omega arith)
inits (n ∷ []) many plain = absurd (omega arith)
inits (n ∷ v ∷ []) many plain = absurd (omega arith)
inits (n ∷ v ∷ w ∷ []) many plain =
    let behind = rest_plain n (v ∷ w ∷ []) plain in
    let t = takes_init n v w (first_plain v (w ∷ []) behind) (first_plain w [] (rest_plain v (w ∷ []) behind)) in
    record { takes_them = t.0; device = v; key = w; has_device = t.1; has_key = t.2; table = refl }
inits (n ∷ v ∷ w ∷ x ∷ more) many plain = absurd (omega arith)

pub inits_texts : (words : List (Bor Word)) → length words ≡ 3 → list_all is_plain (texts words) ≡ true → Inits (texts words)
inits_texts words many plain = inits (texts words) (as_many words ∙ many) plain

-- ---- `show`

takes_describe : (n w : Word) → is_plain w ≡ true
    → (takes (app_for row.Show) (w ∷ []) ≡ true)
    × (value_in (app_for row.Show) (codes "FILE") (n ∷ w ∷ []) ≡ Some w)
    × (value_in (app_for row.Show) (codes "KEY") (n ∷ w ∷ []) ≡ None)
unfolding clap_on_literals
takes_describe n [] hw = (refl, refl, refl)
takes_describe n (w ∷ ws) hw = let ew = no_minus w ws hw in rw (ew, no_short w ws ew) (refl, refl, refl)

takes_show : (n v w : Word) → is_plain v ≡ true → is_plain w ≡ true → AreTaken row.Show (codes "FILE") (codes "KEY") n v w
unfolding clap_on_literals
takes_show n =
    two_plain (AreTaken row.Show (codes "FILE") (codes "KEY") n) (refl, refl, refl) (λ w ws e s. rw (e, s) (refl, refl, refl)) (λ v vs e s. rw (e, s) (refl, refl, refl))
    (λ v vs ev sv w ws ew sw. rw (ev, sv, ew, sw) (refl, refl, refl))

-- to show a file, under a key if there is one
abbrev pub shown : Word → Option Word → Task
shown file None = Describe file
shown file (Some key) = Show file key

pub record Shows (words : Words) : Type 0 where
  pub takes_them : takes (app_for row.Show) (drop 1 words) ≡ true
  pub file : Word
  pub key : Option Word
  pub has_file : value_in (app_for row.Show) (codes "FILE") words ≡ Some file
  pub has_key : value_in (app_for row.Show) (codes "KEY") words ≡ key
  pub table : show_of words ≡ Some (shown file key)

pub shows : (words : Words) → 2 ≤ length words → length words ≤ 3 → list_all is_plain words ≡ true → Shows words
shows [] some few plain = absurd (omega arith)
shows (n ∷ []) some few plain = absurd (omega arith)
shows (n ∷ w ∷ []) some few plain =
    let t = takes_describe n w (first_plain w [] (rest_plain n (w ∷ []) plain)) in
    record { takes_them = t.0; file = w; key = None; has_file = t.1; has_key = t.2; table = refl }
shows (n ∷ v ∷ w ∷ []) some few plain =
    let behind = rest_plain n (v ∷ w ∷ []) plain in
    let t = takes_show n v w (first_plain v (w ∷ []) behind) (first_plain w [] (rest_plain v (w ∷ []) behind)) in
    record { takes_them = t.0; file = v; key = Some w; has_file = t.1; has_key = t.2; table = refl }
shows (n ∷ v ∷ w ∷ x ∷ more) some few plain = absurd (omega arith)

-- ---- `make`

takes_make : (n u v w : Word) → is_plain u ≡ true → is_plain v ≡ true → is_plain w ≡ true
    → (takes (app_for row.Make) (u ∷ v ∷ w ∷ []) ≡ true)
    × (value_in (app_for row.Make) (codes "DESCRIPTION") (n ∷ u ∷ v ∷ w ∷ []) ≡ Some u)
    × (value_in (app_for row.Make) (codes "KEY") (n ∷ u ∷ v ∷ w ∷ []) ≡ Some v)
    × (value_in (app_for row.Make) (codes "OUT") (n ∷ u ∷ v ∷ w ∷ []) ≡ Some w)
unfolding clap_on_literals
takes_make n [] [] [] hu hv hw = (refl, refl, refl, refl)
takes_make n [] [] (w ∷ ws) hu hv hw = let ew = no_minus w ws hw in rw (ew, no_short w ws ew) (refl, refl, refl, refl)
takes_make n [] (v ∷ vs) [] hu hv hw = let ev = no_minus v vs hv in rw (ev, no_short v vs ev) (refl, refl, refl, refl)
takes_make n [] (v ∷ vs) (w ∷ ws) hu hv hw =
    let ev = no_minus v vs hv in let ew = no_minus w ws hw in
    rw (ev, no_short v vs ev, ew, no_short w ws ew) (refl, refl, refl, refl)
takes_make n (u ∷ us) [] [] hu hv hw = let eu = no_minus u us hu in rw (eu, no_short u us eu) (refl, refl, refl, refl)
takes_make n (u ∷ us) [] (w ∷ ws) hu hv hw =
    let eu = no_minus u us hu in let ew = no_minus w ws hw in
    rw (eu, no_short u us eu, ew, no_short w ws ew) (refl, refl, refl, refl)
takes_make n (u ∷ us) (v ∷ vs) [] hu hv hw =
    let eu = no_minus u us hu in let ev = no_minus v vs hv in
    rw (eu, no_short u us eu, ev, no_short v vs ev) (refl, refl, refl, refl)
takes_make n (u ∷ us) (v ∷ vs) (w ∷ ws) hu hv hw =
    let eu = no_minus u us hu in let ev = no_minus v vs hv in let ew = no_minus w ws hw in
    rw (eu, no_short u us eu, ev, no_short v vs ev, ew, no_short w ws ew) (refl, refl, refl, refl)

pub record Makes (words : Words) : Type 0 where
  pub takes_them : takes (app_for row.Make) (drop 1 words) ≡ true
  pub description : Word
  pub key : Word
  pub out : Word
  pub has_description : value_in (app_for row.Make) (codes "DESCRIPTION") words ≡ Some description
  pub has_key : value_in (app_for row.Make) (codes "KEY") words ≡ Some key
  pub has_out : value_in (app_for row.Make) (codes "OUT") words ≡ Some out
  pub table : make_of words ≡ Some (Make description key out)

pub makes : (words : Words) → length words ≡ 4 → list_all is_plain words ≡ true → Makes words
makes [] many plain = absurd (omega arith)
makes (n ∷ []) many plain = absurd (omega arith)
makes (n ∷ u ∷ []) many plain = absurd (omega arith)
makes (n ∷ u ∷ v ∷ []) many plain = absurd (omega arith)
makes (n ∷ u ∷ v ∷ w ∷ []) many plain =
    let behind = rest_plain n (u ∷ v ∷ w ∷ []) plain in
    let last = rest_plain u (v ∷ w ∷ []) behind in
    let t = takes_make n u v w (first_plain u (v ∷ w ∷ []) behind) (first_plain v (w ∷ []) last) (first_plain w [] (rest_plain v (w ∷ []) last)) in
    record {
      takes_them = t.0;
      description = u;
      key = v;
      out = w;
      has_description = t.1;
      has_key = t.2;
      has_out = t.3;
      table = refl;
    }
makes (n ∷ u ∷ v ∷ w ∷ x ∷ more) many plain = absurd (omega arith)

pub makes_texts : (words : List (Bor Word)) → length words ≡ 4 → list_all is_plain (texts words) ≡ true → Makes (texts words)
makes_texts words many plain = makes (texts words) (as_many words ∙ many) plain
