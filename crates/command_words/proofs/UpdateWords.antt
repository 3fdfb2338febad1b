-- The words of an update, and its values: a file, and any number of words after it.
use Rattle.std.proofs.Common.{◌≡◌, ◌∙◌, ◌≤◌, refl, ap, ap₂, sym, codes, true, false, Bool, ◌&&◌, Option, Some, None, ℕ, List, [], ◌∷◌, ◌++◌, length, append_assoc, nat_le, arith, Bor}
use Rattle.std.proofs.lemmas.List.{append-nil}
use Rattle.std.specs.Prelude.{fold, is_some, filter_map, unwrap_or, drop, take, ◌-◌, option_map, if◌then◌else◌}
use Rattle.std.specs.List.{list_all}
use Rattle.clap.specs.Lexer.{usize_max}
use Rattle.clap.specs.Walk.{Rule, Row, Text, Held, Walk, walked, walk_from, nothing_held, pushed, settled_rows, after_step, finished, idle, positional, first_of, all_of, word_met, value}
use Rattle.clap.specs.Simple.{Shape, built, entered, filled, with_index, matches_of}
use Rattle.clap.specs.Takes.{takes, turn_passes, walk_passes, settle_passes, default_passes, is_valid, entered_passes, value_passes}
use Rattle.clap.proofs.OnLiterals.{clap_on_literals}
use Rattle.command_words.specs.Tasks.{Word, Words, Answer, Update, texts}
use Rattle.command_words.specs.Table.{update_of}
use Rattle.command_words.specs.UriWords.{uris_of, most_uris, are_answers, cut}
use Rattle.command_words.proofs.TextLists.{as_many, dropped, to_the_end}
use Rattle.command_words.specs.Words.{is_plain}
use Rattle.command_words.specs.Arguments.{app_for, rule_for}
use Rattle.command_words.specs.declared.arguments.Row.TheVariants as row
use Rattle.command_words.specs.declared.arguments.Values.TheVariants as many
use Rattle.command_words.proofs.Handed.{both, value_in, is_that}
use Rattle.command_words.proofs.Taken.{first_plain, no_minus, no_short, rest_plain}

abbrev file : Word
file = codes "FILE"

abbrev uris : Word
uris = codes "URI=NAME"

abbrev top : Shape
top = (built (app_for row.Update)).top

abbrev rules : List Rule
rules = top.rules

-- ---- the words, one after another

plain_idle : (c : List Rule) (p : ℕ) (w : Text) (h : Held) → is_plain w ≡ true → word_met c [] false idle p w h ≡ (h, value)
plain_idle c p [] h e = refl
plain_idle c p (x ∷ xs) h e = let f = no_minus x xs e in rw f (rw (no_short x xs f) refl)

plain_positional : (c : List Rule) (p : ℕ) (w : Text) (h : Held) → is_plain w ≡ true → word_met c [] false positional p w h ≡ (h, value)
plain_positional c p [] h e = refl
plain_positional c p (x ∷ xs) h e = let f = no_minus x xs e in rw f (rw (no_short x xs f) refl)

abbrev at_first : Text → Walk
at_first v = record { held = pushed file v nothing_held; waiting = idle; position = 2; is_trailing = false; stopped = None }

abbrev at_more : Text → List Text → Walk
at_more v us = record {
  held = record { rows = settled_rows rules (Some (file, v ∷ [])) []; pending = Some (uris, us); skip = 0 };
  waiting = positional;
  position = 2;
  is_trailing = false;
  stopped = None;
}

step_zero : (v : Text) → is_plain v ≡ true → walked rules [] (walk_from nothing_held) v ≡ at_first v
unfolding walked
step_zero v e = ap (λ m. after_step rules v (walk_from nothing_held) m.0 m.1) (plain_idle rules 1 v nothing_held e)

step_first : (v w : Text) → is_plain w ≡ true → walked rules [] (at_first v) w ≡ at_more v (w ∷ [])
unfolding walked
step_first v w e = ap (λ m. after_step rules w (at_first v) m.0 m.1) (plain_idle rules 2 w (at_first v).held e)

step_more : (v : Text) (us : List Text) (w : Text) → is_plain w ≡ true → walked rules [] (at_more v us) w ≡ at_more v (us ++ w ∷ [])
unfolding walked
step_more v us w e = ap (λ m. after_step rules w (at_more v us) m.0 m.1) (plain_positional rules 2 w (at_more v us).held e)

walk_more : (v : Text) (acc us : List Text) → list_all is_plain us ≡ true → fold (walked rules []) (at_more v acc) us ≡ at_more v (acc ++ us)
walk_more v acc [] h = ap (at_more v) (sym (append-nil acc))
walk_more v acc (u ∷ us) h =
    let hs = both (is_plain u) (list_all is_plain us) h in
    ap (λ s. fold (walked rules []) s us) (step_more v acc u hs.0) ∙ walk_more v (acc ++ u ∷ []) us hs.1 ∙ ap (at_more v) (append_assoc acc (u ∷ []) us)

turn_zero : (v : Text) → is_plain v ≡ true → turn_passes top [] (walk_from nothing_held) v ≡ true
unfolding clap_on_literals
turn_zero [] e = refl
turn_zero (x ∷ xs) e = let f = no_minus x xs e in rw f (rw (no_short x xs f) refl)

turn_first : (v w : Text) → is_plain w ≡ true → turn_passes top [] (at_first v) w ≡ true
unfolding clap_on_literals
turn_first v [] e = refl
turn_first v (x ∷ xs) e = let f = no_minus x xs e in rw f (rw (no_short x xs f) refl)

turn_more : (v : Text) (us : List Text) (w : Text) → is_plain w ≡ true → turn_passes top [] (at_more v us) w ≡ true
unfolding clap_on_literals
turn_more v us [] e = refl
turn_more v us (x ∷ xs) e = let f = no_minus x xs e in rw f (rw (no_short x xs f) refl)

more_pass : (v : Text) (acc us : List Text) → list_all is_plain us ≡ true → walk_passes top [] (at_more v acc) us ≡ true
unfolding walk_passes
more_pass v acc [] h = refl
more_pass v acc (u ∷ us) h =
    let hs = both (is_plain u) (list_all is_plain us) h in
    ap₂ ◌&&◌ (turn_more v acc u hs.0) (ap (λ s. walk_passes top [] s us) (step_more v acc u hs.0) ∙ more_pass v (acc ++ u ∷ []) us hs.1)

-- ---- a file alone

takes_alone : (n v : Text) → is_plain v ≡ true
    → (takes (app_for row.Update) (v ∷ []) ≡ true)
    × (value_in (app_for row.Update) file (n ∷ v ∷ []) ≡ Some v)
    × (all_of uris (matches_of (app_for row.Update) (v ∷ [])) ≡ None)
unfolding clap_on_literals
takes_alone n [] h = (refl, refl, refl)
takes_alone n (x ∷ xs) h = let e = no_minus x xs h in rw (e, no_short x xs e) (refl, refl, refl)

-- ---- a file, and words after it

module _ (n v u : Text) (us : List Text) (hv : is_plain v ≡ true) (hu : is_plain u ≡ true) (hs : list_all is_plain us ≡ true) where
  whole_walk : fold (walked rules []) (walk_from nothing_held) (v ∷ u ∷ us) ≡ at_more v (u ∷ us)
  whole_walk = ap (λ s. fold (walked rules []) s (u ∷ us)) (step_zero v hv) ∙ ap (λ s. fold (walked rules []) s us) (step_first v u hu) ∙ walk_more v (u ∷ []) us hs

  all_pass : walk_passes top [] (walk_from nothing_held) (v ∷ u ∷ us) ≡ true
  unfolding walk_passes
  all_pass =
      ap₂ ◌&&◌ (turn_zero v hv) (ap (λ s. walk_passes top [] s (u ∷ us)) (step_zero v hv)
      ∙ ap₂ ◌&&◌ (turn_first v u hu) (ap (λ s. walk_passes top [] s us) (step_first v u hu) ∙ more_pass v (u ∷ []) us hs))

values_fine : (us : List Text) → list_all (value_passes (with_index 2 (filled (rule_for many.AnyNumber uris)))) us ≡ true
values_fine [] = refl
values_fine (u ∷ us) = values_fine us

-- the condition on the end of the walk
abbrev asked : Walk → Bool → Bool
asked w p = entered_passes (built (app_for row.Update)) w.stopped
    && (p && (settle_passes rules top.args_override_self w.held && (list_all default_passes rules && is_valid top (finished rules w.held) (is_some (entered (built (app_for row.Update)) w.stopped)))))

none_le : (n : ℕ) → nat_le 0 n ≡ true
none_le n = grind arith

end_fine : (v u : Text) (us : List Text) → nat_le (length (u ∷ us)) usize_max ≡ true → asked (at_more v (u ∷ us)) true ≡ true
unfolding clap_on_literals
end_fine v u us le = rw (le, values_fine us, none_le (length (u ∷ us))) refl

file_at_end : (v u : Text) (us : List Text) → first_of file (finished rules (at_more v (u ∷ us)).held) ≡ Some v
unfolding clap_on_literals
file_at_end v u us = refl

uris_at_end : (v u : Text) (us : List Text) → all_of uris (finished rules (at_more v (u ∷ us)).held) ≡ Some (u ∷ us)
unfolding clap_on_literals
uris_at_end v u us = refl

module _ (n v u : Text) (us : List Text) (hv : is_plain v ≡ true) (hu : is_plain u ≡ true) (hs : list_all is_plain us ≡ true) where
  takes_more : nat_le (length (u ∷ us)) usize_max ≡ true → takes (app_for row.Update) (v ∷ u ∷ us) ≡ true
  takes_more le = ap₂ asked (whole_walk n v u us hv hu hs) (all_pass n v u us hv hu hs) ∙ end_fine v u us le

  file_of_more : value_in (app_for row.Update) file (n ∷ v ∷ u ∷ us) ≡ Some v
  file_of_more = ap (λ (w : Walk). first_of file (finished rules w.held)) (whole_walk n v u us hv hu hs) ∙ file_at_end v u us

  uris_of_more : all_of uris (matches_of (app_for row.Update) (v ∷ u ∷ us)) ≡ Some (u ∷ us)
  uris_of_more = ap (λ (w : Walk). all_of uris (finished rules w.held)) (whole_walk n v u us hv hu hs) ∙ uris_at_end v u us

-- ---- all that `run update` is given

-- the values of an argument that can have any number of them
abbrev pub some_words : Words → Option Words
some_words [] = None
some_words (word ∷ words) = Some (word ∷ words)

pub record Updates (words : Words) : Type 0 where
  pub takes_them : takes (app_for row.Update) (drop 1 words) ≡ true
  pub first : Word
  pub answers : Words
  pub has_file : value_in (app_for row.Update) (codes "FILE") words ≡ Some first
  pub has_answers : all_of (codes "URI=NAME") (matches_of (app_for row.Update) (drop 1 words)) ≡ some_words answers
  pub are : answers ≡ drop 2 words
  pub table : update_of words ≡ option_map (Update first) (uris_of answers)

pub updates : (words : Words) → 2 ≤ length words → nat_le (length (drop 2 words)) usize_max ≡ true → list_all is_plain words ≡ true → Updates words
updates [] some few plain = absurd (omega arith)
updates (n ∷ []) some few plain = absurd (omega arith)
updates (n ∷ v ∷ []) some few plain =
    let t = takes_alone n v (first_plain v [] (rest_plain n (v ∷ []) plain)) in
    record { takes_them = t.0; first = v; answers = []; has_file = t.1; has_answers = t.2; are = refl; table = refl }
updates (n ∷ v ∷ u ∷ us) some few plain =
    let behind_name = rest_plain n (v ∷ u ∷ us) plain in
    let v_plain = first_plain v (u ∷ us) behind_name in
    let more = rest_plain v (u ∷ us) behind_name in
    let u_plain = first_plain u us more in
    let us_plain = rest_plain u us more in
    record {
      takes_them = takes_more n v u us v_plain u_plain us_plain few;
      first = v;
      answers = u ∷ us;
      has_file = file_of_more n v u us v_plain u_plain us_plain;
      has_answers = uris_of_more n v u us v_plain u_plain us_plain;
      are = refl;
      table = refl;
    }

few_enough : (n : ℕ) → n ≤ 64 → nat_le n usize_max ≡ true
few_enough n few = grind arith

at_most : (n : ℕ) → n ≤ 64 → nat_le n 64 ≡ true
at_most n few = grind arith

-- those after the file, as a range of the borrowed texts
abbrev pub behind : List (Bor Word) → List (Bor Word)
behind words = take (length words - 2) (drop 2 words)

behind_is : (words : List (Bor Word)) → behind words ≡ drop 2 words
behind_is words = to_the_end 2 words

pub updates_texts : (words : List (Bor Word)) → 2 ≤ length words → length (behind words) ≤ 64 → list_all is_plain (texts words) ≡ true → Updates (texts words)
updates_texts words some few plain =
    let many = as_many words in
    let rest : length (drop 2 (texts words)) ≡ length (behind words) = ap length (sym (dropped 2 words)) ∙ as_many (drop 2 words) ∙ ap length (sym (behind_is words)) in
    updates (texts words) (omega (arith, many, some)) (few_enough (length (drop 2 (texts words))) (omega (arith, rest, few))) plain

answers_are : (words : List (Bor Word)) (h : Updates (texts words)) → h.answers ≡ texts (behind words)
answers_are words h = h.are ∙ sym (dropped 2 words) ∙ ap texts (sym (behind_is words))

so_few : (words : List (Bor Word)) (h : Updates (texts words)) → length (behind words) ≤ 64 → length h.answers ≤ 64
so_few words h few = let same : length h.answers ≡ length (behind words) = ap length (answers_are words h) ∙ as_many (behind words) in omega (arith, same, few)

unwrapped : (words : Words) → unwrap_or (some_words words) [] ≡ words
unwrapped [] = refl
unwrapped (word ∷ words) = refl

-- an update of a file, given the values of its words
said_of : (words : Words) (h : Updates words) (file : Word) (got : Option Words) (said : List Answer) → length h.answers ≤ 64 → are_answers h.answers ≡ true → h.first ≡ file
    → got ≡ some_words h.answers → said ≡ filter_map cut (unwrap_or got []) → Some (Update file said) ≡ update_of words
said_of words h file got said few all is_file is_got is_said =
    let is : said ≡ filter_map cut h.answers = is_said ∙ ap (λ (o : Option Words). filter_map cut (unwrap_or o [])) is_got ∙ ap (filter_map cut) (unwrapped h.answers) in
    let yes : (nat_le (length h.answers) most_uris && are_answers h.answers) ≡ true = ap₂ ◌&&◌ (at_most (length h.answers) few) all in
    let read : uris_of h.answers ≡ Some (filter_map cut h.answers) = ap (λ (b : Bool). if b then Some (filter_map cut h.answers) else None) yes in
    sym (h.table ∙ ap (option_map (Update h.first)) read ∙ ap (λ (w : Word). Some (Update w (filter_map cut h.answers))) is_file ∙ ap (λ (s : List Answer). Some (Update file s)) (sym is))

-- an update, given the rows that were found for its words
module _ (words : List (Bor Word)) (some : 2 ≤ length words) (few : length (behind words) ≤ 64) (plain : list_all is_plain (texts words) ≡ true) where
  pub handed : (rows : List Row) → rows ≡ matches_of (app_for row.Update) (drop 1 (texts words)) → are_answers (texts (behind words)) ≡ true → (file : Word) → first_of (codes "FILE") rows ≡ Some file
      → (got : Option Words) → got ≡ all_of (codes "URI=NAME") rows → (said : List Answer) → said ≡ filter_map cut (unwrap_or got []) → Some (Update file said) ≡ update_of (texts words)
  handed rows are all file is_file got is_got said is_said =
      let h = updates_texts words some few plain in
      let first = is_that (app_for row.Update) (texts words) rows are (codes "FILE") h.first file h.has_file is_file in
      said_of (texts words) h file got said (so_few words h few) (ap are_answers (answers_are words h) ∙ all) first (is_got ∙ ap (all_of (codes "URI=NAME")) are ∙ h.has_answers) is_said
