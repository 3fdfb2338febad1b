-- The table of commands reads what is spelled, and nothing else.
use Rattle.std.proofs.Common.{◌≡◌, ◌∙◌, ◌≤◌, ◌&&◌, not, ℕ, List, [], ◌∷◌, length, map, Bool, true, false, Option, Some, None, option_map, codes, refl, sym, ap, ap₂, subst, arith, if◌then◌else◌}
use Rattle.std.specs.Prelude.{nat_le, filter_map, unwrap_or}
use Rattle.std.specs.List.{AllByRecursion, list_all}
use Rattle.std.proofs.lemmas.List.{length-map}
use Rattle.std.specs.Str.{bytes_eq}
use Rattle.std.specs.Str.Parse.{digits_value}
use lib.Pointwise.{bytes_decides}
use Rattle.command_words.specs.Tasks.{Word, Words, Answer, Task, Make, Describe, Show, Check, Init, Update, Boot, Status, Migrate, Drill, Diagnose}
use Rattle.command_words.specs.Words.{begins_with_dash, is_plain}
use Rattle.command_words.specs.Numbers.{is_number}
use Rattle.command_words.specs.UriWords.{most_uris, are_answers, uris_of, cut}
use Rattle.command_words.specs.Table.{make_of, show_of, check_of, init_of, update_of, alone_of, migrate_of, drill_of, diag_of, run_named, run_of, named, task_in, task_of}
use Rattle.command_words.specs.Spelled.{spelled_answer, spelled, IsPlain, IsAfterLast, AreDistinct, IsWithin, Asks, AskFor, WordLaws}
use Rattle.command_words.proofs.Handed.{both}
use Rattle.command_words.proofs.Cuts.{denied, answers_read, answers_spelled}
use Rattle.command_words.proofs.NumberTexts.{number_spelled, is_that_number, number_of_decimal}

-- ---- spelled words

-- the words spell a command within its bounds
pub record Spells (words : Words) (task : Task) : Type 0 where
  pub are : words ≡ spelled task
  pub within : IsWithin task

same_task : (a b : Task) → Some a ≡ Some b → a ≡ b
same_task a b e = ap (λ (o : Option Task). unwrap_or o Boot) e

spells : (words : Words) (a b : Task) → Some a ≡ Some b → words ≡ spelled a → IsWithin a → Spells words b
spells words a b same are within = subst (Spells words) (same_task a b same) (record { are = are; within = within })

nothing : (words : Words) (task : Task) → None ≡ Some task → Spells words task
nothing words task h = let never : None ≡ Some task = h in cc

is_name : (name name_is : Word) → bytes_eq name name_is ≡ true → name ≡ name_is
is_name name name_is h = (bytes_decides name name_is).0 h

-- ---- each command

module _ (name : Word) (task : Task) where
  make_reads : name ≡ codes "make" → (words : Words) → make_of (name ∷ words) ≡ Some task → Spells (name ∷ words) task
  make_reads is [] h = nothing _ task h
  make_reads is (d ∷ []) h = nothing _ task h
  make_reads is (d ∷ k ∷ []) h = nothing _ task h
  make_reads is (d ∷ k ∷ o ∷ []) h = spells (name ∷ d ∷ k ∷ o ∷ []) (Make d k o) task h (ap (λ (n : Word). n ∷ d ∷ k ∷ o ∷ []) is) tt
  make_reads is (d ∷ k ∷ o ∷ x ∷ more) h = nothing _ task h

  show_reads : name ≡ codes "show" → (words : Words) → show_of (name ∷ words) ≡ Some task → Spells (name ∷ words) task
  show_reads is [] h = nothing _ task h
  show_reads is (f ∷ []) h = spells (name ∷ f ∷ []) (Describe f) task h (ap (λ (n : Word). n ∷ f ∷ []) is) tt
  show_reads is (f ∷ k ∷ []) h = spells (name ∷ f ∷ k ∷ []) (Show f k) task h (ap (λ (n : Word). n ∷ f ∷ k ∷ []) is) tt
  show_reads is (f ∷ k ∷ x ∷ more) h = nothing _ task h

  check_reads : name ≡ codes "check" → (words : Words) → check_of (name ∷ words) ≡ Some task → Spells (name ∷ words) task
  check_reads is [] h = nothing _ task h
  check_reads is (f ∷ []) h = spells (name ∷ f ∷ []) (Check f) task h (ap (λ (n : Word). n ∷ f ∷ []) is) tt
  check_reads is (f ∷ x ∷ more) h = nothing _ task h

  drill_reads : name ≡ codes "drill" → (words : Words) → drill_of (name ∷ words) ≡ Some task → Spells (name ∷ words) task
  drill_reads is [] h = nothing _ task h
  drill_reads is (n ∷ []) h = of (is_number n) refl h where
    of : (b : Bool) → is_number n ≡ b → option_map Drill (if b then Some (digits_value 10 n) else None) ≡ Some task → Spells (name ∷ n ∷ []) task
    of true e g = spells (name ∷ n ∷ []) (Drill (digits_value 10 n)) task g (ap₂ (λ (a b : Word). a ∷ b ∷ []) is (number_spelled n e)) (is_that_number n e).small
    of false e g = nothing _ task g
  drill_reads is (n ∷ x ∷ more) h = nothing _ task h

  diag_reads : name ≡ codes "diag" → (words : Words) → diag_of (name ∷ words) ≡ Some task → Spells (name ∷ words) task
  diag_reads is [] h = nothing _ task h
  diag_reads is (f ∷ []) h = spells (name ∷ f ∷ []) (Diagnose f) task h (ap (λ (n : Word). n ∷ f ∷ []) is) tt
  diag_reads is (f ∷ x ∷ more) h = nothing _ task h

-- ---- `run`

module _ (run name : Word) (task : Task) (is_run : run ≡ codes "run") where
  init_reads : name ≡ codes "init" → (words : Words) → init_of (name ∷ words) ≡ Some task → Spells (run ∷ name ∷ words) task
  init_reads is [] h = nothing _ task h
  init_reads is (d ∷ []) h = nothing _ task h
  init_reads is (d ∷ k ∷ []) h = spells (run ∷ name ∷ d ∷ k ∷ []) (Init d k) task h (ap₂ (λ (r n : Word). r ∷ n ∷ d ∷ k ∷ []) is_run is) tt
  init_reads is (d ∷ k ∷ x ∷ more) h = nothing _ task h

  update_reads : name ≡ codes "update" → (words : Words) → update_of (name ∷ words) ≡ Some task → Spells (run ∷ name ∷ words) task
  update_reads is [] h = nothing _ task h
  update_reads is (f ∷ words) h = of (nat_le (length words) most_uris && are_answers words) refl h where
    of : (b : Bool) → (nat_le (length words) most_uris && are_answers words) ≡ b → option_map (Update f) (if b then Some (filter_map cut words) else None) ≡ Some task
        → Spells (run ∷ name ∷ f ∷ words) task
    of false e g = nothing _ task g
    of true e g =
        let parts = both (nat_le (length words) most_uris) (are_answers words) e in
        let cuts = answers_read words parts.1 in
        let few : length (filter_map cut words) ≤ most_uris = so_few (length words) (length (filter_map cut words)) (ap length cuts.spell ∙ length-map (filter_map cut words) spelled_answer) parts.0 in
        spells (run ∷ name ∷ f ∷ words) (Update f (filter_map cut words)) task g
        (ap₂ (λ (r n : Word). r ∷ n ∷ f ∷ words) is_run is ∙ ap (λ (ws : Words). codes "run" ∷ codes "update" ∷ f ∷ ws) cuts.spell) (few, cuts.lack, cuts.distinct)
      where
        so_few : (n m : ℕ) → n ≡ m → nat_le n most_uris ≡ true → m ≤ most_uris
        so_few n m same le = grind arith

  migrate_reads : name ≡ codes "migrate" → (words : Words) → migrate_of (name ∷ words) ≡ Some task → Spells (run ∷ name ∷ words) task
  migrate_reads is [] h = nothing _ task h
  migrate_reads is (n ∷ []) h = of (is_number n) refl h where
    of : (b : Bool) → is_number n ≡ b → option_map Migrate (if b then Some (digits_value 10 n) else None) ≡ Some task → Spells (run ∷ name ∷ n ∷ []) task
    of true e g = spells (run ∷ name ∷ n ∷ []) (Migrate (digits_value 10 n)) task g
        (ap₂ (λ (r m : Word). r ∷ m ∷ n ∷ []) is_run is ∙ ap (λ (w : Word). codes "run" ∷ codes "migrate" ∷ w ∷ []) (number_spelled n e)) (is_that_number n e).small
    of false e g = nothing _ task g
  migrate_reads is (n ∷ x ∷ more) h = nothing _ task h

  alone_reads : (one : Task) → IsWithin one → spelled one ≡ codes "run" ∷ name ∷ [] → (words : Words) → alone_of one (name ∷ words) ≡ Some task → Spells (run ∷ name ∷ words) task
  alone_reads one within is [] h = spells (run ∷ name ∷ []) one task h (ap (λ (r : Word). r ∷ name ∷ []) is_run ∙ sym is) within
  alone_reads one within is (x ∷ more) h = nothing _ task h

-- ---- all of them

by_choice : {P : Type 0} (b : Bool) (x y : Option Task) (task : Task) → (if b then x else y) ≡ Some task → (b ≡ true → x ≡ Some task → P) → (y ≡ Some task → P) → P
by_choice true x y task h first second = first refl h
by_choice false x y task h first second = second h

run_named_reads : (run name : Word) (words : Words) (task : Task) → run ≡ codes "run" → run_named name (name ∷ words) ≡ Some task → Spells (run ∷ name ∷ words) task
run_named_reads run name words task is_run h =
    by_choice (bytes_eq name (codes "init")) (init_of (name ∷ words)) _ task h (λ e g. init_reads run name task is_run (is_name name (codes "init") e) words g)
    (λ h1. by_choice (bytes_eq name (codes "update")) (update_of (name ∷ words)) _ task h1 (λ e g. update_reads run name task is_run (is_name name (codes "update") e) words g)
    (λ h2. by_choice (bytes_eq name (codes "boot")) (alone_of Boot (name ∷ words)) _ task h2
    (λ e g. alone_reads run name task is_run Boot tt (ap (λ (n : Word). codes "run" ∷ n ∷ []) (sym (is_name name (codes "boot") e))) words g)
    (λ h3. by_choice (bytes_eq name (codes "status")) (alone_of Status (name ∷ words)) _ task h3
    (λ e g. alone_reads run name task is_run Status tt (ap (λ (n : Word). codes "run" ∷ n ∷ []) (sym (is_name name (codes "status") e))) words g)
    (λ h4. by_choice (bytes_eq name (codes "migrate")) (migrate_of (name ∷ words)) None task h4 (λ e g. migrate_reads run name task is_run (is_name name (codes "migrate") e) words g)
    (λ h5. nothing _ task h5)))))

run_reads : (run : Word) (words : Words) (task : Task) → run ≡ codes "run" → run_of (run ∷ words) ≡ Some task → Spells (run ∷ words) task
run_reads run [] task is_run h = nothing _ task h
run_reads run (name ∷ words) task is_run h = run_named_reads run name words task is_run h

named_reads : (name : Word) (words : Words) (task : Task) → named name (name ∷ words) ≡ Some task → Spells (name ∷ words) task
named_reads name words task h =
    by_choice (bytes_eq name (codes "make")) (make_of (name ∷ words)) _ task h (λ e g. make_reads name task (is_name name (codes "make") e) words g)
    (λ h1. by_choice (bytes_eq name (codes "show")) (show_of (name ∷ words)) _ task h1 (λ e g. show_reads name task (is_name name (codes "show") e) words g)
    (λ h2. by_choice (bytes_eq name (codes "check")) (check_of (name ∷ words)) _ task h2 (λ e g. check_reads name task (is_name name (codes "check") e) words g)
    (λ h3. by_choice (bytes_eq name (codes "run")) (run_of (name ∷ words)) _ task h3 (λ e g. run_reads name words task (is_name name (codes "run") e) g)
    (λ h4. by_choice (bytes_eq name (codes "drill")) (drill_of (name ∷ words)) _ task h4 (λ e g. drill_reads name task (is_name name (codes "drill") e) words g)
    (λ h5. by_choice (bytes_eq name (codes "diag")) (diag_of (name ∷ words)) None task h5 (λ e g. diag_reads name task (is_name name (codes "diag") e) words g)
    (λ h6. nothing _ task h6))))))

in_reads : (words : Words) (task : Task) → task_in words ≡ Some task → Spells words task
in_reads [] task h = nothing _ task h
in_reads (name ∷ words) task h = named_reads name words task h

all_plain : (words : Words) → list_all is_plain words ≡ true → AllByRecursion IsPlain words
all_plain [] h = tt
all_plain (word ∷ words) h = let parts = both (is_plain word) (list_all is_plain words) h in (denied (begins_with_dash word) parts.0, all_plain words parts.1)

plain_all : (words : Words) → AllByRecursion IsPlain words → list_all is_plain words ≡ true
plain_all [] h = refl
plain_all (word ∷ words) h = ap₂ ◌&&◌ (ap not h.0) (plain_all words h.1)

table_reads : (words : Words) (task : Task) → task_of words ≡ Some task → Asks words task
table_reads words task h = of (list_all is_plain words) refl h where
  of : (b : Bool) → list_all is_plain words ≡ b → (if b then task_in words else None) ≡ Some task → Asks words task
  of true e g = let read = in_reads words task g in record { are = read.are; plain = all_plain words e; within = read.within }
  of false e g = let never : None ≡ Some task = g in cc

-- ---- and back

uris_of_spelled : (answers : List Answer) → length answers ≤ most_uris → AllByRecursion IsAfterLast answers → AreDistinct answers → uris_of (map spelled_answer answers) ≡ Some answers
uris_of_spelled answers few lack distinct =
    let read = answers_spelled answers lack distinct in
    let as_many = length-map answers spelled_answer in
    let holds : (nat_le (length (map spelled_answer answers)) most_uris && are_answers (map spelled_answer answers)) ≡ true =
    ap₂ ◌&&◌ (so_few (length (map spelled_answer answers)) (length answers) as_many few) read.0 in
    ap (λ (b : Bool). if b then Some (filter_map cut (map spelled_answer answers)) else None) holds ∙ ap (λ (l : List Answer). Some l) read.1
  where
    so_few : (n m : ℕ) → n ≡ m → m ≤ most_uris → nat_le n most_uris ≡ true
    so_few n m same le = grind arith

in_spelled : (task : Task) → IsWithin task → task_in (spelled task) ≡ Some task
in_spelled (Make d k o) within = refl
in_spelled (Describe f) within = refl
in_spelled (Show f k) within = refl
in_spelled (Check f) within = refl
in_spelled (Init d k) within = refl
in_spelled (Update f answers) within = ap (option_map (Update f)) (uris_of_spelled answers within.0 within.1 within.2)
in_spelled Boot within = refl
in_spelled Status within = refl
in_spelled (Migrate n) within = ap (option_map Migrate) (number_of_decimal n within)
in_spelled (Drill n) within = ap (option_map Drill) (number_of_decimal n within)
in_spelled (Diagnose f) within = refl

table_of_spelled : (words : Words) (task : Task) → Asks words task → task_of words ≡ Some task
table_of_spelled words task asks =
    ap (λ (b : Bool). if b then task_in words else None) (plain_all words asks.plain) ∙ ap task_in asks.are ∙ in_spelled task asks.within

pub laws : WordLaws
laws = record {
  reads = λ words task. (table_reads words task, table_of_spelled words task);
  usage = λ words. (refuses words, refused words);
  one = λ words first second a b. same_task first second (sym (table_of_spelled words first a) ∙ table_of_spelled words second b);
} where
  refuses : (words : Words) → task_of words ≡ None → (task : Task) → Asks words task → ⊥
  refuses words none task asks = let never : None ≡ Some task = sym none ∙ table_of_spelled words task asks in cc

  refused : (words : Words) → ((task : Task) → Asks words task → ⊥) → task_of words ≡ None
  refused words never = of (task_of words) refl where
    of : (found : Option Task) → task_of words ≡ found → task_of words ≡ None
    of None is = is
    of (Some task) is = absurd (never task (table_reads words task is))

-- the table finds the task that the words ask for
pub asked : (words : Words) (found : Option Task) → found ≡ task_of words → AskFor words found
asked words None is = (laws.usage words).0 (sym is)
asked words (Some task) is = (laws.reads words task).0 (sym is)
