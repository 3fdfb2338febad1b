-- A table of files once a name was given bytes.
use Rattle.std.proofs.Common.{suc, zero, not, ◌≡◌, ◌≢◌, ◌<◌, ◌≤◌, ◌+◌, ℕ, List, [], ◌∷◌, ◌++◌, length, Some, None, Bool, true, false, cond, refl, arith, ap, sym, ◌∙◌, if◌then◌else◌, get_or, set}
use Rattle.std.specs.List.{position, position_or_len}
use Rattle.std.specs.Prelude.{nat_lt}
use Rattle.std.proofs.lemmas.List.Quantifiers.{position-Some}
use Rattle.std.specs.Str.{bytes_eq}
use Rattle.std.proofs.lemmas.Slice.Eq.{bytes_eq-Decides}
use Rattle.std.proofs.lemmas.Bool.{false_from_ne_true, ltb-false}
use Rattle.suit_edge.specs.MemoryHost.{file_in, with_file}

-- the name has these bytes
pub has_new_bytes : (files : List (List ℕ × List ℕ)) (name bytes : List ℕ) → file_in (with_file files name bytes) name ≡ Some bytes
has_new_bytes [] name bytes = rw ((bytes_eq-Decides name name).1 refl) refl
has_new_bytes (file ∷ files) name bytes = here (bytes_eq file.0 name) refl (has_new_bytes files name bytes)
  where
    here : (same : Bool) → bytes_eq file.0 name ≡ same → file_in (with_file files name bytes) name ≡ Some bytes →
        file_in (if same then (file.0, bytes) ∷ files else file ∷ with_file files name bytes) name ≡ Some bytes
    here true e later = rw e refl
    here false e later = rw e later

-- other names keep theirs
pub keeps_other_files : (files : List (List ℕ × List ℕ)) (name bytes other : List ℕ) → other ≢ name → file_in (with_file files name bytes) other ≡ file_in files other
keeps_other_files [] name bytes other apart =
    rw (false_from_ne_true (bytes_eq name other) (λ e. apart (sym ((bytes_eq-Decides name other).0 e)))) refl
keeps_other_files (file ∷ files) name bytes other apart =
    here (bytes_eq file.0 name) refl (keeps_other_files files name bytes other apart)
  where
    here : (same : Bool) → bytes_eq file.0 name ≡ same → file_in (with_file files name bytes) other ≡ file_in files other →
        file_in (if same then (file.0, bytes) ∷ files else file ∷ with_file files name bytes) other ≡ file_in (file ∷ files) other
    here true e later =
        rw (false_from_ne_true (bytes_eq file.0 other) (λ f. apart (sym ((bytes_eq-Decides file.0 other).0 f) ∙ (bytes_eq-Decides file.0 name).0 e))) refl
    here false e later = ap (λ found. if bytes_eq file.0 other then Some file.1 else found) later

-- whether a file has this name
abbrev pub has_name : List ℕ → List ℕ × List ℕ → Bool
has_name name file = bytes_eq file.0 name

-- the bytes are set in the first file with this name
pub set-with_file : (files : List (List ℕ × List ℕ)) (name bytes : List ℕ) (at : ℕ) (file : List ℕ × List ℕ) → at < length files →
    file ≡ get_or files at file → bytes_eq file.0 name ≡ true → ((k : ℕ) → k < at → has_name name (get_or files k file) ≡ false) →
    set files at (file.0, bytes) ≡ with_file files name bytes
set-with_file [] name bytes at file within is same before = absurd (omega (arith, within))
set-with_file (x ∷ files) name bytes zero file within is same before =
    let here : x ≡ file = sym is in rw (here, same) refl
set-with_file (x ∷ files) name bytes (suc at) file within is same before =
    let first : bytes_eq x.0 name ≡ false = before 0 (omega arith) in
    let later : set files at (file.0, bytes) ≡ with_file files name bytes =
    set-with_file files name bytes at file (omega arith) is same (λ k h. before (suc k) (omega arith)) in
    rw first (ap (λ xs. x ∷ xs) later)

-- if no file has the name, a new one is added at the end
pub push-with_file : (files : List (List ℕ × List ℕ)) (name bytes : List ℕ) → length files ≤ position_or_len (has_name name) files →
    files ++ (name, bytes) ∷ [] ≡ with_file files name bytes
push-with_file [] name bytes none = refl
push-with_file (x ∷ files) name bytes none = here (bytes_eq x.0 name) none (push-with_file files name bytes)
  where
    here : (same : Bool) → length (x ∷ files) ≤ cond (not same) (1 + position_or_len (has_name name) files) 0 →
        (length files ≤ position_or_len (has_name name) files → files ++ (name, bytes) ∷ [] ≡ with_file files name bytes) →
        x ∷ (files ++ (name, bytes) ∷ []) ≡ (if same then (x.0, bytes) ∷ files else x ∷ with_file files name bytes)
    here true none later = absurd (omega (arith, none))
    here false none later = ap (λ xs. x ∷ xs) (later (omega arith))

-- if a position was found, the bytes are set there
pub set_where_found : (files : List (List ℕ × List ℕ)) (name bytes : List ℕ) (at : ℕ) (file : List ℕ × List ℕ) →
    Some at ≡ position (has_name name) files → file ≡ get_or files at file → set files at (file.0, bytes) ≡ with_file files name bytes
set_where_found files name bytes at file found is =
    let first = position-Some (has_name name) files at file (sym found) in
    set-with_file files name bytes at file first.0 is (rw (← is) at first.1) first.2

none_from_cond : (b : Bool) (n : ℕ) → None ≡ cond b (Some n) None → b ≡ false
none_from_cond true n e = cc
none_from_cond false n e = refl

-- if none was found, the file is added at the end
pub pushed_where_missing : (files : List (List ℕ × List ℕ)) (name bytes : List ℕ) → None ≡ position (has_name name) files →
    files ++ (name, bytes) ∷ [] ≡ with_file files name bytes
pushed_where_missing files name bytes missing =
    push-with_file files name bytes (ltb-false _ _ (none_from_cond (nat_lt (position_or_len (has_name name) files) (length files)) (position_or_len (has_name name) files) missing))
