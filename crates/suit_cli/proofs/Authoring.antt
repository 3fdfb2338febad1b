-- The results of the code of `make`, stage by stage.
use Rattle.std.proofs.Common.{◌≡◌, ◌∙◌, ℕ, ◌<◌, ◌+◌, Bool, true, false, List, [], ◌∷◌, ◌++◌, length, drop, get_or, Some, Result, Ok, Err, inl, inr, refl, sym, ap, subst}
use Rattle.std.specs.Prelude.{◌≢◌, IfOk, IsTrue, String, string_bytes, ◌&&◌, ◌||◌}
use Rattle.std.specs.Str.{IsUtf8, bytes_eq}
use Rattle.std.specs.Result.{IsErrAnd}
use Rattle.std.proofs.lemmas.Bool.{false≢true}
use Rattle.std.proofs.lemmas.List.{drop_more}
use Rattle.std.proofs.lemmas.Slice.Eq.{bytes_eq-Decides}
use Rattle.std.specs.declared.alloc.AllocError.{AllocError}
use Rattle.std.specs.declared.alloc.Global.{Global}
use Rattle.serde_json.specs.Data.{Data}
use Rattle.serde_json.specs.Read.{read}
use Rattle.author.specs.declared.fault.DescriptionFault.{DescriptionFault}
use Rattle.author.specs.declared.fault.DescriptionFault.TheVariants as faults
use Rattle.author.specs.declared.held.Description.{Description}
use Rattle.author.specs.Faults.{IsDescription, RefusesDescription, IsFaultOf}
use Rattle.author.specs.Held.{IsDescriptionOf, value_of}
use Rattle.author.specs.Files.{has_file, has_files}
use Rattle.suit_cli.specs.declared.reply.Stop.{Stop}
use Rattle.suit_cli.specs.declared.reply.Stop.TheVariants as stops
use Rattle.suit_cli.specs.Outside.{Outside, LeavesOthers}
use Rattle.suit_cli.specs.Replies.{refused_by}
use Rattle.suit_cli.specs.Stages.{Ending, Does}
use Rattle.suit_cli.specs.Inputs.{file}
use Rattle.suit_cli.proofs.Chains.{stops_with}
use Rattle.suit_cli.specs.Json.{json_in}
use Rattle.suit_cli.specs.Authoring.{longest_named, IsNoDescription, IsNoText, value_or_stop, IsDescriptionLine, description_in, files_after, files_in, made_in, stores}

-- ---- the description

-- only a fault that has a line is told
fault_stands : (d : Data) (fault : DescriptionFault) (line : List ℕ) → IsFaultOf d fault → IsDescriptionLine fault line → RefusesDescription d fault
fault_stands d (faults.BadField pointer) line is tells = is
fault_stands d (faults.BadHex pointer) line is tells = is
fault_stands d (faults.BadUuid pointer) line is tells = is
fault_stands d (faults.TwoAlike i j) line is tells = is
fault_stands d (faults.TooMany n) line is tells = is
fault_stands d faults.NoMemory line is tells = absurd tells

pub described_there : (bytes : List ℕ) (d : Data) (p : Description) → IsUtf8 bytes → read bytes ≡ Some d → IsDescriptionOf d p → (here : Outside)
    → Does (description_in bytes) here here (Ok (value_of p))
described_there bytes d p utf8 reads is here =
    (refl, record { utf8 = utf8; reads = subst (λ (x : Data). read bytes ≡ Some x) (sym is.same) reads; describes = subst (λ (x : Data). IsDescription x) (sym is.same) is.accepted })

-- it is no JSON
no_text_there : (bytes : List ℕ) (here : Outside) (stop : Stop) → Does (json_in bytes) here here (Err stop) → Does (description_in bytes) here here (Err stop)
no_text_there bytes here (stops.Declined reply) d = (d.0, IsNoText d.1.unread d.1.says)
no_text_there bytes here (stops.Fault object) d = d
no_text_there bytes here stops.NoMemory d = d

pub no_authored_text : (bytes : List ℕ) (here : Outside) (result : Result Description Stop) (stop : Stop) → IsErrAnd result (λ e. e ≡ stop) → Does (json_in bytes) here here (Err stop)
    → Does (description_in bytes) here here (value_or_stop result)
no_authored_text bytes here (Ok description) stop is d = absurd is
no_authored_text bytes here (Err other) stop is d = subst (λ (s : Stop). Does (description_in bytes) here here (Err s)) (sym is) (no_text_there bytes here stop d)

pub no_description_there : (bytes : List ℕ) (d : Data) (fault : DescriptionFault) (line : Result (String Global) AllocError) → IsUtf8 bytes → read bytes ≡ Some d
    → IsFaultOf d fault → IfOk line (λ t. IsDescriptionLine fault (string_bytes t)) → (here : Outside) → Does (description_in bytes) here here (Err (refused_by line))
no_description_there bytes d fault (Ok line) utf8 reads is tells here = (refl, IsNoDescription d fault utf8 reads (fault_stands d fault (string_bytes line) is tells) (record { outcome_is = refl; line = tells }))
no_description_there bytes d fault (Err e) utf8 reads is tells here = refl

-- ---- the files, one after another

abbrev pub Files : Type 0
Files = List (List ℕ × List ℕ)

-- a file was read, and the others follow
pub file_then : (read : Files) (name bytes : List ℕ) (names : List (List ℕ)) (before middle after : Outside) (result : Result Files Stop)
    → Does (file longest_named name) before middle (Ok bytes) → Does (files_after (read ++ (name, bytes) ∷ []) names) middle after result
    → Does (files_after read (name ∷ names)) before after result
file_then read name bytes names before middle after (Ok files) first rest = record { value = bytes; middle = middle; given = first; later = rest }
file_then read name bytes names before middle after (Err (stops.Declined reply)) first rest = inr (record { value = bytes; middle = middle; given = first; later = rest })
file_then read name bytes names before middle after (Err (stops.Fault object)) first rest = inr (record { value = bytes; middle = middle; given = first; later = rest })
file_then read name bytes names before middle after (Err stops.NoMemory) first rest = inr (inr (record { value = bytes; middle = middle; given = first; later = rest }))

-- or it was not
pub file_stops : (read : Files) (name : List ℕ) (names : List (List ℕ)) (before after : Outside) (stop : Stop) → Does (file longest_named name) before after (Err stop)
    → Does (files_after read (name ∷ names)) before after (Err stop)
file_stops read name names before after (stops.Declined reply) does = inl does
file_stops read name names before after (stops.Fault object) does = inl does
file_stops read name names before after stops.NoMemory does = inr (inl does)

-- memory may run out before any of them
pub files_starve : (read : Files) (names : List (List ℕ)) (here : Outside) → Does (files_after read names) here here (Err stops.NoMemory)
files_starve read [] here = refl
files_starve read (name ∷ names) here = inl refl

-- ---- each name has a file then

or_more : (same p q : Bool) → (IsTrue p → IsTrue q) → IsTrue (same || p) → IsTrue (same || q)
or_more true p q more is = refl
or_more false p q more is = more is

or_else : (same q : Bool) → IsTrue q → IsTrue (same || q)
or_else true q is = refl
or_else false q is = is

has_more : (first second : Files) (name : List ℕ) → IsTrue (has_file first name) → IsTrue (has_file (first ++ second) name)
has_more [] second name has = absurd (false≢true has)
has_more (f ∷ first) second name has = or_more (bytes_eq f.0 name) (has_file first name) (has_file (first ++ second) name) (has_more first second name) has

has_last : (read : Files) (name bytes : List ℕ) → IsTrue (has_file (read ++ (name, bytes) ∷ []) name)
has_last [] name bytes = rw ((bytes_eq-Decides name name).1 refl) refl
has_last (f ∷ read) name bytes = or_else (bytes_eq f.0 name) (has_file (read ++ (name, bytes) ∷ []) name) (has_last read name bytes)

files_kept : (read : Files) (names : List (List ℕ)) (b a : Outside) (files : Files) → (files_after read names).gives b a files → (name : List ℕ) → IsTrue (has_file read name)
    → IsTrue (has_file files name)
files_kept read [] b a files given name has = subst (λ (fs : Files). IsTrue (has_file fs name)) (sym given.1) has
files_kept read (first ∷ names) b a files given name has =
    files_kept (read ++ (first, given.value) ∷ []) names given.middle a files given.later name (has_more read ((first, given.value) ∷ []) name has)

both_hold : (p q : Bool) → IsTrue p → IsTrue q → IsTrue (p && q)
both_hold true q one two = two
both_hold false q one two = absurd (false≢true one)

pub each_has : (read : Files) (names : List (List ℕ)) (b a : Outside) (files : Files) → (files_after read names).gives b a files → IsTrue (has_files files names)
each_has read [] b a files given = refl
each_has read (name ∷ names) b a files given =
    both_hold (has_file files name) (has_files files names)
    (files_kept (read ++ (name, given.value) ∷ []) names given.middle a files given.later name (has_last read name given.value))
    (each_has (read ++ (name, given.value) ∷ []) names given.middle a files given.later)

-- ---- by what was lent

pub described_by : (x y : List ℕ) → x ≡ y → (result : Result Data Stop) → ((here : Outside) → Does (description_in x) here here result) → (here : Outside)
    → Does (description_in y) here here result
described_by x y same result finds here = subst (λ (b : List ℕ). Does (description_in b) here here result) same (finds here)

pub files_by : (x y : List (List ℕ)) → x ≡ y → (b a : Outside) (result : Result Files Stop) → Does (files_in x) b a result → Does (files_in y) b a result
files_by x y same b a result does = subst (λ (names : List (List ℕ)). Does (files_in names) b a result) same does

pub made_by : (value : Data) (files : Files) (x y : List ℕ) → x ≡ y → (result : Result (List ℕ) Stop) → ((here : Outside) → Does (made_in value files x) here here result) → (here : Outside)
    → Does (made_in value files y) here here result
made_by value files x y same result finds here = subst (λ (key : List ℕ). Does (made_in value files key) here here result) same (finds here)

pub stores_by : (out x y : List ℕ) → x ≡ y → (b a : Outside) (e : Ending) → stores out x b a e → stores out y b a e
stores_by out x y same b a e stored = subst (λ (l : List ℕ). stores out l b a e) same stored

-- ---- the result of a step

-- a file was not read
pub stops_at : (read : Files) (name : List ℕ) (names : List (List ℕ)) (before after : Outside) (result : Result Files Stop) (stop : Stop) → IsErrAnd result (λ e. e ≡ stop)
    → Does (file longest_named name) before after (Err stop) → Does (files_after read (name ∷ names)) before after result
stops_at read name names before after result stop is does =
    stops_with (files_after read (name ∷ names)) before after result stop is (file_stops read name names before after stop does)

-- memory ran out behind one that was
pub starves_behind : (read : Files) (name bytes : List ℕ) (names : List (List ℕ)) (before after : Outside) (result : Result Files Stop) → IsErrAnd result (λ e. e ≡ stops.NoMemory)
    → Does (file longest_named name) before after (Ok bytes) → Does (files_after read (name ∷ names)) before after result
starves_behind read name bytes names before after result is given =
    stops_with (files_after read (name ∷ names)) before after result stops.NoMemory is
    (file_then read name bytes names before after after (Err stops.NoMemory) given (files_starve (read ++ (name, bytes) ∷ []) names after))

-- ---- the names that are left

pub name_left : (read : Files) (items : List (List ℕ)) (i : ℕ) (item none lent : List ℕ) (b a : Outside) (result : Result Files Stop) → i < length items → item ≡ get_or items i none → lent ≡ item
    → Does (files_after read (lent ∷ drop (i + 1) items)) b a result → Does (files_after read (drop i items)) b a result
name_left read items i item none lent b a result within is same does =
    subst (λ (names : List (List ℕ)). Does (files_after read names) b a result)
    (sym (drop_more items i none within ∙ ap (λ (x : List ℕ). x ∷ drop (i + 1) items) (sym is ∙ sym same))) does

-- ---- the store

-- all but the stored file is left
pub beside_by : (name : List ℕ) (before after : Outside) → after.told ≡ before.told
    → (IsTrue before.told → (other : List ℕ) → other ≢ name → after.files other ≡ before.files other)
    → (IsTrue before.told → after.pulled ≡ before.pulled) → (IsTrue before.told → after.asked ≡ before.asked) → after.flash ≡ before.flash → LeavesOthers name before after
beside_by name before after told others pulled asked flash = record { told = told; others = others; pulled = pulled; asked = asked; flash = flash }
