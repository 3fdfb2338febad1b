-- A sequence is spelled by at least the bytes of the files that stand in it as contents.
use Rattle.std.proofs.Common.{◌≡◌, ◌<◌, ◌≤◌, ℕ, zero, suc, ◌+◌, Bool, true, false, cond, List, [], ◌∷◌, ◌++◌, length, Option, Some, None, Result, Ok, Err, Ordering, Less, Equal, Greater, refl, sym, ap, subst, ◌∙◌, arith}
use Rattle.std.specs.Prelude.{codes, is_some, option_and_then}
use Rattle.std.specs.Ordering.{match_ordering}
use Rattle.std.proofs.lemmas.Cmp.{ranked}
use Rattle.std.proofs.lemmas.List.{length-append}
use Rattle.det_cbor.specs.DataItem.{DataItem, UnsignedInteger, ByteString, ArrayOf, MapOf, DataItems, item_count, pair_count, spell, spell_items, spell_pairs}
use Rattle.det_cbor.specs.HeadReading.{◌>>=◌}
use Rattle.det_cbor.specs.Heads.{head_bytes}
use Rattle.serde_json.specs.Data.{Data, null, boolean, number, string, array, object, Items, no_items, item, Members, no_members, member}
use Rattle.serde_json.specs.Find.{as_str, as_object, as_null}
use Rattle.json_fields.specs.declared.flaw.Flaw.{Flaw}
use Rattle.json_fields.specs.declared.flaw.FlawKind.TheVariants.{Field}
use Rattle.json_fields.specs.Flaws.{found_or, under}
use Rattle.json_fields.specs.Pointers.{index_token, key_token}
use Rattle.json_fields.specs.Objects.{members_of, required}
use Rattle.json_fields.specs.Values.{number_up_to}
use Rattle.suit_params.specs.declared.param.Param.{Param}
use Rattle.suit_params.specs.declared.param.Param.TheVariants as params
use Rattle.suit_params.specs.declared.param.ParamKey.{ParamKey}
use Rattle.suit_params.specs.declared.param.ParamKey.TheVariants as keys
use Rattle.suit_params.specs.ParamKeys.{key_of, key_number, key_item}
use Rattle.suit_params.specs.ParamMaking.{value_item, param_pairs, params_item}
use Rattle.suit_commands.specs.Tree.{CommandTree, SequenceTree, NoSteps, StepThen, BranchesTree, NoBranches, BranchThen, NullThen}
use Rattle.suit_commands.specs.SequenceMaking.{code_of, step_items, argument_item, branch_items}
use Rattle.author.specs.declared.command_name.CommandName.{CommandName}
use Rattle.author.specs.declared.command_name.CommandName.TheVariants as names
use Rattle.author.specs.declared.file_value.FileField.{FileField}
use Rattle.author.specs.Scope.{Scope}
use Rattle.author.specs.CommandNames.{command_named, allowed, name_of}
use Rattle.author.specs.Commands.{command_said, is_end, branch_said, branch_then, sequence_of, steps_from, command_of, tries_of, branches_from}
use Rattle.author.specs.Contents.{members_in, named_length, file_length, content_length, is_content, params_from, params_length, argument_length, command_by_name, sequence_length, commands_length, command_length, tries_length, branches_length}
use Rattle.author.specs.Files.{bytes_of}
use Rattle.author.specs.FileValues.{takes_file, file_named, content_of}
use Rattle.author.specs.ParamNames.{param_named}
use Rattle.author.specs.ParamValues.{param_value, param_order, placed_among, ParamsSoFar, takes_named, takes_param, params_of}
use Rattle.author.proofs.Keeps.{Holds, WasRead, WasFlawed, holds_bind, holds_then, holds_under, holds_choice, holds_weaker}

abbrev pub Files : Type 0
Files = List (List ℕ × List ℕ)

-- ---- a file as a content

module _ (files : Files) where
  abbrev held_name : Option (List ℕ) → ℕ
  held_name (Some name) = length (bytes_of files name)
  held_name None = 0

  text_holds : (o : Option (List ℕ)) (n : ℕ) → Holds (λ name. named_length files n o ≡ length (bytes_of files name)) (found_or Field o)
  text_holds (Some name) n = WasRead name refl
  text_holds None n = WasFlawed _

  one_file : (t : FileField) (key : List ℕ) (d : Data) (n : ℕ) → Holds (λ u. named_length files n (as_str d) ≡ held_name u.name) (takes_file t key d)
  one_file t key d n =
      holds_choice (λ u. named_length files n (as_str d) ≡ held_name u.name) _ _ _
      (λ e. holds_bind (λ name. named_length files n (as_str d) ≡ length (bytes_of files name)) (λ u. named_length files n (as_str d) ≡ held_name u.name) _ _ (text_holds (as_str d) n) (λ name h. WasRead _ h))
      (λ e. WasFlawed _)

  file_members : (ms : Members) (t : FileField) (n : ℕ) → n ≡ held_name t.name → Holds (λ u. file_length files n ms ≡ held_name u.name) (members_of takes_file t ms)
  file_members no_members t n h = WasRead t h
  file_members (member key d ms) t n h =
      holds_bind (λ u. named_length files n (as_str d) ≡ held_name u.name) (λ u. file_length files n (member key d ms) ≡ held_name u.name) _ _
      (holds_under (λ u. named_length files n (as_str d) ≡ held_name u.name) (key_token key) (takes_file t key d) (one_file t key d n)) (λ u g. file_members ms u (named_length files n (as_str d)) g)

  name_holds : (o : Option (List ℕ)) (key : List ℕ) (n : ℕ) → n ≡ held_name o → Holds (λ name. n ≡ length (bytes_of files name)) (required key o)
  name_holds (Some name) key n h = WasRead name h
  name_holds None key n h = WasFlawed _

  file_holds : (ms : Members) → Holds (λ name. content_length files (object ms) ≡ length (bytes_of files name)) (file_named (object ms))
  file_holds ms =
      holds_bind (λ u. file_length files 0 ms ≡ held_name u.name) (λ name. file_length files 0 ms ≡ length (bytes_of files name)) _ _ (file_members ms (record { name = None }) 0 refl)
      (λ t h. name_holds t.name (codes "file") (file_length files 0 ms) h)

  any_bytes : (r : Result (List ℕ) Flaw) → Holds (λ bytes. 0 ≤ length bytes) r
  any_bytes (Ok bytes) = WasRead bytes (omega arith)
  any_bytes (Err f) = WasFlawed f

  pub content_holds : (d : Data) → Holds (λ bytes. content_length files d ≤ length bytes) (content_of files d)
  content_holds (object ms) =
      holds_bind (λ name. content_length files (object ms) ≡ length (bytes_of files name)) (λ bytes. content_length files (object ms) ≤ length bytes) _ _ (file_holds ms) (λ name h. WasRead _ (omega (arith, h)))
  content_holds null = any_bytes _
  content_holds (boolean b) = any_bytes _
  content_holds (number n) = any_bytes _
  content_holds (string s) = any_bytes _
  content_holds (array ds) = any_bytes _

-- ---- the content among parameters

abbrev pub content_or : ℕ → Param → ℕ
content_or n (params.Content bytes) = length bytes
content_or n _ = n

abbrev pub list_content : List Param → ℕ
list_content [] = 0
list_content (p ∷ ps) = content_or (list_content ps) p

abbrev IsOther : Param → Type 0
IsOther (params.Content bytes) = ⊥
IsOther _ = Unit {0}

abbrev number_of : Param → ℕ
number_of p = key_number (key_of p)

other_or : (n : ℕ) (p : Param) → IsOther p → content_or n p ≡ n
other_or n (params.Content bytes) h = absurd h
other_or n _ h = refl

same_number : (n : ℕ) (p q : Param) → IsOther p → number_of p ≡ number_of q → IsOther q
same_number n (params.Content b) q h e = absurd h
same_number n p (params.Content bytes) h e = not_content p h e
  where
    not_content : (x : Param) → IsOther x → number_of x ≡ 18 → ⊥
    not_content (params.Content b) g k = g
    not_content _ g k = absurd (omega (arith, k))
same_number n p _ h e = tt

content_grows : (m n : ℕ) → m ≤ n → (p : Param) → content_or m p ≤ content_or n p
content_grows m n h (params.Content bytes) = omega arith
content_grows m n h _ = h

other_by_order : (p q : Param) (qs : List Param) (o : Ordering) → o ≡ param_order p q → IsOther p → list_content qs ≤ list_content (placed_among p qs)
    → list_content (q ∷ qs) ≤ list_content (match_ordering o (p ∷ q ∷ qs) (p ∷ qs) (q ∷ placed_among p qs))
other_by_order p q qs Less e h later = omega (arith, other_or (list_content (q ∷ qs)) p h)
other_by_order p q qs Equal e h later =
    omega (arith, other_or (list_content qs) p h, other_or (list_content qs) q (same_number 0 p q h (ranked (number_of p) (number_of q) Equal e)))
other_by_order p q qs Greater e h later = content_grows (list_content qs) (list_content (placed_among p qs)) later q

other_placed : (p : Param) (list : List Param) → IsOther p → list_content list ≤ list_content (placed_among p list)
other_placed p [] h = omega (arith, other_or 0 p h)
other_placed p (q ∷ qs) h = other_by_order p q qs (param_order p q) refl h (other_placed p qs h)

content_placed : (bytes : List ℕ) (list : List Param) → list_content (placed_among (params.Content bytes) list) ≡ length bytes
content_placed bytes [] = refl
content_placed bytes (params.Vendor id ∷ qs) = content_placed bytes qs
content_placed bytes (params.Class id ∷ qs) = content_placed bytes qs
content_placed bytes (params.Device id ∷ qs) = refl
content_placed bytes (params.Digest digest ∷ qs) = content_placed bytes qs
content_placed bytes (params.Slot n ∷ qs) = content_placed bytes qs
content_placed bytes (params.Strict b ∷ qs) = content_placed bytes qs
content_placed bytes (params.Soft b ∷ qs) = content_placed bytes qs
content_placed bytes (params.Size n ∷ qs) = content_placed bytes qs
content_placed bytes (params.Content other ∷ qs) = refl
content_placed bytes (params.Uri text ∷ qs) = refl
content_placed bytes (params.Source i ∷ qs) = refl
content_placed bytes (params.Args other ∷ qs) = refl

-- ---- objects of parameters

module _ (scope : Scope) where
  abbrev Taken : ParamKey → Data → Param → Type 0
  Taken key d p = (n : ℕ) (list : List Param) → n ≤ list_content list → cond (is_content (Some key)) (content_length scope.files d) n ≤ list_content (placed_among p list)

  other_taken : (p : Param) → IsOther p → (n : ℕ) (list : List Param) → n ≤ list_content list → n ≤ list_content (placed_among p list)
  other_taken p h n list few = omega (arith, few, other_placed p list h)

  param_holds : (key : ParamKey) (d : Data) → Holds (Taken key d) (param_value scope key d)
  param_holds keys.Vendor d = holds_then (Taken keys.Vendor d) _ _ (λ x. WasRead _ (other_taken (params.Vendor x) tt))
  param_holds keys.Class d = holds_then (Taken keys.Class d) _ _ (λ x. WasRead _ (other_taken (params.Class x) tt))
  param_holds keys.Device d = holds_then (Taken keys.Device d) _ _ (λ x. WasRead _ (other_taken (params.Device x) tt))
  param_holds keys.Digest d = holds_then (Taken keys.Digest d) _ _ (λ x. WasRead _ (other_taken (params.Digest x) tt))
  param_holds keys.Slot d = holds_then (Taken keys.Slot d) _ _ (λ x. WasRead _ (other_taken (params.Slot x) tt))
  param_holds keys.Strict d = holds_then (Taken keys.Strict d) _ _ (λ x. WasRead _ (other_taken (params.Strict x) tt))
  param_holds keys.Soft d = holds_then (Taken keys.Soft d) _ _ (λ x. WasRead _ (other_taken (params.Soft x) tt))
  param_holds keys.Size d = holds_then (Taken keys.Size d) _ _ (λ x. WasRead _ (other_taken (params.Size x) tt))
  param_holds keys.Content d =
      holds_bind (λ bytes. content_length scope.files d ≤ length bytes) (Taken keys.Content d) _ _ (content_holds scope.files d)
      (λ bytes h. WasRead _ (λ n list few. omega (arith, h, content_placed bytes list)))
  param_holds keys.Uri d = holds_then (Taken keys.Uri d) _ _ (λ x. WasRead _ (other_taken (params.Uri x) tt))
  param_holds keys.Source d = holds_then (Taken keys.Source d) _ _ (λ x. WasRead _ (other_taken (params.Source x) tt))
  param_holds keys.Args d = holds_then (Taken keys.Args d) _ _ (λ x. WasRead _ (other_taken (params.Args x) tt))

  abbrev Counts : ℕ → ParamsSoFar → Type 0
  Counts n t = (t.scope ≡ scope) × (n ≤ list_content t.list)

  one_param : (t : ParamsSoFar) (o : Option ParamKey) (d : Data) (n : ℕ) → Counts n t → Holds (Counts (cond (is_content o) (content_length scope.files d) n)) (takes_named t o d)
  one_param t None d n h = WasFlawed _
  one_param t (Some key) d n h =
      holds_bind (Taken key d) (Counts (cond (is_content (Some key)) (content_length scope.files d) n)) _ _
      (subst (λ (s : Scope). Holds (Taken key d) (param_value s key d)) (sym h.0) (param_holds key d)) (λ p g. WasRead _ (h.0, g n t.list h.1))

  param_members : (ms : Members) (t : ParamsSoFar) (n : ℕ) → Counts n t → Holds (λ u. params_from scope.files n ms ≤ list_content u.list) (members_of takes_param t ms)
  param_members no_members t n h = WasRead t h.1
  param_members (member key d ms) t n h =
      let m : ℕ = cond (is_content (param_named key)) (content_length scope.files d) n in
      holds_bind (Counts m) (λ u. params_from scope.files m ms ≤ list_content u.list) _ _ (holds_under (Counts m) (key_token key) (takes_param t key d) (one_param t (param_named key) d n h))
      (λ u g. param_members ms u m g)

  list_holds : (d : Data) → Holds (λ list. params_length scope.files d ≤ list_content list) (params_of scope d)
  list_holds null = WasFlawed _
  list_holds (boolean b) = WasFlawed _
  list_holds (number n) = WasFlawed _
  list_holds (string s) = WasFlawed _
  list_holds (array ds) = WasFlawed _
  list_holds (object ms) =
      holds_bind (λ u. params_from scope.files 0 ms ≤ list_content u.list) (λ list. params_from scope.files 0 ms ≤ list_content list) _ _
      (param_members ms (record { scope = scope; list = [] }) 0 (refl, omega arith)) (λ t h. WasRead _ h)

-- ---- spellings

pub string_longer : (content : List ℕ) → length content ≤ length (spell (ByteString content))
string_longer content = omega (arith, length-append (head_bytes 2 (length content)) content)

pub array_longer : (xs : DataItems) → length (spell_items xs) ≤ length (spell (ArrayOf xs))
array_longer xs = omega (arith, length-append (head_bytes 4 (item_count xs)) (spell_items xs))

value_longer : (n : ℕ) (p : Param) → content_or n p ≤ length (spell (value_item p)) + n
value_longer n (params.Content bytes) = omega (arith, string_longer bytes)
value_longer n _ = omega arith

pairs_longer : (list : List Param) → list_content list ≤ length (spell_pairs (param_pairs list))
pairs_longer [] = omega arith
pairs_longer (p ∷ ps) =
    omega (
      arith,
      pairs_longer ps,
      value_longer (length (spell_pairs (param_pairs ps))) p,
      content_grows (list_content ps) (length (spell_pairs (param_pairs ps))) (pairs_longer ps) p,
      length-append (spell (key_item (key_of p))) (spell (value_item p) ++ spell_pairs (param_pairs ps)),
      length-append (spell (value_item p)) (spell_pairs (param_pairs ps)),
    )

params_longer : (list : List Param) → list_content list ≤ length (spell (params_item list))
params_longer list = omega (arith, pairs_longer list, length-append (head_bytes 5 (pair_count (param_pairs list))) (spell_pairs (param_pairs list)))

-- ---- commands

abbrev pub size : SequenceTree → ℕ
size s = length (spell_items (step_items s))

abbrev branches_size : BranchesTree → ℕ
branches_size bs = length (spell_items (branch_items bs))

abbrev argument_size : CommandTree → ℕ
argument_size c = length (spell (argument_item c))

inner_longer : (s : SequenceTree) → size s ≤ length (spell (ByteString (spell (ArrayOf (step_items s)))))
inner_longer s = omega (arith, array_longer (step_items s), string_longer (spell (ArrayOf (step_items s))))

step_longer : (a b : ℕ) (c : CommandTree) (s : SequenceTree) → a ≤ argument_size c → b ≤ size s → a + b ≤ size (StepThen 0 c s)
step_longer a b c s h k =
    omega (
      arith,
      h,
      k,
      length-append (spell (UnsignedInteger (code_of c))) (spell (argument_item c) ++ spell_items (step_items s)),
      length-append (spell (argument_item c)) (spell_items (step_items s)),
    )

abbrev size_of : Option SequenceTree → ℕ
size_of (Some s) = size s
size_of None = 0

branch_longer : (a b : ℕ) (o : Option SequenceTree) (bs : BranchesTree) → a ≤ size_of o → b ≤ branches_size bs → a + b ≤ branches_size (branch_then o bs)
branch_longer a b (Some s) bs h k =
    omega (arith, h, k, inner_longer s, length-append (spell (ByteString (spell (ArrayOf (step_items s))))) (spell_items (branch_items bs)))
branch_longer a b None bs h k = omega (arith, h, k, length-append (0xf6 ∷ []) (spell_items (branch_items bs)))

-- ---- names

allowed_same : (shared : Bool) (n : CommandName) → Holds (λ m. m ≡ n) (allowed shared n)
allowed_same true (names.Act kind) = WasFlawed _
allowed_same false (names.Act kind) = WasRead _ refl
allowed_same shared _ = WasRead _ refl

found_same : (shared : Bool) (o : Option CommandName) → Holds (λ n. o ≡ Some n) (found_or Field o >>= λ name. allowed shared name)
found_same shared None = WasFlawed _
found_same shared (Some n) = holds_weaker (λ m. m ≡ n) (λ m. Some n ≡ Some m) _ (allowed_same shared n) (λ m e. ap Some (sym e))

-- ---- sequences

module _ (scope : Scope) where
  abbrev AtLeast : ℕ → SequenceTree → Type 0
  AtLeast n s = n ≤ size s

  abbrev TriesAtLeast : ℕ → BranchesTree → Type 0
  TriesAtLeast n bs = n ≤ branches_size bs

  abbrev ArgumentAtLeast : ℕ → CommandTree → Type 0
  ArgumentAtLeast n c = n ≤ argument_size c

  said : (n : CommandName) (d : Data) (s : Result SequenceTree Flaw) (bs : Result BranchesTree Flaw) (inner tries : ℕ) → Holds (AtLeast inner) s → Holds (TriesAtLeast tries) bs
      → Holds (ArgumentAtLeast (argument_length scope.files (Some n) d inner tries)) (command_said scope n d s bs)
  said (names.Test kind) d s bs inner tries hs hb = holds_then (ArgumentAtLeast 0) _ _ (λ r. WasRead _ (omega arith))
  said (names.Act kind) d s bs inner tries hs hb = holds_then (ArgumentAtLeast 0) _ _ (λ r. WasRead _ (omega arith))
  said names.Index d s bs inner tries hs hb = holds_then (ArgumentAtLeast 0) _ _ (λ x. WasRead _ (omega arith))
  said names.Set d s bs inner tries hs hb =
      let n : ℕ = params_length scope.files d in
      holds_bind (λ list. n ≤ list_content list) (ArgumentAtLeast n) _ _ (holds_under (λ list. n ≤ list_content list) (index_token 1) _ (list_holds scope d))
      (λ list h. WasRead _ (omega (arith, h, params_longer list)))
  said names.Try d s bs inner tries hs hb =
      holds_bind (TriesAtLeast tries) (ArgumentAtLeast tries) _ _ (holds_under (TriesAtLeast tries) (index_token 1) bs hb) (λ x h. WasRead _ (omega (arith, h, array_longer (branch_items x))))
  said names.Run d s bs inner tries hs hb =
      holds_bind (AtLeast inner) (ArgumentAtLeast inner) _ _ (holds_under (AtLeast inner) (index_token 1) s hs) (λ x h. WasRead _ (omega (arith, h, inner_longer x)))

  named : (o : Option CommandName) (n : CommandName) (d : Data) (s : Result SequenceTree Flaw) (bs : Result BranchesTree Flaw) (inner tries : ℕ) → o ≡ Some n → Holds (AtLeast inner) s → Holds (TriesAtLeast tries) bs
      → Holds (ArgumentAtLeast (argument_length scope.files o d inner tries)) (command_said scope n d s bs)
  named o n d s bs inner tries e hs hb =
      subst (λ (x : Option CommandName). Holds (ArgumentAtLeast (argument_length scope.files x d inner tries)) (command_said scope n d s bs)) (sym e) (said n d s bs inner tries hs hb)

  null_length : (levels : ℕ) (d : Data) → is_some (as_null d) ≡ true → sequence_length scope.files levels d ≡ 0
  null_length zero d e = refl
  null_length (suc levels) (array ds) e = absurd cc
  null_length (suc levels) _ e = refl

  abbrev BranchAtLeast : ℕ → Option SequenceTree → Type 0
  BranchAtLeast n o = n ≤ size_of o

  branch_holds : (levels : ℕ) (last : Bool) (d : Data) (s : Result SequenceTree Flaw) → Holds (AtLeast (sequence_length scope.files levels d)) s
      → Holds (BranchAtLeast (sequence_length scope.files levels d)) (branch_said last d s)
  branch_holds levels false d s h =
      holds_bind (AtLeast (sequence_length scope.files levels d)) (BranchAtLeast (sequence_length scope.files levels d)) _ _ h (λ x g. WasRead (Some x) g)
  branch_holds levels true d s h =
      holds_choice (BranchAtLeast (sequence_length scope.files levels d)) (is_some (as_null d)) _ _ (λ e. WasRead None (omega (arith, null_length levels d e)))
      (λ e. holds_bind (AtLeast (sequence_length scope.files levels d)) (BranchAtLeast (sequence_length scope.files levels d)) _ _ h (λ x g. WasRead (Some x) g))

  mutual
    pub sequences : (levels : ℕ) (d : Data) → Holds (AtLeast (sequence_length scope.files levels d)) (sequence_of scope levels d)
    sequences zero d = WasFlawed _
    sequences (suc levels) (array (item d ds)) = steps levels 0 (item d ds)
    sequences (suc levels) _ = WasFlawed _

    steps : (levels i : ℕ) (ds : Items) → Holds (AtLeast (commands_length scope.files levels ds)) (steps_from scope levels i ds)
    steps levels i no_items = WasRead NoSteps (omega arith)
    steps levels i (item d ds) =
        holds_bind (ArgumentAtLeast (command_length scope.files levels d)) (AtLeast (command_length scope.files levels d + commands_length scope.files levels ds)) _ _
        (holds_under (ArgumentAtLeast (command_length scope.files levels d)) (index_token i) (command_of scope levels d) (commands levels d)) (λ c h.
        holds_bind (AtLeast (commands_length scope.files levels ds)) (AtLeast (command_length scope.files levels d + commands_length scope.files levels ds)) _ _ (steps levels (suc i) ds) (λ s hs.
        WasRead (StepThen 0 c s) (step_longer (command_length scope.files levels d) (commands_length scope.files levels ds) c s h hs)))

    commands : (levels : ℕ) (d : Data) → Holds (ArgumentAtLeast (command_length scope.files levels d)) (command_of scope levels d)
    commands levels (array (item name (item d no_items))) =
        let o : Option CommandName = command_by_name name in
        let inner : ℕ = sequence_length scope.files levels d in
        let tries_inside : ℕ = tries_length scope.files levels d in
        holds_bind (λ n. o ≡ Some n) (ArgumentAtLeast (argument_length scope.files o d inner tries_inside)) _ _
        (holds_under (λ n. o ≡ Some n) (index_token 0) (name_of scope.shared name) (found_same scope.shared o)) (λ n e.
        named o n d (sequence_of scope levels d) (tries_of scope levels d) inner tries_inside e (sequences levels d) (tries levels d))
    commands levels _ = WasFlawed _

    tries : (levels : ℕ) (d : Data) → Holds (TriesAtLeast (tries_length scope.files levels d)) (tries_of scope levels d)
    tries levels (array (item a (item b ds))) = branches levels 0 (item a (item b ds))
    tries levels _ = WasFlawed _

    branches : (levels i : ℕ) (ds : Items) → Holds (TriesAtLeast (branches_length scope.files levels ds)) (branches_from scope levels i ds)
    branches levels i no_items = WasRead NoBranches (omega arith)
    branches levels i (item d ds) =
        holds_bind (BranchAtLeast (sequence_length scope.files levels d)) (TriesAtLeast (sequence_length scope.files levels d + branches_length scope.files levels ds)) _ _
        (holds_under (BranchAtLeast (sequence_length scope.files levels d)) (index_token i) (branch_said (is_end ds) d (sequence_of scope levels d))
        (branch_holds levels (is_end ds) d (sequence_of scope levels d) (sequences levels d))) (λ o h.
        holds_bind (TriesAtLeast (branches_length scope.files levels ds)) (TriesAtLeast (sequence_length scope.files levels d + branches_length scope.files levels ds)) _ _ (branches levels (suc i) ds) (λ bs hs.
        WasRead (branch_then o bs) (branch_longer (sequence_length scope.files levels d) (branches_length scope.files levels ds) o bs h hs)))
