-- Reading codes, and arguments that hold no sequence, agrees with judging them.
use Rattle.std.proofs.Common.{◌≡◌, ℕ, suc, ◌+◌, Bool, true, false, cond, eqb, ltb, List, [], ◌∷◌, ◌++◌, length, Result, Ok, Err, refl, sym, ap, ◌∙◌, append_assoc, arith}
use Rattle.std.proofs.lemmas.List.{length-append, append-nil}
use Rattle.det_cbor.specs.Heads.{head_bytes}
use Rattle.det_cbor.specs.DataItem.{DataItem, UnsignedInteger, ArrayOf, MapOf, Boolean, DataItems, NoItems, ItemThen, item_count, spell, spell_items, IsValidWithin, AreValidWithin}
use Rattle.det_cbor.specs.HeadReading.{◌>>=◌}
use Rattle.det_cbor.specs.HeadSpelling.{spelled}
use Rattle.det_cbor.specs.ItemOrder.{spell_parts}
use Rattle.det_cbor.specs.Position.{Position}
use Rattle.det_cbor.specs.LevelLaws.{valid_alone}
use Rattle.suit_params.specs.declared.refusal.Refusal.{Refusal}
use Rattle.suit_params.specs.declared.refusal.Why.TheVariants.{BadArgument}
use Rattle.suit_params.specs.Refusing.{refused}
use Rattle.suit_params.specs.ParamJudging.{judge_params}
use Rattle.suit_params.specs.ParamReading.{next_params}
use Rattle.suit_params.specs.HeldLaws.{with_rest}
use Rattle.det_cbor.specs.ItemHeads.{item_head, item_spelled}
use Rattle.suit_params.specs.HeadLaws.{item_head_read, after}
use Rattle.suit_params.specs.JudgingLaws.{item_read}
use Rattle.suit_params.proofs.ParamReads.{params_read}
use Rattle.suit_commands.specs.declared.selection.Selection.TheVariants.{One, All, Listed}
use Rattle.suit_commands.specs.Sequences.{elements_place}
use Rattle.suit_commands.specs.SequenceJudging.{judge_code, judge_report, judge_element, judge_indices, judge_selection, judge_override}
use Rattle.suit_commands.specs.SequenceReading.{code_from, report_from, element_from, indices_from, selection_from, override_from}

-- ---- positions

-- an item whose head is all of it
pub head_alone : (x : DataItem) → spell_parts x ≡ [] → spelled (item_head x) ≡ spell x
head_alone x none = sym (item_spelled x ∙ ap (λ (l : List ℕ). spelled (item_head x) ++ l) none ∙ append-nil (spelled (item_head x)))

-- two pieces, one after the other
pub after_both : (p : Position) (first second between rest : List ℕ) → after (after p first between) second rest ≡ after p (first ++ second) rest
after_both p first second between rest =
    let last : (p.place + length first) + length second ≡ p.place + length (first ++ second) = omega (arith, length-append first second) in
    ap (λ (n : ℕ). record { left = rest; place = n }) last

-- a test before what was found
pub tested : {A : Type 0} (t : Bool) (a : A) (e : Refusal) (q : Position) → cond {A = Result (A × Position) Refusal} t (Ok (a, q)) (Err e) ≡ (cond {A = Result A Refusal} t (Ok a) (Err e) >>= with_rest q)
tested true a e q = refl
tested false a e q = refl

-- a result that is made into another
pub made : {A B : Type 0} (r : Result A Refusal) (q : Position) (make : A → B) → ((r >>= with_rest q) >>= λ v. Ok (make v.0, v.1)) ≡ ((r >>= λ a. Ok (make a)) >>= with_rest q)
made (Ok a) q make = refl
made (Err e) q make = refl

-- ---- codes and reporting policies

pub code_read : (shared : Bool) (deep : ℕ) (p : Position) (x : DataItem) (rest : List ℕ) → IsValidWithin deep x → p.left ≡ spell x ++ rest → code_from shared p ≡ (judge_code shared p.place x >>= with_rest (after p (spell x) rest))
unfolding code_from
code_read shared deep p (UnsignedInteger n) rest valid is = rw (item_head_read deep p (UnsignedInteger n) rest valid is) refl
code_read shared deep p x rest valid is = rw (item_head_read deep p x rest valid is) refl

pub report_read : (deep : ℕ) (p : Position) (x : DataItem) (rest : List ℕ) → IsValidWithin deep x → p.left ≡ spell x ++ rest → report_from p ≡ (judge_report p.place x >>= with_rest (after p (spell x) rest))
unfolding report_from
report_read deep p (UnsignedInteger n) rest valid is = rw (item_head_read deep p (UnsignedInteger n) rest valid is) (tested (ltb n 16) n (refused p.place BadArgument) (after p (spell (UnsignedInteger n)) rest))
report_read deep p x rest valid is = rw (item_head_read deep p x rest valid is) refl

-- ---- indices

element_read : (count list deep : ℕ) (p : Position) (x : DataItem) (rest : List ℕ) → IsValidWithin deep x → p.left ≡ spell x ++ rest → element_from count list p ≡ (judge_element count list p.place x >>= with_rest (after p (spell x) rest))
unfolding element_from
element_read count list deep p (UnsignedInteger n) rest valid is = rw (item_head_read deep p (UnsignedInteger n) rest valid is) refl
element_read count list deep p x rest valid is = rw (item_head_read deep p x rest valid is) refl

indices_read : (count list deep : ℕ) (p : Position) (items : DataItems) (rest : List ℕ) → AreValidWithin deep items → p.left ≡ spell_items items ++ rest
    → indices_from count list (item_count items) p ≡ (judge_indices count list p.place items >>= with_rest (after p (spell_items items) rest))
indices_read count list deep p NoItems rest valid is = nothing is
  where
    nothing : p.left ≡ rest → ◌≡◌ {A = Result (List ℕ × Position) Refusal} (Ok ([], p)) (Ok ([], after p [] rest))
    nothing e = let none : p.place ≡ p.place + 0 = omega arith in ap (λ (l : List ℕ). Ok ([], record { left = l; place = p.place })) e ∙ ap (λ (n : ℕ). Ok ([], record { left = rest; place = n })) none
indices_read count list deep p (ItemThen x others) rest valid is =
    let one : item_count others + 1 ≡ suc (item_count others) = omega arith in
    let behind = spell_items others ++ rest in
    let q = after p (spell x) behind in
    let whole : p.left ≡ spell x ++ behind = is ∙ append_assoc (spell x) (spell_items others) rest in
    rw (one, element_read count list deep p x behind valid.0 whole)
    (by_element (judge_element count list p.place x) q (after p (spell x ++ spell_items others) rest)
    (indices_read count list deep q others rest valid.1 refl ∙ ap (λ (r : Position). judge_indices count list q.place others >>= with_rest r) (after_both p (spell x) (spell_items others) behind rest)))
  where
    by_rest : (a : Result (List ℕ) Refusal) (i : ℕ) (r : Position) → ((a >>= with_rest r) >>= λ is. Ok (i ∷ is.0, is.1)) ≡ ((a >>= λ is. Ok (i ∷ is)) >>= with_rest r)
    by_rest (Ok is) i r = refl
    by_rest (Err e) i r = refl

    by_element : (a : Result ℕ Refusal) (q r : Position) → indices_from count list (item_count others) q ≡ (judge_indices count list q.place others >>= with_rest r)
        → ((a >>= with_rest q) >>= λ i. indices_from count list (item_count others) i.1 >>= λ is. Ok (i.0 ∷ is.0, is.1)) ≡ ((a >>= λ i. judge_indices count list q.place others >>= λ is. Ok (i ∷ is)) >>= with_rest r)
    by_element (Ok i) q r e = rw e (by_rest (judge_indices count list q.place others) i r)
    by_element (Err s) q r e = refl

-- ---- selections

flag_read : (count deep : ℕ) (p : Position) (b : Bool) (rest : List ℕ) → IsValidWithin deep (Boolean b) → p.left ≡ spell (Boolean b) ++ rest
    → selection_from count p ≡ (judge_selection count p.place (Boolean b) >>= with_rest (after p (spell (Boolean b)) rest))
unfolding selection_from
flag_read count deep p true rest valid is = rw (item_head_read deep p (Boolean true) rest valid is) (ap (λ (l : List ℕ). Ok (All, after p l rest)) (head_alone (Boolean true) refl))
flag_read count deep p false rest valid is = rw (item_head_read deep p (Boolean false) rest valid is) refl

one_read : (r : Result ℕ Refusal) (q : Position) → (r >>= λ i. Ok (One i, q)) ≡ ((r >>= λ i. Ok (One i)) >>= with_rest q)
one_read (Ok i) q = refl
one_read (Err e) q = refl

list_read : (t : Bool) (e : Refusal) (r : Result (List ℕ) Refusal) (found : Result (List ℕ × Position) Refusal) (q : Position) → found ≡ (r >>= with_rest q)
    → cond t (Err e) (found >>= λ is. Ok (Listed is.0, is.1)) ≡ (cond t (Err e) (r >>= λ is. Ok (Listed is)) >>= with_rest q)
list_read true e r found q is = refl
list_read false e r found q is = rw is (made r q Listed)

pub selection_read : (count deep : ℕ) (p : Position) (x : DataItem) (rest : List ℕ) → IsValidWithin deep x → p.left ≡ spell x ++ rest → selection_from count p ≡ (judge_selection count p.place x >>= with_rest (after p (spell x) rest))
unfolding selection_from
selection_read count deep p (UnsignedInteger i) rest valid is = rw (item_head_read deep p (UnsignedInteger i) rest valid is) (one_read _ (after p (spell (UnsignedInteger i)) rest))
selection_read count deep p (Boolean b) rest valid is = flag_read count deep p b rest valid is
selection_read count deep p (ArrayOf items) rest valid is =
    let head = head_bytes 4 (item_count items) in
    let q = after p head (spell_items items ++ rest) in
    let found = indices_read count p.place (deep + 1) q items rest valid.2 refl ∙ ap (λ (r : Position). judge_indices count p.place q.place items >>= with_rest r) (after_both p head (spell_items items) (spell_items items ++ rest) rest) in
    rw (item_head_read deep p (ArrayOf items) rest valid is)
    (list_read (eqb (item_count items) 0) (refused p.place BadArgument) (judge_indices count p.place (elements_place p.place items) items) (indices_from count p.place (item_count items) q) (after p (spell (ArrayOf items)) rest) found)
selection_read count deep p x rest valid is = rw (item_head_read deep p x rest valid is) refl

-- ---- overrides

map_read : (count deep : ℕ) (p : Position) (x : DataItem) (rest : List ℕ) → IsValidWithin deep x → p.left ≡ spell x ++ rest → next_params count p ≡ (judge_params count p.place x >>= with_rest (after p (spell x) rest))
map_read count deep p x rest valid is = rw (item_read p x rest (valid_alone deep x valid) is, params_read count deep p.place x valid) refl

pub override_read : (count deep : ℕ) (p : Position) (x : DataItem) (rest : List ℕ) → IsValidWithin deep x → p.left ≡ spell x ++ rest → override_from count p ≡ (judge_override count p.place x >>= with_rest (after p (spell x) rest))
unfolding override_from
override_read count deep p (MapOf pairs) rest valid is = rw (item_head_read deep p (MapOf pairs) rest valid is) (map_read count deep p (MapOf pairs) rest valid is)
override_read count deep p x rest valid is = rw (item_head_read deep p x rest valid is) refl
