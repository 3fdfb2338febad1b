-- Reading a map of parameters agrees with judging it.
use Rattle.std.proofs.Common.{◌≡◌, ℕ, suc, ◌+◌, Bool, true, false, cond, eqb, List, [], ◌∷◌, ◌++◌, length, Option, Some, None, Result, Ok, Err, refl, sym, ap, ◌∙◌, append_assoc, arith}
use Rattle.std.proofs.lemmas.List.{length-append, append-nil}
use Rattle.det_cbor.specs.Heads.{head_bytes}
use Rattle.det_cbor.specs.DataItem.{DataItem, UnsignedInteger, ByteString, TextString, MapOf, Boolean, DataPairs, NoPairs, PairThen, pair_count, spell, spell_pairs, IsValidWithin, ArePairsWithin}
use Rattle.det_cbor.specs.declared.head.HeadKind.TheVariants as kinds
use Rattle.det_cbor.specs.HeadReading.{◌>>=◌}
use Rattle.det_cbor.specs.HeadSpelling.{spelled}
use Rattle.det_cbor.specs.ItemOrder.{spell_parts}
use Rattle.det_cbor.specs.Position.{Position}
use Rattle.suit_params.specs.declared.digest.Digest.{Digest}
use Rattle.suit_params.specs.declared.param.Param.{Param}
use Rattle.suit_params.specs.declared.param.Param.TheVariants as params
use Rattle.suit_params.specs.declared.param.ParamKey.{ParamKey}
use Rattle.suit_params.specs.declared.param.ParamKey.TheVariants as keys
use Rattle.suit_params.specs.declared.refusal.Refusal.{Refusal}
use Rattle.suit_params.specs.declared.refusal.Why.TheVariants.{Shape, BadParam}
use Rattle.suit_params.specs.Refusing.{refused, content_place}
use Rattle.suit_params.specs.Judging.{judge_digest}
use Rattle.suit_params.specs.Reading.{kind_after, bytes_from, only_from, map_from}
use Rattle.suit_params.specs.DigestReading.{digest_at}
use Rattle.suit_params.specs.ParamJudging.{judge_key, judge_id, judge_bytes, judge_text, judge_number, judge_flag, judge_index, judge_content, judge_value, judge_pairs, judge_params}
use Rattle.suit_params.specs.ParamReading.{key_from, id_from, held_from, text_from, number_from, flag_from, bytes_value_from, value_from, params_from, params_at}
use Rattle.det_cbor.specs.ItemHeads.{item_kind, item_value, item_head, item_spelled}
use Rattle.suit_params.specs.HeadLaws.{item_head_read, bytes_again, after}
use Rattle.suit_params.specs.HeldLaws.{ReadsAs, with_rest, content_is}
use Rattle.suit_params.proofs.DigestJudging.{digest_read}
use Rattle.suit_params.specs.TextLaws.{good_text}

-- ---- keys

key_read : (levels : ℕ) (p : Position) (x : DataItem) (rest : List ℕ) → IsValidWithin levels x → p.left ≡ spell x ++ rest → key_from p ≡ (judge_key p.place x >>= with_rest (after p (spell x) rest))
unfolding key_from
key_read levels p (UnsignedInteger n) rest valid is = rw (item_head_read levels p (UnsignedInteger n) rest valid is) refl
key_read levels p x rest valid is = rw (item_head_read levels p x rest valid is) refl

-- ---- values, by kind

-- the string after a head
string_again : (p : Position) (head bytes rest : List ℕ) → bytes_from (length bytes) (after p head (bytes ++ rest)) ≡ Ok (bytes, after p (head ++ bytes) rest)
string_again p head bytes rest =
    let q = after p head (bytes ++ rest) in
    let last : q.place + length bytes ≡ p.place + length (head ++ bytes) = omega (arith, length-append head bytes) in
    bytes_again q bytes rest refl ∙ ap (λ (n : ℕ). Ok (bytes, record { left = rest; place = n })) last

by_length : {A : Type 0} (t : Bool) (r : Result (A × Position) Refusal) (e : Refusal) (a : A) (q : Position) → r ≡ Ok (a, q) → cond t r (Err e) ≡ (cond {A = Result A Refusal} t (Ok a) (Err e) >>= with_rest q)
by_length true r e a q is = is
by_length false r e a q is = refl

id_read : (levels : ℕ) (p : Position) (x : DataItem) (rest : List ℕ) → IsValidWithin levels x → p.left ≡ spell x ++ rest → id_from p ≡ (judge_id p.place x >>= with_rest (after p (spell x) rest))
unfolding id_from
id_read levels p (ByteString bytes) rest valid is =
    let head = head_bytes 2 (length bytes) in
    rw (item_head_read levels p (ByteString bytes) rest valid is)
    (by_length (eqb (length bytes) 16) (bytes_from (length bytes) (after p head (bytes ++ rest))) (refused p.place BadParam) bytes (after p (head ++ bytes) rest) (string_again p head bytes rest))
id_read levels p (UnsignedInteger n) rest valid is = rw (item_head_read levels p (UnsignedInteger n) rest valid is) refl
id_read levels p x rest valid is = rw (item_head_read levels p x rest valid is) refl

-- a content at its place, and the rest
abbrev held_at : ℕ → Position → List ℕ → Result (Position × Position) Refusal
held_at place q content = Ok (record { left = content; place = content_place place content }, q)

held_read : (levels : ℕ) (p : Position) (x : DataItem) (rest : List ℕ) → IsValidWithin levels x → p.left ≡ spell x ++ rest → held_from p ≡ (judge_bytes p.place x >>= held_at p.place (after p (spell x) rest))
unfolding held_from
held_read levels p (ByteString bytes) rest valid is =
    let head = head_bytes 2 (length bytes) in
    rw (item_head_read levels p (ByteString bytes) rest valid is, string_again p head bytes rest) refl
held_read levels p (UnsignedInteger n) rest valid is = rw (item_head_read levels p (UnsignedInteger n) rest valid is) refl
held_read levels p x rest valid is = rw (item_head_read levels p x rest valid is) refl

text_read : (levels : ℕ) (p : Position) (x : DataItem) (rest : List ℕ) → IsValidWithin levels x → p.left ≡ spell x ++ rest → text_from p ≡ (judge_text p.place x >>= with_rest (after p (spell x) rest))
unfolding text_from
text_read levels p (TextString text) rest valid is =
    let head = head_bytes 3 (length text) in
    rw (item_head_read levels p (TextString text) rest valid is, string_again p head text rest, good_text text valid.1) refl
text_read levels p (ByteString bytes) rest valid is = rw (item_head_read levels p (ByteString bytes) rest valid is) refl
text_read levels p x rest valid is = rw (item_head_read levels p x rest valid is) refl

number_read : (levels : ℕ) (p : Position) (x : DataItem) (rest : List ℕ) → IsValidWithin levels x → p.left ≡ spell x ++ rest → number_from p ≡ (judge_number p.place x >>= with_rest (after p (spell x) rest))
unfolding number_from
number_read levels p (UnsignedInteger n) rest valid is = rw (item_head_read levels p (UnsignedInteger n) rest valid is) refl
number_read levels p x rest valid is = rw (item_head_read levels p x rest valid is) refl

-- an item whose head is all of it
head_alone : (x : DataItem) → spell_parts x ≡ [] → spelled (item_head x) ≡ spell x
head_alone x none = sym (item_spelled x ∙ ap (λ (l : List ℕ). spelled (item_head x) ++ l) none ∙ append-nil (spelled (item_head x)))

flag_at : (levels : ℕ) (p : Position) (b : Bool) (rest : List ℕ) → IsValidWithin levels (Boolean b) → p.left ≡ spell (Boolean b) ++ rest → flag_from p ≡ Ok (b, after p (spell (Boolean b)) rest)
unfolding flag_from
flag_at levels p true rest valid is = rw (item_head_read levels p (Boolean true) rest valid is) (ap (λ (l : List ℕ). Ok (true, after p l rest)) (head_alone (Boolean true) refl))
flag_at levels p false rest valid is = rw (item_head_read levels p (Boolean false) rest valid is) (ap (λ (l : List ℕ). Ok (false, after p l rest)) (head_alone (Boolean false) refl))

flag_read : (levels : ℕ) (p : Position) (x : DataItem) (rest : List ℕ) → IsValidWithin levels x → p.left ≡ spell x ++ rest → flag_from p ≡ (judge_flag p.place x >>= with_rest (after p (spell x) rest))
unfolding flag_from
flag_read levels p (Boolean b) rest valid is = flag_at levels p b rest valid is
flag_read levels p x rest valid is = rw (item_head_read levels p x rest valid is) refl

-- ---- values, by key

-- a value that is read as it is judged, made into a parameter
put_in : {A : Type 0} (r : Result A Refusal) (q : Position) (make : A → Param) → ((r >>= with_rest q) >>= λ v. Ok (make v.0, v.1)) ≡ ((r >>= λ a. Ok (make a)) >>= with_rest q)
put_in (Ok a) q make = refl
put_in (Err e) q make = refl

abbrev ReadsValue : ℕ → ParamKey → ℕ → Position → DataItem → List ℕ → Type 0
ReadsValue count key levels p x rest = value_from count key p ≡ (judge_value count key p.place x >>= with_rest (after p (spell x) rest))

bytes_value_read : (levels : ℕ) (p : Position) (x : DataItem) (rest : List ℕ) → IsValidWithin levels x → p.left ≡ spell x ++ rest → bytes_value_from p ≡ (judge_bytes p.place x >>= with_rest (after p (spell x) rest))
bytes_value_read levels p x rest valid is = rw (held_read levels p x rest valid is) (by_answer (judge_bytes p.place x))
  where
    by_answer : (r : Result (List ℕ) Refusal) → ((r >>= held_at p.place (after p (spell x) rest)) >>= λ c. Ok (c.0.left, c.1)) ≡ (r >>= with_rest (after p (spell x) rest))
    by_answer (Ok bytes) = refl
    by_answer (Err e) = refl

index_read : (count levels : ℕ) (p : Position) (x : DataItem) (rest : List ℕ) → IsValidWithin levels x → p.left ≡ spell x ++ rest → ReadsValue count keys.Source levels p x rest
index_read count levels p x rest valid is = rw (number_read levels p x rest valid is) (by_answer (judge_number p.place x))
  where
    by_index : (r : Result ℕ Refusal) (q : Position) → ((r >>= with_rest q) >>= λ v. Ok (params.Source v.0, v.1)) ≡ ((r >>= λ i. Ok (params.Source i)) >>= with_rest q)
    by_index (Ok i) q = refl
    by_index (Err e) q = refl

    by_answer : (r : Result ℕ Refusal)
        → (((r >>= with_rest (after p (spell x) rest)) >>= λ n. judge_index count p.place n.0 >>= with_rest n.1) >>= λ v. Ok (params.Source v.0, v.1)) ≡ ((r >>= λ n. judge_index count p.place n >>= λ i. Ok (params.Source i)) >>= with_rest (after p (spell x) rest))
    by_answer (Ok n) = by_index (judge_index count p.place n) (after p (spell x) rest)
    by_answer (Err e) = refl

then_then : {A B C : Type 0} (r : Result A Refusal) (f : A → Result B Refusal) (g : B → Result C Refusal) → (r >>= λ a. f a >>= g) ≡ ((r >>= f) >>= g)
then_then (Ok a) f g = refl
then_then (Err e) f g = refl

-- a content is read as a digest
content_read : (levels : ℕ) (place : ℕ) (bytes : List ℕ) (q : Position) → IsValidWithin levels (ByteString bytes)
    → ((only_from (record { left = bytes; place = content_place place bytes }) >>= λ item. digest_at item >>= with_rest q) >>= λ v. Ok (params.Digest v.0, v.1)) ≡ ((judge_content place bytes >>= λ d. Ok (params.Digest d)) >>= with_rest q)
content_read levels place bytes q valid =
    let c : Position = record { left = bytes; place = content_place place bytes } in
    let reads : ReadsAs digest_at judge_digest = λ within at y v. digest_read within y at v in
    let said : (only_from c >>= digest_at) ≡ judge_content place bytes = content_is digest_at judge_digest reads levels place bytes valid in
    let first : (only_from c >>= λ item. digest_at item >>= with_rest q) ≡ (judge_content place bytes >>= with_rest q) = then_then (only_from c) digest_at (with_rest q) ∙ ap (λ (r : Result Digest Refusal). r >>= with_rest q) said in
    ap (λ (r : Result (Digest × Position) Refusal). r >>= λ v. Ok (params.Digest v.0, v.1)) first ∙ put_in (judge_content place bytes) q (λ v. params.Digest v)

digest_value_read : (count levels : ℕ) (p : Position) (x : DataItem) (rest : List ℕ) → IsValidWithin levels x → p.left ≡ spell x ++ rest → ReadsValue count keys.Digest levels p x rest
digest_value_read count levels p (ByteString bytes) rest valid is = rw (held_read levels p (ByteString bytes) rest valid is) (content_read levels p.place bytes (after p (spell (ByteString bytes)) rest) valid)
digest_value_read count levels p x rest valid is = rw (held_read levels p x rest valid is) refl

value_read : (count : ℕ) (key : ParamKey) (levels : ℕ) (p : Position) (x : DataItem) (rest : List ℕ) → IsValidWithin levels x → p.left ≡ spell x ++ rest → ReadsValue count key levels p x rest
value_read count keys.Vendor levels p x rest valid is = rw (id_read levels p x rest valid is) (put_in (judge_id p.place x) (after p (spell x) rest) (λ v. params.Vendor v))
value_read count keys.Class levels p x rest valid is = rw (id_read levels p x rest valid is) (put_in (judge_id p.place x) (after p (spell x) rest) (λ v. params.Class v))
value_read count keys.Device levels p x rest valid is = rw (id_read levels p x rest valid is) (put_in (judge_id p.place x) (after p (spell x) rest) (λ v. params.Device v))
value_read count keys.Digest levels p x rest valid is = digest_value_read count levels p x rest valid is
value_read count keys.Slot levels p x rest valid is = rw (number_read levels p x rest valid is) (put_in (judge_number p.place x) (after p (spell x) rest) (λ v. params.Slot v))
value_read count keys.Strict levels p x rest valid is = rw (flag_read levels p x rest valid is) (put_in (judge_flag p.place x) (after p (spell x) rest) (λ v. params.Strict v))
value_read count keys.Soft levels p x rest valid is = rw (flag_read levels p x rest valid is) (put_in (judge_flag p.place x) (after p (spell x) rest) (λ v. params.Soft v))
value_read count keys.Size levels p x rest valid is = rw (number_read levels p x rest valid is) (put_in (judge_number p.place x) (after p (spell x) rest) (λ v. params.Size v))
value_read count keys.Content levels p x rest valid is = rw (bytes_value_read levels p x rest valid is) (put_in (judge_bytes p.place x) (after p (spell x) rest) (λ v. params.Content v))
value_read count keys.Uri levels p x rest valid is = rw (text_read levels p x rest valid is) (put_in (judge_text p.place x) (after p (spell x) rest) (λ v. params.Uri v))
value_read count keys.Source levels p x rest valid is = index_read count levels p x rest valid is
value_read count keys.Args levels p x rest valid is = rw (bytes_value_read levels p x rest valid is) (put_in (judge_bytes p.place x) (after p (spell x) rest) (λ v. params.Args v))

-- ---- pairs

pairs_read : (count levels : ℕ) (p : Position) (before : Option (List ℕ)) (pairs : DataPairs) (rest : List ℕ) → ArePairsWithin levels before pairs → p.left ≡ spell_pairs pairs ++ rest → params_from count (pair_count pairs) p ≡ judge_pairs count p.place pairs
pairs_read count levels p before NoPairs rest valid is = refl
pairs_read count levels p before (PairThen key value others) rest valid is =
    let one : pair_count others + 1 ≡ suc (pair_count others) = omega arith in
    let behind = spell_pairs others ++ rest in
    let q = after p (spell key) (spell value ++ behind) in
    let r = after q (spell value) behind in
    let whole : p.left ≡ spell key ++ (spell value ++ behind) = is ∙ simp append_assoc in
    rw (one, key_read levels p key (spell value ++ behind) valid.0 whole)
    (by_key (judge_key p.place key) q r (λ k. value_read count k levels q value behind valid.2 refl) (pairs_read count levels r (Some (spell key)) others rest valid.3 refl))
  where
    by_value : (a : Result Param Refusal) (r : Position) → params_from count (pair_count others) r ≡ judge_pairs count r.place others
        → ((a >>= with_rest r) >>= λ v. params_from count (pair_count others) v.1 >>= λ ps. Ok (v.0 ∷ ps)) ≡ (a >>= λ p. judge_pairs count r.place others >>= λ ps. Ok (p ∷ ps))
    by_value (Ok p) r e = rw e refl
    by_value (Err s) r e = refl

    by_key : (a : Result ParamKey Refusal) (q r : Position) → ((k : ParamKey) → value_from count k q ≡ (judge_value count k q.place value >>= with_rest r)) → params_from count (pair_count others) r ≡ judge_pairs count r.place others
        → (((a >>= with_rest q) >>= λ k. value_from count k.0 k.1) >>= λ v. params_from count (pair_count others) v.1 >>= λ ps. Ok (v.0 ∷ ps)) ≡ (a >>= λ k. judge_value count k q.place value >>= λ p. judge_pairs count r.place others >>= λ ps. Ok (p ∷ ps))
    by_key (Ok k) q r reads e = rw (reads k) (by_value (judge_value count k q.place value) r e)
    by_key (Err s) q r reads e = refl

-- ---- the map

-- an item that is not a map
no_map : (count levels place : ℕ) (x : DataItem) → IsValidWithin levels x → ((p : Position) → (kind_after kinds.Map Shape place (item_value x) p (item_kind x) >>= λ n. params_from count n.0 n.1) ≡ judge_params count place x) → params_at count (record { left = spell x; place = place }) ≡ judge_params count place x
unfolding params_at map_from
no_map count levels place x valid e =
    let p : Position = record { left = spell x; place = place } in
    rw (item_head_read levels p x [] valid (sym (append-nil (spell x)))) (e (after p (spelled (item_head x)) (spell_parts x ++ [])))

pub params_read : (count : ℕ) → ReadsAs (params_at count) (judge_params count)
unfolding params_at map_from
params_read count levels place (MapOf pairs) valid =
    let p : Position = record { left = spell (MapOf pairs); place = place } in
    let q = after p (head_bytes 5 (pair_count pairs)) (spell_pairs pairs ++ []) in
    rw (item_head_read levels p (MapOf pairs) [] valid (sym (append-nil (spell (MapOf pairs))))) (pairs_read count (levels + 1) q None pairs [] valid.2 refl)
params_read count levels place x valid = no_map count levels place x valid (λ p. refl)
