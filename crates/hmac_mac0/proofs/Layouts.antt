-- Bytes begin with at most one byte string, one map and one head.
use Rattle.std.proofs.Common.{◌≡◌, ℕ, ◌+◌, ◌<◌, ◌^◌, List, [], ◌∷◌, ◌++◌, length, take, drop, Option, Some, None, Result, Ok, Err, Bool, true, refl, sym, ap, subst, ◌∙◌, append_assoc, arith, Bor}
use Rattle.std.proofs.lemmas.List.{append-nil, take_at, drop_at, length-append}
use Rattle.std.specs.Prelude.{IfOk, IfErr, IfSome, IfNone, IsTrue}
use Rattle.std.specs.Option.{is_some}
use Rattle.std.specs.Result.{result_ok}
use denote.Enum.Bare.{sameb}
use Rattle.det_cbor.specs.declared.head.Head.{Head}
use Rattle.det_cbor.specs.declared.head.HeadKind.{HeadKind}
use Rattle.det_cbor.specs.declared.head.HeadKind.TheVariants as kinds
use Rattle.det_cbor.specs.contracts.head.HeadKind.{the_type}
use Rattle.det_cbor.specs.declared.reason.CborRefusal.{CborRefusal}
use Rattle.det_cbor.specs.Heads.{head_bytes}
use Rattle.det_cbor.specs.HeadSpelling.{BeginsWith}
use Rattle.det_cbor.specs.Position.{Position, Takes}
use Rattle.det_cbor.specs.DataItem.{DataItem, ByteString, MapOf, DataPairs, pair_count, spell, spell_pairs, IsValid}
use Rattle.det_cbor.specs.OneReading.{IsItem, StartsWithItem}
use Rattle.det_cbor.proofs.BadHeads.{begun}
use Rattle.det_cbor.specs.ItemHeads.{item_head, item_begins}
use Rattle.det_cbor.proofs.OneSpelling.{one_spelling}
use Rattle.det_cbor.specs.ResultLaws.{ok_pair}
use Rattle.hmac_mac0.specs.Layout.{BeginsWithKind, StartsWithString, StartsWithMap, EndsWithTag}

pub kind_itself : (kind other : HeadKind) → kind ≡ other → sameb the_type kind other ≡ true
kind_itself kinds.Unsigned other e = subst (λ k. sameb the_type kinds.Unsigned k ≡ true) e refl
kind_itself kinds.Negative other e = subst (λ k. sameb the_type kinds.Negative k ≡ true) e refl
kind_itself kinds.Bytes other e = subst (λ k. sameb the_type kinds.Bytes k ≡ true) e refl
kind_itself kinds.Text other e = subst (λ k. sameb the_type kinds.Text k ≡ true) e refl
kind_itself kinds.Array other e = subst (λ k. sameb the_type kinds.Array k ≡ true) e refl
kind_itself kinds.Map other e = subst (λ k. sameb the_type kinds.Map k ≡ true) e refl
kind_itself kinds.Tag other e = subst (λ k. sameb the_type kinds.Tag k ≡ true) e refl
kind_itself kinds.Bool other e = subst (λ k. sameb the_type kinds.Bool k ≡ true) e refl
kind_itself kinds.Null other e = subst (λ k. sameb the_type kinds.Null k ≡ true) e refl

-- bytes begin with one head
pub one_head : (bytes : List ℕ) (h g : Head) (r s : List ℕ) → BeginsWith bytes h r → BeginsWith bytes g s → (h ≡ g) × (r ≡ s)
one_head bytes h g r s a b = ok_pair h g r s (sym (begun bytes h r a) ∙ begun bytes g s b)

-- ---- byte strings

string_head : (bytes content rest : List ℕ) → StartsWithString bytes content rest → BeginsWith bytes (record { kind = kinds.Bytes; value = length content }) (content ++ rest)
string_head bytes content rest h = record { value = h.short; parts = h.parts ∙ append_assoc (head_bytes 2 (length content)) content rest }

-- a head, and as many bytes as it says
pub string_found : (bytes after content rest : List ℕ) (count : ℕ) → BeginsWith bytes (record { kind = kinds.Bytes; value = count }) after → length content ≡ count → after ≡ content ++ rest
    → StartsWithString bytes content rest
string_found bytes after content rest count head is parts =
    record {
      short = subst (λ n. n < 2 ^ 64) (sym is) head.value;
      parts = head.parts ∙ ap (λ n. head_bytes 2 n ++ after) (sym is) ∙ ap (λ r. head_bytes 2 (length content) ++ r) parts ∙ sym (append_assoc (head_bytes 2 (length content)) content rest);
    }

-- the head was read, and too few bytes follow
pub string_short : (bytes after content rest : List ℕ) (count : ℕ) → BeginsWith bytes (record { kind = kinds.Bytes; value = count }) after → length after < count → StartsWithString bytes content rest → ⊥
string_short bytes after content rest count head less h =
    let same = one_head bytes _ _ _ _ head (string_head bytes content rest h) in
    let value : count ≡ length content = ap (λ (g : Head). g.value) same.0 in
    let long = ap length same.1 ∙ length-append content rest in
    omega arith

-- bytes begin with one byte string
pub one_string : (bytes a b r s : List ℕ) → StartsWithString bytes a r → StartsWithString bytes b s → (a ≡ b) × (r ≡ s)
one_string bytes a b r s x y =
    let same = one_head bytes _ _ _ _ (string_head bytes a r x) (string_head bytes b s y) in
    let value : length a ≡ length b = ap (λ (g : Head). g.value) same.0 in (
      sym (take_at a r (length a) refl) ∙ ap (take (length a)) same.1 ∙ take_at b s (length a) (sym value),
      sym (drop_at a r (length a) refl) ∙ ap (drop (length a)) same.1 ∙ drop_at b s (length a) (sym value),
    )

pub string_some : (bytes : List ℕ) (middle after : Position) (count : ℕ) (r : Result (Bor (List ℕ)) CborRefusal) (o : Option (Bor (List ℕ))) → o ≡ result_ok r
    → BeginsWith bytes (record { kind = kinds.Bytes; value = count }) middle.left → IfOk r (λ piece. (length piece.now ≡ count) × Takes middle after piece.now)
    → IfSome o (λ content. StartsWithString bytes content.now after.left)
string_some bytes middle after count (Ok piece) o e head ok =
    subst (λ v. IfSome v (λ content. StartsWithString bytes content.now after.left)) (sym e) (string_found bytes middle.left piece.now after.left count head ok.0 ok.1.parts)
string_some bytes middle after count (Err x) o e head ok = subst (λ v. IfSome v (λ content. StartsWithString bytes content.now after.left)) (sym e) tt

pub string_none : (bytes middle : List ℕ) (count : ℕ) (Because : CborRefusal → Type 0) (r : Result (Bor (List ℕ)) CborRefusal) (o : Option (Bor (List ℕ))) → o ≡ result_ok r
    → BeginsWith bytes (record { kind = kinds.Bytes; value = count }) middle → IfErr r (λ x. (length middle < count) × Because x)
    → IfNone o ((content rest : List ℕ) → StartsWithString bytes content rest → ⊥)
string_none bytes middle count Because (Ok piece) o e head short = subst (λ v. IfNone v ((content rest : List ℕ) → StartsWithString bytes content rest → ⊥)) (sym e) tt
string_none bytes middle count Because (Err x) o e head short =
    subst (λ v. IfNone v ((content rest : List ℕ) → StartsWithString bytes content rest → ⊥)) (sym e) (λ content rest h. string_short bytes middle content rest count head short.0 h)

-- ---- a test for a kind of head

pub found_value : (P : ℕ → Type 0) (o : Option ℕ) (b : Bool) → b ≡ is_some o → IfSome o P → IsTrue b → (n : ℕ) × P n
found_value P (Some n) b e p h = (n, p)
found_value P None b e p h = absurd cc

pub found_true : (Q : Type 0) (o : Option ℕ) (b : Bool) → b ≡ is_some o → IfNone o (Q → ⊥) → Q → IsTrue b
found_true Q (Some n) b e none q = e
found_true Q None b e none q = absurd (none q)

null_head : (rest : List ℕ) → head_bytes 7 22 ++ rest ≡ 0xf6 ∷ rest
unfolding head_bytes
null_head rest = refl

pub null_found : (bytes rest : List ℕ) (value : ℕ) → BeginsWith bytes (record { kind = kinds.Null; value = value }) rest → bytes ≡ 0xf6 ∷ rest
null_found bytes rest value h =
    let zero : value ≡ 0 = h.value in
    h.parts ∙ ap (λ n. head_bytes 7 (22 + n) ++ rest) zero ∙ null_head rest

pub null_begins : (bytes rest : List ℕ) → bytes ≡ 0xf6 ∷ rest → BeginsWithKind kinds.Null bytes
null_begins bytes rest e = (0, rest, record { value = refl; parts = e ∙ sym (null_head rest) })

-- ---- items

pub item_starts : (bytes rest : List ℕ) (x : DataItem) → IsValid x → bytes ≡ spell x ++ rest → StartsWithItem bytes x (length (spell x))
item_starts bytes rest x v e =
    record {
      spells = record { valid = v; is = ap (take (length (spell x))) e ∙ take_at (spell x) rest (length (spell x)) refl };
      within = omega (arith, ap length e, length-append (spell x) rest);
    }

-- ---- maps

is_map : (x : DataItem) (n : ℕ) → item_head x ≡ record { kind = kinds.Map; value = n } → (ps : DataPairs) × (x ≡ MapOf ps)
is_map (MapOf ps) n e = (ps, refl)
is_map _ n e = let k = ap (λ (h : Head). h.kind) e in absurd cc

pub map_found : (bytes item rest front after : List ℕ) (n : ℕ) → IsItem item → bytes ≡ item ++ rest → front ≡ item → BeginsWith front (record { kind = kinds.Map; value = n }) after → StartsWithMap bytes rest
map_found bytes item rest front after n x e is head =
    let begins = item_begins 0 x.0 front [] x.1.valid (is ∙ x.1.is ∙ sym (append-nil (spell x.0))) in
    let map = is_map x.0 n (one_head front _ _ _ _ begins head).0 in
    record {
      pairs = map.0;
      valid = subst IsValid map.1 x.1.valid;
      parts = e ∙ ap (λ i. i ++ rest) (x.1.is ∙ ap spell map.1);
    }

pub map_begins : (bytes rest item : List ℕ) (h : StartsWithMap bytes rest) → item ≡ take (length (spell (MapOf h.pairs))) bytes → BeginsWithKind kinds.Map item
map_begins bytes rest item h e =
    let starts = item_starts bytes rest (MapOf h.pairs) h.valid h.parts in
    (pair_count h.pairs, spell_pairs h.pairs ++ [], item_begins 0 (MapOf h.pairs) item [] h.valid (e ∙ starts.spells.is ∙ sym (append-nil (spell (MapOf h.pairs)))))

-- bytes begin with one map
pub one_map : (bytes r s : List ℕ) → StartsWithMap bytes r → StartsWithMap bytes s → r ≡ s
one_map bytes r s x y = (one_spelling 0 0 (MapOf x.pairs) (MapOf y.pairs) r s x.valid y.valid (sym x.parts ∙ y.parts)).1

-- ---- the parts after the protected header

-- a byte string that is followed by more is not the whole
pub not_alone : (bytes found rest content : List ℕ) → StartsWithString bytes found rest → 0 < length rest → StartsWithString bytes content [] → ⊥
not_alone bytes found rest content x more y = omega (arith, ap length (one_string bytes found content rest [] x y).1)

pub tail_map : (bytes tag : List ℕ) → EndsWithTag bytes tag → StartsWithMap bytes (0xf6 ∷ (spell (ByteString tag) ++ []))
tail_map bytes tag h = record { pairs = h.unprotected; valid = h.map; parts = h.parts }

pub tail_null : (bytes rest tag : List ℕ) → StartsWithMap bytes rest → EndsWithTag bytes tag → rest ≡ 0xf6 ∷ (spell (ByteString tag) ++ [])
tail_null bytes rest tag m h = one_map bytes rest _ m (tail_map bytes tag h)

pub tail_string : (bytes rest after tag : List ℕ) → StartsWithMap bytes rest → rest ≡ 0xf6 ∷ after → EndsWithTag bytes tag → StartsWithString after tag []
tail_string bytes rest after tag m n h =
    let both = tail_null bytes rest tag m h in
    record { short = h.short; parts = cc }

pub none_map : {A P Q : Type 0} (o : Option A) → IfNone o P → (P → Q) → IfNone o Q
none_map None p f = f p
none_map (Some x) p f = tt

pub none_is : {A P : Type 0} (o : Option A) → o ≡ None → P → IfNone o P
none_is {P = P} o e p = subst (λ v. IfNone v P) (sym e) p
