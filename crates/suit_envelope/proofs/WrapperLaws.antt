-- The parts of a wrapper are read.
use Rattle.std.proofs.Common.{◌≡◌, ℕ, zero, suc, ◌+◌, ◌-◌, ◌<◌, ◌≤◌, List, [], ◌∷◌, ◌++◌, length, Some, None, Result, Ok, Err, refl, sym, ap, subst, ◌∙◌, arith}
use Rattle.std.specs.List.{AllByRecursion, slice_get}
use Rattle.std.specs.Prelude.{option_map}
use Rattle.std.specs.Result.{result_ok}
use Rattle.std.proofs.lemmas.List.{append-nil}
use Rattle.det_cbor.specs.Heads.{head_bytes}
use Rattle.det_cbor.specs.DataItem.{DataItem, ByteString, ArrayOf, DataItems, NoItems, ItemThen, item_count, spell, spell_items, IsValid, AreValidWithin, Spells}
use Rattle.det_cbor.specs.HeadReading.{◌>>=◌}
use Rattle.std.proofs.lemmas.Option.{slice_get_past}
use Rattle.det_cbor.specs.ResultLaws.{same_ok, not_both}
use Rattle.det_cbor.specs.Position.{Position}
use Rattle.suit_params.specs.declared.digest.Digest.{Digest}
use Rattle.suit_params.specs.declared.refusal.Refusal.{Refusal}
use Rattle.suit_params.specs.Refusing.{IsByteString, content_place, SaysWhole}
use Rattle.suit_params.specs.Digests.{IsDigest, digest_item}
use Rattle.suit_params.specs.Reading.{inside, head_from, only_from, content_from}
use Rattle.det_cbor.specs.declared.head.Head.{Head}
use Rattle.det_cbor.specs.ItemHeads.{item_head}
use Rattle.suit_params.specs.HeadLaws.{item_head_read, after}
use Rattle.suit_params.specs.JudgingLaws.{item_read}
use Rattle.suit_params.specs.HeldLaws.{by_string, content_read}
use Rattle.suit_envelope.specs.Authentic.{payload_of}
use Rattle.suit_envelope.specs.Wrapper.{placed, elements_place, IsBlock, IsWrapper}
use Rattle.suit_envelope.specs.WrapperParts.{strings_of, wrapper_item, WrapperSays, HasWrapper, start_of, digest_from, count_from, passed_from, block_from}
use Rattle.suit_envelope.proofs.WrapperJudging.{wrapper_read, wrapper_judges}

-- ---- the digest

strings_blocks : (place : ℕ) (blocks : List (List ℕ)) → AllByRecursion IsBlock (placed place (strings_of blocks))
strings_blocks place [] = tt
strings_blocks place (block ∷ blocks) = (tt, strings_blocks (place + length (spell (ByteString block))) blocks)

pub says_wrapper : (at : ℕ) (wrapper : List ℕ) (digest : Digest) (blocks : List (List ℕ)) → WrapperSays wrapper digest blocks → IsWrapper at (wrapper_item digest blocks) digest
says_wrapper at wrapper digest blocks so =
    let first = ByteString (spell (digest_item digest)) in
    let place = elements_place at (strings_of blocks) in
    let inner : SaysWhole IsDigest (content_place place (spell (digest_item digest))) (spell (digest_item digest)) digest = record { item = digest_item digest; spells = record { valid = so.digest_valid; is = refl }; says_so = record { is = refl; long = so.long } } in
    record { first = first; blocks = strings_of blocks; is = refl; holds = record { content = spell (digest_item digest); is = refl; holds = inner }; rest = strings_blocks (place + length (spell first)) blocks }

only_read : (p : Position) (x : DataItem) → IsValid x → p.left ≡ spell x → only_from p ≡ Ok (inside p x)
only_read p x valid is = rw (item_read p x [] valid (is ∙ sym (append-nil (spell x)))) refl

pub digest_read : (wrapper : List ℕ) (digest : Digest) (blocks : List (List ℕ)) → WrapperSays wrapper digest blocks → digest_from wrapper ≡ Ok digest
digest_read wrapper digest blocks so =
    let x = wrapper_item digest blocks in
    rw (only_read (start_of wrapper) x so.spells.valid so.spells.is) (wrapper_read 0 0 x so.spells.valid ∙ wrapper_judges.again 0 x digest (says_wrapper 0 wrapper digest blocks so))

-- ---- the blocks

strings_count : (blocks : List (List ℕ)) → item_count (strings_of blocks) ≡ length blocks
strings_count [] = refl
strings_count (block ∷ blocks) = omega (arith, strings_count blocks)

pub count_read : (wrapper : List ℕ) (digest : Digest) (blocks : List (List ℕ)) → WrapperSays wrapper digest blocks → count_from wrapper ≡ length blocks
count_read wrapper digest blocks so =
    let x = wrapper_item digest blocks in
    let count : item_count (strings_of blocks) + 1 - 1 ≡ length blocks = omega (arith, strings_count blocks) in
    rw (item_head_read 0 (start_of wrapper) x [] so.spells.valid (so.spells.is ∙ sym (append-nil (spell x)))) count

abbrev third : Position → Result Position Refusal
third p = content_from p >>= λ c. Ok c.0

-- the block with a number, counted from the first
nth_read : (levels n : ℕ) (p : Position) (blocks : List (List ℕ)) → AreValidWithin levels (strings_of blocks) → p.left ≡ spell_items (strings_of blocks) → n < length blocks
    → option_map (λ (c : Position). c.left) (result_ok (passed_from n p >>= third)) ≡ slice_get blocks n
nth_read levels n p [] valid is lt = absurd (omega arith)
nth_read levels zero p (block ∷ blocks) valid is lt = rw (content_read levels p (ByteString block) (spell_items (strings_of blocks)) valid.0 is) refl
nth_read levels (suc n) p (block ∷ blocks) valid is lt =
    let q = after p (spell (ByteString block)) (spell_items (strings_of blocks)) in
    rw (content_read levels p (ByteString block) (spell_items (strings_of blocks)) valid.0 is) (nth_read levels n q blocks valid.1 refl (omega arith))

-- the first byte string of a wrapper is read, and the blocks are left
pub record FirstRead (wrapper : List ℕ) (digest : Digest) (blocks : List (List ℕ)) : Type 0 where
  pub head : Head
  pub inside : Position
  pub starts : head_from (start_of wrapper) ≡ Ok (head, inside)
  pub content : Position
  pub rest : Position
  pub held : content_from inside ≡ Ok (content, rest)
  pub payload : content.left ≡ payload_of digest
  pub left : rest.left ≡ spell_items (strings_of blocks)

pub first_read : (wrapper : List ℕ) (digest : Digest) (blocks : List (List ℕ)) → WrapperSays wrapper digest blocks → FirstRead wrapper digest blocks
first_read wrapper digest blocks so =
    let x = wrapper_item digest blocks in
    let p = start_of wrapper in
    let first = ByteString (payload_of digest) in
    let left = spell_items (strings_of blocks) in
    let q = after p (head_bytes 4 (item_count (strings_of blocks) + 1)) ((spell first ++ left) ++ []) in
    let whole : (spell first ++ left) ++ [] ≡ spell first ++ left = append-nil (spell first ++ left) in
    record {
      head = item_head x;
      inside = q;
      starts = item_head_read 0 p x [] so.spells.valid (so.spells.is ∙ sym (append-nil (spell x)));
      content = record { left = payload_of digest; place = content_place q.place (payload_of digest) };
      rest = after q (spell first) left;
      held = content_read 1 q first left so.spells.valid.2.0 whole;
      payload = refl;
      left = refl;
    }

pub block_read : (wrapper : List ℕ) (digest : Digest) (blocks : List (List ℕ)) (n : ℕ) → WrapperSays wrapper digest blocks → n < length blocks → option_map (λ (c : Position). c.left) (result_ok (block_from n wrapper)) ≡ slice_get blocks n
block_read wrapper digest blocks n so lt =
    let first = first_read wrapper digest blocks so in
    rw (first.starts, first.held) (nth_read 1 n first.rest blocks so.spells.valid.2.1 first.left lt)

-- ---- an item that is a wrapper has these parts

strings_again : (place : ℕ) (xs : DataItems) → AllByRecursion IsBlock (placed place xs) → (blocks : List (List ℕ)) × (xs ≡ strings_of blocks)
strings_again place NoItems all = ([], refl)
strings_again place (ItemThen x xs) all =
    let rest = strings_again (place + length (spell x)) xs all.1 in
    by_string (λ (y : DataItem). IsByteString y → (blocks : List (List ℕ)) × (ItemThen y xs ≡ strings_of blocks))
    (λ bytes f. (bytes ∷ rest.0, ap (ItemThen (ByteString bytes)) rest.1))
    (λ y other f. absurd (other.other f))
    x all.0

pub has_wrapper : (place : ℕ) (wrapper : List ℕ) (digest : Digest) → SaysWhole IsWrapper place wrapper digest → HasWrapper wrapper
has_wrapper place wrapper digest so =
    let w = so.says_so in
    let held = w.holds in
    let inner = held.holds in
    let strings = strings_again _ w.blocks w.rest in
    let digest_is = inner.says_so.is in
    let content : held.content ≡ spell (digest_item digest) = inner.spells.is ∙ ap spell digest_is in
    let first : w.first ≡ ByteString (spell (digest_item digest)) = held.is ∙ ap ByteString content in
    let whole : so.item ≡ wrapper_item digest strings.0 = w.is ∙ ap (λ (y : DataItem). ArrayOf (ItemThen y w.blocks)) first ∙ ap (λ (ys : DataItems). ArrayOf (ItemThen (ByteString (spell (digest_item digest))) ys)) strings.1 in (
      digest,
      strings.0,
      record {
        spells = subst (λ (y : DataItem). Spells y wrapper) whole so.spells;
        digest_valid = subst IsValid digest_is inner.spells.valid;
        long = inner.says_so.long;
      },
    )

-- ---- the answers of calls

pub stated_is : (wrapper : List ℕ) (digest found : Digest) (blocks : List (List ℕ)) → WrapperSays wrapper digest blocks → Ok found ≡ digest_from wrapper → found ≡ digest
stated_is wrapper digest found blocks so e = same_ok found digest (e ∙ digest_read wrapper digest blocks so)

pub stated_never : (wrapper : List ℕ) (r : Refusal) → HasWrapper wrapper → Err r ≡ digest_from wrapper → ⊥
stated_never wrapper r has e = not_both (digest_from wrapper) has.0 r (digest_read wrapper has.0 has.1 has.2) (sym e)

pub block_past : (wrapper : List ℕ) (count n : ℕ) → count ≡ count_from wrapper → count ≤ n → (digest : Digest) (blocks : List (List ℕ)) → WrapperSays wrapper digest blocks → None ≡ slice_get blocks n
block_past wrapper count n is le digest blocks so =
    let long : count ≡ length blocks = is ∙ count_read wrapper digest blocks so in
    sym (slice_get_past blocks n (omega arith))

pub block_found : (wrapper : List ℕ) (count n : ℕ) (content : Position) → count ≡ count_from wrapper → n < count → Ok content ≡ block_from n wrapper
    → (digest : Digest) (blocks : List (List ℕ)) → WrapperSays wrapper digest blocks → Some content.left ≡ slice_get blocks n
block_found wrapper count n content is lt e digest blocks so =
    let long : count ≡ length blocks = is ∙ count_read wrapper digest blocks so in
    ap (λ (r : Result Position Refusal). option_map (λ (c : Position). c.left) (result_ok r)) e ∙ block_read wrapper digest blocks n so (omega arith)

pub block_never : (wrapper : List ℕ) (count n : ℕ) (r : Refusal) → count ≡ count_from wrapper → n < count → Err r ≡ block_from n wrapper
    → (digest : Digest) (blocks : List (List ℕ)) → WrapperSays wrapper digest blocks → None ≡ slice_get blocks n
block_never wrapper count n r is lt e digest blocks so =
    let long : count ≡ length blocks = is ∙ count_read wrapper digest blocks so in
    ap (λ (a : Result Position Refusal). option_map (λ (c : Position). c.left) (result_ok a)) e ∙ block_read wrapper digest blocks n so (omega arith)
