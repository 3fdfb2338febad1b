-- Reading a wrapper agrees with judging it, and judging agrees with the grammar and the refusals.
use Rattle.std.proofs.Common.{◌≡◌, ℕ, suc, ◌+◌, ◌-◌, false, eqb, List, [], ◌++◌, Result, Ok, Err, refl, sym, ap, subst, ◌∙◌, append_assoc, arith}
use Rattle.std.proofs.lemmas.Bool.{ne_eqb}
use Rattle.std.proofs.lemmas.List.{append-nil}
use Rattle.det_cbor.specs.Heads.{head_bytes}
use Rattle.det_cbor.specs.DataItem.{DataItem, ArrayOf, DataItems, NoItems, ItemThen, item_count, spell, spell_items, IsValidWithin, AreValidWithin}
use Rattle.det_cbor.specs.HeadReading.{◌>>=◌}
use Rattle.det_cbor.specs.Position.{Position}
use Rattle.det_cbor.specs.ResultLaws.{bind_ok, bind_err, same_ok, same_err}
use Rattle.suit_params.specs.declared.digest.Digest.{Digest}
use Rattle.suit_params.specs.declared.refusal.Refusal.{Refusal}
use Rattle.suit_params.specs.declared.refusal.Why.TheVariants.{Shape}
use Rattle.suit_params.specs.Refusing.{refused, IsByteString, RefusesHeld, SaysHeld}
use Rattle.suit_params.specs.Digests.{IsDigest, RefusesDigest}
use Rattle.suit_params.specs.Judging.{judge_string, judge_held, judge_each, judge_digest}
use Rattle.suit_params.specs.DigestReading.{digest_at}
use Rattle.det_cbor.specs.ItemHeads.{item_kind, item_value}
use Rattle.suit_params.specs.HeadLaws.{item_head_read, after}
use Rattle.suit_params.specs.JudgingLaws.{Judges}
use Rattle.suit_params.proofs.DigestJudging.{digest_read}
use Rattle.suit_params.proofs.DigestAnswers.{digest_judges}
use Rattle.suit_params.specs.HeldLaws.{ReadsAs, by_string, content_read, with_rest, held_read, held_judges, JudgesEach, Anything, all_anything, each_ok, each_again, each_err, each_refused}
use Rattle.suit_envelope.specs.Wrapper.{placed, elements_place, blocks_of, IsBlock, IsWrapper, HasElements, RefusesBlock, NoBlock, RefusesWrapper, NoElements, BadDigest, BadBlock}
use Rattle.suit_envelope.specs.Judging.{judge_block, judge_wrapper}
use Rattle.suit_envelope.specs.WrapperReading.{blocks_from, digest_held_from, elements_after, wrapper_at}

-- ---- reading

-- a step that depends on a byte string before a position
abbrev go_on : {A : Type 0} → (Position → Result A Refusal) → Position × Position → Result A Refusal
go_on f c = f c.1

abbrev done : Position → Result Unit Refusal
done c = Ok tt

string_step : {A : Type 0} (r : Result Position Refusal) (q : Position) (f : Position → Result A Refusal) (z : Result A Refusal) → f q ≡ z → ((r >>= with_rest q) >>= go_on f) ≡ ((r >>= done) >>= λ _. z)
string_step (Ok c) q f z e = e
string_step (Err s) q f z e = refl

blocks_read : (levels : ℕ) (p : Position) (xs : DataItems) (rest : List ℕ) → AreValidWithin levels xs → p.left ≡ spell_items xs ++ rest → blocks_from (item_count xs) p ≡ judge_each judge_block (placed p.place xs)
blocks_read levels p NoItems rest valid is = refl
blocks_read levels p (ItemThen x xs) rest valid is =
    let count : item_count xs + 1 ≡ suc (item_count xs) = omega arith in
    let left = spell_items xs ++ rest in
    let q = after p (spell x) left in
    let whole : p.left ≡ spell x ++ left = is ∙ append_assoc (spell x) (spell_items xs) rest in
    let others : blocks_from (item_count xs) q ≡ judge_each judge_block (placed q.place xs) = blocks_read levels q xs rest valid.1 refl in
    rw (count, content_read levels p x left valid.0 whole) (string_step (judge_string p.place x) q (blocks_from (item_count xs)) _ others)

pub record OtherThanElements (x : DataItem) : Type 0 where
  pub other : HasElements x → ⊥
  pub judged : (place : ℕ) → judge_wrapper place x ≡ Err (refused place Shape)
  pub read : (place : ℕ) (p : Position) → elements_after place (item_value x) p (item_kind x) ≡ Err (refused place Shape)

by_elements : (P : DataItem → Type 0) → ((first : DataItem) (blocks : DataItems) → P (ArrayOf (ItemThen first blocks))) → ((x : DataItem) → OtherThanElements x → P x) → (x : DataItem) → P x
by_elements P some other (ArrayOf (ItemThen first blocks)) = some first blocks
by_elements P some other x = other x (record { other = λ h. h; judged = λ place. refl; read = λ place p. refl })

-- the digest is read first, and then the blocks
abbrev then_blocks : (Position → Result Unit Refusal) → Digest × Position → Result Digest Refusal
then_blocks f d = f d.1 >>= λ _. Ok d.0

digest_step : (r : Result Digest Refusal) (q : Position) (f : Position → Result Unit Refusal) (z : Result Unit Refusal) → f q ≡ z → ((r >>= with_rest q) >>= then_blocks f) ≡ (r >>= λ d. z >>= λ _. Ok d)
digest_step (Ok d) q f z e = rw e refl
digest_step (Err s) q f z e = refl

pub wrapper_read : ReadsAs wrapper_at judge_wrapper
unfolding wrapper_at
wrapper_read levels place x valid =
    by_elements (λ (y : DataItem). IsValidWithin levels y → wrapper_at (at_place (spell y) place) ≡ judge_wrapper place y)
    (λ first blocks v.
    let array = ArrayOf (ItemThen first blocks) in
    let p = at_place (spell array) place in
    let left = spell_items blocks in
    let q = after p (head_bytes 4 (item_count blocks + 1)) ((spell first ++ left) ++ []) in
    let r = after q (spell first) left in
    let some : eqb (item_count blocks + 1) 0 ≡ false = ne_eqb (item_count blocks + 1) 0 (λ e. omega (arith, e)) in
    let count : item_count blocks + 1 - 1 ≡ item_count blocks = omega arith in
    let held : digest_held_from q ≡ (judge_held judge_digest q.place first >>= with_rest r) = held_read digest_at judge_digest (λ l at y w. digest_read l y at w) (levels + 1) q first left v.2.0 (append-nil (spell first ++ left)) in
    let others : blocks_from (item_count blocks) r ≡ judge_each judge_block (placed r.place blocks) = blocks_read (levels + 1) r blocks [] v.2.1 (sym (append-nil left)) in
    rw (item_head_read levels p array [] v (sym (append-nil (spell array))), some, count, held) (digest_step (judge_held judge_digest q.place first) r (blocks_from (item_count blocks)) _ others))
    (λ y other v. rw (item_head_read levels (at_place (spell y) place) y [] v (sym (append-nil (spell y))), other.read place (after _ _ _), other.judged place) refl)
    x valid
  where
    at_place : List ℕ → ℕ → Position
    at_place left place = record { left = left; place = place }

-- ---- judging

block_judges : JudgesEach Anything judge_block IsBlock RefusesBlock
block_judges = record {
  ok = λ b fits e. by_string (λ (y : DataItem). judge_block (b.0, y) ≡ Ok tt → IsByteString y) (λ bytes f. tt) (λ y other f. block_never b.0 y (other.judged b.0) f) b.1 e;
  again = λ b so. by_string (λ (y : DataItem). IsByteString y → judge_block (b.0, y) ≡ Ok tt) (λ bytes f. refl) (λ y other f. absurd (other.other f)) b.1 so;
  err = λ b r fits e. by_string (λ (y : DataItem). judge_block (b.0, y) ≡ Err r → RefusesBlock (b.0, y) r) (λ bytes f. absurd cc) (λ y other f. subst (RefusesBlock (b.0, y)) (block_err b.0 y r (other.judged b.0) f) (NoBlock other.other)) b.1 e;
  refuses = λ b r bad. block_refused b r bad;
}
  where
    block_never : {P : Type 0} (place : ℕ) (y : DataItem) → judge_string place y ≡ Err (refused place Shape) → judge_block (place, y) ≡ Ok tt → P
    block_never place y e f = let never : judge_block (place, y) ≡ Err (refused place Shape) = rw e refl in absurd cc

    block_err : (place : ℕ) (y : DataItem) (r : Refusal) → judge_string place y ≡ Err (refused place Shape) → judge_block (place, y) ≡ Err r → refused place Shape ≡ r
    block_err place y r e f = let is : judge_block (place, y) ≡ Err (refused place Shape) = rw e refl in same_err _ r (sym is ∙ f)

    block_refused : (b : ℕ × DataItem) (r : Refusal) → RefusesBlock b r → judge_block b ≡ Err r
    block_refused b r (NoBlock other) = by_string (λ (y : DataItem). (IsByteString y → ⊥) → judge_block (b.0, y) ≡ Err (refused b.0 Shape)) (λ bytes f. absurd (f tt)) (λ y o f. rw (o.judged b.0) refl) b.1 other

first_judges : Judges (judge_held judge_digest) (SaysHeld IsDigest) (RefusesHeld RefusesDigest)
first_judges = held_judges judge_digest IsDigest RefusesDigest digest_judges

wrapper_ok : (levels place : ℕ) (x : DataItem) (d : Digest) → IsValidWithin levels x → judge_wrapper place x ≡ Ok d → IsWrapper place x d
wrapper_ok levels place x d valid e =
    by_elements (λ (y : DataItem). IsValidWithin levels y → judge_wrapper place y ≡ Ok d → IsWrapper place y d)
    (λ first blocks v f. bind_ok (judge_held judge_digest (elements_place place blocks) first) _ d f (λ a a-is f. bind_ok (judge_each judge_block (blocks_of place first blocks)) _ d f (λ done done-is f.
    let same : a ≡ d = same_ok a d f in
    let holds = first_judges.ok (levels + 1) (elements_place place blocks) first a v.2.0 a-is in
    record { first = first; blocks = blocks; is = refl; holds = subst (SaysHeld IsDigest (elements_place place blocks) first) same holds; rest = each_ok Anything judge_block IsBlock RefusesBlock block_judges (blocks_of place first blocks) (all_anything (blocks_of place first blocks)) done-is })))
    (λ y other v f. let never = sym (other.judged place) ∙ f in absurd cc)
    x valid e

wrapper_again : (place : ℕ) (x : DataItem) (d : Digest) → IsWrapper place x d → judge_wrapper place x ≡ Ok d
wrapper_again place x d so =
    ap (judge_wrapper place) so.is ∙ rw (first_judges.again (elements_place place so.blocks) so.first d so.holds, each_again Anything judge_block IsBlock RefusesBlock block_judges (blocks_of place so.first so.blocks) so.rest) refl

wrapper_err : (levels place : ℕ) (x : DataItem) (r : Refusal) → IsValidWithin levels x → judge_wrapper place x ≡ Err r → RefusesWrapper place x r
wrapper_err levels place x r valid e =
    by_elements (λ (y : DataItem). IsValidWithin levels y → judge_wrapper place y ≡ Err r → RefusesWrapper place y r)
    (λ first blocks v f. bind_err (judge_held judge_digest (elements_place place blocks) first) _ r f
    (λ bad. BadDigest first blocks r (first_judges.err (levels + 1) (elements_place place blocks) first r v.2.0 bad))
    (λ a a-is f. bind_err (judge_each judge_block (blocks_of place first blocks)) _ r f
    (λ bad. BadBlock first blocks a r (first_judges.ok (levels + 1) (elements_place place blocks) first a v.2.0 a-is) (each_err Anything judge_block IsBlock RefusesBlock block_judges (blocks_of place first blocks) r (all_anything (blocks_of place first blocks)) bad))
    (λ done done-is never. absurd cc)))
    (λ y other v f. subst (RefusesWrapper place y) (same_err _ r (sym (other.judged place) ∙ f)) (NoElements y other.other))
    x valid e

wrapper_refuses : (place : ℕ) (x : DataItem) (r : Refusal) → RefusesWrapper place x r → judge_wrapper place x ≡ Err r
wrapper_refuses place x r (NoElements y empty) = by_elements (λ (z : DataItem). (HasElements z → ⊥) → judge_wrapper place z ≡ Err (refused place Shape)) (λ first blocks f. absurd (f tt)) (λ z other f. other.judged place) y empty
wrapper_refuses place x r (BadDigest first blocks s bad) = rw (first_judges.refuses (elements_place place blocks) first s bad) refl
wrapper_refuses place x r (BadBlock first blocks d s so bad) = rw (first_judges.again (elements_place place blocks) first d so, each_refused Anything judge_block IsBlock RefusesBlock block_judges (blocks_of place first blocks) s bad) refl

pub wrapper_judges : Judges judge_wrapper IsWrapper RefusesWrapper
wrapper_judges = record { ok = wrapper_ok; again = wrapper_again; err = wrapper_err; refuses = wrapper_refuses }
