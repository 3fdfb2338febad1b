-- The blocks of a wrapper are read with their payload.
use Rattle.std.proofs.Common.{◌≡◌, ℕ, List, [], ◌∷◌, length, Ok, Err, refl, sym, ap, subst, ◌∙◌}
use Rattle.det_cbor.specs.DataItem.{ByteString, spell, spell_items, AreValidWithin}
use Rattle.det_cbor.specs.Position.{Position}
use Rattle.det_cbor.specs.ResultLaws.{ok_pair, not_both}
use Rattle.hmac_mac0.specs.declared.verdict.MacVerdict.{MacVerdict}
use Rattle.suit_params.specs.declared.digest.Digest.{Digest}
use Rattle.suit_params.specs.declared.refusal.Refusal.{Refusal}
use Rattle.suit_params.specs.HeadLaws.{after}
use Rattle.suit_params.specs.HeldLaws.{content_read}
use Rattle.suit_envelope.specs.Macs.{BlocksSay, contents_from}
use Rattle.suit_envelope.specs.Authentic.{payload_of, first_from}
use Rattle.suit_envelope.specs.WrapperParts.{strings_of, WrapperSays, HasWrapper, count_from}
use Rattle.suit_envelope.proofs.WrapperLaws.{FirstRead, first_read, count_read}

contents_read : (levels : ℕ) (p : Position) (blocks : List (List ℕ)) → AreValidWithin levels (strings_of blocks) → p.left ≡ spell_items (strings_of blocks) → contents_from (length blocks) p ≡ Ok blocks
contents_read levels p [] valid is = refl
contents_read levels p (block ∷ blocks) valid is =
    let q = after p (spell (ByteString block)) (spell_items (strings_of blocks)) in
    rw (content_read levels p (ByteString block) (spell_items (strings_of blocks)) valid.0 is, contents_read levels q blocks valid.1 refl) refl

pub first_is : (wrapper : List ℕ) (digest : Digest) (blocks : List (List ℕ)) (f : FirstRead wrapper digest blocks) → first_from wrapper ≡ Ok (f.content, f.rest)
first_is wrapper digest blocks f = rw f.starts f.held

pub contents_after : (wrapper : List ℕ) (digest : Digest) (blocks : List (List ℕ)) → WrapperSays wrapper digest blocks → (f : FirstRead wrapper digest blocks) → contents_from (length blocks) f.rest ≡ Ok blocks
contents_after wrapper digest blocks so f = contents_read 1 f.rest blocks so.spells.valid.2.1 f.left

-- the answer of verifying the blocks that were read
pub scan_says : (wrapper key payload : List ℕ) (content rest : Position) (count : ℕ) (answer : MacVerdict) → Ok (content, rest) ≡ first_from wrapper → count ≡ count_from wrapper → payload ≡ content.left
    → ((blocks : List (List ℕ)) → contents_from count rest ≡ Ok blocks → BlocksSay key payload blocks answer)
    → (digest : Digest) (blocks : List (List ℕ)) → WrapperSays wrapper digest blocks → BlocksSay key (payload_of digest) blocks answer
scan_says wrapper key payload content rest count answer e counted bytes says digest blocks so =
    let f = first_read wrapper digest blocks so in
    let parts = ok_pair content f.content rest f.rest (e ∙ first_is wrapper digest blocks f) in
    let long : count ≡ length blocks = counted ∙ count_read wrapper digest blocks so in
    let read : contents_from count rest ≡ Ok blocks = ap (λ (n : ℕ). contents_from n rest) long ∙ ap (contents_from (length blocks)) parts.1 ∙ contents_after wrapper digest blocks so f in
    let same : payload ≡ payload_of digest = bytes ∙ ap (λ (p : Position). p.left) parts.0 ∙ f.payload in
    subst (λ (b : List ℕ). BlocksSay key b blocks answer) same (says blocks read)

pub scan_never : (wrapper : List ℕ) (content rest : Position) (count : ℕ) → Ok (content, rest) ≡ first_from wrapper → count ≡ count_from wrapper
    → ((blocks : List (List ℕ)) → contents_from count rest ≡ Ok blocks → ⊥) → HasWrapper wrapper → ⊥
scan_never wrapper content rest count e counted never has =
    let f = first_read wrapper has.0 has.1 has.2 in
    let parts = ok_pair content f.content rest f.rest (e ∙ first_is wrapper has.0 has.1 f) in
    let long : count ≡ length has.1 = counted ∙ count_read wrapper has.0 has.1 has.2 in
    never has.1 (ap (λ (n : ℕ). contents_from n rest) long ∙ ap (contents_from (length has.1)) parts.1 ∙ contents_after wrapper has.0 has.1 has.2 f)

pub first_never : (wrapper : List ℕ) (r : Refusal) → Err r ≡ first_from wrapper → HasWrapper wrapper → ⊥
first_never wrapper r e has =
    let f = first_read wrapper has.0 has.1 has.2 in
    not_both (first_from wrapper) (f.content, f.rest) r (first_is wrapper has.0 has.1 f) (sym e)
