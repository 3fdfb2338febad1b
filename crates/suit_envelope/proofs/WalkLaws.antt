-- The blocks that a walk over a wrapper returns.
use Rattle.std.proofs.Common.{◌≡◌, ℕ, zero, suc, List, ◌∷◌, length, Ok, Err, ap, ◌∙◌}
use Rattle.det_cbor.specs.HeadReading.{◌>>=◌}
use Rattle.det_cbor.specs.Position.{Position}
use Rattle.det_cbor.specs.ResultLaws.{bind_ok, ok_pair}
use Rattle.suit_params.specs.declared.digest.Digest.{Digest}
use Rattle.suit_params.specs.declared.refusal.Refusal.{Refusal}
use Rattle.suit_params.specs.Reading.{content_from}
use Rattle.suit_envelope.specs.Macs.{contents_from}
use Rattle.suit_envelope.specs.Authentic.{first_from}
use Rattle.suit_envelope.specs.WrapperParts.{WrapperSays, count_from}
use Rattle.suit_envelope.specs.Walk.{walk_on, walked_from}
use Rattle.suit_envelope.proofs.WrapperLaws.{first_read, count_read}
use Rattle.suit_envelope.proofs.AuthenticLaws.{first_is, contents_after, first_never}

walk_contents : (n : ℕ) (p : Position) (blocks : List (List ℕ)) → contents_from n p ≡ Ok blocks → walked_from n p ≡ blocks
walk_contents zero p blocks is = cc
walk_contents (suc n) p blocks is =
    bind_ok (content_from p) (λ c. contents_from n c.1 >>= λ rest. Ok (c.0.left ∷ rest)) blocks is (λ c read later.
    bind_ok (contents_from n c.1) (λ rest. Ok (c.0.left ∷ rest)) blocks later (λ rest others last.
    let same : c.0.left ∷ rest ≡ blocks = cc in
    ap (walk_on (walked_from n)) read ∙ ap (λ (r : List (List ℕ)). c.0.left ∷ r) (walk_contents n c.1 rest others) ∙ same))

-- after the digest, the walk returns all blocks
pub walk_all : (wrapper : List ℕ) (content rest : Position) (count : ℕ) → Ok (content, rest) ≡ first_from wrapper → count ≡ count_from wrapper
    → (digest : Digest) (blocks : List (List ℕ)) → WrapperSays wrapper digest blocks → walked_from count rest ≡ blocks
walk_all wrapper content rest count e counted digest blocks so =
    let f = first_read wrapper digest blocks so in
    let parts = ok_pair content f.content rest f.rest (e ∙ first_is wrapper digest blocks f) in
    let long : count ≡ length blocks = counted ∙ count_read wrapper digest blocks so in
    ap (λ (n : ℕ). walked_from n rest) long ∙ ap (walked_from (length blocks)) parts.1 ∙ walk_contents (length blocks) f.rest blocks (contents_after wrapper digest blocks so f)

pub walk_never : (wrapper : List ℕ) (r : Refusal) (answer : List (List ℕ)) → Err r ≡ first_from wrapper → (digest : Digest) (blocks : List (List ℕ)) → WrapperSays wrapper digest blocks → answer ≡ blocks
walk_never wrapper r answer e digest blocks so = absurd (first_never wrapper r e (digest, blocks, so))
