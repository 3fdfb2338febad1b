-- There is one answer for a wrapper, a manifest and a key.
use Rattle.std.proofs.Common.{◌≡◌, ℕ, List, [], ◌∷◌, sym, ap, ◌∙◌}
use Rattle.std.specs.List.{AllByRecursion}
use Rattle.hmac_mac0.specs.Mac0.{Mismatches, tag_of}
use Rattle.hmac_mac0.specs.Tags.{tag_bytes}
use Rattle.hmac_mac0.specs.declared.mac_kind.MacKind.{MacKind}
use Rattle.hmac_mac0.proofs.Blocks.{one_mac0}
use Rattle.suit_params.specs.declared.digest.Digest.{Digest}
use Rattle.suit_envelope.specs.Macs.{IsOther, FirstDiffers, ThisDiffers, ALaterDiffers}
use Rattle.suit_envelope.specs.Authentic.{AnswersAuthentic, TellsDifference, payload_of}
use Rattle.suit_envelope.specs.EnvelopeLaws.{AuthenticityLaw}
use Rattle.suit_envelope.specs.declared.authenticity.Authenticity.{Authenticity}
use Rattle.suit_envelope.specs.declared.authenticity.Authenticity.TheVariants as answers
use Rattle.suit_envelope.proofs.AuthenticYes.{none_verifies, none_is_mac}

-- ---- a block has one header and one tag

same_difference : (block key payload e f d g : List ℕ) → Mismatches block key payload e f → Mismatches block key payload d g → (e ≡ d) × (f ≡ g)
same_difference block key payload e f d g a b =
    let same = one_mac0 block a.kind b.kind a.protected b.protected f g a.is_block b.is_block in (
      a.computed ∙ ap (λ (k : MacKind). tag_of k key a.protected payload) same.kind ∙ ap (λ (p : List ℕ). tag_of b.kind key p payload) same.protected ∙ sym b.computed,
      same.tag,
    )

first_same : (key payload e f d g : List ℕ) (blocks : List (List ℕ)) → FirstDiffers key payload e f blocks → FirstDiffers key payload d g blocks → (e ≡ d) × (f ≡ g)
first_same key payload e f d g [] a b = elim a [ ]
first_same key payload e f d g (block ∷ blocks) (ThisDiffers x rest a) (ThisDiffers y rest2 b) = same_difference block key payload e f d g a b
first_same key payload e f d g (block ∷ blocks) (ThisDiffers x rest a) (ALaterDiffers y rest2 other b) = absurd (other a.kind a.protected f a.is_block)
first_same key payload e f d g (block ∷ blocks) (ALaterDiffers x rest other a) (ThisDiffers y rest2 b) = absurd (other b.kind b.protected g b.is_block)
first_same key payload e f d g (block ∷ blocks) (ALaterDiffers x rest other a) (ALaterDiffers y rest2 other2 b) = first_same key payload e f d g blocks a b

none_differs : (key payload e f : List ℕ) (blocks : List (List ℕ)) → AllByRecursion IsOther blocks → FirstDiffers key payload e f blocks → ⊥
none_differs key payload e f [] all a = elim a [ ]
none_differs key payload e f (block ∷ blocks) all (ThisDiffers x rest a) = all.0 a.kind a.protected f a.is_block
none_differs key payload e f (block ∷ blocks) all (ALaterDiffers x rest other a) = none_differs key payload e f blocks all.1 a

first_differs : (key payload e f : List ℕ) (blocks : List (List ℕ)) → FirstDiffers key payload e f blocks → f ≡ e → ⊥
first_differs key payload e f [] a = elim a [ ]
first_differs key payload e f (block ∷ blocks) (ThisDiffers x rest a) = a.other
first_differs key payload e f (block ∷ blocks) (ALaterDiffers x rest other a) = first_differs key payload e f blocks a

-- ---- answers

pub tells_difference : (digest : Digest) (blocks : List (List ℕ)) (manifest key : List ℕ) (a : Authenticity) → AnswersAuthentic digest blocks manifest key a → TellsDifference a
tells_difference digest blocks manifest key answers.Yes x = tt
tells_difference digest blocks manifest key (answers.DigestDiffers stated found) x = λ same. x.2 (sym x.0 ∙ same ∙ x.1)
tells_difference digest blocks manifest key answers.NoMac x = tt
tells_difference digest blocks manifest key (answers.MacDiffers expected found) x = first_differs key (payload_of digest) (tag_bytes expected) found.now blocks x.2

pub one_authenticity : AuthenticityLaw
one_authenticity digest blocks manifest key answers.Yes answers.Yes x y = tt
one_authenticity digest blocks manifest key answers.Yes (answers.DigestDiffers stated found) x y = y.2 x.0
one_authenticity digest blocks manifest key answers.Yes answers.NoMac x y = none_is_mac key (payload_of digest) blocks y.1 x.1
one_authenticity digest blocks manifest key answers.Yes (answers.MacDiffers expected found) x y = none_verifies key (payload_of digest) blocks y.1 x.1
one_authenticity digest blocks manifest key (answers.DigestDiffers stated found) answers.Yes x y = x.2 y.0
one_authenticity digest blocks manifest key (answers.DigestDiffers stated found) (answers.DigestDiffers other_stated other_found) x y =
    (x.0 ∙ sym y.0, x.1 ∙ sym y.1)
one_authenticity digest blocks manifest key (answers.DigestDiffers stated found) answers.NoMac x y = x.2 y.0
one_authenticity digest blocks manifest key (answers.DigestDiffers stated found) (answers.MacDiffers expected tag) x y = x.2 y.0
one_authenticity digest blocks manifest key answers.NoMac answers.Yes x y = none_is_mac key (payload_of digest) blocks x.1 y.1
one_authenticity digest blocks manifest key answers.NoMac (answers.DigestDiffers stated found) x y = y.2 x.0
one_authenticity digest blocks manifest key answers.NoMac answers.NoMac x y = tt
one_authenticity digest blocks manifest key answers.NoMac (answers.MacDiffers expected found) x y = none_differs key (payload_of digest) (tag_bytes expected) found.now blocks x.1 y.2
one_authenticity digest blocks manifest key (answers.MacDiffers expected found) answers.Yes x y = none_verifies key (payload_of digest) blocks x.1 y.1
one_authenticity digest blocks manifest key (answers.MacDiffers expected found) (answers.DigestDiffers stated other) x y = y.2 x.0
one_authenticity digest blocks manifest key (answers.MacDiffers expected found) answers.NoMac x y = none_differs key (payload_of digest) (tag_bytes expected) found.now blocks y.1 x.2
one_authenticity digest blocks manifest key (answers.MacDiffers expected found) (answers.MacDiffers other_expected other_found) x y =
    first_same key (payload_of digest) (tag_bytes expected) found.now (tag_bytes other_expected) other_found.now blocks x.2 y.2
