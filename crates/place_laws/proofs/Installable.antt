-- A judgement of a manifest anywhere holds of it in the trimmed envelope.
use Rattle.std.proofs.Common.{◌≡◌, ◌≤◌, ℕ, List, [], refl, sym, ap, subst, ◌∙◌, arith}
use Rattle.det_cbor.specs.ResultLaws.{same_ok}
use Rattle.suit_params.specs.declared.digest.Digest.{Digest}
use Rattle.suit_envelope.specs.EnvelopeLaws.{EnvelopeLaws}
use Rattle.suit_envelope.specs.Members.{string_like}
use Rattle.suit_envelope.specs.Trimmed.{trimmed, trimmed_says}
use Rattle.suit_envelope.specs.WrapperParts.{WrapperSays}
use Rattle.suit_envelope.proofs.WrapperLaws.{digest_read}
use Rattle.suit_manifest.specs.declared.manifest.Manifest.{Manifest}
use Rattle.suit_manifest.specs.Procedures.{invocation_tree}
use Rattle.rollback_record.specs.SoundFlash.{HasEach, widest}
use Rattle.place_laws.specs.Installing.{InstalledAnywhere}
use Rattle.place_laws.specs.PlacesApart.{SameManifest, SamePlan}
use Rattle.place_laws.proofs.HeadBytes.{AreBytes, all_append, head_are_bytes, string_are_bytes}
use Rattle.place_laws.proofs.ManifestMoved.{whole_moves}
use Rattle.place_laws.proofs.NumbersAlike.{numbers_move}
use Rattle.place_laws.proofs.PlansAlike.{procedure_moves, safe_moves}

-- a wrapper states one digest
one_digest : (wrapper : List ℕ) (a b : Digest) (some others : List (List ℕ)) → WrapperSays wrapper a some → WrapperSays wrapper b others → a ≡ b
one_digest wrapper a b some others first second = same_ok a b (sym (digest_read wrapper a some first) ∙ digest_read wrapper b others second)

trimmed_are_bytes : (wrapper manifest : List ℕ) → AreBytes wrapper → AreBytes manifest → AreBytes (trimmed wrapper manifest)
unfolding trimmed
trimmed_are_bytes wrapper manifest first second =
    let last = all_append _ [] (string_are_bytes manifest second) tt in
    let pairs = all_append _ _ (head_are_bytes 0 2 (omega arith)) (all_append _ _ (string_are_bytes wrapper first) (all_append _ _ (head_are_bytes 0 3 (omega arith)) last)) in
    all_append _ _ (head_are_bytes 6 107 (omega arith)) (all_append _ _ (head_are_bytes 5 2 (omega arith)) pairs)

pub installation_laws : EnvelopeLaws → InstalledAnywhere
installation_laws laws layout key file envelope r says is =
    let wrapper : List ℕ = envelope.wrapper in
    let manifest : List ℕ = envelope.manifest in
    let strings = laws.strings file envelope says in
    let place : ℕ = (trimmed_says wrapper manifest).manifest_place in
    let moved = whole_moves is.place place manifest is.said is.says in
    let other : Manifest = moved.0 in
    let same : SameManifest is.said other = moved.2 in
    let plans : SamePlan (invocation_tree is.said) (invocation_tree other) = procedure_moves is.said other same in
    let components : is.said.components ≡ other.components = ap (λ (m : Manifest). m.components) same in
    let stated : r.digest ≡ is.authentic.digest = one_digest wrapper r.digest is.authentic.digest is.digest.0 is.authentic.blocks is.digest.1 is.authentic.says in
    let number : is.said.sequence ≡ other.sequence = ap (λ (m : Manifest). m.sequence) same in
    record {
      wrapper = wrapper;
      manifest = manifest;
      said = other;
      are_bytes = trimmed_are_bytes wrapper manifest strings.wrapper.1 strings.manifest.1;
      spelled = refl;
      envelope = laws.trims wrapper manifest (is.authentic.digest, is.authentic.blocks, is.authentic.says) strings.wrapper strings.manifest;
      says = moved.1;
      authentic = is.authentic;
      number = is.number ∙ number;
      digest = stated ∙ is.authentic.stated ∙ ap (λ (d : Digest). string_like d manifest) (sym stated);
      components = subst (HasEach layout) components is.components;
      safe = safe_moves (invocation_tree is.said) (invocation_tree other) plans is.safe;
      narrow = subst (λ (n : ℕ). n ≤ widest) (numbers_move (invocation_tree is.said) (invocation_tree other) plans).width is.narrow;
    }
