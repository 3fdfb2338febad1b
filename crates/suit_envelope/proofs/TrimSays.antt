-- The trimmed envelope says its two parts.
use Rattle.std.proofs.Common.{◌≡◌, ℕ, ◌+◌, true, List, [], length, None, Result, Ok, Err, refl, sym, ap, subst, ◌∙◌, lit<, arith}
use Rattle.std.specs.Prelude.{IfOk}
use Rattle.det_cbor.specs.Heads.{head_bytes}
use Rattle.det_cbor.specs.DataItem.{UnsignedInteger, ByteString, spell, IsString}
use Rattle.det_cbor.specs.ArgumentLaws.{head_small, head_8}
use Rattle.suit_params.specs.Refusing.{content_place}
use Rattle.suit_envelope.specs.Envelopes.{EnvelopeSays, IsEnvelope}
use Rattle.suit_envelope.specs.declared.parts.EnvelopeParts.{EnvelopeParts}
use Rattle.suit_envelope.specs.Trimmed.{trimmed, trimmed_item, trimmed_says, IsTrimmed}
use Rattle.suit_envelope.specs.WrapperParts.{HasWrapper}
use Rattle.suit_envelope.proofs.MadeSays.{made_says}
use Rattle.suit_envelope.proofs.MadeValid.{made_valid}

abbrev parts_of : List ℕ → List ℕ → EnvelopeParts
parts_of wrapper manifest = record { wrapper = wrapper; manifest = manifest; payload_fetch = None; install = None; text = None; payloads = [] }

-- what the two parts say, given the bytes before the first key, and the length of each key
abbrev says_at : List ℕ → List ℕ → ℕ → ℕ → ℕ → EnvelopeSays
says_at wrapper manifest start two three = record {
  tagged = true;
  wrapper = wrapper;
  wrapper_place = content_place (start + two) wrapper;
  manifest = manifest;
  manifest_place = content_place (start + two + length (spell (ByteString wrapper)) + three) manifest;
  payload_fetch = None;
  payload_fetch_place = 0;
  install = None;
  install_place = 0;
  text = None;
}

placed : (wrapper manifest : List ℕ) → says_at wrapper manifest (0 + length (head_bytes 6 107) + length (head_bytes 5 2)) (length (spell (UnsignedInteger 2))) (length (spell (UnsignedInteger 3))) ≡ trimmed_says wrapper manifest
placed wrapper manifest =
    let tag : length (head_bytes 6 107) ≡ 2 = rw (head_8 6 107 (omega arith) (omega arith)) refl in
    let map : length (head_bytes 5 2) ≡ 1 = rw (head_small 5 2 (omega arith)) refl in
    let two : length (head_bytes 0 2) ≡ 1 = rw (head_small 0 2 (omega arith)) refl in
    let three : length (head_bytes 0 3) ≡ 1 = rw (head_small 0 3 (omega arith)) refl in
    let start : 0 + length (head_bytes 6 107) + length (head_bytes 5 2) ≡ 3 = omega arith in
    ap (λ (n : ℕ). says_at wrapper manifest n (length (head_bytes 0 2)) (length (head_bytes 0 3))) start
    ∙ ap (λ (n : ℕ). says_at wrapper manifest 3 n (length (head_bytes 0 3))) two
    ∙ ap (λ (n : ℕ). says_at wrapper manifest 3 1 n) three

pub trims : (wrapper manifest : List ℕ) → HasWrapper wrapper → IsString wrapper → IsString manifest → IsTrimmed wrapper manifest (trimmed wrapper manifest)
unfolding trimmed
trims wrapper manifest holds wrapper_fits manifest_fits =
    let parts = parts_of wrapper manifest in
    let made = made_says parts holds in
    record {
      item = trimmed_item wrapper manifest;
      spells = record {
        valid = made_valid parts (record { required = (wrapper_fits, (manifest_fits, tt)); members = (tt, (tt, (tt, tt))); payloads = tt; count = lit< tt }) tt;
        is = refl;
      };
      says_so = subst (IsEnvelope 0 (trimmed_item wrapper manifest)) (made.all ∙ placed wrapper manifest) made.is;
    }

-- the answer of the call that writes the trimmed envelope
pub says_trimmed : {E : Type 0} (wrapper manifest : List ℕ) (r : Result (List ℕ) E) → IfOk r (λ bytes. bytes ≡ trimmed wrapper manifest) → IfOk r (λ _. IsString wrapper) → IfOk r (λ _. IsString manifest) → HasWrapper wrapper → IfOk r (IsTrimmed wrapper manifest)
says_trimmed wrapper manifest (Ok bytes) is wrapper_fits manifest_fits holds = subst (IsTrimmed wrapper manifest) (sym is) (trims wrapper manifest holds wrapper_fits manifest_fits)
says_trimmed wrapper manifest (Err e) is wrapper_fits manifest_fits holds = tt
