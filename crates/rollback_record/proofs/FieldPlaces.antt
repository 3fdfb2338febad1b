-- The fields of a record page stand at their places.
use Rattle.std.proofs.Common.{◌≡◌, ℕ, ◌-◌, ◌^◌, ◌<◌, ◌≤◌, List, ◌∷◌, ◌+◌, get_or, drop, length, replicate, refl, sym, ap, subst, ◌∙◌, arith}
use Rattle.std.specs.List.{slice_range}
use Rattle.std.proofs.lemmas.List.{length-drop, take_all}
use Rattle.flash_layout.specs.declared.frame.Frame.{Frame}
use Rattle.flash_layout.specs.declared.slot.Record.{Record}
use Rattle.flash_layout.specs.ConfigPage.{number_bytes}
use Rattle.flash_layout.specs.Frames.{most}
use Rattle.flash_layout.specs.PageReading.{number_at}
use Rattle.flash_layout.specs.PagePlaces.{IsNumberField}
use Rattle.flash_layout.proofs.PageFields.{number_read}
use Rattle.suit_params.specs.DigestBytes.{digest_bytes}
use Rattle.rollback_record.specs.RecordPage.{IsTypedRecord, record_body, record_length}
use Rattle.rollback_record.specs.RecordPlaces.{HasRecordPlaces, RecordPlaces}
use Rattle.rollback_record.proofs.Fields.{bank_at, record_fields, size_at}
use Rattle.rollback_record.proofs.Widths.{borne_long, rest_in_range, unborne}

number_placed : (n : ℕ) (bytes : List ℕ) → n < 2 ^ 64 → bytes ≡ number_bytes n → IsNumberField n bytes
unfolding number_at
number_placed n bytes fits is = ap number_at is ∙ number_read n fits

-- all bytes from a place on are those up to the length
to_end : (xs : List ℕ) (from to : ℕ) → length xs ≡ to → slice_range xs from to ≡ drop from xs
to_end xs from to long = take_all (to - from) (drop from xs) (omega (arith, long, length-drop from xs))

body_placed : (frame : Frame) (r : Record) → IsTypedRecord r → ((i : ℕ) → most frame ≤ i → get_or r.active i 0 ≡ 0) → HasRecordPlaces frame r (0xA5 ∷ record_body frame r)
unfolding record_body
body_placed frame r typed rest =
    let page = 0xA5 ∷ record_body frame r in
    let f = record_fields frame r typed in
    let long : length page ≡ record_length frame = f.whole_long ∙ ap (λ (n : ℕ). 91 + n) (borne_long frame r.active typed.active) in
    record {
      long = long;
      gate = refl;
      generation = number_placed r.generation _ typed.generation f.generation_is;
      sequence = number_placed r.sequence _ typed.sequence f.sequence_is;
      bank = bank_at _ _ _ _ _ _ _ _ _ f;
      size = number_placed r.length _ typed.size f.length_is;
      digest_size = size_at _ _ _ _ _ _ _ _ _ f ∙ typed.digest;
      digest = subst (λ (n : ℕ). slice_range page 27 (27 + n) ≡ digest_bytes r.digest) typed.digest f.digest_is;
      rest = subst (λ (n : ℕ). slice_range page (27 + n) 91 ≡ replicate (64 - n) 0) typed.digest f.zeros_is;
      active = to_end page 91 (record_length frame) long ∙ f.active_is;
      unborne = unborne frame r.active typed.active rest;
    }

pub record_places : RecordPlaces
record_places frame config page r is = subst (HasRecordPlaces frame r) (sym is.bytes) (body_placed frame r is.typed (rest_in_range frame r is.typed.active config is.fields))
