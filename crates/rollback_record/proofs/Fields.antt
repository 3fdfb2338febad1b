-- The fields spelled on a record page are read back.
use Rattle.std.proofs.Common.{◌≡◌, ℕ, ◌+◌, ◌-◌, ◌≤◌, List, [], ◌∷◌, ◌++◌, length, get_or, take, drop, replicate, Option, Some, None, option_map, refl, sym, ap, ◌∙◌, append_assoc, arith}
use Rattle.std.specs.List.{slice_range}
use Rattle.std.proofs.lemmas.List.Edits.{get_or-between}
use Rattle.std.proofs.lemmas.List.{drop_at, length-append, length-replicate}
use Rattle.flash_layout.specs.declared.frame.Frame.{Frame}
use Rattle.flash_layout.specs.declared.slot.Record.{Record}
use Rattle.flash_layout.specs.ConfigPage.{number_bytes, padded}
use Rattle.flash_layout.specs.Frames.{most}
use Rattle.flash_layout.specs.PageReading.{number_at}
use Rattle.flash_layout.proofs.PageFields.{field, number_read, number_long}
use Rattle.suit_params.specs.declared.digest.Digest.{Digest}
use Rattle.suit_params.specs.declared.digest_kind.DigestKind.{DigestKind}
use Rattle.suit_params.specs.DigestBytes.{digest_bytes, digest_kind, digest_by, IsLong}
use Rattle.suit_params.specs.DigestKinds.{size_of, kind_of_length}
use Rattle.suit_params.specs.DigestLaws.{kind_told, made_again, size_few}
use Rattle.rollback_record.specs.RecordPage.{IsPageBeside, IsTypedRecord, IsRecordPage, record_body, digest_at, fields_with, fields_at}
use Rattle.rollback_record.proofs.Widths.{padded_back, rest_beside, rest_in_range}

same_record : (a b : Record) → a.generation ≡ b.generation → a.sequence ≡ b.sequence → a.bank ≡ b.bank → a.length ≡ b.length → a.digest ≡ b.digest → a.active ≡ b.active → a ≡ b
same_record a b p q r s t u = λ i. record { generation = p i; sequence = q i; bank = r i; length = s i; digest = t i; active = u i }

-- the fields of a page's bytes
module _ (gate bank size : ℕ) (generation sequence long digest zeros active : List ℕ) where
  abbrev pub whole : List ℕ
  whole = gate ∷ ((generation ++ sequence) ++ (bank ∷ (long ++ (size ∷ ((digest ++ zeros) ++ active)))))

  pub record HasFields : Type 0 where
    pub generation_is : slice_range whole 1 9 ≡ generation
    pub sequence_is : slice_range whole 9 17 ≡ sequence
    pub bank_is : slice_range whole 17 18 ≡ bank ∷ []
    pub length_is : slice_range whole 18 26 ≡ long
    pub size_is : slice_range whole 26 27 ≡ size ∷ []
    pub digest_is : slice_range whole 27 (27 + length digest) ≡ digest
    pub zeros_is : slice_range whole (27 + length digest) 91 ≡ zeros
    pub active_is : drop 91 whole ≡ active
    pub whole_long : length whole ≡ 91 + length active

  pub has_fields : length generation ≡ 8 → length sequence ≡ 8 → length long ≡ 8 → length digest + length zeros ≡ 64 → HasFields
  has_fields g s l d =
      let h1 : List ℕ = gate ∷ [] in
      let h2 = h1 ++ generation in
      let h3 = h2 ++ sequence in
      let h4 = h3 ++ (bank ∷ []) in
      let h5 = h4 ++ long in
      let h6 = h5 ++ (size ∷ []) in
      let h7 = h6 ++ digest in
      let h8 = h7 ++ zeros in
      let n2 : length h2 ≡ 9 = omega (arith, g, length-append h1 generation) in
      let n3 : length h3 ≡ 17 = omega (arith, n2, s, length-append h2 sequence) in
      let n4 : length h4 ≡ 18 = omega (arith, n3, length-append h3 (bank ∷ [])) in
      let n5 : length h5 ≡ 26 = omega (arith, n4, l, length-append h4 long) in
      let n6 : length h6 ≡ 27 = omega (arith, n5, length-append h5 (size ∷ [])) in
      let n7 : length h7 ≡ 27 + length digest = omega (arith, n6, length-append h6 digest) in
      let n8 : length h8 ≡ 91 = omega (arith, n7, d, length-append h7 zeros) in
      let all : whole ≡ h8 ++ active = simp append_assoc in
      record {
        generation_is = field h1 generation (sequence ++ (bank ∷ (long ++ (size ∷ ((digest ++ zeros) ++ active))))) whole 1 9 (ap (λ (l : List ℕ). gate ∷ l) (append_assoc generation sequence (bank ∷ (long ++ (size ∷ ((digest ++ zeros) ++ active)))))) refl g;
        sequence_is = field h2 sequence (bank ∷ (long ++ (size ∷ ((digest ++ zeros) ++ active)))) whole 9 17 (ap (λ (l : List ℕ). gate ∷ l) (append_assoc generation sequence (bank ∷ (long ++ (size ∷ ((digest ++ zeros) ++ active)))))) n2 s;
        bank_is = field h3 (bank ∷ []) (long ++ (size ∷ ((digest ++ zeros) ++ active))) whole 17 18 refl n3 refl;
        length_is = field h4 long (size ∷ ((digest ++ zeros) ++ active)) whole 18 26 (ap (λ (l : List ℕ). gate ∷ l) (sym (append_assoc (generation ++ sequence) (bank ∷ []) (long ++ (size ∷ ((digest ++ zeros) ++ active)))))) n4 l;
        size_is = field h5 (size ∷ []) ((digest ++ zeros) ++ active) whole 26 27 (ap (λ (l : List ℕ). gate ∷ l) (sym (append_assoc ((generation ++ sequence) ++ bank ∷ []) long (size ∷ ((digest ++ zeros) ++ active)) ∙ append_assoc (generation ++ sequence) (bank ∷ []) (long ++ (size ∷ ((digest ++ zeros) ++ active)))))) n5 refl;
        digest_is = field h6 digest (zeros ++ active) whole 27 (27 + length digest) (simp append_assoc) n6 (omega arith);
        zeros_is = field h7 zeros active whole (27 + length digest) 91 (simp append_assoc) n7 (omega (arith, d));
        active_is = ap (λ (l : List ℕ). drop 91 l) all ∙ drop_at h8 active 91 n8;
        whole_long = ap length all ∙ omega (arith, n8, length-append h8 active);
      }

  pub bank_at : HasFields → get_or whole 17 0 ≡ bank
  bank_at f = sym (get_or-between whole 17 18 0 0 (omega arith)) ∙ ap (λ (l : List ℕ). get_or l 0 0) f.bank_is

  pub size_at : HasFields → get_or whole 26 0 ≡ size
  size_at f = sym (get_or-between whole 26 27 0 0 (omega arith)) ∙ ap (λ (l : List ℕ). get_or l 0 0) f.size_is

-- ---- the record

-- the fields of a record's page
pub record_fields : (frame : Frame) (r : Record) → IsTypedRecord r
    → HasFields 0xA5 r.bank (length (digest_bytes r.digest)) (number_bytes r.generation) (number_bytes r.sequence) (number_bytes r.length) (digest_bytes r.digest) (replicate (64 - length (digest_bytes r.digest)) 0) (take (most frame) r.active)
record_fields frame r typed =
    let digest : List ℕ = digest_bytes r.digest in
    let zeros : List ℕ = replicate (64 - length digest) 0 in
    let few : length digest ≤ 64 = omega (arith, typed.digest, size_few (digest_kind r.digest)) in
    let both : length digest + length zeros ≡ 64 = omega (arith, few, length-replicate {A = ℕ} (64 - length digest) 0) in
    has_fields 0xA5 r.bank (length digest) (number_bytes r.generation) (number_bytes r.sequence) (number_bytes r.length) digest zeros (take (most frame) r.active)
    (number_long r.generation) (number_long r.sequence) (number_long r.length) both

-- the digest behind its length
digest_read : (page : List ℕ) (digest : Digest) → IsLong digest → get_or page 26 0 ≡ length (digest_bytes digest) → slice_range page 27 (27 + length (digest_bytes digest)) ≡ digest_bytes digest → digest_at page ≡ Some digest
digest_read page digest long size is =
    let told : kind_of_length (get_or page 26 0) ≡ Some (digest_kind digest) = ap kind_of_length (size ∙ long) ∙ kind_told (digest_kind digest) in
    let bytes : slice_range page 27 (27 + size_of (digest_kind digest)) ≡ digest_bytes digest = ap (λ (n : ℕ). slice_range page 27 (27 + n)) (sym long) ∙ is in
    ap (option_map (λ (kind : DigestKind). digest_by kind (slice_range page 27 (27 + size_of kind)))) told
    ∙ ap (λ (l : List ℕ). Some (digest_by (digest_kind digest) l)) bytes
    ∙ ap (λ (d : Digest). Some d) (made_again digest)

fields_same : (page : List ℕ) (digest : Digest) (r : Record) → digest_at page ≡ Some digest → fields_with page digest ≡ r → fields_at page ≡ Some r
fields_same page digest r told same = ap (option_map (fields_with page)) told ∙ ap (λ (x : Record). Some x) same

body_read : (frame : Frame) (r : Record) → IsTypedRecord r → ((i : ℕ) → most frame ≤ i → get_or r.active i 0 ≡ 0) → fields_at (0xA5 ∷ record_body frame r) ≡ Some r
unfolding record_body
body_read frame r typed rest =
    let page = 0xA5 ∷ record_body frame r in
    let f = record_fields frame r typed in
    fields_same page r.digest r (digest_read page r.digest typed.digest (size_at _ _ _ _ _ _ _ _ _ f) f.digest_is)
    (same_record (fields_with page r.digest) r
    (ap number_at f.generation_is ∙ number_read r.generation typed.generation)
    (ap number_at f.sequence_is ∙ number_read r.sequence typed.sequence)
    (bank_at _ _ _ _ _ _ _ _ _ f)
    (ap number_at f.length_is ∙ number_read r.length typed.size)
    refl
    (ap (λ (l : List ℕ). padded 32 l) f.active_is ∙ padded_back frame r.active typed.active rest))

-- the page of a record is read as that record
pub page_read : (frame : Frame) (config page : List ℕ) (r : Record) → IsRecordPage frame config page r → fields_at page ≡ Some r
page_read frame config page r is = ap fields_at is.bytes ∙ body_read frame r is.typed (rest_in_range frame r is.typed.active config is.fields)

pub beside_read : (frame : Frame) (slots page : List ℕ) (r : Record) → IsPageBeside frame slots page r → fields_at page ≡ Some r
beside_read frame slots page r is = ap fields_at is.bytes ∙ body_read frame r is.typed (rest_beside frame r is.typed.active slots is.fields)

pub some_same : (a b : Record) → ◌≡◌ {A = Option Record} (Some a) (Some b) → a ≡ b
some_same a b e = cc

pub some_never : {P : Type 0} (r : Record) → ◌≡◌ {A = Option Record} None (Some r) → P
some_never r e = absurd cc

-- a page holds one record at most
pub one_record : (frame : Frame) (config page : List ℕ) (r s : Record) → IsRecordPage frame config page r → IsRecordPage frame config page s → r ≡ s
one_record frame config page r s is so = some_same r s (sym (page_read frame config page r is) ∙ page_read frame config page s so)
