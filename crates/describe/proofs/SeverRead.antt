-- The entries of severed members are read as they are written.
use Rattle.std.proofs.Common.{◌≡◌, ℕ, suc, Bool, true, false, Result, Ok, refl, sym, ap, ◌∙◌}
use Rattle.det_cbor.specs.HeadReading.{◌>>=◌}
use Rattle.serde_json.specs.Data.{Items, no_items}
use Rattle.json_fields.specs.declared.flaw.Flaw.{Flaw}
use Rattle.json_fields.specs.Flaws.{under}
use Rattle.json_fields.specs.Pointers.{index_token}
use Rattle.suit_params.specs.declared.digest_kind.DigestKind.{DigestKind}
use Rattle.suit_params.specs.declared.digest_kind.DigestKind.TheVariants as kinds
use Rattle.suit_envelope.specs.declared.severed.MemberName.{MemberName}
use Rattle.suit_envelope.specs.declared.severed.MemberName.TheVariants as names
use Rattle.author.specs.Severing.{is_in, with_name, none_severed, one_severed, severed_from}
use Rattle.author.specs.declared.severing.Severed.{Severed}
use Rattle.author.proofs.GivenSevered.{name_text}
use Rattle.describe.specs.SeverData.{entry_data, entry_if, severed_names}

-- each that is severed is given, and another one has no hash function of its own
pub record AreGiven (given s : Severed) : Type 0 where
  pub payload_fetch : s.payload_fetch ≡ true → given.payload_fetch ≡ true
  pub install : s.install ≡ true → given.install ≡ true
  pub text : s.text ≡ true → given.text ≡ true
  pub payload_fetch_plain : s.payload_fetch ≡ false → s.kinds.payload_fetch ≡ kinds.Sha256
  pub install_plain : s.install ≡ false → s.kinds.install ≡ kinds.Sha256
  pub text_plain : s.text ≡ false → s.kinds.text ≡ kinds.Sha256

-- ---- one entry

one_read : (given s : Severed) (name : MemberName) (kind : DigestKind) → is_in given name ≡ true → is_in s name ≡ false → one_severed given s (entry_data (name_text name) kind) ≡ Ok (with_name s name kind)
one_read given s names.PayloadFetch kinds.Sha256 g new = rw (g, new) refl
one_read given s names.PayloadFetch kinds.Sha384 g new = rw (g, new) refl
one_read given s names.PayloadFetch kinds.Sha512 g new = rw (g, new) refl
one_read given s names.Install kinds.Sha256 g new = rw (g, new) refl
one_read given s names.Install kinds.Sha384 g new = rw (g, new) refl
one_read given s names.Install kinds.Sha512 g new = rw (g, new) refl
one_read given s names.Text kinds.Sha256 g new = rw (g, new) refl
one_read given s names.Text kinds.Sha384 g new = rw (g, new) refl
one_read given s names.Text kinds.Sha512 g new = rw (g, new) refl

abbrev with_if : Bool → Severed → MemberName → DigestKind → Severed
with_if true s name kind = with_name s name kind
with_if false s name kind = s

-- an entry, if it is there, and those behind it
step : (given s r : Severed) (i : ℕ) (b : Bool) (name : MemberName) (kind : DigestKind) (more : Items) → (b ≡ true → is_in given name ≡ true) → is_in s name ≡ false
    → ((j : ℕ) → severed_from given j (with_if b s name kind) more ≡ Ok r) → severed_from given i s (entry_if b (name_text name) kind more) ≡ Ok r
step given s r i false name kind more g new next = next i
step given s r i true name kind more g new next =
    ap (λ (x : Result Severed Flaw). under (index_token i) x >>= λ t. severed_from given (suc i) t more) (one_read given s name kind (g refl) new) ∙ next (suc i)

-- ---- all of them

no_install : (a : Bool) (kind : DigestKind) → is_in (with_if a none_severed names.PayloadFetch kind) names.Install ≡ false
no_install true kind = refl
no_install false kind = refl

no_text : (a b : Bool) (k l : DigestKind) → is_in (with_if b (with_if a none_severed names.PayloadFetch k) names.Install l) names.Text ≡ false
no_text true true k l = refl
no_text true false k l = refl
no_text false true k l = refl
no_text false false k l = refl

abbrev set_of : Bool → Bool → Bool → DigestKind → DigestKind → DigestKind → Severed
set_of a b c k l m = record { payload_fetch = a; install = b; text = c; kinds = record { payload_fetch = k; install = l; text = m } }

together : (a b c : Bool) (k l m : DigestKind) → (a ≡ false → k ≡ kinds.Sha256) → (b ≡ false → l ≡ kinds.Sha256) → (c ≡ false → m ≡ kinds.Sha256)
    → with_if c (with_if b (with_if a none_severed names.PayloadFetch k) names.Install l) names.Text m ≡ set_of a b c k l m
together true true true k l m p q r = refl
together true true false k l m p q r = ap (λ z. set_of true true false k l z) (sym (r refl))
together true false true k l m p q r = ap (λ y. set_of true false true k y m) (sym (q refl))
together true false false k l m p q r = ap (λ y. set_of true false false k y kinds.Sha256) (sym (q refl)) ∙ ap (λ z. set_of true false false k l z) (sym (r refl))
together false true true k l m p q r = ap (λ x. set_of false true true x l m) (sym (p refl))
together false true false k l m p q r = ap (λ x. set_of false true false x l kinds.Sha256) (sym (p refl)) ∙ ap (λ z. set_of false true false k l z) (sym (r refl))
together false false true k l m p q r = ap (λ x. set_of false false true x kinds.Sha256 m) (sym (p refl)) ∙ ap (λ y. set_of false false true k y m) (sym (q refl))
together false false false k l m p q r =
    ap (λ x. set_of false false false x kinds.Sha256 kinds.Sha256) (sym (p refl)) ∙ ap (λ y. set_of false false false k y kinds.Sha256) (sym (q refl)) ∙ ap (λ z. set_of false false false k l z) (sym (r refl))

pub severed_read : (given s : Severed) → AreGiven given s → severed_from given 0 none_severed (severed_names s) ≡ Ok s
severed_read given s h =
    let first = with_if s.payload_fetch none_severed names.PayloadFetch s.kinds.payload_fetch in
    let second = with_if s.install first names.Install s.kinds.install in
    let last = entry_if s.text (name_text names.Text) s.kinds.text no_items in
    let both = entry_if s.install (name_text names.Install) s.kinds.install last in
    let whole = together s.payload_fetch s.install s.text s.kinds.payload_fetch s.kinds.install s.kinds.text h.payload_fetch_plain h.install_plain h.text_plain in
    step given none_severed s 0 s.payload_fetch names.PayloadFetch s.kinds.payload_fetch both h.payload_fetch refl (λ i.
    step given first s i s.install names.Install s.kinds.install last h.install (no_install s.payload_fetch s.kinds.payload_fetch) (λ j.
    step given second s j s.text names.Text s.kinds.text no_items h.text (no_text s.payload_fetch s.install s.kinds.payload_fetch s.kinds.install) (λ k.
    ap (λ (x : Severed). Ok x) whole)))
