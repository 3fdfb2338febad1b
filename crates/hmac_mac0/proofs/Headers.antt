-- The two spellings of a protected header for each algorithm.
use Rattle.std.proofs.Common.{◌≡◌, ℕ, List, [], ◌∷◌, ◌++◌, length, get_or, Option, Some, None, refl, sym, ap, subst, ◌∙◌, lit<, arith}
use Rattle.std.proofs.lemmas.List.{take_at}
use Rattle.std.specs.List.{AllByRecursion}
use Rattle.det_cbor.specs.Heads.{head_bytes}
use Rattle.det_cbor.specs.DataItem.{UnsignedInteger, ByteString, spell, IsAbove, IsByte, IsString, IsValid, Spells}
use Rattle.det_cbor.specs.ArgumentLaws.{IsBytes, all_bytes, IsBytes-take, IsBytes-rest}
use Rattle.hmac_mac0.specs.Algorithms.{number_of}
use Rattle.hmac_mac0.specs.declared.mac_kind.MacKind.{MacKind}
use Rattle.hmac_mac0.specs.declared.mac_kind.MacKind.TheVariants as macs
use Rattle.hmac_mac0.specs.Mac0.{mac_header, made_header, IsHeader}
use Rattle.hmac_mac0.specs.Layout.{StartsWithString}

pub bytes_front : (front rest : List ℕ) → IsBytes (front ++ rest) → IsBytes front
bytes_front front rest h = subst IsBytes (take_at front rest (length front) refl) (IsBytes-take (length front) (front ++ rest) h)

-- the content of a byte string is made of bytes if the whole is
pub content_bytes : (bytes content rest : List ℕ) → IsBytes bytes → bytes ≡ spell (ByteString content) ++ rest → AllByRecursion IsByte content
content_bytes bytes content rest fits e =
    all_bytes content (IsBytes-rest (head_bytes 2 (length content)) content (bytes_front (spell (ByteString content)) rest (subst IsBytes e fits)))

abbrev pub front_of_kid : MacKind → List ℕ
front_of_kid kind = 0xa2 ∷ 0x01 ∷ number_of kind ∷ 0x04 ∷ []

plain_spelling : (kind : MacKind) → spell (mac_header kind None) ≡ made_header kind
unfolding head_bytes
plain_spelling macs.Hmac256 = refl
plain_spelling macs.Hmac512 = refl

kid_spelling : (kind : MacKind) (string : List ℕ) →
    head_bytes 5 2 ++ (head_bytes 0 1 ++ (head_bytes 0 (number_of kind) ++ (head_bytes 0 4 ++ (string ++ [])))) ≡ front_of_kid kind ++ (string ++ [])
unfolding head_bytes
kid_spelling macs.Hmac256 string = refl
kid_spelling macs.Hmac512 string = refl

-- the key 1 sorts before the key 4
in_order : IsAbove (Some (spell (UnsignedInteger 1))) (spell (UnsignedInteger 4))
unfolding head_bytes
in_order = refl

plain_valid : (kind : MacKind) → IsValid (mac_header kind None)
plain_valid macs.Hmac256 = (lit< tt, lit< tt, (lit< tt, tt, lit< tt, tt))
plain_valid macs.Hmac512 = (lit< tt, lit< tt, (lit< tt, tt, lit< tt, tt))

kid_valid : (kind : MacKind) (kid : List ℕ) → IsString kid → IsValid (mac_header kind (Some kid))
kid_valid macs.Hmac256 kid string = (lit< tt, lit< tt, (lit< tt, tt, lit< tt, (lit< tt, in_order, string, tt)))
kid_valid macs.Hmac512 kid string = (lit< tt, lit< tt, (lit< tt, tt, lit< tt, (lit< tt, in_order, string, tt)))

pub plain_header : (kind : MacKind) (protected : List ℕ) → protected ≡ made_header kind → IsHeader kind protected
plain_header kind protected e = record { kid = None; spells = record { valid = plain_valid kind; is = e ∙ sym (plain_spelling kind) } }

pub kid_header : (kind : MacKind) (protected rest kid : List ℕ) → IsBytes protected → protected ≡ front_of_kid kind ++ rest → StartsWithString rest kid [] → IsHeader kind protected
kid_header kind protected rest kid fits e s =
    let string : IsString kid = (s.short, content_bytes rest kid [] (IsBytes-rest (front_of_kid kind) rest (subst IsBytes e fits)) s.parts) in
    record {
      kid = Some kid;
      spells = record {
        valid = kid_valid kind kid string;
        is = e ∙ ap (λ r. front_of_kid kind ++ r) s.parts ∙ sym (kid_spelling kind (spell (ByteString kid)));
      };
    }

clash : (kind : MacKind) (rest : List ℕ) → front_of_kid kind ++ rest ≡ made_header kind → ⊥
clash kind rest e = cc

same_rest : (kind : MacKind) (a b : List ℕ) → front_of_kid kind ++ a ≡ front_of_kid kind ++ b → a ≡ b
same_rest kind a b e = cc

header_cases : (P : Type 0) (kind : MacKind) (protected : List ℕ) (kid : Option (List ℕ)) → Spells (mac_header kind kid) protected → (protected ≡ made_header kind → P)
    → ((content : List ℕ) → IsString content → protected ≡ front_of_kid kind ++ (spell (ByteString content) ++ []) → P) → P
header_cases P kind protected None s f g = f (s.is ∙ plain_spelling kind)
header_cases P kind protected (Some kid) s f g = g kid s.valid.2.3.2 (s.is ∙ kid_spelling kind (spell (ByteString kid)))

-- a header that begins with the front for a kid has a kid and nothing more
pub kid_alone : (kind : MacKind) (protected rest : List ℕ) → protected ≡ front_of_kid kind ++ rest → IsHeader kind protected → (kid : List ℕ) × StartsWithString rest kid []
kid_alone kind protected rest e h =
    header_cases ((kid : List ℕ) × StartsWithString rest kid []) kind protected h.kid h.spells (λ p. absurd (clash kind rest (sym e ∙ p)))
    (λ kid string p. (kid, record { short = string.0; parts = same_rest kind rest (spell (ByteString kid) ++ []) (sym e ∙ p) }))

-- a header with another front is the one without a kid
pub header_plain : (kind : MacKind) (protected : List ℕ) → ((rest : List ℕ) → protected ≡ front_of_kid kind ++ rest → ⊥) → IsHeader kind protected → protected ≡ made_header kind
header_plain kind protected other h = header_cases (protected ≡ made_header kind) kind protected h.kid h.spells (λ p. p) (λ kid string p. absurd (other (spell (ByteString kid) ++ []) p))

-- ---- a header names one algorithm

third_byte : (kind : MacKind) (protected : List ℕ) → IsHeader kind protected → get_or protected 2 0 ≡ number_of kind
third_byte kind protected h =
    header_cases (get_or protected 2 0 ≡ number_of kind) kind protected h.kid h.spells (ap (λ (l : List ℕ). get_or l 2 0)) (λ kid string p. ap (λ (l : List ℕ). get_or l 2 0) p)

same_kind : (a b : MacKind) → number_of a ≡ number_of b → a ≡ b
same_kind macs.Hmac256 macs.Hmac256 e = refl
same_kind macs.Hmac256 macs.Hmac512 e = absurd (omega (arith, e))
same_kind macs.Hmac512 macs.Hmac256 e = absurd (omega (arith, e))
same_kind macs.Hmac512 macs.Hmac512 e = refl

pub one_kind : (a b : MacKind) (protected : List ℕ) → IsHeader a protected → IsHeader b protected → a ≡ b
one_kind a b protected x y = same_kind a b (sym (third_byte a protected x) ∙ third_byte b protected y)
