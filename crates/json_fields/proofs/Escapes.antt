-- An escaped text is a text.
use Rattle.std.proofs.Common.{◌≡◌, ℕ, ◌<◌, List, [], ◌∷◌, ◌++◌, refl, sym, ap, ◌∙◌, append_assoc, arith}
use Rattle.std.specs.Str.{IsUtf8}
use lib.Utf8.{encode, encodes, scalars}
use Rattle.json_fields.specs.Pointers.{escaped, escape}

escape-append : (xs ys : List ℕ) → escape (xs ++ ys) ≡ escape xs ++ escape ys
escape-append [] ys = refl
escape-append (x ∷ xs) ys = ap (λ zs. escaped x ++ zs) (escape-append xs ys) ∙ sym (append_assoc (escaped x) (escape xs) (escape ys))

plain : (b : ℕ) → 127 < b → escaped b ≡ b ∷ []
plain b h = grind arith

escape-encode : (c : ℕ) → escape (encode c) ≡ encodes (escaped c)
unfolding encode
escape-encode c = grind (arith, plain)

encodes-append : (xs ys : List ℕ) → encodes (xs ++ ys) ≡ encodes xs ++ encodes ys
encodes-append [] ys = refl
encodes-append (x ∷ xs) ys = ap (λ zs. encode x ++ zs) (encodes-append xs ys) ∙ sym (append_assoc (encode x) (encodes xs) (encodes ys))

escape-encodes : (cs : List ℕ) → escape (encodes cs) ≡ encodes (escape cs)
escape-encodes [] = refl
escape-encodes (c ∷ cs) = rw (escape-append (encode c) (encodes cs), encodes-append (escaped c) (escape cs), escape-encode c, escape-encodes cs)

scalars-escaped : (c : ℕ) (cs : List ℕ) → scalars (escaped c ++ cs) ≡ scalars (c ∷ cs)
scalars-escaped c cs = grind arith

scalars-escape : (cs : List ℕ) → scalars (escape cs) ≡ scalars cs
scalars-escape [] = refl
scalars-escape (c ∷ cs) = scalars-escaped c (escape cs) ∙ rw (scalars-escape cs)

pub IsUtf8-escape : (bs : List ℕ) → IsUtf8 bs → IsUtf8 (escape bs)
IsUtf8-escape bs u = (escape u.0, (scalars-escape u.0 ∙ u.1.0, sym (escape-encodes u.0) ∙ ap escape u.1.1))
