-- A block that is made verifies.
use Rattle.std.proofs.Common.{◌≡◌, ℕ, List, ◌++◌, ◌∷◌, [], Option, Some, None, append_assoc, refl, ap, subst, ◌∙◌, lit<, Bor}
use Rattle.std.proofs.lemmas.List.{append-nil}
use Rattle.std.specs.Prelude.{option_map, IfSome}
use Rattle.det_cbor.specs.DataItem.{ByteString, MapOf, spell, IsValidWithin, IsString, Spells}
use Rattle.det_cbor.specs.Heads.{head_bytes}
use Rattle.hmac_mac0.proofs.Blocks.{one_mac0}
use Rattle.hmac_mac0.proofs.Headers.{plain_header}
use Rattle.hmac_mac0.specs.declared.mac_kind.MacKind.{MacKind}
use Rattle.hmac_mac0.specs.declared.mac_kind.MacKind.TheVariants as macs
use Rattle.hmac_mac0.specs.Mac0.{mac0_item, kid_pairs, made_header, made_item, tag_of, IsMac0, Verifies}

-- the kid of a call
abbrev pub kid_of : Option (Bor (List ℕ)) → Option (List ℕ)
kid_of kid = option_map (λ k. k.now) kid

unprotected_valid : (kid : Option (Bor (List ℕ))) → IfSome kid (λ k. IsString k.now) → IsValidWithin 2 (MapOf (kid_pairs (kid_of kid)))
unprotected_valid None h = (lit< tt, lit< tt, tt)
unprotected_valid (Some k) h = (lit< tt, lit< tt, (lit< tt, tt, h, tt))

header_is_string : (mac : MacKind) → IsString (made_header mac)
header_is_string macs.Hmac256 = (lit< tt, (lit< tt, (lit< tt, (lit< tt, tt))))
header_is_string macs.Hmac512 = (lit< tt, (lit< tt, (lit< tt, (lit< tt, tt))))

item_valid : (mac : MacKind) (kid : Option (Bor (List ℕ))) (tag : List ℕ) → IfSome kid (λ k. IsString k.now) → IsString tag → IsValidWithin 0 (mac0_item (made_header mac) (kid_pairs (kid_of kid)) tag)
item_valid mac kid tag h t = (lit< tt, lit< tt, (lit< tt, lit< tt, (header_is_string mac, (unprotected_valid kid h, (tt, (t, tt))))))

pieces : (a b c d e f : List ℕ) → a ++ b ++ c ++ d ++ e ++ f ≡ a ++ (b ++ (c ++ (d ++ (e ++ (f ++ [])))))
pieces a b c d e f = simp (append_assoc, append-nil)

null : head_bytes 7 22 ≡ 0xf6 ∷ []
unfolding head_bytes
null = refl

-- the bytes written, after the unprotected header
abbrev pub written : MacKind → List ℕ → List ℕ → List ℕ
written mac unprotected tag = [] ++ head_bytes 6 17 ++ head_bytes 4 4 ++ spell (ByteString (made_header mac)) ++ unprotected ++ head_bytes 7 22 ++ spell (ByteString tag)

module _ (mac : MacKind) (key payload : List ℕ) where
  pub made_spells : (kid : Option (Bor (List ℕ))) (tag out : List ℕ) → IfSome kid (λ k. IsString k.now) → IsString tag → tag ≡ tag_of mac key (made_header mac) payload
      → out ≡ written mac (spell (MapOf (kid_pairs (kid_of kid)))) tag → Spells (made_item mac key (kid_of kid) payload) out
  made_spells kid tag out k t is e =
      let made = tag_of mac key (made_header mac) payload in
      let unprotected = spell (MapOf (kid_pairs (kid_of kid))) in
      let front = head_bytes 6 17 ++ head_bytes 4 4 ++ spell (ByteString (made_header mac)) ++ unprotected in
      let valid : IsValidWithin 0 (made_item mac key (kid_of kid) payload) = subst (λ v. IsValidWithin 0 (mac0_item (made_header mac) (kid_pairs (kid_of kid)) v)) is (item_valid mac kid tag k t) in
      let parts : out ≡ written mac unprotected made = subst (λ v. out ≡ written mac unprotected v) is e in
      record {
        valid = valid;
        is = parts ∙ ap (λ n. front ++ n ++ spell (ByteString made)) null
            ∙ pieces (head_bytes 6 17) (head_bytes 4 4) (spell (ByteString (made_header mac))) unprotected (0xf6 ∷ []) (spell (ByteString made));
      }

  is_made : (kid : Option (List ℕ)) (out : List ℕ) → Spells (made_item mac key kid payload) out → IsMac0 out mac (made_header mac) (tag_of mac key (made_header mac) payload)
  is_made kid out h = record { header = plain_header mac (made_header mac) refl; unprotected = kid_pairs kid; spells = h }

  pub made_verifies : (kid : Option (List ℕ)) (out : List ℕ) → Spells (made_item mac key kid payload) out → Verifies out key payload
  made_verifies kid out h = record { kind = mac; protected = made_header mac; tag = tag_of mac key (made_header mac) payload; is_block = is_made kid out h; matches = refl }

  pub made_alone : (kid : Option (List ℕ)) (out : List ℕ) → Spells (made_item mac key kid payload) out
      → (kind : MacKind) (protected tag : List ℕ) → IsMac0 out kind protected tag → (kind ≡ mac) × (protected ≡ made_header mac) × (tag ≡ tag_of mac key (made_header mac) payload)
  made_alone kid out h kind protected tag m =
      let same = one_mac0 out kind mac protected (made_header mac) tag (tag_of mac key (made_header mac) payload) m (is_made kid out h) in
      (same.kind, same.protected, same.tag)
