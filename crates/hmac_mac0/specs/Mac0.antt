-- COSE_Mac0 (RFC 9052, section 6), with HMAC 256/256 or HMAC 512/512 as the algorithm.
use Rattle.std.specs.Prelude.{◌≡◌, ℕ, List, [], ◌∷◌, Option, Some, None, codes}
use Rattle.det_cbor.specs.DataItem.{DataItem, UnsignedInteger, ByteString, TextString, ArrayOf, MapOf, TaggedItem, NullItem, NoItems, ItemThen, DataPairs, NoPairs, PairThen, spell, Spells}
use Rattle.hmac_mac0.specs.Algorithms.{number_of, mac_of}
use Rattle.hmac_mac0.specs.declared.mac_kind.MacKind.{MacKind}

-- ["MAC0", protected, external_aad, payload], with no external data (RFC 9052, section 6.3)
abbrev pub mac_structure : List ℕ → List ℕ → DataItem
mac_structure protected payload =
    ArrayOf
    (ItemThen (TextString (codes "MAC0"))
    (ItemThen (ByteString protected)
    (ItemThen (ByteString []) (ItemThen (ByteString payload) NoItems))))

-- the tag by an algorithm under a key: the MAC of the structure's encoding
unfoldable pub tag_of : MacKind → List ℕ → List ℕ → List ℕ → List ℕ
tag_of kind key protected payload = mac_of kind key (spell (mac_structure protected payload))

-- ---- the form of a block

-- a map of 4 (kid) to a byte string, or nothing (RFC 9052, section 3.1)
abbrev pub kid_pairs : Option (List ℕ) → DataPairs
kid_pairs None = NoPairs
kid_pairs (Some kid) = PairThen (UnsignedInteger 4) (ByteString kid) NoPairs

-- the map of 1 (alg) to the number of an algorithm, and perhaps a kid (RFC 9052, section 3.1)
abbrev pub mac_header : MacKind → Option (List ℕ) → DataItem
mac_header kind kid =
    MapOf (PairThen (UnsignedInteger 1) (UnsignedInteger (number_of kind)) (kid_pairs kid))

-- tag 17 around [protected, unprotected, payload, tag], where the payload is detached (RFC 9052, section 6.2)
abbrev pub mac0_item : List ℕ → DataPairs → List ℕ → DataItem
mac0_item protected unprotected tag =
    TaggedItem 17
    (ArrayOf
    (ItemThen (ByteString protected)
    (ItemThen (MapOf unprotected)
    (ItemThen NullItem (ItemThen (ByteString tag) NoItems)))))

-- these bytes are a protected header that names this algorithm
pub record IsHeader (kind : MacKind) (protected : List ℕ) : Type 0 where
  pub kid : Option (List ℕ)
  pub spells : Spells (mac_header kind kid) protected

-- the whole block is a COSE_Mac0 with this tag and this protected header, which names this algorithm
pub record IsMac0 (block : List ℕ) (kind : MacKind) (protected tag : List ℕ) : Type 0 where
  pub header : IsHeader kind protected
  pub unprotected : DataPairs
  pub spells : Spells (mac0_item protected unprotected tag) block

-- the block's tag is the one of the key and the payload, by the algorithm that the block names
pub record Verifies (block key payload : List ℕ) : Type 0 where
  pub kind : MacKind
  pub protected : List ℕ
  pub tag : List ℕ
  pub is_block : IsMac0 block kind protected tag
  pub matches : tag ≡ tag_of kind key protected payload

-- the block's tag is `found` and not `expected`, which is the one of the key and the payload
pub record Mismatches (block key payload expected found : List ℕ) : Type 0 where
  pub kind : MacKind
  pub protected : List ℕ
  pub is_block : IsMac0 block kind protected found
  pub computed : expected ≡ tag_of kind key protected payload
  pub other : found ≡ expected → ⊥

-- ---- the blocks that are made

-- the encoded map of 1 (alg) to the number of an algorithm
abbrev pub made_header : MacKind → List ℕ
made_header kind = 0xa1 ∷ 0x01 ∷ number_of kind ∷ []

-- the item of a block with that header, the kid unprotected, and the tag of the key and the payload
abbrev pub made_item : MacKind → List ℕ → Option (List ℕ) → List ℕ → DataItem
made_item kind key kid payload =
    mac0_item (made_header kind) (kid_pairs kid) (tag_of kind key (made_header kind) payload)
