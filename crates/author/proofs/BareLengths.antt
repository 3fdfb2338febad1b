-- Without the contents of severed members the trimmed envelope is as long.
use Rattle.std.proofs.Common.{◌≡◌, ℕ, ◌+◌, List, [], ◌∷◌, ◌++◌, length, Bool, true, false, Option, Some, None, refl, ap, sym, subst, ◌∙◌, arith}
use Rattle.std.proofs.lemmas.List.{length-append}
use Rattle.sha2.proofs.Facts256.{length-sha256}
use Rattle.sha2.proofs.Facts512.{length-sha512}
use Rattle.det_cbor.specs.DataItem.{DataItem, UnsignedInteger, ByteString, MapOf, NullItem, DataPairs, pair_count, spell, spell_pairs}
use Rattle.det_cbor.specs.Heads.{head_bytes}
use Rattle.hmac_mac0.specs.Algorithms.{size_of}
use Rattle.hmac_mac0.specs.Hmac.{hmac_of, hmac512_of}
use Rattle.hmac_mac0.specs.Mac0.{kid_pairs, made_header, tag_of}
use Rattle.hmac_mac0.specs.declared.mac_kind.MacKind.{MacKind}
use Rattle.hmac_mac0.specs.declared.mac_kind.MacKind.TheVariants as macs
use Rattle.suit_params.specs.declared.digest.Digest.{Digest}
use Rattle.suit_params.specs.DigestBytes.{digest_bytes, digest_kind}
use Rattle.suit_params.specs.DigestKinds.{algorithm_item, size_of as digest_size}
use Rattle.suit_params.specs.Digests.{digest_item}
use Rattle.suit_commands.specs.SequenceMaking.{sequence_item}
use Rattle.suit_params.specs.declared.digest_kind.DigestKind.{DigestKind}
use Rattle.suit_params.specs.DigestLaws.{hash_kind, hash_long}
use Rattle.suit_envelope.specs.Authentic.{payload_of}
use Rattle.suit_envelope.specs.Members.{string_digest}
use Rattle.suit_envelope.specs.Trimmed.{trimmed}
use Rattle.suit_manifest.specs.ManifestMaking.{Row, pair_then, row_pairs, text_item, held_item, severed_item, text_member_item, manifest_rows, manifest_item}
use Rattle.suit_manifest.specs.declared.manifest.Manifest.{Manifest}
use Rattle.suit_manifest.specs.declared.manifest.Member.{Member}
use Rattle.suit_manifest.specs.declared.manifest.Member.TheVariants as members
use Rattle.author.specs.declared.fields.Described.{Described}
use Rattle.author.specs.Bare.{bare_member, bare}
use Rattle.author.specs.MadeEnvelopes.{made_block, made_wrapper, made_parts, trimmed_bytes}
use Rattle.author.specs.Making.{apart_member, made_manifest}
use Rattle.author.specs.Severances.{parted}

same_append : (a b c d : List ℕ) → length a ≡ length b → length c ≡ length d → length (a ++ c) ≡ length (b ++ d)
same_append a b c d e k = omega (arith, length-append a c, length-append b d)

behind : (a c d : List ℕ) → length c ≡ length d → length (a ++ c) ≡ length (a ++ d)
behind a c d k = same_append a a c d refl k

same_string : (a b : List ℕ) → length a ≡ length b → length (spell (ByteString a)) ≡ length (spell (ByteString b))
same_string a b e = same_append (head_bytes 2 (length a)) (head_bytes 2 (length b)) a b (ap (λ n. length (head_bytes 2 n)) e) e

-- ---- digests

-- by the same hash function, and as long
abbrev AreAlike : Digest → Digest → Type 0
AreAlike a b = (digest_kind a ≡ digest_kind b) × (length (digest_bytes a) ≡ length (digest_bytes b))

digests : (kind : DigestKind) (a b : List ℕ) → AreAlike (string_digest kind a) (string_digest kind b)
digests kind a b =
    let x = spell (ByteString a) in
    let y = spell (ByteString b) in
    let same = hash_kind kind x ∙ sym (hash_kind kind y) in
    (same, hash_long kind x ∙ ap digest_size same ∙ sym (hash_long kind y))

same_digest : (a b : Digest) → AreAlike a b → length (spell (digest_item a)) ≡ length (spell (digest_item b))
same_digest a b alike =
    behind (head_bytes 4 2) _ _
    (same_append (spell (algorithm_item (digest_kind a))) (spell (algorithm_item (digest_kind b))) _ _ (ap (λ (k : DigestKind). length (spell (algorithm_item k))) alike.0)
    (same_append (spell (ByteString (digest_bytes a))) (spell (ByteString (digest_bytes b))) [] [] (same_string (digest_bytes a) (digest_bytes b) alike.1) refl))

-- ---- the manifest

abbrev SameRow : Option DataItem → Option DataItem → Type 0
SameRow None None = Unit {0}
SameRow (Some x) (Some y) = length (spell x) ≡ length (spell y)
SameRow None (Some y) = ⊥
SameRow (Some x) None = ⊥

one_row : (o : Option DataItem) → SameRow o o
one_row None = tt
one_row (Some x) = refl

abbrev SamePairs : DataPairs → DataPairs → Type 0
SamePairs ps qs = (pair_count ps ≡ pair_count qs) × (length (spell_pairs ps) ≡ length (spell_pairs qs))

row_then : (key : ℕ) (o p : Option DataItem) (ps qs : DataPairs) → SameRow o p → SamePairs ps qs → SamePairs (pair_then key o ps) (pair_then key p qs)
row_then key None None ps qs h same = same
row_then key (Some x) (Some y) ps qs h same = (ap (λ n. n + 1) same.0, behind (spell (UnsignedInteger key)) _ _ (same_append (spell x) (spell y) (spell_pairs ps) (spell_pairs qs) h same.1))
row_then key None (Some y) ps qs h same = absurd h
row_then key (Some x) None ps qs h same = absurd h

same_map : (ps qs : DataPairs) → SamePairs ps qs → length (spell (MapOf ps)) ≡ length (spell (MapOf qs))
same_map ps qs same = same_append (head_bytes 5 (pair_count ps)) (head_bytes 5 (pair_count qs)) (spell_pairs ps) (spell_pairs qs) (ap (λ n. length (head_bytes 5 n)) same.0) same.1

member_row : (b : Bool) (kind : DigestKind) (m : Member) → SameRow (severed_item (apart_member b kind (bare_member b kind m))) (severed_item (apart_member b kind m))
member_row true kind members.Empty = tt
member_row true kind (members.Here s) = same_digest (string_digest kind []) (string_digest kind (spell (sequence_item s))) (digests kind [] (spell (sequence_item s)))
member_row true kind (members.Apart digest) = refl
member_row false kind m = one_row (severed_item m)

abbrev SameRows : List Row → List Row → Type 0
SameRows [] [] = Unit {0}
SameRows (r ∷ rs) (q ∷ qs) = (r.0 ≡ q.0) × SameRow r.1 q.1 × SameRows rs qs
SameRows [] (q ∷ qs) = ⊥
SameRows (r ∷ rs) [] = ⊥

same_rows : (rs qs : List Row) → SameRows rs qs → SamePairs (row_pairs rs) (row_pairs qs)
same_rows [] [] h = (refl, refl)
same_rows (r ∷ rs) (q ∷ qs) h =
    subst (λ n. SamePairs (pair_then r.0 r.1 (row_pairs rs)) (pair_then n q.1 (row_pairs qs))) h.0 (row_then r.0 r.1 q.1 (row_pairs rs) (row_pairs qs) h.1 (same_rows rs qs h.2))
same_rows [] (q ∷ qs) h = absurd h
same_rows (r ∷ rs) [] h = absurd h

manifest_same : (p : Described) → length (spell (manifest_item (made_manifest (bare p.severed p)))) ≡ length (spell (manifest_item (made_manifest p)))
manifest_same p =
    let m : Manifest = made_manifest p in
    let n : Manifest = made_manifest (bare p.severed p) in
    same_map (row_pairs (manifest_rows n)) (row_pairs (manifest_rows m))
    (same_rows (manifest_rows n) (manifest_rows m) (
      refl,
      refl,
      (
        refl,
        refl,
        (
          refl,
          refl,
          (
            refl,
            one_row (text_item m.reference),
            (
              refl,
              one_row (held_item m.validate),
              (
                refl,
                one_row (held_item m.load),
                (
                  refl,
                  one_row (held_item m.invoke),
                  (refl, member_row p.severed.payload_fetch p.severed.kinds.payload_fetch p.manifest.payload_fetch, (refl, member_row p.severed.install p.severed.kinds.install p.manifest.install, (refl, one_row (text_member_item m.text), tt))),
                ),
              ),
            ),
          ),
        ),
      ),
    ))

-- ---- the wrapper

tag_long : (kind : MacKind) (key protected payload : List ℕ) → length (tag_of kind key protected payload) ≡ size_of kind
unfolding tag_of hmac_of hmac512_of
tag_long macs.Hmac256 key protected payload = length-sha256 _
tag_long macs.Hmac512 key protected payload = length-sha512 _

block_same : (mac : MacKind) (key : List ℕ) (kid : Option (List ℕ)) (a b : Digest) → length (made_block mac key kid a) ≡ length (made_block mac key kid b)
block_same mac key kid a b =
    let header = made_header mac in
    let s = tag_of mac key header (payload_of a) in
    let t = tag_of mac key header (payload_of b) in
    behind (head_bytes 6 17) _ _ (behind (head_bytes 4 4) _ _ (behind (spell (ByteString header)) _ _ (behind (spell (MapOf (kid_pairs kid))) _ _ (behind (spell NullItem) _ _
    (same_append (spell (ByteString s)) (spell (ByteString t)) [] [] (same_string s t (tag_long mac key header (payload_of a) ∙ sym (tag_long mac key header (payload_of b)))) refl)))))

wrapper_same : (mac : MacKind) (key : List ℕ) (kid : Option (List ℕ)) (a b : Digest) → AreAlike a b → length (made_wrapper mac key kid a) ≡ length (made_wrapper mac key kid b)
wrapper_same mac key kid a b e =
    let x = made_block mac key kid a in
    let y = made_block mac key kid b in
    behind (head_bytes 4 2) _ _
    (same_append (spell (ByteString (spell (digest_item a)))) (spell (ByteString (spell (digest_item b)))) _ _ (same_string _ _ (same_digest a b e))
    (same_append (spell (ByteString x)) (spell (ByteString y)) [] [] (same_string x y (block_same mac key kid a b)) refl))

-- ---- the trimmed envelope

trimmed_same : (v w m n : List ℕ) → length v ≡ length w → length m ≡ length n → length (trimmed v m) ≡ length (trimmed w n)
unfolding trimmed
trimmed_same v w m n e k =
    behind (head_bytes 6 107) _ _ (behind (head_bytes 5 2) _ _ (behind (spell (UnsignedInteger 2)) _ _ (same_append (spell (ByteString v)) (spell (ByteString w)) _ _ (same_string v w e) (behind (spell (UnsignedInteger 3)) _ _
    (same_append (spell (ByteString m)) (spell (ByteString n)) [] [] (same_string m n k) refl)))))

pub bare_trimmed : (key : List ℕ) (p : Described) → length (trimmed_bytes (made_parts key (parted (bare p.severed p)))) ≡ length (trimmed_bytes (made_parts key (parted p)))
bare_trimmed key p =
    let m = spell (manifest_item (made_manifest (bare p.severed p))) in
    let n = spell (manifest_item (made_manifest p)) in
    trimmed_same _ _ m n (wrapper_same p.mac key p.kid (string_digest p.algorithm m) (string_digest p.algorithm n) (digests p.algorithm m n)) (manifest_same p)
