-- The head of an item. An item is spelled as its head and then its parts.
use Rattle.std.proofs.Common.{◌≡◌, ℕ, false, true, List, ◌++◌, refl, sym, ap, ◌∙◌, append_assoc, arith}
use Rattle.std.proofs.lemmas.List.{append-nil}
use Rattle.det_cbor.specs.declared.head.Head.{Head}
use Rattle.det_cbor.specs.declared.head.HeadKind.{HeadKind}
use Rattle.det_cbor.specs.declared.head.HeadKind.TheVariants as kinds
use Rattle.det_cbor.specs.Heads.{head_bytes}
use Rattle.det_cbor.specs.DataItem.{DataItem, UnsignedInteger, NegativeInteger, ByteString, TextString, ArrayOf, MapOf, TaggedItem, Boolean, NullItem, spell, IsValidWithin}
use Rattle.det_cbor.specs.ItemOrder.{major_type, head_argument, spell_parts}
use Rattle.det_cbor.specs.HeadSpelling.{BeginsWith, spelled, IsValueOf}

abbrev pub item_kind : DataItem → HeadKind
item_kind (UnsignedInteger n) = kinds.Unsigned
item_kind (NegativeInteger n) = kinds.Negative
item_kind (ByteString bytes) = kinds.Bytes
item_kind (TextString bytes) = kinds.Text
item_kind (ArrayOf xs) = kinds.Array
item_kind (MapOf ps) = kinds.Map
item_kind (TaggedItem tag x) = kinds.Tag
item_kind (Boolean b) = kinds.Bool
item_kind NullItem = kinds.Null

abbrev pub item_value : DataItem → ℕ
item_value (Boolean false) = 0
item_value (Boolean true) = 1
item_value NullItem = 0
item_value x = head_argument x

abbrev pub item_head : DataItem → Head
item_head x = record { kind = item_kind x; value = item_value x }

pub head_and_parts : (x : DataItem)
    → spell x ≡ head_bytes (major_type x) (head_argument x) ++ spell_parts x
unfolding head_bytes
head_and_parts (UnsignedInteger n) = sym (append-nil (head_bytes 0 n))
head_and_parts (NegativeInteger n) = sym (append-nil (head_bytes 1 n))
head_and_parts (Boolean false) = refl
head_and_parts (Boolean true) = refl
head_and_parts _ = refl

pub item_spelled : (x : DataItem) → spell x ≡ spelled (item_head x) ++ spell_parts x
item_spelled (UnsignedInteger n) = head_and_parts (UnsignedInteger n)
item_spelled (NegativeInteger n) = head_and_parts (NegativeInteger n)
item_spelled (Boolean false) = head_and_parts (Boolean false)
item_spelled (Boolean true) = head_and_parts (Boolean true)
item_spelled NullItem = head_and_parts NullItem
item_spelled _ = refl

pub value_fits : (levels : ℕ) (x : DataItem)
    → IsValidWithin levels x → IsValueOf (item_kind x) (item_value x)
value_fits levels (UnsignedInteger n) v = v
value_fits levels (NegativeInteger n) v = v
value_fits levels (ByteString bytes) v = v.0
value_fits levels (TextString bytes) v = v.0.0
value_fits levels (Boolean false) v = omega arith
value_fits levels (Boolean true) v = omega arith
value_fits levels NullItem v = refl
value_fits levels _ v = v.1

-- bytes that begin with an item begin with its head
pub item_begins : (levels : ℕ) (x : DataItem) (bytes rest : List ℕ)
    → IsValidWithin levels x → bytes ≡ spell x ++ rest
    → BeginsWith bytes (item_head x) (spell_parts x ++ rest)
item_begins levels x bytes rest v e =
    record {
      value = value_fits levels x v;
      parts =
          e ∙ ap (λ s. s ++ rest) (item_spelled x) ∙ append_assoc (spelled (item_head x))
          (spell_parts x) rest;
    }
