-- The spelling of a head (RFC 8949, sections 3 and 3.3).
use Rattle.std.specs.Prelude.{◌≡◌, ℕ, ◌+◌, ◌^◌, ◌<◌, List, ◌++◌}
use Rattle.det_cbor.specs.declared.head.Head.{Head}
use Rattle.det_cbor.specs.declared.head.HeadKind.{HeadKind}
use Rattle.det_cbor.specs.declared.head.HeadKind.TheVariants as kinds
use Rattle.det_cbor.specs.Heads.{head_bytes}

-- the major type of a head (RFC 8949, section 3.1)
abbrev pub major_of : HeadKind → ℕ
major_of kinds.Unsigned = 0
major_of kinds.Negative = 1
major_of kinds.Bytes = 2
major_of kinds.Text = 3
major_of kinds.Array = 4
major_of kinds.Map = 5
major_of kinds.Tag = 6
major_of kinds.Bool = 7
major_of kinds.Null = 7

-- the argument that spells a value: 20 for false, 21 for true and 22 for null
abbrev pub argument_of : HeadKind → ℕ → ℕ
argument_of kinds.Bool value = 20 + value
argument_of kinds.Null value = 22 + value
argument_of _ value = value

-- the bytes of a head
abbrev pub spelled : Head → List ℕ
spelled h = head_bytes (major_of h.kind) (argument_of h.kind h.value)

-- the value is one that a head of this kind can have
abbrev pub IsValueOf : HeadKind → ℕ → Type 0
IsValueOf kinds.Bool value = value < 2
IsValueOf kinds.Null value = value ≡ 0
IsValueOf _ value = value < 2 ^ 64

-- the bytes are this head, and then the rest
pub record BeginsWith (bytes : List ℕ) (h : Head) (rest : List ℕ) : Type 0 where
  pub value : IsValueOf h.kind h.value
  pub parts : bytes ≡ spelled h ++ rest
