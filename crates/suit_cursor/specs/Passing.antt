-- The position after the pairs of a map of parameters, found from their heads.
use Rattle.std.specs.Prelude.{ℕ, zero, suc, Result, Ok, Err}
use Rattle.det_cbor.specs.declared.head.HeadKind.{HeadKind}
use Rattle.det_cbor.specs.declared.head.HeadKind.TheVariants as kinds
use Rattle.det_cbor.specs.HeadReading.{◌>>=◌}
use Rattle.det_cbor.specs.Position.{Position}
use Rattle.suit_params.specs.declared.refusal.Refusal.{Refusal}
use Rattle.suit_params.specs.Reading.{head_from, bytes_from}
use Rattle.suit_commands.specs.Judged.{behind}

-- the head of a string is followed by n bytes, and other heads by nothing
abbrev pub behind_head : ℕ → Position → HeadKind → Result Position Refusal
behind_head n p kinds.Bytes = behind (bytes_from n p)
behind_head n p kinds.Text = behind (bytes_from n p)
behind_head n p _ = Ok p

-- the position after an item that holds no other items
unfoldable pub behind_plain : Position → Result Position Refusal
behind_plain p = head_from p >>= λ h. behind_head h.0.value h.1 h.0.kind

abbrev pub behind_pair : Position → Result Position Refusal
behind_pair p = head_from p >>= λ key. behind_plain key.1

-- the position after the next n pairs
abbrev pub behind_pairs : ℕ → Position → Result Position Refusal
behind_pairs zero p = Ok p
behind_pairs (suc n) p = behind_pair p >>= behind_pairs n
