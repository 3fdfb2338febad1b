-- Heads of data items (RFC 8949, sections 3 and 4.2.1): a major type and an argument in its shortest form.
use Rattle.std.specs.Prelude.{ℕ, ◌+◌, ◌*◌, ◌^◌, nat_lt, if◌then◌else◌, List, [], ◌∷◌}
use Rattle.std.specs.Int.{w8, w16, w32, w64, to_be_bytes}

-- the shortest head of a major type and an argument below 2 ^ 64
unfoldable pub head_bytes : ℕ → ℕ → List ℕ
head_bytes major argument =
    if nat_lt argument 24 then (32 * major + argument) ∷ []
    else if nat_lt argument (2 ^ 8) then (32 * major + 24) ∷ to_be_bytes w8 argument
    else if nat_lt argument (2 ^ 16) then (32 * major + 25) ∷ to_be_bytes w16 argument
    else if nat_lt argument (2 ^ 32) then (32 * major + 26) ∷ to_be_bytes w32 argument
    else (32 * major + 27) ∷ to_be_bytes w64 argument
