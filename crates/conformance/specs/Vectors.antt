-- Byte vectors.
use Rattle.std.specs.Prelude.{ℕ, List, [], ◌∷◌, ◌++◌, codes, drop, replicate, Result, Ok, Err}
use Rattle.hex.specs.declared.error.FromHexError.{FromHexError}
use Rattle.hex.specs.Hex.{decode_of}

abbrev pub bytes_in : Result (List ℕ) FromHexError → List ℕ
bytes_in (Ok bytes) = bytes
bytes_in (Err error) = []

-- the bytes of a text in hexadecimal
abbrev pub hex : List ℕ → List ℕ
hex text = bytes_in (decode_of text)

-- the SHA-256 of `abc` (FIPS 180-4, its example of one block)
abbrev pub abc_digest : List ℕ
abc_digest = hex (codes "ba7816bf8f01cfea414140de5dae2223b00361a396177a9cb410ff61f20015ad")

-- the SHA-256 of no bytes
abbrev pub empty_digest : List ℕ
empty_digest = hex (codes "e3b0c44298fc1c149afbf4c8996fb92427ae41e4649b934ca495991b7852b855")

-- [20, {3: [-16, the digest of `abc`], 14: 3}]
abbrev pub shared_sequence : List ℕ
shared_sequence = hex (codes "8214a2035824822f5820") ++ abc_digest ++ hex (codes "0e03")

-- {1: 1, 2: 1, 3: {2: [['00']], 4: the shared sequence}, 7: [3, 15], 9: [23, 15]}, each sequence in a byte string
abbrev pub manifest : List ℕ
manifest =
    hex (codes "a501010201035835a2028181410004582c") ++ shared_sequence
    ++ hex (codes "074382030f094382170f")

-- that manifest in a tagged envelope, whose wrapper has a digest of 32 zero bytes and no block
abbrev pub of_zero_digest : List ℕ
of_zero_digest =
    hex (codes "d86ba2025827815824822f5820") ++ replicate 32 0 ++ hex (codes "035847") ++ manifest

-- that manifest with one more pair, 20: [20, {21: "img"}, 21, 15]
abbrev pub installing : List ℕ
installing = hex (codes "a6") ++ drop 1 manifest ++ hex (codes "144a8414a11563696d67150f")

abbrev pub byte_vectors : List (List ℕ)
byte_vectors =
    abc_digest ∷ empty_digest ∷ shared_sequence ∷ manifest ∷ of_zero_digest ∷ installing ∷ []
