-- Whether bytes are text, as a test.
use Rattle.std.proofs.Common.{◌≡◌, ℕ, true, List}
use Rattle.std.specs.Str.{IsUtf8, is_utf8}
use Rattle.det_cbor.proofs.Utf8.{good_utf8}

pub good_text : (bytes : List ℕ) → IsUtf8 bytes → is_utf8 bytes ≡ true
good_text bytes text = good_utf8 bytes text
