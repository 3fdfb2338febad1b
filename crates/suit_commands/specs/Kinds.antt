-- Codes of conditions and directives (draft-ietf-suit-manifest-25, sections 8.4.9 and 8.4.10).
use Rattle.std.specs.Prelude.{ℕ}
use Rattle.suit_commands.specs.declared.kinds.TestKind.{TestKind}
use Rattle.suit_commands.specs.declared.kinds.TestKind.TheVariants as tests
use Rattle.suit_commands.specs.declared.kinds.ActKind.{ActKind}
use Rattle.suit_commands.specs.declared.kinds.ActKind.TheVariants as acts

-- the code of a condition
abbrev pub test_code : TestKind → ℕ
test_code tests.Vendor = 1
test_code tests.Class = 2
test_code tests.Device = 24
test_code tests.Slot = 5
test_code tests.ImageMatch = 3
test_code tests.CheckContent = 6
test_code tests.Abort = 14

-- the code of a directive that acts on contents
abbrev pub act_code : ActKind → ℕ
act_code acts.Write = 18
act_code acts.Fetch = 21
act_code acts.Copy = 22
act_code acts.Invoke = 23
act_code acts.Swap = 31
