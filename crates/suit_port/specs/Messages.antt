-- Messages to a port. These definitions are this project's own.
use Rattle.std.specs.Int.{to_le_bytes, w32, w64}
use Rattle.std.specs.Prelude.{◌++◌, ℕ, List}
use Rattle.suit_port.specs.declared.message.Message.{Message}
use Rattle.suit_port.specs.declared.message.Request.{Request}
use Rattle.suit_port.specs.declared.message.Request.TheVariants as requests

-- the number of a request in its message
abbrev pub request_number : Request → ℕ
request_number requests.Read = 1
request_number requests.Write = 2
request_number requests.Sync = 3
request_number requests.Start = 4
request_number requests.Pull = 5
request_number requests.Store = 6
request_number requests.Arguments = 7
request_number requests.LaunchFlash = 8
request_number requests.LaunchMemory = 9
request_number requests.Put = 10

-- the head of this message under this serial number: 32 bytes, each number little-endian
abbrev pub head_of : ℕ → Message → List ℕ
head_of serial message =
    to_le_bytes w32 (request_number message.request) ++ to_le_bytes w32 message.component
    ++ to_le_bytes w64 serial ++ to_le_bytes w64 message.place ++ to_le_bytes w64 message.length
