-- The device of a drill: a flash with a component of two slots, beside one in working memory.
use Rattle.std.specs.Prelude.{ℕ, List, [], ◌∷◌, replicate, None}
use Rattle.flash_layout.specs.declared.frame.TheConstants.{VERSION_1}
use Rattle.flash_layout.specs.declared.layout.Entry.{Entry}
use Rattle.flash_layout.specs.declared.layout.Memory.{Memory}
use Rattle.flash_layout.specs.declared.layout.Memory.TheVariants as memory
use Rattle.flash_layout.specs.Formats.{IsFormatted}
use Rattle.suit_cli.specs.Devices.{key_of}

abbrev pub flash_size : ℕ
flash_size = 262144

-- the key of the flash and of all envelopes
abbrev pub key_bytes : List ℕ
key_bytes = replicate 32 1

-- a component of any device, with an identifier of one byte
abbrev pub entry_of : ℕ → Memory → ℕ → List ℕ → Entry
entry_of part memory slots starts = record {
  identifier = (part ∷ []) ∷ [];
  memory = memory;
  slots = slots;
  starts = starts;
  capacity = 65536;
  vendor = None;
  class = None;
  device = None;
}

abbrev pub device_layout : List Entry
device_layout =
    entry_of 0 memory.Flash 2 (49152 ∷ 114696 ∷ []) ∷ entry_of 1 memory.Ram 1 (0 ∷ 0 ∷ []) ∷ []

-- the image that `run init` leaves: nothing is installed
abbrev pub IsFirst : List ℕ → Type 0
IsFirst image = IsFormatted VERSION_1 flash_size device_layout (key_of key_bytes) image
