-- Where the parts of a flash are, for each version of its layout.
use Rattle.std.specs.Prelude.{◌≡◌, ◌≢◌, ◌<◌, ◌+◌, ◌^◌, ℕ, List, ◌∷◌, Some, None}
use Rattle.suit_edge.specs.declared.page.TheConstants.{OPEN, CLOSED}
use Rattle.flash_layout.specs.declared.frame.TheConstants.{VERSION_1, ROOT_BYTES, ROOT_GATE, SLOTS_START, LENGTH_SIZE, ENTRY_SIZE, FRONT_SIZE}
use Rattle.flash_layout.specs.Frames.{bank_place, bank_size, checkpoint_place, frame_size, head_size, journal_place, most, page_bytes, record_place, record_size}
use Rattle.flash_layout.specs.Roots.{frame_by, root_bytes, second_frame}

pub record FrameLaws : Type 0 where
  -- gates
  pub opened : OPEN ≡ 0xA5
  pub closed : CLOSED ≡ 0
  -- the head
  pub version : VERSION_1.version ≡ 1
  pub base : VERSION_1.base ≡ 0
  pub size : head_size VERSION_1 ≡ 49152
  -- the configuration page: up to eight components, so that 1,204 bytes are read
  pub most : most VERSION_1 ≡ 8
  pub front : FRONT_SIZE ≡ 68
  pub entry : ENTRY_SIZE ≡ 142
  pub page : page_bytes VERSION_1 ≡ 1204
  -- the record pages
  pub record_0 : record_place VERSION_1 0 ≡ 4096
  pub record_1 : record_place VERSION_1 1 ≡ 8192
  pub record_size : record_size VERSION_1 ≡ 4096
  -- the banks
  pub bank_0 : bank_place VERSION_1 0 ≡ 12288
  pub bank_1 : bank_place VERSION_1 1 ≡ 28672
  pub bank_size : bank_size VERSION_1 ≡ 16384
  -- the slots
  pub slots : SLOTS_START ≡ 49152
  pub length : LENGTH_SIZE ≡ 8

-- layout version 2 with this base
pub record SecondLaws (base : ℕ) : Type 0 where
  pub size : head_size (second_frame base) ≡ 147456
  -- the configuration page: up to 32 components, so that 4,612 bytes are read
  pub most : most (second_frame base) ≡ 32
  pub page : page_bytes (second_frame base) ≡ 4612
  -- the record pages
  pub record_0 : record_place (second_frame base) 0 ≡ base + 8192
  pub record_1 : record_place (second_frame base) 1 ≡ base + 12288
  -- the banks
  pub bank_0 : bank_place (second_frame base) 0 ≡ base + 16384
  pub bank_1 : bank_place (second_frame base) 1 ≡ base + 81920
  pub bank_size : bank_size (second_frame base) ≡ 65536
  -- the work area
  pub journal : journal_place (second_frame base) ≡ base + 147456
  pub checkpoint : checkpoint_place (second_frame base) ≡ base + 155648
  pub whole : frame_size (second_frame base) ≡ 225280

-- the frame that the bytes of a root give
pub record RootLaws : Type 0 where
  pub place : ROOT_GATE ≡ 45056
  pub bytes : ROOT_BYTES ≡ 10
  pub closed : (gate : ℕ) (rest : List ℕ) → gate ≢ 0xA5
      → frame_by (gate ∷ rest) ≡ Some VERSION_1
  pub told : (base : ℕ) → base < 2 ^ 64
      → frame_by (root_bytes (second_frame base)) ≡ Some (second_frame base)
  pub other : (version : ℕ) (rest : List ℕ) → version ≢ 2
      → frame_by (0xA5 ∷ version ∷ rest) ≡ None
