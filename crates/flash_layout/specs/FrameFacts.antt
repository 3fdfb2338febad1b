-- How the places of a frame are related, for either version.
use Rattle.std.proofs.Common.{◌≡◌, inl, inr, ◌<◌, ◌^◌, ◌≤◌, zero, suc, ℕ, ◌+◌, ◌-◌, List, length, get_or, take, drop, ◌∙◌, ap, arith}
use Rattle.std.specs.Prelude.{◌==◌, if◌then◌else◌}
use Rattle.std.specs.List.{slice_range}
use Rattle.std.proofs.lemmas.List.{take-take, drop-take, drop-drop}
use Rattle.std.proofs.lemmas.List.Edits.{get_or-between, length-between}
use Rattle.suit_edge.specs.Ranges.{Outside, Within}
use Rattle.flash_layout.specs.declared.frame.Frame.{Frame}
use Rattle.flash_layout.specs.declared.frame.TheConstants.{CONFIG_GATE, ROOT_BYTES, ROOT_GATE}
use Rattle.flash_layout.specs.Frames.{First, Second, IsFrame, bank_from, bank_of, bank_place, bank_size, by_version, config_page_of, config_size, frame_size, head_of, head_size, page_bytes, record_from, record_place}
use Rattle.flash_layout.specs.Layouts.{AreClear, IsBehindHead}

-- the size of the record pages and the banks
abbrev pub behind_pages : Frame → ℕ
behind_pages frame = 8192 + bank_size frame + bank_size frame

-- these hold of a frame on a flash of this size
pub record FrameFacts (size : ℕ) (frame : Frame) : Type 0 where
  -- the record pages and the banks are apart from the gate of version 1's configuration page, and from the
  -- root
  pub gate : Outside (record_place frame 0) (behind_pages frame) CONFIG_GATE
  pub root : (i : ℕ) → Within ROOT_GATE ROOT_BYTES i
      → Outside (record_place frame 0) (behind_pages frame) i
  -- the bytes that are read have room for at least eight components, and are all on the configuration page
  pub some : 1204 ≤ page_bytes frame
  pub page : page_bytes frame ≤ config_size frame
  -- the record pages and the banks follow that page, up to the end of the head
  pub first_bank : bank_from frame 0 ≡ record_from frame 2
  pub second_bank : bank_from frame 1 ≡ record_from frame 2 + bank_size frame
  pub head : record_from frame 2 + bank_size frame + bank_size frame ≤ head_size frame
  -- a bank has room for an envelope of 16,384 bytes
  pub large : 16384 ≤ bank_size frame
  pub whole : head_size frame ≤ frame_size frame
  -- the head is inside the flash
  pub inside : frame.base + head_size frame ≤ size
  -- the work area of version 2 is inside the flash
  pub area : frame.version ≡ 2 → frame.base + 225280 ≤ size
  -- all places are 64-bit numbers
  pub numbers : frame.base + frame_size frame < 2 ^ 64
  -- the head shares no byte with a slot
  pub clear : (p n : ℕ) → IsBehindHead frame size p n → AreClear frame.base (head_size frame) p n

pub by_second : (frame : Frame) (first second : ℕ) → frame.version ≡ 2 → by_version frame first second ≡ second
by_second frame first second is = ap (λ (n : ℕ). if n == 1 then first else second) is

pub by_first : (frame : Frame) (first second : ℕ) → frame.version ≡ 1 → by_version frame first second ≡ first
by_first frame first second is = ap (λ (n : ℕ). if n == 1 then first else second) is

pub facts : (size : ℕ) (frame : Frame) → IsFrame size frame → FrameFacts size frame
facts size frame (First is base room) =
    let h = by_first frame 49152 147456 is in
    let c = by_first frame 4096 8192 is in
    let b = by_first frame 16384 65536 is in
    let m = by_first frame 8 32 is in
    record {
      gate = inl (omega (arith, c, base));
      root = λ i within. let low = within.0 in inr (omega (arith, base, c, b, low));
      some = omega (arith, m);
      page = omega (arith, c, m);
      first_bank = omega (arith, by_first frame 0 0 is);
      second_bank = omega (arith, b, by_first frame 16384 65536 is);
      head = omega (arith, c, b, h);
      large = omega (arith, b);
      whole = omega (arith, h, by_first frame 49152 225280 is);
      inside = omega (arith, h, base, room);
      area = λ two. absurd (omega (arith, is, two));
      numbers = omega (arith, base, by_first frame 49152 225280 is);
      clear = λ p n there. let low = there.0 in (λ before. omega (arith, h, base, low), λ behind. omega (arith, base, low, behind));
    }
facts size frame (Second is base room low) =
    let h = by_second frame 49152 147456 is in
    let c = by_second frame 4096 8192 is in
    let b = by_second frame 16384 65536 is in
    let m = by_second frame 8 32 is in
    let f = by_second frame 49152 225280 is in
    record {
      gate = inl (omega (arith, c, base));
      root = λ i within. let high = within.1 in inl (omega (arith, base, c, high));
      some = omega (arith, m);
      page = omega (arith, c, m);
      first_bank = omega (arith, by_second frame 0 0 is);
      second_bank = omega (arith, b, by_second frame 16384 65536 is);
      head = omega (arith, c, b, h);
      large = omega (arith, b);
      whole = omega (arith, h, f);
      inside = omega (arith, h, room);
      area = λ two. room;
      numbers = omega (arith, f, low);
      clear = λ p n there.
          let apart = there.2 in (
            λ before. omega (arith, h, f, apart.0 before),
            λ behind. apart.1 behind,
          );
    }

-- ---- ranges

-- a range within a range
pub within : (image : List ℕ) (base size from to : ℕ) → from ≤ to → to ≤ size → slice_range (slice_range image base (base + size)) from to ≡ slice_range image (base + from) (base + to)
within image base size from to low high =
    let inner = drop base image in
    let n : base + size - base ≡ from + (size - from) = omega (arith, low, high) in
    let few : to - from ≤ size - from = omega (arith, high) in
    let same : to - from ≡ base + to - (base + from) = omega arith in
    ap (take (to - from)) (ap (λ (k : ℕ). drop from (take k inner)) n ∙ drop-take from (size - from) inner) ∙ take-take (to - from) (size - from) (drop from inner) few
    ∙ ap (take (to - from)) (drop-drop from base image) ∙ ap (λ (k : ℕ). take k (drop (base + from) image)) same

-- ---- the parts of a head

module _ (size : ℕ) (frame : Frame) (is : FrameFacts size frame) where
  -- a bank ends within the head
  pub bank_high : (b : ℕ) → b < 2 → bank_from frame b + bank_size frame ≤ head_size frame
  bank_high zero two = omega (arith, is.first_bank, is.head)
  bank_high (suc zero) two = omega (arith, is.second_bank, is.head)
  bank_high (suc (suc b)) two = absurd (omega (arith, two))

  module _ (image : List ℕ) where
    pub head_long : frame.base + head_size frame ≤ length image → length (head_of frame image) ≡ head_size frame
    head_long fits = length-between image frame.base (frame.base + head_size frame) fits ∙ omega arith

    -- a byte of the head, and a range of its bytes, as those of the flash
    pub byte_there : (i : ℕ) → i < head_size frame → get_or (head_of frame image) i 0 ≡ get_or image (frame.base + i) 0
    byte_there i few = get_or-between image frame.base (frame.base + head_size frame) i 0 (omega (arith, few))

    pub part_there : (from n : ℕ) → from + n ≤ head_size frame → slice_range (head_of frame image) from (from + n) ≡ slice_range image (frame.base + from) (frame.base + from + n)
    part_there from n high =
        let to : frame.base + (from + n) ≡ frame.base + from + n = omega arith in
        within image frame.base (head_size frame) from (from + n) (omega arith) high ∙ ap (slice_range image (frame.base + from)) to

    pub page_there : config_page_of frame (head_of frame image) ≡ slice_range image frame.base (frame.base + page_bytes frame)
    page_there =
        let at : frame.base + 0 ≡ frame.base = omega arith in
        within image frame.base (head_size frame) 0 (page_bytes frame) (omega arith) (omega (arith, is.page, is.head))
        ∙ ap (λ (k : ℕ). slice_range image k (frame.base + page_bytes frame)) at

    pub record_there : (w n : ℕ) → w < 2 → n ≤ 4096
        → slice_range (head_of frame image) (record_from frame w) (record_from frame w + n) ≡ slice_range image (record_place frame w) (record_place frame w + n)
    record_there w n two few = part_there (record_from frame w) n (omega (arith, two, few, is.head))

    pub bank_there : (b n : ℕ) → b < 2 → n ≤ bank_size frame → bank_of frame (head_of frame image) b n ≡ slice_range image (bank_place frame b) (bank_place frame b + n)
    bank_there b n two few = part_there (bank_from frame b) n (omega (arith, few, bank_high b two))
