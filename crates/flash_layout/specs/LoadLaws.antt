-- Laws of loading a configuration.
use Rattle.std.specs.Prelude.{◌≡◌, ◌<◌, ◌≤◌, ◌-◌, ◌^◌, ℕ, List, length}
use Rattle.flash_layout.specs.declared.frame.Frame.{Frame}
use Rattle.flash_layout.specs.declared.layout.Entry.{Entry}
use Rattle.flash_layout.specs.declared.key.Key.{Key}
use Rattle.flash_layout.specs.declared.load.Loaded.TheVariants as loaded
use Rattle.flash_layout.specs.Layouts.{AreTyped, IsLayout, IsKey}
use Rattle.flash_layout.specs.Configs.{ConfigOf, Configured, LoadCounts, LoadsAllowed, LoadsExactly}
use Rattle.flash_layout.specs.Frames.{IsFrame, head_size}

pub record LoadLaws : Type 0 where
  -- a layout and a key that are loaded are allowed on a flash of this size, which has room for the head
  pub allowed : (frame : Frame) (size : ℕ) (layout : List Entry) (key : Key)
      → LoadsAllowed size (loaded.Config layout key frame)
      → IsLayout frame size layout × IsKey key × AreTyped layout key × (head_size frame ≤ size)
  -- the frame is one of the flash
  pub frame_is : (frame : Frame) (size : ℕ) (layout : List Entry) (key : Key)
      → LoadsAllowed size (loaded.Config layout key frame) → IsFrame size frame
  -- what an image says is allowed too
  pub said : (frame : Frame) (size : ℕ) (image : List ℕ) (layout : List Entry) (key : Key)
      → length image ≤ size → ConfigOf size image (Configured layout key frame)
      → LoadsAllowed size (loaded.Config layout key frame)
  -- two loads of the same image agree
  pub one : (size : ℕ) (image : List ℕ) (layout others : List Entry) (key other : Key)
      (frame there : Frame) → LoadsExactly size image (loaded.Config layout key frame)
      → LoadsExactly size image (loaded.Config others other there)
      → (layout ≡ others) × (key ≡ other) × (frame ≡ there)
  pub not_blank : (size : ℕ) (image : List ℕ) (layout : List Entry) (key : Key) (frame : Frame)
      → LoadsExactly size image (loaded.Config layout key frame)
      → LoadsExactly size image loaded.Blank → ⊥
  pub not_bad : (size : ℕ) (image : List ℕ) (layout : List Entry) (key : Key) (frame : Frame)
      → LoadsExactly size image (loaded.Config layout key frame)
      → LoadsExactly size image loaded.BadConfig → ⊥
  -- only a fault raises the count
  pub failed : (before : ℕ) → before < 2 ^ 64 - 1 → LoadCounts loaded.FlashFault before before → ⊥
  pub config : (layout : List Entry) (key : Key) (frame : Frame) (before now : ℕ)
      → LoadCounts (loaded.Config layout key frame) before now → now ≡ before
  pub blank : (before now : ℕ) → LoadCounts loaded.Blank before now → now ≡ before
  pub bad : (before now : ℕ) → LoadCounts loaded.BadConfig before now → now ≡ before
  pub starved : (before now : ℕ) → LoadCounts loaded.NoMemory before now → now ≡ before
