-- Laws of configuration pages.
use Rattle.std.specs.Prelude.{◌≡◌, ℕ, List}
use Rattle.flash_layout.specs.declared.frame.Frame.{Frame}
use Rattle.flash_layout.specs.declared.layout.Entry.{Entry}
use Rattle.flash_layout.specs.declared.key.Key.{Key}
use Rattle.flash_layout.specs.Layouts.{AreTyped}
use Rattle.flash_layout.specs.ConfigPage.{IsConfigPage}
use Rattle.flash_layout.specs.Configs.{Config, ConfigOf}

-- the bytes are the page of at most one layout and key
abbrev pub OneConfig : Type 0
OneConfig =
    (frame : Frame) (size : ℕ) (bytes : List ℕ) (layout : List Entry) (key : Key)
    (others : List Entry) (other : Key)
    → AreTyped layout key → AreTyped others other → IsConfigPage frame size bytes layout key
    → IsConfigPage frame size bytes others other → (layout ≡ others) × (key ≡ other)

-- an image has at most one configuration on a flash of this size
abbrev pub OneAnswer : Type 0
OneAnswer =
    (size : ℕ) (image : List ℕ) (a b : Config) → ConfigOf size image a → ConfigOf size image b
    → a ≡ b
