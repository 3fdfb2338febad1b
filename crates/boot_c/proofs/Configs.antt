-- A page that loads as none has no configuration.
use Rattle.std.specs.Prelude.{◌≡◌, ◌⊎◌, ℕ, List, length}
use Rattle.std.proofs.Common.{inl, inr, subst}
use Rattle.boot_c.specs.BootAnswers.{HasNoConfig}
use Rattle.flash_layout.specs.Configs.{LoadsExactly}
use Rattle.flash_layout.specs.declared.load.Loaded.{Loaded}
use Rattle.flash_layout.specs.declared.load.Loaded.TheVariants as loaded

abbrev Loads : List ℕ → Loaded → Type 0
Loads flash = LoadsExactly (length flash) flash

pub no_config : (flash : List ℕ) (answer : Loaded) → (answer ≡ loaded.Blank) ⊎ (answer ≡ loaded.BadConfig) → LoadsExactly (length flash) flash answer → HasNoConfig flash
no_config flash answer (inl is) loads = inl (subst (Loads flash) is loads)
no_config flash answer (inr is) loads = inr (subst (Loads flash) is loads)
