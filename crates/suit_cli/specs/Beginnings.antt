-- What comes before a boot and before an update, in stages.
use Rattle.std.specs.Prelude.{ℕ, List}
use Rattle.suit_cli.specs.Stages.{Answers, ◌>>=◌, Last}
use Rattle.suit_cli.specs.Inputs.{longest_file, file}
use Rattle.suit_cli.specs.Acceptance.{accepts}
use Rattle.suit_cli.specs.Installed.{config_in}

-- `run boot`: the configuration. A boot follows, or memory runs out for its line.
abbrev pub begins_boot : Answers
begins_boot = config_in >>= λ config. Last (λ reply. ⊥)

-- `run update FILE`: the configuration, the file, and what it spells. An update follows, or memory runs out for its
-- line.
abbrev pub begins_update : List ℕ → Answers
begins_update name =
    config_in >>= λ config.
    file longest_file name >>= λ bytes.
    accepts config.2 config.0 config.1 bytes >>= λ accepted.
    Last (λ reply. ⊥)
