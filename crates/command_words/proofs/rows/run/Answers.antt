use Rattle.std.proofs.Common.{◌≡◌, [], Option, option_map, sym, subst}
use Rattle.std.specs.Prelude.{IfOk}
use Rattle.command_words.specs.Said.{said}
use Rattle.command_words.specs.Tasks.{Task}
use Rattle.command_words.proofs.OtherNames.{run_default, run_migrate}
use Rattle.command_words.proofs.rows.run.Goals as goal

pub returns-in_default : goal.returns-in_default
returns-in_default c =
    run_default c.args.words.now (record { ref_ptr = (0, 0); now = [] }) c.if-words-lt2.false
    (record { init = c.in_default.not-init; update = c.in_default.not-update; boot = c.in_default.not-boot; status = c.in_default.not-status; migrate = c.in_default.not-migrate })

pub returns-in-migrate : goal.returns-in-migrate
returns-in-migrate c =
    subst (λ (t : Option Task). IfOk c.migrate.result (λ command. option_map said command ≡ t))
    (sym (run_migrate c.args.words.now (record { ref_ptr = (0, 0); now = [] }) c.if-words-lt2.false c.in-migrate.is)) c.migrate.ensures
