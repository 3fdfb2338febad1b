use Rattle.std.proofs.Common.{List, ℕ, Ok, Err, subst}
use Rattle.std.specs.Prelude.{IsTrue}
use Rattle.author.specs.Files.{has_files}
use Rattle.suit_cli.specs.Stages.{Goes}
use Rattle.suit_cli.proofs.Chains.{ends_second, ends_there}
use Rattle.suit_cli.proofs.Authoring.{files_by, made_by, stores_by}
use Rattle.suit_cli.proofs.make.make_described.Goals as goal

pub returns-in_err-key : goal.returns-in_err-key
returns-in_err-key g c flash = ends_there _ _ _ _ c.from_residual.result c.in_err-key.field-0.0 c.from_residual.ensures.1 (c.in_err-key.ensures flash)

pub returns-in_err-files : goal.returns-in_err-files
returns-in_err-files g c flash =
    ends_second _ _ _ _ _ _ c.in_ok-key.key (c.in_ok-key.ensures flash) c.from_residual-in_err-files.result c.in_err-files.field-0.0 c.from_residual-in_err-files.ensures.1
    (files_by _ _ c.files.ensures _ _ (Err c.in_err-files.field-0.0) (c.in_err-files.ensures.does flash))

pub made-requires : goal.made-requires
made-requires g c = subst (λ (names : List (List ℕ)). IsTrue (has_files c.in_ok-files.files names)) c.files.ensures c.in_ok-files.ensures.each

pub returns-in_err-envelope : goal.returns-in_err-envelope
returns-in_err-envelope g c flash =
    Goes c.in_ok-key.key _ _ (c.in_ok-key.ensures flash)
    (ends_second _ _ _ _ _ _ c.in_ok-files.files (files_by _ _ c.files.ensures _ _ (Ok c.in_ok-files.files) (c.in_ok-files.ensures.does flash))
    c.from_residual-in_err-envelope.result c.in_err-envelope.field-0.0 c.from_residual-in_err-envelope.ensures.1
    (made_by _ _ _ _ c.as_slice.ensures (Err c.in_err-envelope.field-0.0) c.in_err-envelope.ensures _))

pub returns : goal.returns
returns g c flash =
    Goes c.in_ok-key.key _ _ (c.in_ok-key.ensures flash)
    (Goes c.in_ok-files.files _ _ (files_by _ _ c.files.ensures _ _ (Ok c.in_ok-files.files) (c.in_ok-files.ensures.does flash))
    (Goes c.in_ok-envelope.envelope _ _ (made_by _ _ _ _ c.as_slice.ensures (Ok c.in_ok-envelope.envelope) c.in_ok-envelope.ensures _)
    (stores_by _ _ _ c.as_slice-2.ensures _ _ _ (c.store.ensures flash))))
