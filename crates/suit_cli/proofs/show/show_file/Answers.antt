use Rattle.std.proofs.lemmas.Result.{err_from_is_err_and}
use Rattle.suit_cli.specs.Commands.{shows_manifest}
use Rattle.suit_cli.proofs.Opened.{ends_before, goes_behind}
use Rattle.suit_cli.proofs.show.show_file.Goals as goal

pub returns-in_err-file : goal.returns-in_err-file
returns-in_err-file g c flash =
    let p = err_from_is_err_and c.from_residual.result c.from_residual.ensures.1 in
    rw (p.1, p.2) (ends_before c.args.bytes.now (shows_manifest c.args.key_name.now) _ _ _ (c.in_err-file.ensures _))

pub returns : goal.returns
returns g c flash = goes_behind c.args.bytes.now c.in_ok-file.file c.in_ok-file.ensures (shows_manifest c.args.key_name.now) _ _ _ (c.show_manifest.ensures flash)
