use Rattle.std.proofs.Common.{◌≡◌, ◌∙◌, ap, None}
use Rattle.std.specs.List.{position}
use Rattle.suit_edge.proofs.FileTables.{has_name, pushed_where_missing}
use Rattle.suit_edge.proofs.file_table.set.Goals as goal

pub returns-in_ok-push-in-None-clause-ok : goal.returns-in_ok-push-in-None-clause-ok
returns-in_ok-push-in-None-clause-ok c =
    let name : c.in_ok-from_str-in-None.field-0 ≡ c.args.name.now = c.in_ok-from_str-in-None.ensures in
    let missing : None ≡ position (has_name c.args.name.now) c.args.files.now.items = c.in-None.ensures ∙ ap (position (has_name c.args.name.now)) c.as_slice.ensures.value in
    rw (c.in_ok-push-in-None.ensures.items, name, c.in_ok-bytes.ensures)
    (pushed_where_missing c.args.files.now.items c.args.name.now c.args.bytes.now missing)
