use Rattle.std.proofs.Common.{◌∙◌, sym, ap, subst}
use Rattle.std.specs.Str.{IsUtf8}
use Rattle.std.proofs.lemmas.Str.{IsUtf8-string_bytes}
use Rattle.cbor_diag.proofs.Answered.{text_whole}
use Rattle.cbor_diag.proofs.reading.read_text.Goals as goal

pub returns-in-Ok : goal.returns-in-Ok
returns-in-Ok c =
    text_whole c.args.text.now _ _ c.in_ok-bytes.rest.now c.in_ok-bytes.ensures
    (c.from_string.ensures ∙ ap (λ v. v.items) c.in-Ok.ensures.ok ∙ c.into_vec.ensures)
    (subst IsUtf8 (sym c.from_string.ensures) (IsUtf8-string_bytes c.in-Ok.text))
