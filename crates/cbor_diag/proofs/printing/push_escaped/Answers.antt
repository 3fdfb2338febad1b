use Rattle.std.proofs.Common.{◌++◌, ℕ, List, string_bytes, sym, ap, ◌∙◌, map-id}
use Rattle.std.specs.Prelude.{encode_utf8_all}
use Rattle.std.proofs.lemmas.Iterator.{YieldsList-from_chars}
use Rattle.std.proofs.lemmas.Iterator.Consumers.{YieldsList-end}
use Rattle.std.proofs.lemmas.Str.{encodes-chars}
use Rattle.cbor_diag.specs.Notation.{escaped}
use Rattle.cbor_diag.proofs.Escapes.{one_more}
use Rattle.cbor_diag.proofs.printing.push_escaped.Goals as goal

pub loop-character-preserved : goal.loop-character-preserved
loop-character-preserved c = one_more _ _ _ c.loop-character.yielded c.in-Some.character c.loop-character.invariant c.in_ok-push_character.ensures

pub returns : goal.returns
returns c =
    let end = YieldsList-end (YieldsList-from_chars c.args.text.now c.utf8.text cc) c.loop-character.yielded _ c.loop-character.yielded_by _ _ c.in-None.is c.next.ensures.steps in
    c.loop-character.invariant
    ∙ ap (λ (l : List ℕ). string_bytes c.args.out.now ++ escaped (encode_utf8_all l)) (sym (map-id c.loop-character.yielded) ∙ end.0)
    ∙ ap (λ (l : List ℕ). string_bytes c.args.out.now ++ escaped l) (encodes-chars c.args.text.now c.utf8.text)
