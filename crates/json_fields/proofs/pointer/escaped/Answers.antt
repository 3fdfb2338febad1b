use Rattle.std.proofs.Common.{◌≡◌, [], drop, sym, ◌∙◌, ap, subst, arith}
use Rattle.std.proofs.lemmas.Bool.{false≢true}
use Rattle.std.proofs.lemmas.List.{drop_all, append-nil}
use Rattle.std.specs.Str.{IsUtf8}
use Rattle.json_fields.specs.Pointers.{escape}
use Rattle.json_fields.proofs.Escapes.{IsUtf8-escape}
use Rattle.json_fields.proofs.pointer.escaped.Goals as goal

pub unreachable-requires : goal.unreachable-requires
unreachable-requires c =
    let none : drop c.loop-byte.byte-index c.as_bytes-byte-items.result.now ≡ [] = drop_all c.loop-byte.byte-index c.as_bytes-byte-items.result.now (omega arith) in
    let all : c.loop-byte.bytes.items ≡ escape c.args.key.now =
    sym (append-nil c.loop-byte.bytes.items) ∙ rw none at c.loop-byte.invariant ∙ ap escape c.as_bytes-byte-items.ensures.value in
    absurd (false≢true (c.in-Err.ensures.succeeds (subst IsUtf8 (sym all) (IsUtf8-escape c.args.key.now c.utf8.key))))
