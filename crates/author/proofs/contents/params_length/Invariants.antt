use Rattle.std.proofs.Common.{◌≡◌}
use Rattle.serde_json.specs.View.{members_view}
use Rattle.author.specs.Contents.{params_from}
use Rattle.author.proofs.contents.params_length.Given as goal

abbrev pub invariant-loop-key : goal.invariant-loop-key
invariant-loop-key l = params_from l.files l.initial.length (members_view l.initial.key-iterator) ≡ params_from l.files l.length (members_view l.key-iterator)
