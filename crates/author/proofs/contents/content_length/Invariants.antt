use Rattle.std.proofs.Common.{◌≡◌}
use Rattle.serde_json.specs.View.{members_view}
use Rattle.author.specs.Contents.{file_length}
use Rattle.author.proofs.contents.content_length.Given as goal

abbrev pub invariant-loop-member : goal.invariant-loop-member
invariant-loop-member l = file_length l.files l.initial.length (members_view l.initial.member-iterator) ≡ file_length l.files l.length (members_view l.member-iterator)
