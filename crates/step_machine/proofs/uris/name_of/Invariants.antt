use Rattle.std.proofs.Common.{◌≡◌, drop}
use Rattle.path_model.specs.Settings.{found_under}
use Rattle.step_machine.proofs.uris.name_of.Given as goal

-- the file among those that are left is the one among all
abbrev pub invariant-loop-word : goal.invariant-loop-word
invariant-loop-word l = record {
  whole : l.word-items ≡ l.uris;
  rest : found_under (drop l.word-index l.word-items) l.uri ≡ found_under l.uris l.uri;
}
