use Rattle.std.proofs.Common.{◌≡◌, map, take}
use Rattle.port_c.proofs.words.words_of.Given as goal

-- the words so far
abbrev pub invariant-loop-word : goal.invariant-loop-word
invariant-loop-word l = l.names ≡ map (λ x. x.now) (take l.word-index l.word-items)
