use Rattle.std.proofs.Common.{◌≡◌, ◌++◌, drop}
use Rattle.suit_cli.specs.Lines.{identity_lines}
use Rattle.suit_cli.proofs.lines.push_identities.Given as goal

-- the text so far and the lines that are left are the old text and all lines
abbrev pub invariant-loop-component : goal.invariant-loop-component
invariant-loop-component l = l.text ++ identity_lines l.component (drop l.component l.identities) ≡ l.fn.text ++ identity_lines 0 l.identities
