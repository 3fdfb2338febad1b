use Rattle.std.proofs.Common.{◌≡◌, ◌++◌, drop}
use Rattle.suit_cli.specs.Lines.{event_lines}
use Rattle.suit_cli.proofs.lines.push_events.Given as goal

-- the text so far and the lines that are left are the old text and all lines
abbrev pub invariant-loop-event : goal.invariant-loop-event
invariant-loop-event l = l.text ++ event_lines (drop l.event-index l.events) ≡ l.fn.text ++ event_lines l.events
