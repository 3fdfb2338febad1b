use Rattle.std.proofs.Common.{◌≡◌, ◌-◌, ◌<◌, [], length, get_or}
use Rattle.manifest_view.proofs.alike.at.Given as goal

-- the identifier that is looked for is as far ahead as there are identifiers to skip
abbrev pub invariant-loop : goal.invariant-loop
invariant-loop l = (get_or l.left (l.n - l.counter) [] ≡ get_or l.fn.ids l.n []) × (l.n - l.counter < length l.left) × (l.ids ≡ l.fn.ids)
