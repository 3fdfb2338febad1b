-- The code's answer on the members of an envelope.
use Rattle.std.specs.Prelude.{◌≡◌, Result, Ok, Err}
use Rattle.suit_manifest.specs.declared.manifest.Members.{Members}
use Rattle.suit_manifest.specs.declared.members.MemberFault.{MemberFault}
use Rattle.admission.specs.Refusals.{of_members}
use Rattle.suit_cli.specs.declared.reply.Stop.{Stop}
use Rattle.suit_cli.specs.Refusals.{StopsAs}

-- the same members are given, or the stop tells their fault
abbrev pub IsTaken : Result Members MemberFault → Result Members Stop → Type 0
IsTaken (Ok members) (Ok given) = given ≡ members
IsTaken (Err fault) (Err stop) = StopsAs (of_members fault) stop
IsTaken (Ok members) (Err stop) = ⊥
IsTaken (Err fault) (Ok given) = ⊥
