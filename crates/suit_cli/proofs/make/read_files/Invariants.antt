use Rattle.std.proofs.Common.{ℕ, List, drop, Result}
use Rattle.suit_cli.specs.declared.reply.Stop.{Stop}
use Rattle.suit_cli.specs.Outside.{Outside, Flashed}
use Rattle.suit_cli.specs.Stages.{Does}
use Rattle.suit_cli.specs.Authoring.{files_after, files_in}
use Rattle.suit_cli.proofs.make.read_files.Given as goal

-- whatever the files that are left come to, all come to it
abbrev pub invariant-loop-name : goal.invariant-loop-name
invariant-loop-name g l =
    let h = g.H.Host in
    (flash : Flashed) (result : Result (List (List ℕ × List ℕ)) Stop) (after : Outside)
    → Does (files_after l.files (drop l.name-index l.name-items))
    (record { told = h.told; files = h.file l.host; pulled = h.pulled l.host; asked = h.asked l.host; faults = h.faults l.host; flash = flash }) after result
    → Does (files_in l.names)
    (record { told = h.told; files = h.file l.fn.host; pulled = h.pulled l.fn.host; asked = h.asked l.fn.host; faults = h.faults l.fn.host; flash = flash }) after result
