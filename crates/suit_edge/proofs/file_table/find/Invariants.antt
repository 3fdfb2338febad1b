use Rattle.std.proofs.Common.{◌≡◌, drop}
use Rattle.suit_edge.specs.MemoryHost.{file_in}
use Rattle.suit_edge.proofs.file_table.find.Given as goal

-- looking in the files that are left gives the same as looking in all
abbrev pub invariant-loop-file : goal.invariant-loop-file
invariant-loop-file l = file_in (drop l.file-index l.files) l.name ≡ file_in l.files l.name
