use Rattle.std.proofs.Common.{List, ℕ, sym, ◌∙◌, ap, arith}
use Rattle.suit_edge.specs.Ranges.{written}
use Rattle.suit_edge.proofs.Moments.{after_write-fits, after_write-past}
use Rattle.suit_edge.proofs.memory_disk.put_write.Goals as goal

pub returns-then-len : goal.returns-then-len
returns-then-len c = sym (after_write-past _ c.args.write.now (omega arith))

pub returns-then-len-write : goal.returns-then-len-write
returns-then-len-write c = sym (after_write-past _ c.args.write.now (omega arith))

pub returns : goal.returns
returns c =
    c.put.ensures ∙ ap (λ (l : List ℕ). written c.args.bytes.now.items c.args.write.now.place l) c.as_slice.ensures
    ∙ sym (after_write-fits _ c.args.write.now (omega arith))
