use Rattle.std.proofs.Common.{◌≡◌, List, sym, ◌∙◌, subst, rules}
use Rattle.suit_edge.specs.declared.step.Step.{Step}
use Rattle.suit_edge.specs.Flash.{IsSettled}
use Rattle.suit_edge.specs.MemoryDisk.{flash_of}
use Rattle.suit_edge.proofs.MemoryImages.{settled_start}
use Rattle.suit_edge.proofs.Moments.{is_moment-start}
use Rattle.suit_edge.proofs.memory_disk.MemoryDisk.of.Goals as goal

pub invariant_of-result : goal.invariant_of-result
invariant_of-result c =
    let first : c.in_ok-first.first.items ≡ c.args.bytes.items = search rules in
    let settled : c.in_ok-settled.settled.items ≡ c.args.bytes.items = search rules in
    is_moment-start _ _ _ _ (settled ∙ sym first) (sym first) c.new.ensures.items

pub returns-clause-settled : goal.returns-clause-settled
returns-clause-settled c = subst (λ (l : List Step). IsSettled (flash_of c.in_ok-first.first.items l)) (sym c.new.ensures.items) (settled_start c.in_ok-first.first.items)
