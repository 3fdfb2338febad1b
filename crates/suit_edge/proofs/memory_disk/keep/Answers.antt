use Rattle.std.proofs.Common.{◌≡◌, ◌+◌, List, ℕ, Bool, cond, Vec, drop, get_or, sym, ◌∙◌, ap, subst, arith}
use Rattle.std.specs.declared.alloc.Global.{Global}
use Rattle.suit_edge.specs.declared.step.Step.{Step}
use Rattle.suit_edge.specs.Moment.{after_write, kept}
use Rattle.suit_edge.specs.MemoryDisk.{writes_of}
use Rattle.suit_edge.proofs.Moments.{kept-wrote, kept-synced, kept-none}
use Rattle.suit_edge.proofs.memory_disk.keep.Goals as goal
use Rattle.suit_edge.proofs.memory_disk.keep.Goals.{in-Wrote, in-Synced}

pub loop-step-preserved : goal.loop-step-preserved
loop-step-preserved c =
    let choice = c.args.choice in
    let steps = c.args.pending.now in
    let i = c.loop-step.step-index in
    let n = c.loop-step.n in
    let bytes = c.loop-step.bytes.items in
    let tail = writes_of (drop (i + 1) steps) in
    elim c.match-step.branch [
      | in-Wrote w ↦
          let write = w.in-Wrote.write in
          let item = subst (λ (s : Step). s ≡ get_or steps i s) w.in-Wrote.is c.step-item.is in
          let done : c.match-step.bytes.items ≡ cond w.is_kept.result (after_write bytes write) bytes = ap (λ (v : Vec ℕ Global). v.items) w.bytes-is ∙ w.keep_one.ensures in
          record {
            few = omega arith;
            rest = ap (λ (k : ℕ). kept choice k c.match-step.bytes.items tail) w.n-is ∙ ap (λ (l : List ℕ). kept choice (n + 1) l tail) done
                ∙ ap (λ (b : Bool). kept choice (n + 1) (cond b (after_write bytes write) bytes) tail) w.is_kept.ensures
                ∙ sym (kept-wrote choice n bytes steps i c.loop-step-test.true write item) ∙ c.loop-step.invariant.rest;
          }
      | in-Synced w ↦
          let item = subst (λ (s : Step). s ≡ get_or steps i s) w.in-Synced.is c.step-item.is in
          record {
            few = omega arith;
            rest = ap (λ (k : ℕ). kept choice k c.match-step.bytes.items tail) w.n-is ∙ ap (λ (v : Vec ℕ Global). kept choice n v.items tail) w.bytes-is
                ∙ sym (kept-synced choice n bytes steps i c.loop-step-test.true item) ∙ c.loop-step.invariant.rest;
          }
    ]

pub returns : goal.returns
returns c = sym (kept-none c.args.choice c.loop-step.n c.loop-step.bytes.items c.args.pending.now c.loop-step.step-index (omega arith)) ∙ c.loop-step.invariant.rest
