use Rattle.std.proofs.Common.{◌≡◌, ◌-◌, ◌+◌, ℕ, Option, Some, None, Result, Ok, Err, sym, ap, subst, ◌∙◌, arith}
use Rattle.std.specs.Prelude.{IfErr}
use Rattle.suit_envelope.specs.declared.macs.Difference.{Difference}
use Rattle.suit_envelope.specs.Macs.{BlocksSay, kept}
use Rattle.suit_envelope.proofs.MacScan.{Left, left_start, left_refused, left_found, left_other, left_differs, left_last}
use Rattle.suit_envelope.proofs.macs.scan.Goals.{in-OtherKind, in-Differs}
use Rattle.suit_envelope.proofs.macs.scan.Goals as goal

pub loop-init : goal.loop-init
loop-init c = λ blocks read.
    let same : c.args.count ≡ c.args.count - 0 = omega arith in
    subst (λ (n : ℕ). Left c.args.key.now c.args.payload.now blocks n c.args.elements None) same (left_start c.args.key.now c.args.payload.now blocks c.args.count c.args.elements read)

whatever : {A E : Type 0} (r : Result A E) (P : Type 0) → P → IfErr r (λ _. P)
whatever (Ok a) P p = tt
whatever (Err e) P p = p

pub returns-in_err-content-clause-read : goal.returns-in_err-content-clause-read
returns-in_err-content-clause-read c = whatever c.from_residual.result _ (λ blocks read.
    left_refused c.args.key.now c.args.payload.now blocks c.args.count c.loop.counter c.loop.elements c.in_err-content.field-0.0 c.loop.first c.loop-test.true c.in_err-content.ensures (c.loop.invariant blocks read))

pub returns-in-Verified-clause-says : goal.returns-in-Verified-clause-says
returns-in-Verified-clause-says c = λ blocks read.
    left_found c.args.key.now c.args.payload.now c.bytes_left-block.result.now blocks c.args.count c.loop.counter c.loop.elements c.read_content.new.cursor c.in_ok-content.content c.loop.first c.verify.result c.loop-test.true c.in_ok-content.ensures c.bytes_left-block.ensures c.in-Verified.is c.verify.ensures.verified (c.loop.invariant blocks read)

pub loop-preserved : goal.loop-preserved
loop-preserved c = λ blocks read.
    let next : Option Difference → Type 0 = Left c.args.key.now c.args.payload.now blocks (c.args.count - (c.loop.counter + 1)) c.read_content.new.cursor in
    elim c.match-verify.branch [
      | in-OtherKind w ↦ subst next (sym w.first-is)
          (left_other c.args.key.now c.args.payload.now c.bytes_left-block.result.now blocks c.args.count c.loop.counter c.loop.elements c.read_content.new.cursor c.in_ok-content.content c.loop.first c.verify.result c.loop-test.true c.in_ok-content.ensures c.bytes_left-block.ensures w.in-OtherKind.is c.verify.ensures.verified c.verify.ensures.differs (c.loop.invariant blocks read))
      | in-Differs w ↦
          let d : Difference = record { expected = w.in-Differs.expected; found = w.in-Differs.found } in
          let first : c.match-verify.first ≡ Some (kept c.loop.first d) = w.first-is ∙ ap (λ (k : Difference). Some k) w.kept.ensures in
          subst next (sym first)
          (left_differs c.args.key.now c.args.payload.now c.bytes_left-block.result.now blocks c.args.count c.loop.counter c.loop.elements c.read_content.new.cursor c.in_ok-content.content c.loop.first c.verify.result d c.loop-test.true c.in_ok-content.ensures c.bytes_left-block.ensures w.in-Differs.is c.verify.ensures.verified c.verify.ensures.differs (c.loop.invariant blocks read))
    ]

pub returns-clause-says : goal.returns-clause-says
returns-clause-says c = λ blocks read.
    let nothing : c.args.count - c.loop.counter ≡ 0 = omega (arith, c.loop-test.false) in
    let left = subst (λ (n : ℕ). Left c.args.key.now c.args.payload.now blocks n c.loop.elements c.loop.first) nothing (c.loop.invariant blocks read) in
    subst (BlocksSay c.args.key.now c.args.payload.now blocks) (sym c.last.ensures) (left_last c.args.key.now c.args.payload.now blocks c.loop.elements c.loop.first left)
