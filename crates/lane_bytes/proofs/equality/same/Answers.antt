use Rattle.std.proofs.Common.{◌≡◌, ◌-◌, ◌*◌, length, take, drop, ◌/◌, refl, subst, length-drop, arith, ap, sym, ◌∙◌, true, false}
use Rattle.std.proofs.lemmas.Grind.{common_steps}
use Rattle.std.specs.Simd.Lanes.{chunk}
use Rattle.std.proofs.Math.Seq.{take-add}
use lib.Pointwise.{bytes_decides}
use Rattle.lane_bytes.proofs.Lanes.{joined, decided}
use Rattle.lane_bytes.proofs.equality.same.Goals as goal

pub returns-then-not-chunk_same-clause-value : goal.returns-then-not-chunk_same-clause-value
returns-then-not-chunk_same-clause-value c =
    let a = c.args.a.now in
    let b = c.args.b.now in
    let from = 32 * c.chunks.k in
    decided false a b (λ no. absurd (cc no)) (λ equal. sym c.if-not-chunk_same.true ∙ c.chunk_same.ensures.1 (ap (chunk from 32) equal))

pub chunks-preserved : goal.chunks-preserved
chunks-preserved c = grind (arith, common_steps, take-add (32 * c.chunks.k) 32 c.args.a.now, take-add (32 * c.chunks.k) 32 c.args.b.now)

pub returns : goal.returns
returns c =
    let a = c.args.a.now in
    let b = c.args.b.now in
    let n = 32 * (length a / 32) in
    let k : 32 * c.chunks.k ≡ n = omega (arith, c.chunks-test.false, c.chunks.auto.k-end) in
    let front : take n a ≡ take n b = ap (λ i. take i a) (sym k) ∙ c.chunks.invariant ∙ ap (λ i. take i b) k in
    let la = length-drop n a in
    let lb = length-drop n b in
    let yes : c.eq.result ≡ true → a ≡ b =
    λ t. joined n (length a - n) (length b - n) a b front ((bytes_decides _ _).0 (sym c.eq.ensures ∙ t)) (omega (arith, la)) (omega (arith, lb)) in
    let back : a ≡ b → c.eq.result ≡ true =
    λ s. c.eq.ensures ∙ (bytes_decides _ _).1 (subst (λ y. take (length a - n) (drop n a) ≡ take (length y - n) (drop n y)) s refl) in
    record { value = decided c.eq.result a b yes back; same = (yes, back) }
