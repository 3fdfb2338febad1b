use Rattle.std.proofs.lemmas.Bool.{cases_lt}  -- `cases_lt` is `lt_or_ge` in other libraries, and gives their `le_total`
use Rattle.std.proofs.Common.{◌≡◌, ◌≢◌, ◌+◌, ◌<◌, ◌≤◌, ℕ, List, true, false, slice_index, inl, inr, subst, arith}
use Rattle.std.proofs.lemmas.Simd.{run_in_chunk_le, run_in_chunk_fails, run_in_chunk_stops}
use Rattle.lane_bytes.specs.Bytes.{AreAll}
use Rattle.lane_bytes.proofs.Lanes.{neb}
use Rattle.lane_bytes.proofs.search.first_other.Goals as goal

is_byte : (x y : ℕ) → neb x y ≡ false → x ≡ y
is_byte x y e = grind (arith, e)

is_other : (x y : ℕ) → neb x y ≡ true → x ≢ y
is_other x y e s = grind (arith, e, s)

extended : (byte at r : ℕ) (xs : List ℕ) → AreAll byte at xs → ((k : ℕ) → at ≤ k → k < at + r → neb (slice_index xs k) byte ≡ false) → AreAll byte (at + r) xs
extended byte at r xs all more i lt = elim (cases_lt i at) [
  | inl below ↦ all i below
  | inr le ↦ is_byte _ _ (more i le lt)
]

pub returns-then-run-lt-LANES : goal.returns-then-run-lt-LANES
returns-then-run-lt-LANES c =
    let xs = c.args.a.now in
    let p = λ (x : ℕ). neb x c.args.byte in
    let stops = run_in_chunk_stops p xs c.chunks.at 32 c.run_in_chunk-run.result 0 (omega (arith, c.chunks-test.true)) c.run_in_chunk-run.ensures c.if-run-lt-LANES.true in
    let fails = run_in_chunk_fails p xs c.chunks.at 32 c.run_in_chunk-run.result 0 (omega (arith, c.chunks-test.true)) c.run_in_chunk-run.ensures in
    record {
      inside = omega (arith, c.chunks-test.true, c.if-run-lt-LANES.true);
      other = is_other _ _ stops;
      before = extended c.args.byte c.chunks.at c.run_in_chunk-run.result xs c.chunks.invariant.0 fails;
    }

pub chunks-preserved : goal.chunks-preserved
chunks-preserved c =
    let xs = c.args.a.now in
    let fails = run_in_chunk_fails (λ (x : ℕ). neb x c.args.byte) xs c.chunks.at 32 c.run_in_chunk-run.result 0 (omega (arith, c.chunks-test.true)) c.run_in_chunk-run.ensures in
    let le = run_in_chunk_le (λ (x : ℕ). neb x c.args.byte) xs c.chunks.at 32 c.run_in_chunk-run.result 0 (omega (arith, c.chunks-test.true)) c.run_in_chunk-run.ensures in
    let is : c.chunks.at + c.run_in_chunk-run.result ≡ c.chunks.at + 32 = omega (arith, le, c.if-run-lt-LANES.false) in
    (subst (λ n. AreAll c.args.byte n xs) is (extended c.args.byte c.chunks.at c.run_in_chunk-run.result xs c.chunks.invariant.0 fails), omega (arith, c.chunks-test.true))
