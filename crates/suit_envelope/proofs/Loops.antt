-- One more turn of the loops over elements and pairs.
use Rattle.std.proofs.Common.{◌≡◌, ℕ, suc, ◌+◌, ◌-◌, ◌<◌, Result, Ok, refl, sym, ◌∙◌, arith}
use Rattle.det_cbor.specs.Position.{Position}
use Rattle.suit_params.specs.declared.refusal.Refusal.{Refusal}
use Rattle.suit_params.specs.Reading.{content_from}
use Rattle.suit_envelope.specs.WrapperParts.{passed_from}
use Rattle.suit_envelope.specs.WrapperReading.{blocks_from}
use Rattle.suit_envelope.specs.EnvelopeReading.{PairsSay, pair_turn, pairs_from}

pub blocks_step : (count i : ℕ) (p q inner : Position) (total : Result Unit Refusal) → i < count → Ok (inner, q) ≡ content_from p → blocks_from (count - i) p ≡ total → blocks_from (count - (i + 1)) q ≡ total
blocks_step count i p q inner total lt e so_far =
    let one : count - i ≡ suc (count - (i + 1)) = omega arith in
    let step : blocks_from (count - i) p ≡ blocks_from (count - (i + 1)) q = rw (one, ← e) refl in
    sym step ∙ so_far

pub pairs_step : (count i : ℕ) (p q : Position) (s t : PairsSay) (total : Result PairsSay Refusal) → i < count → Ok (t, q) ≡ pair_turn p s → pairs_from (count - i) p s ≡ total → pairs_from (count - (i + 1)) q t ≡ total
pairs_step count i p q s t total lt e so_far =
    let one : count - i ≡ suc (count - (i + 1)) = omega arith in
    let step : pairs_from (count - i) p s ≡ pairs_from (count - (i + 1)) q t = rw (one, ← e) refl in
    sym step ∙ so_far

pub pass_step : (count i : ℕ) (p q inner : Position) (total : Result Position Refusal) → i < count → Ok (inner, q) ≡ content_from p → passed_from (count - i) p ≡ total → passed_from (count - (i + 1)) q ≡ total
pass_step count i p q inner total lt e so_far =
    let one : count - i ≡ suc (count - (i + 1)) = omega arith in
    let step : passed_from (count - i) p ≡ passed_from (count - (i + 1)) q = rw (one, ← e) refl in
    sym step ∙ so_far
