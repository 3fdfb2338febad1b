-- A write goes on piece by piece.
use Rattle.std.proofs.Common.{◌≡◌, inr, ◌<◌, ◌≤◌, ◌+◌, ◌-◌, ◌*◌, ℕ, List, ◌++◌, length, take, get_or, sym, ◌∙◌, ap, subst, arith}
use Rattle.std.specs.List.{slice_range}
use Rattle.std.proofs.Math.Seq.{take-add}
use Rattle.std.proofs.lemmas.List.{length-take-le, take_all}
use Rattle.std.proofs.lemmas.List.Edits.{length-between, get_or-between}
use Rattle.lane_bytes.specs.Bytes.{OnlyClears, SetsNoBit}
use Rattle.suit_edge.specs.declared.edge.Edge.{Edge}
use Rattle.suit_edge.specs.declared.edge.Edge.TheVariants as edge
use Rattle.suit_edge.specs.Flash.{Flash, Grows, Keeps}
use Rattle.suit_edge.specs.FlashLaws.{grows_start, grows_then, keeps_fewer, keeps_start, keeps_then}
use Rattle.suit_edge.specs.Ranges.{Outside, written}
use Rattle.suit_edge.specs.RangeLaws.{outside_within, written-none, written-written, written_outside}
use Rattle.nor_flash.specs.declared.phase.Phase.{Phase}
use Rattle.nor_flash.specs.declared.phase.Phase.TheVariants as phases
use Rattle.nor_flash.specs.Blocks.{plain}
use Rattle.nor_flash.specs.NorDisks.{AreErased, Writes, blocks_of, nor_flash}
use Rattle.nor_flash.proofs.Calm.{IsCalm, calm_disk}

-- the first n bytes are written
pub record IsUpTo (m place : ℕ) (bytes : List ℕ) (n : ℕ) (a b : Flash) : Type 0 where
  pub erased : AreErased m b.reads
  pub written : plain m b.reads ≡ written (plain m a.reads) place (take n bytes)
  pub keeps : Keeps (Outside place (length bytes)) (nor_flash m phases.Settled a) (nor_flash m phases.Settled b)
  pub grows : Grows (nor_flash m phases.Settled a) (nor_flash m phases.Settled b)

module _ {size : ℕ} {a : Flash} (calm_a : IsCalm size a) (place : ℕ) (bytes : List ℕ) (fits : place + length bytes ≤ 4096 * blocks_of size) where
  abbrev m : ℕ
  m = blocks_of size

  abbrev start : Flash
  start = nor_flash m phases.Settled a

  long : length (plain m a.reads) ≡ 4096 * m
  long = (calm_disk phases.Settled calm_a).fits

  pub none_written : AreErased m a.reads → IsUpTo m place bytes 0 a a
  none_written erased = record {
    erased = erased;
    written = sym (written-none (plain m a.reads) place (omega (arith, long, fits)));
    keeps = keeps_start (Outside place (length bytes)) start;
    grows = grows_start start;
  }

  pub all_written : (b : Flash) (n : ℕ) → length bytes ≤ n → IsUpTo m place bytes n a b → Writes edge.Done place bytes start (nor_flash m phases.Settled b)
  all_written b n whole up = record {
    written = up.written ∙ ap (written (plain m a.reads) place) (take_all n bytes whole);
    keeps = up.keeps;
    grows = up.grows;
  }

  -- the next piece
  module _ {b : Flash} (calm_b : IsCalm size b) (at stop : ℕ) (order : at ≤ stop) (end : stop ≤ length bytes) (up : IsUpTo m place bytes at a b) where
    abbrev middle : Flash
    middle = nor_flash m phases.Settled b

    abbrev piece : List ℕ
    piece = slice_range bytes at stop

    piece_size : length piece ≡ stop - at
    piece_size = length-between bytes at stop end

    pub failed_on : {answer : Edge} (phase : Phase) (d : Flash) → Writes answer (place + at) piece middle (nor_flash m phase d) → Writes edge.Failed place bytes start (nor_flash m phase d)
    failed_on phase d put = record {
      written = tt;
      keeps = keeps_then (Outside place (length bytes)) start middle (nor_flash m phase d) (4096 * m) (calm_disk phases.Settled calm_b) up.keeps
          (keeps_fewer (Outside place (length bytes)) (Outside (place + at) (length piece))
          (outside_within (place + at) (length piece) place (length bytes) (omega arith) (omega (arith, piece_size, order, end))) middle (nor_flash m phase d) put.keeps);
      grows = grows_then start middle (nor_flash m phase d) up.keeps.images.later up.grows put.grows;
    }

    taken : length (take at bytes) ≡ at
    taken = length-take-le at bytes (omega (arith, order, end))

    joined : take at bytes ++ piece ≡ take stop bytes
    joined =
        let is : at + (stop - at) ≡ stop = omega (arith, order) in
        sym (take-add at (stop - at) bytes) ∙ ap (λ (n : ℕ). take n bytes) is

    pub goes_on : (d : Flash) → AreErased m d.reads → Writes edge.Done (place + at) piece middle (nor_flash m phases.Settled d) → IsUpTo m place bytes stop a d
    goes_on d erased put =
        let on = failed_on phases.Settled d put in
        record {
          erased = erased;
          written = put.written ∙ ap (λ (l : List ℕ). written l (place + at) piece) up.written
              ∙ subst (λ (n : ℕ). written (written (plain m a.reads) place (take at bytes)) (place + n) piece ≡ written (plain m a.reads) place (take at bytes ++ piece)) taken
              (written-written (plain m a.reads) place (take at bytes) piece (omega (arith, long, taken, piece_size, fits, order, end)))
              ∙ ap (written (plain m a.reads) place) joined;
          keeps = on.keeps;
          grows = on.grows;
        }

    -- a piece of bytes that only clear bits only clears bits too
    pub piece_clears : OnlyClears (slice_range (plain m a.reads) place (place + length bytes)) bytes
        → OnlyClears (slice_range (plain m b.reads) (place + at) (place + at + length piece)) piece
    piece_clears clears i lt =
        let far : at + i < length bytes = omega (arith, lt, piece_size, end) in
        let new : get_or piece i 0 ≡ get_or bytes (at + i) 0 = get_or-between bytes at stop i 0 (omega (arith, lt, piece_size)) in
        let old : get_or (slice_range (plain m a.reads) place (place + length bytes)) (at + i) 0 ≡ get_or (plain m a.reads) (place + (at + i)) 0 =
        get_or-between (plain m a.reads) place (place + length bytes) (at + i) 0 (omega (arith, far)) in
        let still : get_or (plain m b.reads) (place + at + i) 0 ≡ get_or (plain m a.reads) (place + at + i) 0 =
        ap (λ (l : List ℕ). get_or l (place + at + i) 0) up.written
        ∙ (written_outside (plain m a.reads) place (take at bytes) (omega (arith, long, taken, fits, order, end))).same (place + at + i) (inr (omega (arith, taken))) in
        let now : get_or (slice_range (plain m b.reads) (place + at) (place + at + length piece)) i 0 ≡ get_or (plain m b.reads) (place + at + i) 0 =
        get_or-between (plain m b.reads) (place + at) (place + at + length piece) i 0 (omega (arith, lt)) in
        let same : place + (at + i) ≡ place + at + i = omega arith in
        let was : get_or (slice_range (plain m a.reads) place (place + length bytes)) (at + i) 0 ≡ get_or (slice_range (plain m b.reads) (place + at) (place + at + length piece)) i 0 =
        old ∙ ap (λ (j : ℕ). get_or (plain m a.reads) j 0) same ∙ sym still ∙ sym now in
        subst (λ (x : ℕ). SetsNoBit x (get_or piece i 0)) was
        (subst (λ (y : ℕ). SetsNoBit (get_or (slice_range (plain m a.reads) place (place + length bytes)) (at + i) 0) y) (sym new) (clears (at + i) far))
