use Rattle.std.proofs.Common.{◌≡◌, ◌+◌, ◌≤◌, ℕ, List, ◌++◌, length, take, sym, ◌∙◌, ap, arith, length-append}
use Rattle.std.proofs.Math.Seq.{take-append_seam, take-append-add}
use Rattle.std.proofs.lemmas.List.{take_all, take_min, length-take}
use Rattle.suit_edge.specs.declared.edge.Edge.{Edge}
use Rattle.suit_edge.specs.declared.edge.Edge.TheVariants.{Done, Failed}
use Rattle.suit_edge.specs.Sink.{Puts}
use Rattle.suit_edge.proofs.law.sink_laws.Goals as goal

stays : (answer : Edge) (before now piece : List ℕ) → Puts answer before now piece → take (length before) now ≡ before
stays Done before now piece is = ap (take (length before)) is ∙ take-append_seam before piece
stays Failed before now piece is = ap (take (length before)) is.1 ∙ take-append_seam before (take is.0 piece)

front : (answer : Edge) (before now piece : List ℕ) → Puts answer before now piece → (n : ℕ) × (n ≤ length (before ++ piece)) × (now ≡ take n (before ++ piece))
front Done before now piece is = (length (before ++ piece), omega arith, is ∙ sym (take_all (length (before ++ piece)) (before ++ piece) (omega arith)))
front Failed before now piece is =
    let few = length-take is.0 piece in
    let long = length-append before piece in
    let short = length-append before (take is.0 piece) in
    let whole : now ≡ before ++ take is.0 piece = is.1 in
    (length now, omega (arith, few, long, short, ap length whole), whole ∙ tail ∙ ap (λ (k : ℕ). take k (before ++ piece)) (sym (ap length whole ∙ short)))
  where
    tail : before ++ take is.0 piece ≡ take (length before + length (take is.0 piece)) (before ++ piece)
    tail = sym (take-append-add before piece (length (take is.0 piece)) ∙ ap (λ (l : List ℕ). before ++ l) (ap (λ (k : ℕ). take k piece) (length-take is.0 piece) ∙ take_min is.0 piece))

pub returns : goal.returns
returns c = record { stays = stays; front = front; whole = λ before now piece is. is }
