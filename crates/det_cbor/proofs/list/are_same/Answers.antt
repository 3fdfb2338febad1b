use Rattle.std.proofs.Common.{◌≡◌, ◌<◌, ℕ, List, [], ◌∷◌, ◌++◌, length, get_or, take, Bool, true, false, not, ◌+◌, refl, sym, ap, ◌∙◌, add-one, arith}
use Rattle.std.proofs.Math.Seq.{take-suc}
use lib.Pointwise.{bytes_decides}
use Rattle.det_cbor.proofs.list.are_same.Goals as goal

was_true : (b : Bool) → false ≡ not b → b ≡ true
was_true true e = refl
was_true false e = grind arith

one_more : (a b : List (List ℕ)) (i : ℕ) (x y : List ℕ) → take i a ≡ take i b → i < length a → i < length b → x ≡ get_or a i x → y ≡ get_or b i y → x ≡ y → take (i + 1) a ≡ take (i + 1) b
one_more a b i x y so_far ha hb ax by same =
    rw add-one (take-suc a i x ha ∙ ap (λ z. take i a ++ z ∷ []) (sym ax ∙ same ∙ by) ∙ ap (λ front. front ++ get_or b i y ∷ []) so_far ∙ sym (take-suc b i y hb))

pub loop-i-preserved : goal.loop-i-preserved
loop-i-preserved c =
    let same = (bytes_decides c.as_slice.result.now c.as_slice-in-loop-i.result.now).0 (was_true _ c.if-ne.ensures) in
    one_more c.args.a.now c.args.b.now c.loop-i.i c.index-a-i.result c.index-b-i.result c.loop-i.invariant (omega arith) (omega arith) c.index-a-i.is c.index-b-i.is
    (sym c.as_slice.ensures ∙ same ∙ c.as_slice-in-loop-i.ensures)
