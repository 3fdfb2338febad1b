-- What a power loss leaves of NOR flash in memory.
use Rattle.std.proofs.Common.{◌≡◌, ⊎_elim, ℕ, List, [], ◌∷◌, ◌++◌, length, take, drop, refl, sym, ◌∙◌, ap, subst, arith, length-append}
use Rattle.std.proofs.lemmas.List.{take-append-le, take_all, drop-append-le, drop_all}
use Rattle.suit_edge.specs.Calls.{uncalled}
use Rattle.suit_edge.specs.Flash.{Now}
use Rattle.suit_edge.specs.Ranges.{AreBytes, Outside, SameOn}
use Rattle.suit_edge.specs.RangeLaws.{same_start}
use Rattle.nor_flash.specs.declared.step.Step.{Step}
use Rattle.nor_flash.specs.MemoryNor.{IsLeft, MayLeave, NorState, flash_of, nor_reads, range_of}
use Rattle.nor_flash.specs.MemoryNorLaws.{memory_rests, nor_reads_bytes, now_reads}
use Rattle.nor_flash.specs.NorLossLaws.{NorLossLaw}
use Rattle.nor_flash.proofs.NorSteps.{step_or_before}

-- a device on which no call has been counted
abbrev state : ℕ → List Step → NorState
state blocks steps = record { blocks = blocks; steps = steps; erases = 0; calls = uncalled [] }

left_bytes : (reads : List ℕ) (later : List Step) (image : List ℕ) → AreBytes reads → IsLeft reads later image → AreBytes image
left_bytes reads [] image are left = subst AreBytes (sym left) are
left_bytes reads (s ∷ later) image are left = left.1

module _ (blocks : ℕ) (steps : List Step) (s : Step) (image : List ℕ) where
  on_range : MayLeave blocks (steps ++ s ∷ []) (length steps) image → SameOn (Outside (range_of s).place (range_of s).size) (nor_reads blocks steps) image
  on_range may = ⊎_elim
      (λ was. subst (SameOn (Outside (range_of s).place (range_of s).size) (nor_reads blocks steps)) (sym (memory_rests (state blocks steps) image was))
      (same_start (Outside (range_of s).place (range_of s).size) (nor_reads blocks steps)))
      (λ same. same)
      (step_or_before blocks steps (steps ++ s ∷ []) s refl (length steps) image may)

  any_within : SameOn (Outside (range_of s).place (range_of s).size) (nor_reads blocks steps) image → AreBytes image → MayLeave blocks (steps ++ s ∷ []) (length steps) image
  any_within same are =
      let n = length steps in
      let begun : take n (steps ++ s ∷ []) ≡ steps = take-append-le n steps (s ∷ []) (omega arith) ∙ take_all n steps (omega arith) in
      let left : drop n (steps ++ s ∷ []) ≡ s ∷ [] = drop-append-le n steps (s ∷ []) (omega arith) ∙ ap (λ (l : List Step). l ++ s ∷ []) (drop_all n steps (omega arith)) in
      record {
        moment = n;
        since = omega arith;
        past = omega (arith, length-append steps (s ∷ []));
        left = subst (λ (l : List Step). IsLeft (nor_reads blocks (take n (steps ++ s ∷ []))) l image) (sym left)
            (subst (λ (l : List Step). IsLeft (nor_reads blocks l) (s ∷ []) image) (sym begun) (same, are));
      }

pub nor_loss_law : NorLossLaw
nor_loss_law = record {
  between = λ blocks steps image. (
    memory_rests (state blocks steps) image,
    λ is. subst (Now (flash_of blocks steps)) (sym is) (now_reads (state blocks steps)),
  );
  within = λ blocks steps last image. (
    λ may. (
      on_range blocks steps last image may,
      left_bytes (nor_reads blocks (take may.moment (steps ++ last ∷ []))) (drop may.moment (steps ++ last ∷ [])) image (nor_reads_bytes blocks (take may.moment (steps ++ last ∷ []))) may.left,
    ),
    λ of. any_within blocks steps last image of.0 of.1,
  );
}
