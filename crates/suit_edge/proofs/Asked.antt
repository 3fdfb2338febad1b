-- The names that a host was asked for.
use Rattle.std.proofs.Common.{◌≡◌, ◌⊎◌, inl, inr, ℕ, List, [], ◌∷◌, ◌++◌, length, sym, ap, ◌∙◌, ◌+◌, arith}
use Rattle.std.proofs.lemmas.List.{append_cancel_left, length-append}
use Rattle.suit_edge.specs.declared.host.Started.{Started}
use Rattle.suit_edge.specs.declared.host.Started.TheVariants as started
use Rattle.suit_edge.specs.Host.{AsksFor, StartAsks}

module _ (name other : List ℕ) (before now : List (List ℕ)) (is : now ≡ before ++ other ∷ []) where
  same_name : AsksFor name before now → other ≡ name
  same_name asks = let same = append_cancel_left before (other ∷ []) (name ∷ []) (sym is ∙ asks) in cc

  not_still : now ≡ before → other ≡ name
  not_still still =
      let e = sym (length-append before (other ∷ [])) ∙ ap length (sym is ∙ still) in
      absurd (omega (arith, e))

pub asked_one : (answer : Started) (name other : List ℕ) (before now : List (List ℕ)) → StartAsks answer name before now → now ≡ before ++ other ∷ [] → other ≡ name
asked_one started.Done name other before now asks is = same_name name other before now is asks
asked_one started.Absent name other before now asks is = same_name name other before now is asks
asked_one started.Failed name other before now (inl still) is = not_still name other before now is still
asked_one started.Failed name other before now (inr asks) is = same_name name other before now is asks
