-- Identities that are chosen one after another.
use Rattle.std.proofs.Common.{◌≡◌, ◌+◌, ◌<◌, ℕ, suc, List, [], ◌∷◌, ◌++◌, length, get_or, take, sym, subst}
use Rattle.std.specs.List.{AllByRecursion}
use Rattle.std.proofs.lemmas.List.{take_more}
use Rattle.path_model.specs.declared.identity.Identity.{Identity}
use Rattle.path_model.specs.Path.{IsIdentity}
use Rattle.path_checker.specs.declared.judge_plan.facts.Knowledge.{Knowledge}
use Rattle.path_checker.specs.Knowing.{Allows, AllowsOne}
use Rattle.path_checker.specs.Choosing.{IsChosen}

allows_more : (facts : List Knowledge) (ids : List Identity) (known : Knowledge) (one : Identity) → Allows facts ids → AllowsOne known one → Allows (facts ++ known ∷ []) (ids ++ one ∷ [])
allows_more [] [] known one al here = (here, tt)
allows_more [] (i ∷ ids) known one al here = absurd al
allows_more (k ∷ facts) [] known one al here = absurd al
allows_more (k ∷ facts) (i ∷ ids) known one al here = (al.0, allows_more facts ids known one al.1 here)

bounds_more : (ids : List Identity) (one : Identity) → AllByRecursion IsIdentity ids → IsIdentity one → AllByRecursion IsIdentity (ids ++ one ∷ [])
bounds_more [] one all here = (here, tt)
bounds_more (i ∷ ids) one all here = (all.0, bounds_more ids one all.1 here)

pub all_bytes : (bytes : List ℕ) → ((i : ℕ) → get_or bytes i 0 < 256) → AllByRecursion (λ b. b < 256) bytes
all_bytes [] below = tt
all_bytes (b ∷ bytes) below = (below 0, all_bytes bytes (λ i. below (suc i)))

pub chosen_step : (facts : List Knowledge) (i : ℕ) (d : Knowledge) (ids made : List Identity) (one : Identity) → i < length facts → IsChosen (take i facts) ids → made ≡ ids ++ one ∷ [] → AllowsOne (get_or facts i d) one → IsIdentity one → IsChosen (take (i + 1) facts) made
chosen_step facts i d ids made one lt so_far pushed allowed bounds =
    subst (λ (fs : List Knowledge). IsChosen fs made) (sym (take_more facts i d lt)) (subst (λ (x : List Identity). IsChosen (take i facts ++ get_or facts i d ∷ []) x) (sym pushed) (record {
      allowed = allows_more (take i facts) ids (get_or facts i d) one so_far.allowed allowed;
      bounds = bounds_more ids one so_far.bounds bounds;
    }))
