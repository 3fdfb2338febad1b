-- The procedure of two components is not safe.
use Rattle.std.proofs.Common.{◌≡◌, ◌≢◌, ◌<◌, ℕ, true, List, [], ◌∷◌, ◌++◌, Some, None, refl, ap, subst, arith}
use Rattle.std.specs.List.{AllByRecursion}
use Rattle.suit_params.specs.declared.digest.Digest.{Digest}
use Rattle.path_model.specs.declared.identity.Identity.{Identity}
use Rattle.path_model.specs.declared.bad_path.BadPath.{BadPath}
use Rattle.path_model.specs.declared.event.Event.{Event}
use Rattle.path_model.specs.declared.event.Event.TheVariants.{Matched, Invoked}
use Rattle.path_model.specs.Path.{IsIdentity, Path}
use Rattle.path_model.specs.Safe.{HasMatched, EndsUncovered}
use Rattle.path_model.specs.TwoComponents.{two_components, matched_run, launched_run, TwoComponentsUnsafe}
use Rattle.path_model.proofs.Covering.{CoveredFrom-AllCovered}
use Rattle.path_model.proofs.Refuting.{IsBadPath-not_safe}
use Rattle.path_model.proofs.TwoComponents.{two_components_run}

abbrev nobody : Identity
nobody = record { vendor = None; class = None; device = None; slot = 0 }

is_identity : IsIdentity nobody
is_identity = record { vendor = tt; class = tt; device = tt; slot = omega arith }

component_of : Event → ℕ
component_of (Matched component digest size) = component
component_of _ = 0

differ : (a b : ℕ) → a < b → a ≡ b → ⊥
differ a b less same = omega arith

other_match : (d : Digest) → Matched 0 d None ≢ Matched 1 d None
unfolding component_of
other_match d same = absurd (differ 0 1 (omega arith) (ap component_of same))

middle : (P : Event → Type 0) (before since : List Event) (event : Event) → AllByRecursion P (before ++ event ∷ since) → P event
middle P [] since event all = all.0
middle P (first ∷ before) since event all = middle P before since event all.1

none_of_second : (d : Digest) → AllByRecursion (λ event. event ≢ Matched 1 d None) (matched_run d)
none_of_second d = (λ same. absurd cc, (λ same. absurd cc, (λ same. other_match d same, (λ same. absurd cc, (λ same. absurd cc, (λ same. absurd cc, (λ same. absurd cc, tt)))))))

unmatched_second : (d : Digest) → HasMatched (matched_run d) 1 d None → ⊥
unmatched_second d h =
    middle (λ event. event ≢ Matched 1 d None) h.before h.since (Matched 1 d None)
    (subst (λ (events : List Event). AllByRecursion (λ event. event ≢ Matched 1 d None) events) h.is (none_of_second d)) refl

bad : (d : Digest) → BadPath
bad d = record { identities = nobody ∷ nobody ∷ []; events = launched_run d }

ends : (d : Digest) → EndsUncovered (launched_run d)
ends d = record {
  before = matched_run d;
  last = Invoked 1 (Some d) None true;
  is = refl;
  covered = λ i. CoveredFrom-AllCovered (matched_run d) (tt, (tt, (tt, (tt, (tt, (tt, (tt, tt))))))) i;
  uncovered = λ h. unmatched_second d h;
}

path : (d : Digest) → Path (two_components d) (nobody ∷ nobody ∷ []) (launched_run d)
path d =
    let launched = (two_components_run d (nobody ∷ nobody ∷ [])).launched in
    record { rest = []; ending = launched.0; run = launched.1 }

pub two_components_unsafe : TwoComponentsUnsafe
unfolding bad
two_components_unsafe d safe =
    IsBadPath-not_safe (two_components d) (bad d) (record {
      identities = record { count = refl; each = (is_identity, (is_identity, tt)) };
      path = path d;
      ends = ends d;
    }) safe
