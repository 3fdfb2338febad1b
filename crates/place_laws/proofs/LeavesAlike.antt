-- Conditions and directives that stand at two places run alike.
use Rattle.std.proofs.Common.{◌≡◌, ℕ, false, List, [], ◌∷◌, ◌++◌, Option, Some, None, refl, sym, subst, inl, inr}
use Rattle.std.specs.Prelude.{slice_get}
use Rattle.suit_params.specs.declared.digest.Digest.{Digest}
use Rattle.suit_params.specs.declared.param.ParamKey.TheVariants as keys
use Rattle.suit_params.specs.InForce.{in_force, identifier_of, number_of, bytes_of, digest_in, size_in}
use Rattle.suit_commands.specs.declared.kinds.TestKind.{TestKind}
use Rattle.suit_commands.specs.declared.kinds.TestKind.TheVariants as tests
use Rattle.suit_commands.specs.declared.kinds.ActKind.{ActKind}
use Rattle.suit_commands.specs.declared.kinds.ActKind.TheVariants as acts
use Rattle.path_model.specs.declared.identity.Identity.{Identity}
use Rattle.path_model.specs.declared.event.Event.{Event}
use Rattle.path_model.specs.declared.event.Event.TheVariants.{Tried, Missed, Wrote, Failed}
use Rattle.path_model.specs.Behaviour.{State, Ending, Condition, Directive, Behaviour}
use Rattle.path_model.specs.Conditions.{Compares, Matches, ChecksContent, Tests, vendor_of, class_of, device_of, slot_of}
use Rattle.path_model.specs.Directives.{Writes, Invokes, Acts, invoke_event}
use Rattle.path_model.specs.Turns.{Course}
use Rattle.place_laws.proofs.Alike.{EventsAlike, NoEvents, FailedThen, EndsAlike, AlikeCondition, AlikeDirective, ends_self, events_append, events_self}

-- this may happen, with other places
pub record HappensLike (course : Course) (es : List Event) (e : Ending) : Type 0 where
  pub told : List Event
  pub end : Ending
  pub happens : course told end
  pub events_alike : EventsAlike es told
  pub ends_alike : EndsAlike e end

-- whatever the first may do the second may do, with other places
abbrev pub RunsLike : Behaviour → Behaviour → Type 0
RunsLike a b = (s : State) (es : List Event) (e : Ending) → a s es e → HappensLike (b s) es e

pub likewise : (course : Course) (es : List Event) (e : Ending) → course es e → HappensLike course es e
likewise course es e happens = record { told = es; end = e; happens = happens; events_alike = events_self es; ends_alike = ends_self e }

-- known events and a known ending
pub like_known : (course : Course) (es hs bs : List Event) (e f g : Ending) → es ≡ hs → e ≡ f → course bs g → EventsAlike hs bs → EndsAlike f g → HappensLike course es e
like_known course es hs bs e f g is end happens alike ends = record {
  told = bs;
  end = g;
  happens = happens;
  events_alike = subst (λ (xs : List Event). EventsAlike xs bs) (sym is) alike;
  ends_alike = subst (λ (x : Ending). EndsAlike x g) (sym end) ends;
}

-- ---- a failure behind other events

failed_alike : (front : List Event) (p q : ℕ) → EventsAlike (front ++ Failed p ∷ []) (front ++ Failed q ∷ [])
failed_alike front p q = events_append front front (Failed p ∷ []) (Failed q ∷ []) (events_self front) (FailedThen p q [] [] NoEvents)

by_condition : (course : Course) (front : List Event) (p q : ℕ) (s : State) (es : List Event) (e : Ending) → es ≡ front ++ Failed p ∷ [] → e ≡ Condition p s.soft_failure
    → course (front ++ Failed q ∷ []) (Condition q s.soft_failure) → HappensLike course es e
by_condition course front p q s es e is end happens =
    like_known course es (front ++ Failed p ∷ []) (front ++ Failed q ∷ []) e (Condition p s.soft_failure) (Condition q s.soft_failure) is end happens (failed_alike front p q) (AlikeCondition p q s.soft_failure)

by_directive : (course : Course) (front : List Event) (p q : ℕ) (es : List Event) (e : Ending) → es ≡ front ++ Failed p ∷ [] → e ≡ Directive p
    → course (front ++ Failed q ∷ []) (Directive q) → HappensLike course es e
by_directive course front p q es e is end happens =
    like_known course es (front ++ Failed p ∷ []) (front ++ Failed q ∷ []) e (Directive p) (Directive q) is end happens (failed_alike front p q) (AlikeDirective p q)

-- ---- conditions

compares_alike : {A : Type 0} (p q : ℕ) (kind : TestKind) (c : ℕ) (wanted own : Option A) → RunsLike (Compares p kind c wanted own) (Compares q kind c wanted own)
compares_alike p q kind c wanted own s es e run =
    elim run [
      | inl passed ↦ likewise (Compares q kind c wanted own s) es e (inl passed)
      | inr (differs, (is, end)) ↦ by_condition (Compares q kind c wanted own s) (Tried c kind false ∷ []) p q s es e is end (inr (differs, (refl, refl)))
    ]

matches_alike : (p q c : ℕ) (digest : Option Digest) (size : Option ℕ) → RunsLike (Matches p c digest size) (Matches q c digest size)
matches_alike p q c None size s es e (is, end) = by_condition (Matches q c None size s) (Missed c ∷ []) p q s es e is end (refl, refl)
matches_alike p q c (Some digest) size s es e run =
    elim run [
      | inl passed ↦ likewise (Matches q c (Some digest) size s) es e (inl passed)
      | inr (is, end) ↦ by_condition (Matches q c (Some digest) size s) (Missed c ∷ []) p q s es e is end (inr (refl, refl))
    ]

content_alike : (p q c : ℕ) (content : Option (List ℕ)) → RunsLike (ChecksContent p c content) (ChecksContent q c content)
content_alike p q c None s es e (is, end) = by_condition (ChecksContent q c None s) (Tried c tests.CheckContent false ∷ []) p q s es e is end (refl, refl)
content_alike p q c (Some content) s es e run =
    elim run [
      | inl passed ↦ likewise (ChecksContent q c (Some content) s) es e (inl passed)
      | inr (is, end) ↦ by_condition (ChecksContent q c (Some content) s) (Tried c tests.CheckContent false ∷ []) p q s es e is end (inr (refl, refl))
    ]

pub tests_alike : (kind : TestKind) (ids : List Identity) (p q c : ℕ) → RunsLike (Tests kind ids p c) (Tests kind ids q c)
tests_alike tests.Vendor ids p q c s es e run = compares_alike p q tests.Vendor c (identifier_of (in_force s.parameters c keys.Vendor)) (vendor_of (slice_get ids c)) s es e run
tests_alike tests.Class ids p q c s es e run = compares_alike p q tests.Class c (identifier_of (in_force s.parameters c keys.Class)) (class_of (slice_get ids c)) s es e run
tests_alike tests.Device ids p q c s es e run = compares_alike p q tests.Device c (identifier_of (in_force s.parameters c keys.Device)) (device_of (slice_get ids c)) s es e run
tests_alike tests.Slot ids p q c s es e run = compares_alike p q tests.Slot c (number_of (in_force s.parameters c keys.Slot)) (slot_of (slice_get ids c)) s es e run
tests_alike tests.ImageMatch ids p q c s es e run = matches_alike p q c (digest_in s.parameters c) (size_in s.parameters c) s es e run
tests_alike tests.CheckContent ids p q c s es e run = content_alike p q c (bytes_of (in_force s.parameters c keys.Content)) s es e run
tests_alike tests.Abort ids p q c s es e (is, end) = by_condition (Tests tests.Abort ids q c s) (Tried c tests.Abort false ∷ []) p q s es e is end (refl, refl)

-- ---- directives

writes_alike : {A : Type 0} (p q : ℕ) (held : Option A) (w : A → List Event) → RunsLike (Writes p held w) (Writes q held w)
writes_alike p q None w s es e (is, end) = by_directive (Writes q None w s) [] p q es e is end (refl, refl)
writes_alike p q (Some value) w s es e run =
    elim run [
      | inl passed ↦ likewise (Writes q (Some value) w s) es e (inl passed)
      | inr (is, end) ↦ by_directive (Writes q (Some value) w s) (w value) p q es e is end (inr (refl, refl))
    ]

pub acts_alike : (kind : ActKind) (p q c : ℕ) → RunsLike (Acts kind p c) (Acts kind q c)
acts_alike acts.Write p q c s es e run = writes_alike p q (bytes_of (in_force s.parameters c keys.Content)) (λ content. Wrote c ∷ []) s es e run
acts_alike acts.Fetch p q c s es e run = writes_alike p q (bytes_of (in_force s.parameters c keys.Uri)) (λ uri. Wrote c ∷ []) s es e run
acts_alike acts.Copy p q c s es e run = writes_alike p q (number_of (in_force s.parameters c keys.Source)) (λ source. Wrote c ∷ []) s es e run
acts_alike acts.Swap p q c s es e run = writes_alike p q (number_of (in_force s.parameters c keys.Source)) (λ source. Wrote c ∷ Wrote source ∷ []) s es e run
acts_alike acts.Invoke p q c s es e run =
    elim run [
      | inl passed ↦ likewise (Invokes q c s) es e (inl passed)
      | inr (is, end) ↦ by_directive (Invokes q c s) (invoke_event c s.parameters false ∷ []) p q es e is end (inr (refl, refl))
    ]
