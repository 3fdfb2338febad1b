-- Conditions and directives on contents, each as the runs have it.
use Rattle.std.proofs.Common.{◌≡◌, ℕ, Bool, true, false, List, [], ◌∷◌, ◌++◌, Option, Some, None, refl, sym, ap, subst, ◌∙◌, inl, inr, ◌⊎◌}
use Rattle.std.proofs.lemmas.List.{append-nil}
use Rattle.std.proofs.lemmas.Bool.{eqb-true, eq-eqb, true≢false}
use lib.Pointwise.{bytes_decides}
use Rattle.std.specs.Prelude.{slice_get}
use Rattle.std.specs.Str.{bytes_eq}
use Rattle.suit_params.specs.declared.digest.Digest.{Digest}
use Rattle.suit_params.specs.declared.param.ParamKey.{ParamKey}
use Rattle.suit_params.specs.declared.param.ParamKey.TheVariants as keys
use Rattle.suit_params.specs.InForce.{in_force, identifier_of, number_of, bytes_of, digest_in, size_in}
use Rattle.suit_commands.specs.declared.kinds.TestKind.{TestKind}
use Rattle.suit_commands.specs.declared.kinds.TestKind.TheVariants as tests
use Rattle.suit_commands.specs.declared.kinds.ActKind.{ActKind}
use Rattle.suit_commands.specs.declared.kinds.ActKind.TheVariants as acts
use Rattle.suit_commands.specs.Tree.{PlanTree}
use Rattle.path_model.specs.declared.identity.Identity.{Identity}
use Rattle.path_model.specs.declared.event.Event.{Event}
use Rattle.path_model.specs.declared.event.Event.TheVariants.{Tried, Matched, Missed, Wrote, Failed}
use Rattle.path_model.specs.declared.cause.Cause.{Cause}
use Rattle.path_model.specs.Behaviour.{State, Ending, Done, Directive, Behaviour}
use Rattle.path_model.specs.Conditions.{IsMet, IsUnmet, IsAsWanted, Compares, ComparesIdentifier, vendor_of, class_of, device_of, slot_of, Matches, ChecksContent, Tests}
use Rattle.path_model.specs.Directives.{Writes, Invokes, Acts}
use Rattle.path_model.specs.Path.{first_state, RunsPlan}
use Rattle.path_model.specs.Settings.{Setting}
use Rattle.path_model.specs.Plays.{Outcome}
use Rattle.path_model.specs.DevicePlays.{Device, content_at, tested, comparing, comparing_identifier, same_identifier, same_number, is_image, matched, matching, is_content, checking, condition_play, Change, Made, Refused, concluded, filled, fetching, copied, swapped, acted, ActIsCut, acting, WriteLeaves, FetchLeaves, SwapLeaves, invoking, directive_play, first_device, plan_play}
use Rattle.path_model.specs.PlayLaws.{PlayRuns, FaultedIsPath}
use Rattle.path_model.proofs.PlaysRun.{Begins, Follows, other_run, procedure_follows}

-- ---- conditions that look at no content

the_value : {A : Type 0} → A → Option A → A
the_value d None = d
the_value d (Some x) = x

identifier_is : (wanted own : Option (List ℕ)) → same_identifier wanted own ≡ true → IsAsWanted wanted own
identifier_is None None e = absurd (true≢false (sym e))
identifier_is None (Some b) e = absurd (true≢false (sym e))
identifier_is (Some a) None e = absurd (true≢false (sym e))
identifier_is (Some a) (Some b) e = ap Some ((bytes_decides b a).0 e)

is_identifier : (wanted own : Option (List ℕ)) → IsAsWanted wanted own → same_identifier wanted own ≡ true
unfolding the_value
is_identifier None own same = absurd same
is_identifier (Some a) None same = absurd cc
is_identifier (Some a) (Some b) same = (bytes_decides b a).1 (ap (the_value b) same)

number_is : (wanted own : Option ℕ) → same_number wanted own ≡ true → IsAsWanted wanted own
number_is None None e = absurd (true≢false (sym e))
number_is None (Some b) e = absurd (true≢false (sym e))
number_is (Some a) None e = absurd (true≢false (sym e))
number_is (Some a) (Some b) e = ap Some (eqb-true b a e)

is_number : (wanted own : Option ℕ) → IsAsWanted wanted own → same_number wanted own ≡ true
unfolding the_value
is_number None own same = absurd same
is_number (Some a) None same = absurd cc
is_number (Some a) (Some b) same = eq-eqb b a (ap (the_value b) same)

compared : {A : Type 0} (p : ℕ) (kind : TestKind) (c : ℕ) (wanted own : Option A) (s : State) (w : Device) (b : Bool)
    → (b ≡ true → IsAsWanted wanted own) → (IsAsWanted wanted own → b ≡ true)
    → Compares p kind c wanted own s (tested p (Tried c kind true) (Tried c kind false) s w b).events (tested p (Tried c kind true) (Tried c kind false) s w b).ending
compared p kind c wanted own s w true holds so = inl (holds refl, (refl, refl))
compared p kind c wanted own s w false holds so = inr ((λ same. true≢false (sym (so same))), (refl, refl))

comparing_follows : {A : Type 0} (p : ℕ) (kind : TestKind) (c : ℕ) (wanted : State → Option A) (own : Option A) (holds : State → Bool)
    → ((s : State) → holds s ≡ true → IsAsWanted (wanted s) own) → ((s : State) → IsAsWanted (wanted s) own → holds s ≡ true)
    → Follows Device (λ s. Compares p kind c (wanted s) own s) (comparing p kind c holds)
comparing_follows p kind c wanted own holds is back = record {
  whole = λ s w. compared p kind c (wanted s) own s w (holds s) (is s) (back s);
  cut = λ s w o cut. absurd cut;
}

-- ---- conditions on a content

either_tested : (p : ℕ) (passed failed : Event) (s : State) (w : Device) (b : Bool)
    → IsMet passed s (tested p passed failed s w b).events (tested p passed failed s w b).ending
    ⊎ IsUnmet p failed s (tested p passed failed s w b).events (tested p passed failed s w b).ending
either_tested p passed failed s w true = inl (refl, refl)
either_tested p passed failed s w false = inr (refl, refl)

matched_runs : (p c : ℕ) (size : Option ℕ) (s : State) (w : Device) (d : Option Digest)
    → Matches p c d size s (matched p c size s w d).events (matched p c size s w d).ending
matched_runs p c size s w None = (refl, refl)
matched_runs p c size s w (Some d) = either_tested p (Matched c d size) (Missed c) s w (is_image d size (content_at w c))

checked_runs : (p c : ℕ) (content : List ℕ) (s : State) (w : Device) (wanted : Option (List ℕ))
    → let o = tested p (Tried c tests.CheckContent true) (Tried c tests.CheckContent false) s w (is_content wanted content) in
    ChecksContent p c wanted s o.events o.ending
checked_runs p c content s w None = (refl, refl)
checked_runs p c content s w (Some wanted) =
    either_tested p (Tried c tests.CheckContent true) (Tried c tests.CheckContent false) s w (bytes_eq content wanted)

-- where nothing was told, any run begins so
pub begins_all : (run : Behaviour) (s : State) (es fs : List Event) (e : Ending) → run s fs e → es ≡ [] → Begins run s es
begins_all run s es fs e one none = record { rest = fs; ending = e; is = subst (λ (xs : List Event). run s (xs ++ fs) e) (sym none) one }

matching_follows : (p c : ℕ) → Follows Device (λ s. Matches p c (digest_in s.parameters c) (size_in s.parameters c) s) (matching p c)
matching_follows p c =
    let run : Behaviour = λ s. Matches p c (digest_in s.parameters c) (size_in s.parameters c) s in
    record {
      whole = λ s w. matched_runs p c (size_in s.parameters c) s w (digest_in s.parameters c);
      cut = λ s w o cut. let all = (matching p c).comes s w in
          begins_all run s o.events all.events all.ending (matched_runs p c (size_in s.parameters c) s w (digest_in s.parameters c)) (ap (λ (x : Outcome Device). x.events) cut.1);
    }

checking_follows : (p c : ℕ) → Follows Device (λ s. ChecksContent p c (bytes_of (in_force s.parameters c keys.Content)) s) (checking p c)
checking_follows p c =
    let run : Behaviour = λ s. ChecksContent p c (bytes_of (in_force s.parameters c keys.Content)) s in
    record {
      whole = λ s w. checked_runs p c (content_at w c) s w (bytes_of (in_force s.parameters c keys.Content));
      cut = λ s w o cut. let all = (checking p c).comes s w in
          begins_all run s o.events all.events all.ending (checked_runs p c (content_at w c) s w (bytes_of (in_force s.parameters c keys.Content))) (ap (λ (x : Outcome Device). x.events) cut.1);
    }

abort_follows : (p c : ℕ) → Follows Device (IsUnmet p (Tried c tests.Abort false)) (comparing p tests.Abort c (λ s. false))
abort_follows p c = record { whole = λ s w. (refl, refl); cut = λ s w o cut. absurd cut }

-- ---- directives

concluded_runs : (p : ℕ) (es : List Event) (s : State) (change : Change)
    → (((concluded p es s change).events ≡ es) × ((concluded p es s change).ending ≡ Done s))
    ⊎ (((concluded p es s change).events ≡ es ++ Failed p ∷ []) × ((concluded p es s change).ending ≡ Directive p))
concluded_runs p es s (Made w) = inl (refl, refl)
concluded_runs p es s (Refused cause w) = inr (refl, refl)

module _ {A : Type 0} (p : ℕ) (told : A → List Event) (makes : A → Device → Change) (Leaves : A → Cause → Device → Device → Type 0) where
  acted_runs : (s : State) (w : Device) (wanted : Option A) → Writes p wanted told s (acted p told makes s w wanted).events (acted p told makes s w wanted).ending
  acted_runs s w None = (refl, refl)
  acted_runs s w (Some x) = concluded_runs p (told x) s (makes x w)

  cut_begins : (s : State) (w : Device) (o : Outcome Device) (wanted : Option A) → ActIsCut p told Leaves s w o wanted → Begins (λ t. Writes p wanted told t) s o.events
  cut_begins s w o None cut = absurd cut
  cut_begins s w o (Some x) (cause, left, leaves, is) = record {
    rest = [];
    ending = Directive p;
    is = inr (append-nil o.events ∙ ap (λ (y : Outcome Device). y.events) is, refl);
  }

  acting_follows : (wanted : State → Option A) → Follows Device (λ s. Writes p (wanted s) told s) (acting p wanted told makes Leaves)
  acting_follows wanted = record {
    whole = λ s w. acted_runs s w (wanted s);
    cut = λ s w o cut. let b = cut_begins s w o (wanted s) cut in record { rest = b.rest; ending = b.ending; is = b.is };
  }

invoking_follows : (p c : ℕ) → Follows Device (Invokes p c) (invoking p c)
invoking_follows p c = record {
  whole = λ s w. inl (refl, refl);
  cut = λ s w o cut. record {
    rest = [];
    ending = Directive p;
    is = inr (append-nil o.events ∙ ap (λ (y : Outcome Device). y.events) cut.2, refl);
  };
}

-- ---- each of them

module _ (setting : Setting) where
  identifiers_follow : (kind : TestKind) (key : ParamKey) (own_of : Option Identity → Option (List ℕ)) (p c : ℕ) → Follows Device (ComparesIdentifier kind key own_of setting.identities p c) (comparing_identifier kind key own_of setting p c)
  identifiers_follow kind key own_of p c =
      let own = own_of (slice_get setting.identities c) in
      let wanted : State → Option (List ℕ) = λ s. identifier_of (in_force s.parameters c key) in
      other_run Device (λ s. Compares p kind c (wanted s) own s) (ComparesIdentifier kind key own_of setting.identities p c) (comparing_identifier kind key own_of setting p c) (λ s es e r. r)
      (comparing_follows p kind c wanted own (λ s. same_identifier (wanted s) own) (λ s. identifier_is (wanted s) own) (λ s. is_identifier (wanted s) own))

  pub tests_follow : (kind : TestKind) (p c : ℕ) → Follows Device (Tests kind setting.identities p c) (condition_play setting kind p c)
  tests_follow tests.Vendor p c = identifiers_follow tests.Vendor keys.Vendor vendor_of p c
  tests_follow tests.Class p c = identifiers_follow tests.Class keys.Class class_of p c
  tests_follow tests.Device p c = identifiers_follow tests.Device keys.Device device_of p c
  tests_follow tests.Slot p c =
      let own = slot_of (slice_get setting.identities c) in
      let wanted : State → Option ℕ = λ s. number_of (in_force s.parameters c keys.Slot) in
      other_run Device (λ s. Compares p tests.Slot c (wanted s) own s) (Tests tests.Slot setting.identities p c) (condition_play setting tests.Slot p c) (λ s es e r. r)
      (comparing_follows p tests.Slot c wanted own (λ s. same_number (wanted s) own) (λ s. number_is (wanted s) own) (λ s. is_number (wanted s) own))
  tests_follow tests.ImageMatch p c =
      other_run Device (λ s. Matches p c (digest_in s.parameters c) (size_in s.parameters c) s) (Tests tests.ImageMatch setting.identities p c) (matching p c) (λ s es e r. r) (matching_follows p c)
  tests_follow tests.CheckContent p c =
      other_run Device (λ s. ChecksContent p c (bytes_of (in_force s.parameters c keys.Content)) s) (Tests tests.CheckContent setting.identities p c) (checking p c) (λ s es e r. r) (checking_follows p c)
  tests_follow tests.Abort p c =
      other_run Device (IsUnmet p (Tried c tests.Abort false)) (Tests tests.Abort setting.identities p c) (comparing p tests.Abort c (λ s. false)) (λ s es e r. r) (abort_follows p c)

  pub acts_follow : (kind : ActKind) (p c : ℕ) → Follows Device (Acts kind p c) (directive_play setting kind p c)
  acts_follow acts.Write p c =
      let wanted : State → Option (List ℕ) = λ s. bytes_of (in_force s.parameters c keys.Content) in
      other_run Device (λ s. Writes p (wanted s) (λ x. Wrote c ∷ []) s) (Acts acts.Write p c) (directive_play setting acts.Write p c) (λ s es e r. r)
      (acting_follows p (λ x. Wrote c ∷ []) (λ x. filled setting c x) (λ x. WriteLeaves setting c) wanted)
  acts_follow acts.Fetch p c =
      let wanted : State → Option (List ℕ) = λ s. bytes_of (in_force s.parameters c keys.Uri) in
      other_run Device (λ s. Writes p (wanted s) (λ x. Wrote c ∷ []) s) (Acts acts.Fetch p c) (directive_play setting acts.Fetch p c) (λ s es e r. r)
      (acting_follows p (λ x. Wrote c ∷ []) (λ x. fetching setting c x) (λ x. FetchLeaves setting x c) wanted)
  acts_follow acts.Copy p c =
      let wanted : State → Option ℕ = λ s. number_of (in_force s.parameters c keys.Source) in
      other_run Device (λ s. Writes p (wanted s) (λ x. Wrote c ∷ []) s) (Acts acts.Copy p c) (directive_play setting acts.Copy p c) (λ s es e r. r)
      (acting_follows p (λ x. Wrote c ∷ []) (λ x. copied setting c x) (λ x. WriteLeaves setting c) wanted)
  acts_follow acts.Swap p c =
      let wanted : State → Option ℕ = λ s. number_of (in_force s.parameters c keys.Source) in
      other_run Device (λ s. Writes p (wanted s) (λ x. Wrote c ∷ Wrote x ∷ []) s) (Acts acts.Swap p c) (directive_play setting acts.Swap p c) (λ s es e r. r)
      (acting_follows p (λ x. Wrote c ∷ Wrote x ∷ []) (λ x. swapped setting c x) (λ x. SwapLeaves setting c x) wanted)
  acts_follow acts.Invoke p c =
      other_run Device (Invokes p c) (Acts acts.Invoke p c) (invoking p c) (λ s es e r. r) (invoking_follows p c)

  plan_follows : (plan : PlanTree) → Follows Device (RunsPlan plan setting.identities) (plan_play plan setting)
  plan_follows plan = procedure_follows Device plan setting.identities (condition_play setting) (directive_play setting) tests_follow acts_follow

pub play_runs : PlayRuns
play_runs plan setting contents = (plan_follows setting plan).whole first_state (first_device contents)

pub faulted_is_path : FaultedIsPath
faulted_is_path plan setting contents o cut =
    let b = (plan_follows setting plan).cut first_state (first_device contents) o cut in
    record { rest = b.rest; ending = b.ending; run = b.is }
