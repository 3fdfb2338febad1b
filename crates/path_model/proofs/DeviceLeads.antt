-- Launches that were made stay made, and names that were asked for stay asked for.
use Rattle.std.proofs.Common.{◌≡◌, ℕ, Bool, true, false, List, [], ◌∷◌, ◌++◌, Option, Some, None, refl, sym, ap, subst, ◌∙◌, append_assoc, inl, inr}
use Rattle.std.proofs.lemmas.List.{append-nil}
use Rattle.std.specs.Prelude.{◌==◌, nat_le, ◌&&◌, if◌then◌else◌, length}
use Rattle.suit_params.specs.declared.digest.Digest.{Digest}
use Rattle.suit_params.specs.declared.param.ParamKey.TheVariants as keys
use Rattle.suit_params.specs.InForce.{Parameters, in_force, number_of, bytes_of, digest_in, size_in}
use Rattle.suit_commands.specs.declared.kinds.TestKind.{TestKind}
use Rattle.suit_commands.specs.declared.kinds.TestKind.TheVariants as tests
use Rattle.suit_commands.specs.declared.kinds.ActKind.{ActKind}
use Rattle.suit_commands.specs.declared.kinds.ActKind.TheVariants as acts
use Rattle.suit_commands.specs.Tree.{PlanTree}
use Rattle.path_model.specs.declared.event.Event.{Event}
use Rattle.path_model.specs.declared.event.Event.TheVariants.{Tried, Matched, Missed, Wrote}
use Rattle.path_model.specs.declared.cause.Cause.{Cause}
use Rattle.path_model.specs.declared.cause.Cause.TheVariants as causes
use Rattle.path_model.specs.Behaviour.{State}
use Rattle.path_model.specs.Path.{first_state}
use Rattle.path_model.specs.Settings.{Setting, asked_by, capacity_of, payload_of}
use Rattle.path_model.specs.Plays.{Outcome, Play}
use Rattle.path_model.specs.DevicePlays.{Launched, Device, content_at, with_content, tested, matched, is_image, is_content, comparing, matching, checking, condition_play, Change, Made, Refused, concluded, filled, asking, fetched, fetching, copied, swapped, fits_into, acted, ActIsCut, acting, HoldsAny, WriteLeaves, FetchLeaves, SwapLeaves, launch_of, launching, directive_play, first_device, plan_play}
use Rattle.path_model.specs.PlayLaws.{FaultedAsksFirst, FaultedLaunchesFirst}
use Rattle.path_model.proofs.PlaysLead.{Leads, procedure_leads}
use Rattle.path_model.proofs.Leaving.{write_cut, fetch_cut, swap_cut}

-- ---- lists of launches and of names that grow

record Grown (a b : Device) : Type 0 where
  launched : List Launched
  launches : b.launches ≡ a.launches ++ launched
  names : List (List ℕ)
  asked : b.asked ≡ a.asked ++ names

-- nothing more was launched, and these names were asked for
abbrev AsksMore : List (List ℕ) → Device → Device → Type 0
AsksMore names a b = (b.launches ≡ a.launches) × (b.asked ≡ a.asked ++ names)

asks_nothing : (a : Device) → AsksMore [] a a
asks_nothing a = (refl, sym (append-nil a.asked))

-- the first of these names were
abbrev AsksFirst : List (List ℕ) → Device → Device → Type 0
AsksFirst names a b =
    (b.launches ≡ a.launches) × (done : List (List ℕ)) × (rest : List (List ℕ)) × (b.asked ≡ a.asked ++ done) × (names ≡ done ++ rest)

all_first : (names : List (List ℕ)) (a b : Device) → AsksMore names a b → AsksFirst names a b
all_first names a b is = (is.0, names, [], is.1, sym (append-nil names))

none_first : (names : List (List ℕ)) (a b : Device) → b ≡ a → AsksFirst names a b
none_first names a b is = (ap (λ (x : Device). x.launches) is, [], names, ap (λ (x : Device). x.asked) is ∙ sym (append-nil a.asked), refl)

grown_by : (names : List (List ℕ)) (a b : Device) → AsksMore names a b → Grown a b
grown_by names a b is = record { launched = []; launches = is.0 ∙ sym (append-nil a.launches); names = names; asked = is.1 }

grown : (a : Device) → Grown a a
grown a = grown_by [] a a (asks_nothing a)

grown_then : (a b c : Device) → Grown a b → Grown b c → Grown a c
grown_then a b c one two = record {
  launched = one.launched ++ two.launched;
  launches = two.launches ∙ ap (λ (xs : List Launched). xs ++ two.launched) one.launches ∙ append_assoc a.launches one.launched two.launched;
  names = one.names ++ two.names;
  asked = two.asked ∙ ap (λ (xs : List (List ℕ)). xs ++ two.names) one.asked ∙ append_assoc a.asked one.names two.names;
}

-- one that asked for the first of the names, and one that asked for all
grown_from : (names : List (List ℕ)) (a b c : Device) → AsksFirst names a b → AsksMore names a c → Grown b c
grown_from names a b c (launches, done, rest, asked, is) all = record {
  launched = [];
  launches = all.0 ∙ sym launches ∙ sym (append-nil b.launches);
  names = rest;
  asked = all.1 ∙ ap (λ (xs : List (List ℕ)). a.asked ++ xs) is ∙ sym (append_assoc a.asked done rest) ∙ ap (λ (xs : List (List ℕ)). xs ++ rest) (sym asked);
}

abbrev LeadsOn : Play Device → Type 0
LeadsOn play = Leads Device Grown grown grown_then play

-- ---- conditions change nothing

pub tested_world : (p : ℕ) (passed failed : Event) (s : State) (w : Device) (b : Bool) → (tested p passed failed s w b).world ≡ w
tested_world p passed failed s w true = refl
tested_world p passed failed s w false = refl

pub matched_world : (p c : ℕ) (size : Option ℕ) (s : State) (w : Device) (d : Option Digest) → (matched p c size s w d).world ≡ w
matched_world p c size s w None = refl
matched_world p c size s w (Some d) = tested_world p (Matched c d size) (Missed c) s w (is_image d size (content_at w c))

-- a play that leaves the world as it was, also where it is cut
quiet_leads : (play : Play Device) → ((s : State) (w : Device) → (play.comes s w).world ≡ w) → ((s : State) (w : Device) (o : Outcome Device) → play.IsCut s w o → o.world ≡ w) → LeadsOn play
quiet_leads play whole cut = record {
  whole = λ s w. subst (Grown w) (sym (whole s w)) (grown w);
  cut = λ s w o is. subst (Grown o.world) (cut s w o is ∙ sym (whole s w)) (grown o.world);
}

comparing_leads : (p : ℕ) (kind : TestKind) (c : ℕ) (holds : State → Bool) → LeadsOn (comparing p kind c holds)
comparing_leads p kind c holds =
    quiet_leads (comparing p kind c holds) (λ s w. tested_world p (Tried c kind true) (Tried c kind false) s w (holds s)) (λ s w o cut. absurd cut)

tests_lead : (setting : Setting) (kind : TestKind) (p c : ℕ) → LeadsOn (condition_play setting kind p c)
tests_lead setting tests.Vendor p c = comparing_leads p tests.Vendor c _
tests_lead setting tests.Class p c = comparing_leads p tests.Class c _
tests_lead setting tests.Device p c = comparing_leads p tests.Device c _
tests_lead setting tests.Slot p c = comparing_leads p tests.Slot c _
tests_lead setting tests.ImageMatch p c =
    quiet_leads (matching p c) (λ s w. matched_world p c (size_in s.parameters c) s w (digest_in s.parameters c)) (λ s w o cut. ap (λ (x : Outcome Device). x.world) cut.1)
tests_lead setting tests.CheckContent p c =
    quiet_leads (checking p c) (λ s w. tested_world p (Tried c tests.CheckContent true) (Tried c tests.CheckContent false) s w (is_content (bytes_of (in_force s.parameters c keys.Content)) (content_at w c)))
    (λ s w o cut. ap (λ (x : Outcome Device). x.world) cut.1)
tests_lead setting tests.Abort p c = comparing_leads p tests.Abort c (λ s. false)

-- ---- directives but invoke launch nothing, and those but fetch ask for nothing

left_in : Change → Device
left_in (Made w) = w
left_in (Refused cause w) = w

Asks : List (List ℕ) → Device → Change → Type 0
Asks names w change = AsksMore names w (left_in change)

one_of : (w : Device) (b : Bool) (x y : Change) → Asks [] w x → Asks [] w y → Asks [] w (if b then x else y)
one_of w true x y h k = h
one_of w false x y h k = k

filled_asks : (setting : Setting) (c : ℕ) (bytes : List ℕ) (w : Device) → Asks [] w (filled setting c bytes w)
unfolding left_in Asks
filled_asks setting c bytes w =
    one_of w (nat_le (length bytes) (capacity_of setting c)) (Made (with_content w c bytes)) (Refused causes.TooLarge w) (asks_nothing w) (asks_nothing w)

fetched_asks : (setting : Setting) (c : ℕ) (found : Option (List ℕ)) (w : Device) → Asks [] w (fetched setting c found w)
unfolding left_in Asks
fetched_asks setting c None w = asks_nothing w
fetched_asks setting c (Some bytes) w =
    one_of w (nat_le (length bytes) (capacity_of setting c)) (Made (with_content w c bytes)) (Refused causes.TooLarge (with_content w c [])) (asks_nothing w) (asks_nothing w)

-- behind the ask
behind_ask : (setting : Setting) (uri : List ℕ) (w v : Device) → AsksMore [] (asking setting uri w) v → AsksMore (asked_by setting.words uri) w v
behind_ask setting uri w v is = (is.0, is.1 ∙ append-nil (w.asked ++ asked_by setting.words uri))

fetching_asks : (setting : Setting) (c : ℕ) (uri : List ℕ) (w : Device) → Asks (asked_by setting.words uri) w (fetching setting c uri w)
unfolding left_in Asks
fetching_asks setting c uri w =
    behind_ask setting uri w (left_in (fetching setting c uri w)) (fetched_asks setting c (payload_of setting (length w.asked) uri) (asking setting uri w))

copied_asks : (setting : Setting) (c source : ℕ) (w : Device) → Asks [] w (copied setting c source w)
unfolding left_in Asks
copied_asks setting c source w =
    one_of w (source == c) (Refused causes.SelfCopy w) (filled setting c (content_at w source) w) (asks_nothing w) (filled_asks setting c (content_at w source) w)

swapped_asks : (setting : Setting) (c source : ℕ) (w : Device) → Asks [] w (swapped setting c source w)
unfolding left_in Asks
swapped_asks setting c source w =
    let made : Change = Made (with_content (with_content w c (content_at w source)) source (content_at w c)) in
    let refused : Change = Refused causes.TooLarge w in
    let fits : Bool = fits_into setting w source c && fits_into setting w c source in
    one_of w (source == c) (Refused causes.SelfCopy w) (if fits then made else refused) (asks_nothing w) (one_of w fits made refused (asks_nothing w) (asks_nothing w))

concluded_asks : (p : ℕ) (es : List Event) (s : State) (names : List (List ℕ)) (w : Device) (change : Change) → Asks names w change → AsksMore names w (concluded p es s change).world
unfolding left_in Asks
concluded_asks p es s names w (Made v) h = h
concluded_asks p es s names w (Refused cause v) h = h

-- and what a fault leaves has the launches before, and the first of the names
held_asks : (setting : Setting) (c : ℕ) (w v : Device) → HoldsAny setting c w v → AsksMore [] w v
held_asks setting c w v (bytes, short, is) = (ap (λ (x : Device). x.launches) is, ap (λ (x : Device). x.asked) is ∙ sym (append-nil w.asked))

write_leaves : (setting : Setting) (c : ℕ) (cause : Cause) (w v : Device) → WriteLeaves setting c cause w v → AsksFirst [] w v
write_leaves setting c cause w v h = write_cut setting c w v (λ k. AsksFirst [] w v) cause h (λ any. all_first [] w v (held_asks setting c w v any))

fetch_leaves : (setting : Setting) (uri : List ℕ) (c : ℕ) (cause : Cause) (w v : Device) → FetchLeaves setting uri c cause w v → AsksFirst (asked_by setting.words uri) w v
fetch_leaves setting uri c cause w v h =
    let names : List (List ℕ) = asked_by setting.words uri in
    fetch_cut setting c w v (λ k. AsksFirst names w v) uri cause h
    (λ any. all_first names w v (behind_ask setting uri w v (held_asks setting c (asking setting uri w) v any)))
    (λ named left. elim left [
      | inl is ↦ none_first names w v is
      | inr later ↦ all_first names w v (elim later [
        | inl is ↦ (ap (λ (x : Device). x.launches) is, ap (λ (x : Device). x.asked) is)
        | inr is ↦ (ap (λ (x : Device). x.launches) is, ap (λ (x : Device). x.asked) is)
      ])
    ])

swap_leaves : (setting : Setting) (c source : ℕ) (cause : Cause) (w v : Device) → SwapLeaves setting c source cause w v → AsksFirst [] w v
swap_leaves setting c source cause w v h =
    swap_cut setting c w v (λ k. AsksFirst [] w v) source cause h (λ m one two.
    let first = held_asks setting c w m one in
    let second = held_asks setting source m v two in
    all_first [] w v (second.0 ∙ first.0, second.1 ∙ append-nil m.asked ∙ first.1))

module _ {A : Type 0} (p : ℕ) (told : A → List Event) (makes : A → Device → Change) (Leaves : A → Cause → Device → Device → Type 0) (names : A → List (List ℕ))
    (asks : (x : A) (w : Device) → Asks (names x) w (makes x w)) (left : (x : A) (cause : Cause) (w v : Device) → Leaves x cause w v → AsksFirst (names x) w v) where
  acted_grows : (s : State) (w : Device) (wanted : Option A) → Grown w (acted p told makes s w wanted).world
  acted_grows s w None = grown w
  acted_grows s w (Some x) = grown_by (names x) w (concluded p (told x) s (makes x w)).world (concluded_asks p (told x) s (names x) w (makes x w) (asks x w))

  cut_grows : (s : State) (w : Device) (o : Outcome Device) (wanted : Option A) → ActIsCut p told Leaves s w o wanted → Grown o.world (acted p told makes s w wanted).world
  cut_grows s w o None cut = absurd cut
  cut_grows s w o (Some x) (cause, v, leaves, is) =
      let whole : Device = (concluded p (told x) s (makes x w)).world in
      subst (λ (u : Device). Grown u whole) (sym (ap (λ (y : Outcome Device). y.world) is))
      (grown_from (names x) w v whole (left x cause w v leaves) (concluded_asks p (told x) s (names x) w (makes x w) (asks x w)))

  acting_leads : (wanted : State → Option A) → LeadsOn (acting p wanted told makes Leaves)
  acting_leads wanted = record {
    whole = λ s w. acted_grows s w (wanted s);
    cut = λ s w o cut. cut_grows s w o (wanted s) cut;
  }

launched_grows : (w : Device) (c : ℕ) (parameters : Parameters) → Grown w (launching w c parameters)
launched_grows w c parameters = record { launched = launch_of w c parameters ∷ []; launches = refl; names = []; asked = sym (append-nil w.asked) }

acts_lead : (setting : Setting) (kind : ActKind) (p c : ℕ) → LeadsOn (directive_play setting kind p c)
acts_lead setting acts.Write p c =
    acting_leads p (λ x. Wrote c ∷ []) (λ x. filled setting c x) (λ x. WriteLeaves setting c) (λ x. []) (λ x w. filled_asks setting c x w) (λ x. write_leaves setting c) (λ s. bytes_of (in_force s.parameters c keys.Content))
acts_lead setting acts.Fetch p c =
    acting_leads p (λ x. Wrote c ∷ []) (λ x. fetching setting c x) (λ x. FetchLeaves setting x c) (λ x. asked_by setting.words x) (λ x w. fetching_asks setting c x w) (λ x. fetch_leaves setting x c)
    (λ s. bytes_of (in_force s.parameters c keys.Uri))
acts_lead setting acts.Copy p c =
    acting_leads p (λ x. Wrote c ∷ []) (λ x. copied setting c x) (λ x. WriteLeaves setting c) (λ x. []) (λ x w. copied_asks setting c x w) (λ x. write_leaves setting c) (λ s. number_of (in_force s.parameters c keys.Source))
acts_lead setting acts.Swap p c =
    acting_leads p (λ x. Wrote c ∷ Wrote x ∷ []) (λ x. swapped setting c x) (λ x. SwapLeaves setting c x) (λ x. []) (λ x w. swapped_asks setting c x w) (λ x. swap_leaves setting c x) (λ s. number_of (in_force s.parameters c keys.Source))
acts_lead setting acts.Invoke p c = record {
  whole = λ s w. launched_grows w c s.parameters;
  cut = λ s w o cut. subst (λ (v : Device). Grown v (launching w c s.parameters)) (sym (ap (λ (y : Outcome Device). y.world) cut.2)) (launched_grows w c s.parameters);
}

plan_leads : (plan : PlanTree) (setting : Setting) → LeadsOn (plan_play plan setting)
plan_leads plan setting =
    procedure_leads Device Grown grown grown_then (condition_play setting) (directive_play setting) plan.count (tests_lead setting) (acts_lead setting) plan

pub faulted_launches_first : FaultedLaunchesFirst
faulted_launches_first plan setting contents o cut =
    let more = (plan_leads plan setting).cut first_state (first_device contents) o cut in
    (more.launched, more.launches)

pub faulted_asks_first : FaultedAsksFirst
faulted_asks_first plan setting contents o cut =
    let more = (plan_leads plan setting).cut first_state (first_device contents) o cut in
    (more.names, more.asked)
