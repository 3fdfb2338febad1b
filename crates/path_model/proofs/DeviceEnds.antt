-- How conditions and directives on contents end.
use Rattle.std.proofs.Common.{◌≡◌, ℕ, Bool, true, false, List, [], ◌∷◌, Option, Some, None, refl, ap}
use Rattle.std.specs.Prelude.{◌==◌, nat_le, ◌&&◌, if◌then◌else◌, length}
use Rattle.suit_params.specs.declared.digest.Digest.{Digest}
use Rattle.suit_params.specs.declared.param.ParamKey.TheVariants as keys
use Rattle.suit_params.specs.InForce.{in_force, number_of, bytes_of, digest_in, size_in}
use Rattle.suit_commands.specs.declared.kinds.TestKind.{TestKind}
use Rattle.suit_commands.specs.declared.kinds.TestKind.TheVariants as tests
use Rattle.suit_commands.specs.declared.kinds.ActKind.{ActKind}
use Rattle.suit_commands.specs.declared.kinds.ActKind.TheVariants as acts
use Rattle.suit_commands.specs.Tree.{PlanTree}
use Rattle.path_model.specs.declared.event.Event.{Event}
use Rattle.path_model.specs.declared.event.Event.TheVariants.{Tried, Matched, Missed, Wrote}
use Rattle.path_model.specs.declared.cause.Cause.{Cause}
use Rattle.path_model.specs.declared.cause.Cause.TheVariants as causes
use Rattle.path_model.specs.Behaviour.{State}
use Rattle.path_model.specs.Path.{first_state}
use Rattle.path_model.specs.Settings.{Setting, capacity_of, payload_of}
use Rattle.path_model.specs.Plays.{Outcome}
use Rattle.path_model.specs.DevicePlays.{Device, content_at, with_content, tested, unread, comparing, is_image, matched, is_content, condition_play, Change, Made, Refused, concluded, filled, asking, fetched, fetching, copied, swapped, fits_into, acted, ActIsCut, acting, WriteLeaves, FetchLeaves, SwapLeaves, directive_play, first_device, plan_play}
use Rattle.path_model.specs.PlayLaws.{IsFault, IsFaultIn, EndsSo, EndsByFault, PlayEnds, FaultedEnds}
use Rattle.path_model.proofs.PlaysEnd.{Ends, procedure_ends}
use Rattle.path_model.proofs.Leaving.{write_cut, fetch_cut, swap_cut}

tested_ends : (p : ℕ) (passed failed : Event) (s : State) (w : Device) (b : Bool) → EndsSo (tested p passed failed s w b).ending (tested p passed failed s w b).cause
tested_ends p passed failed s w true = refl
tested_ends p passed failed s w false = refl

matched_ends : (p c : ℕ) (size : Option ℕ) (s : State) (w : Device) (d : Option Digest) → EndsSo (matched p c size s w d).ending (matched p c size s w d).cause
matched_ends p c size s w None = refl
matched_ends p c size s w (Some d) = tested_ends p (Matched c d size) (Missed c) s w (is_image d size (content_at w c))

unread_ends : (setting : Setting) (p : ℕ) (w : Device) (o : Outcome Device) → o ≡ unread p w → EndsByFault setting o.ending o.cause
unread_ends setting p w o is = record { place = p; why = causes.FlashFault; fault = tt; ends = ap (λ (x : Outcome Device). x.ending) is; named = ap (λ (x : Outcome Device). x.cause) is }

comparing_ends : (setting : Setting) (p : ℕ) (kind : TestKind) (c : ℕ) (holds : State → Bool) → Ends Device setting (comparing p kind c holds)
comparing_ends setting p kind c holds = record { whole = λ s w. tested_ends p (Tried c kind true) (Tried c kind false) s w (holds s); cut = λ s w o cut. absurd cut }

tests_end : (setting : Setting) (kind : TestKind) (p c : ℕ) → Ends Device setting (condition_play setting kind p c)
tests_end setting tests.Vendor p c = comparing_ends setting p tests.Vendor c _
tests_end setting tests.Class p c = comparing_ends setting p tests.Class c _
tests_end setting tests.Device p c = comparing_ends setting p tests.Device c _
tests_end setting tests.Slot p c = comparing_ends setting p tests.Slot c _
tests_end setting tests.ImageMatch p c = record {
  whole = λ s w. matched_ends p c (size_in s.parameters c) s w (digest_in s.parameters c);
  cut = λ s w o cut. unread_ends setting p w o cut.1;
}
tests_end setting tests.CheckContent p c = record {
  whole = λ s w. tested_ends p (Tried c tests.CheckContent true) (Tried c tests.CheckContent false) s w (is_content (bytes_of (in_force s.parameters c keys.Content)) (content_at w c));
  cut = λ s w o cut. unread_ends setting p w o cut.1;
}
tests_end setting tests.Abort p c = comparing_ends setting p tests.Abort c (λ s. false)

-- a change that no fault refused
IsPlain : Change → Type 0
IsPlain (Made w) = Unit {0}
IsPlain (Refused cause w) = IsFault cause → ⊥

plain_one : (b : Bool) (x y : Change) → IsPlain x → IsPlain y → IsPlain (if b then x else y)
plain_one true x y h k = h
plain_one false x y h k = k

filled_plain : (setting : Setting) (c : ℕ) (bytes : List ℕ) (w : Device) → IsPlain (filled setting c bytes w)
unfolding IsPlain
filled_plain setting c bytes w = plain_one (nat_le (length bytes) (capacity_of setting c)) (Made (with_content w c bytes)) (Refused causes.TooLarge w) tt (λ x. x)

fetched_plain : (setting : Setting) (c : ℕ) (found : Option (List ℕ)) (w : Device) → IsPlain (fetched setting c found w)
unfolding IsPlain
fetched_plain setting c None w = λ x. x
fetched_plain setting c (Some bytes) w = plain_one (nat_le (length bytes) (capacity_of setting c)) (Made (with_content w c bytes)) (Refused causes.TooLarge (with_content w c [])) tt (λ x. x)

copied_plain : (setting : Setting) (c source : ℕ) (w : Device) → IsPlain (copied setting c source w)
unfolding IsPlain
copied_plain setting c source w = plain_one (source == c) (Refused causes.SelfCopy w) (filled setting c (content_at w source) w) (λ x. x) (filled_plain setting c (content_at w source) w)

swapped_plain : (setting : Setting) (c source : ℕ) (w : Device) → IsPlain (swapped setting c source w)
unfolding IsPlain
swapped_plain setting c source w =
    let made : Change = Made (with_content (with_content w c (content_at w source)) source (content_at w c)) in
    let refused : Change = Refused causes.TooLarge w in
    let fits : Bool = fits_into setting w source c && fits_into setting w c source in
    plain_one (source == c) (Refused causes.SelfCopy w) (if fits then made else refused) (λ x. x) (plain_one fits made refused tt (λ x. x))

concluded_ends : (p : ℕ) (es : List Event) (s : State) (change : Change) → IsPlain change → EndsSo (concluded p es s change).ending (concluded p es s change).cause
unfolding IsPlain
concluded_ends p es s (Made w) h = refl
concluded_ends p es s (Refused cause w) h = (cause, h, refl)

module _ {A : Type 0} (setting : Setting) (p : ℕ) (told : A → List Event) (makes : A → Device → Change) (Leaves : A → Cause → Device → Device → Type 0)
    (plain : (x : A) (w : Device) → IsPlain (makes x w)) (fault : (x : A) (cause : Cause) (w v : Device) → Leaves x cause w v → IsFaultIn setting cause) where
  acted_ends : (s : State) (w : Device) (wanted : Option A) → EndsSo (acted p told makes s w wanted).ending (acted p told makes s w wanted).cause
  acted_ends s w None = (causes.Missing, (λ x. x), refl)
  acted_ends s w (Some x) = concluded_ends p (told x) s (makes x w) (plain x w)

  cut_ends : (s : State) (w : Device) (o : Outcome Device) (wanted : Option A) → ActIsCut p told Leaves s w o wanted → EndsByFault setting o.ending o.cause
  cut_ends s w o None cut = absurd cut
  cut_ends s w o (Some x) (cause, v, leaves, is) = record {
    place = p;
    why = cause;
    fault = fault x cause w v leaves;
    ends = ap (λ (y : Outcome Device). y.ending) is;
    named = ap (λ (y : Outcome Device). y.cause) is;
  }

  acting_ends : (wanted : State → Option A) → Ends Device setting (acting p wanted told makes Leaves)
  acting_ends wanted = record { whole = λ s w. acted_ends s w (wanted s); cut = λ s w o cut. cut_ends s w o (wanted s) cut }

write_fault : (setting : Setting) (c : ℕ) (cause : Cause) (w v : Device) → WriteLeaves setting c cause w v → IsFaultIn setting cause
write_fault setting c cause w v h = write_cut setting c w v (IsFaultIn setting) cause h (λ any. tt)

fetch_fault : (setting : Setting) (uri : List ℕ) (c : ℕ) (cause : Cause) (w v : Device) → FetchLeaves setting uri c cause w v → IsFaultIn setting cause
fetch_fault setting uri c cause w v h = fetch_cut setting c w v (IsFaultIn setting) uri cause h (λ any. tt) (λ named left. (uri, named))

swap_fault : (setting : Setting) (c source : ℕ) (cause : Cause) (w v : Device) → SwapLeaves setting c source cause w v → IsFaultIn setting cause
swap_fault setting c source cause w v h = swap_cut setting c w v (IsFaultIn setting) source cause h (λ m one two. tt)

invoke_ends : (p c : ℕ) (s : State) (w : Device) (o : Outcome Device) (setting : Setting) → (directive_play setting acts.Invoke p c).IsCut s w o → EndsByFault setting o.ending o.cause
invoke_ends p c s w o setting (causes.LaunchFault, stops, is) =
    record { place = p; why = causes.LaunchFault; fault = tt; ends = ap (λ (x : Outcome Device). x.ending) is; named = ap (λ (x : Outcome Device). x.cause) is }
invoke_ends p c s w o setting (causes.FlashFault, stops, is) =
    record { place = p; why = causes.FlashFault; fault = tt; ends = ap (λ (x : Outcome Device). x.ending) is; named = ap (λ (x : Outcome Device). x.cause) is }
invoke_ends p c s w o setting (causes.HostFault, stops, is) = absurd stops
invoke_ends p c s w o setting (causes.Missing, stops, is) = absurd stops
invoke_ends p c s w o setting (causes.SelfCopy, stops, is) = absurd stops
invoke_ends p c s w o setting (causes.TooLarge, stops, is) = absurd stops
invoke_ends p c s w o setting (causes.Absent, stops, is) = absurd stops

acts_end : (setting : Setting) (kind : ActKind) (p c : ℕ) → Ends Device setting (directive_play setting kind p c)
acts_end setting acts.Write p c =
    acting_ends setting p (λ x. Wrote c ∷ []) (λ x. filled setting c x) (λ x. WriteLeaves setting c) (λ x w. filled_plain setting c x w) (λ x. write_fault setting c) (λ s. bytes_of (in_force s.parameters c keys.Content))
acts_end setting acts.Fetch p c =
    acting_ends setting p (λ x. Wrote c ∷ []) (λ x. fetching setting c x) (λ x. FetchLeaves setting x c) (λ x w. fetched_plain setting c (payload_of setting (length w.asked) x) (asking setting x w)) (λ x. fetch_fault setting x c) (λ s. bytes_of (in_force s.parameters c keys.Uri))
acts_end setting acts.Copy p c =
    acting_ends setting p (λ x. Wrote c ∷ []) (λ x. copied setting c x) (λ x. WriteLeaves setting c) (λ x w. copied_plain setting c x w) (λ x. write_fault setting c) (λ s. number_of (in_force s.parameters c keys.Source))
acts_end setting acts.Swap p c =
    acting_ends setting p (λ x. Wrote c ∷ Wrote x ∷ []) (λ x. swapped setting c x) (λ x. SwapLeaves setting c x) (λ x w. swapped_plain setting c x w) (λ x. swap_fault setting c x) (λ s. number_of (in_force s.parameters c keys.Source))
acts_end setting acts.Invoke p c = record { whole = λ s w. refl; cut = λ s w o cut. invoke_ends p c s w o setting cut }

plan_ends : (plan : PlanTree) (setting : Setting) → Ends Device setting (plan_play plan setting)
plan_ends plan setting = procedure_ends Device setting (condition_play setting) (directive_play setting) plan.count (tests_end setting) (acts_end setting) plan

pub play_ends : PlayEnds
play_ends plan setting contents = (plan_ends plan setting).whole first_state (first_device contents)

pub faulted_ends : FaultedEnds
faulted_ends plan setting contents o cut = (plan_ends plan setting).cut first_state (first_device contents) o cut
