-- While each invoke is covered, a content whose match stands is the image that was matched, and so is what is launched.
use Rattle.std.proofs.Common.{◌≡◌, ◌≢◌, ℕ, Bool, true, false, List, [], ◌∷◌, ◌++◌, Option, Some, None, refl, sym, ap, subst, ◌∙◌, append_assoc, inl, inr, get_or-set_other}
use Rattle.std.proofs.lemmas.List.{append-nil}
use Rattle.std.specs.Prelude.{◌==◌, nat_le, ◌&&◌, if◌then◌else◌, length}
use Rattle.std.specs.List.{AllByRecursion}
use Rattle.suit_params.specs.DigestLaws.{has_decides}
use Rattle.suit_params.specs.Hashes.{has_digest}
use Rattle.suit_params.specs.declared.digest.Digest.{Digest}
use Rattle.suit_params.specs.declared.param.Param.{Param}
use Rattle.suit_params.specs.declared.param.ParamKey.TheVariants as keys
use Rattle.suit_params.specs.InForce.{Parameters, in_force, number_of, bytes_of, digest_in, size_in}
use Rattle.suit_commands.specs.declared.kinds.TestKind.{TestKind}
use Rattle.suit_commands.specs.declared.kinds.TestKind.TheVariants as tests
use Rattle.suit_commands.specs.declared.kinds.ActKind.{ActKind}
use Rattle.suit_commands.specs.declared.kinds.ActKind.TheVariants as acts
use Rattle.suit_commands.specs.Tree.{PlanTree}
use Rattle.path_model.specs.declared.event.Event.{Event}
use Rattle.path_model.specs.declared.event.Event.TheVariants.{Set, Tried, Matched, Missed, Wrote, Invoked, Failed}
use Rattle.path_model.specs.declared.cause.Cause.{Cause}
use Rattle.path_model.specs.declared.cause.Cause.TheVariants as causes
use Rattle.path_model.specs.Behaviour.{State}
use Rattle.path_model.specs.Directives.{invoke_event}
use Rattle.path_model.specs.Path.{RunsPlan, first_state}
use Rattle.path_model.specs.Safe.{HasMatched, IsCovered, AllCovered}
use Rattle.path_model.specs.Following.{CoveredFrom}
use Rattle.path_model.specs.Settings.{Setting, capacity_of, payload_of}
use Rattle.path_model.specs.Plays.{Outcome, Play}
use Rattle.path_model.specs.DevicePlays.{Launched, Device, content_at, with_content, tested, unread, comparing, fits_size, is_image, matched, is_content, condition_play, Change, Made, Refused, concluded, filled, asking, fetched, fetching, copied, swapped, fits_into, acted, ActIsCut, acting, WriteLeaves, FetchLeaves, SwapLeaves, launch_of, launching, directive_play, first_device, plan_play, played}
use Rattle.path_model.specs.PlayLaws.{HasItsDigest, SafeLaunches, FaultedSafeLaunches}
use Rattle.path_model.proofs.CoverLaws.{nothing_matched, matched_after}
use Rattle.path_model.proofs.Coverage.{covered_by_standing}
use Rattle.path_model.proofs.DeviceLeaves.{play_runs, faulted_is_path}
use Rattle.path_model.proofs.PlaysKeep.{Keeps, procedure_keeps}
use Rattle.path_model.proofs.Fits.{first_true, second_true, fits}
use Rattle.path_model.proofs.Leaving.{write_cut, fetch_cut, swap_cut}

pub record Vouches (past : List Event) (w : Device) : Type 0 where
  pub matches : (c : ℕ) (d : Digest) (s : Option ℕ) → HasMatched past c d s → is_image d s (content_at w c) ≡ true
  pub launches : AllByRecursion HasItsDigest w.launches

-- ---- one more event

unfoldable pub IsNoMatch : Event → Type 0
IsNoMatch e = (c : ℕ) (d : Digest) (s : Option ℕ) → e ≢ Matched c d s

pub no_set : (c : ℕ) (p : Param) → IsNoMatch (Set c p)
unfolding IsNoMatch
no_set c p k d s is = absurd cc

pub no_tried : (c : ℕ) (kind : TestKind) (passed : Bool) → IsNoMatch (Tried c kind passed)
unfolding IsNoMatch
no_tried c kind passed k d s is = absurd cc

pub no_missed : (c : ℕ) → IsNoMatch (Missed c)
unfolding IsNoMatch
no_missed c k d s is = absurd cc

pub no_wrote : (c : ℕ) → IsNoMatch (Wrote c)
unfolding IsNoMatch
no_wrote c k d s is = absurd cc

pub no_invoked : (c : ℕ) (digest : Option Digest) (size : Option ℕ) (passed : Bool) → IsNoMatch (Invoked c digest size passed)
unfolding IsNoMatch
no_invoked c digest size passed k d s is = absurd cc

pub no_failed : (p : ℕ) → IsNoMatch (Failed p)
unfolding IsNoMatch
no_failed p k d s is = absurd cc

pub quiet : (past : List Event) (w : Device) (e : Event) → IsNoMatch e → Vouches past w → Vouches (past ++ e ∷ []) w
unfolding IsNoMatch
quiet past w e none v = record {
  matches = λ c d s h. elim (matched_after past e c d s h) [ inl is ↦ absurd (none c d s is) | inr stood ↦ v.matches c d s stood.0 ];
  launches = v.launches;
}

IsImageIn : Device → Event → Type 0
IsImageIn w (Matched c d s) = is_image d s (content_at w c) ≡ true
IsImageIn w _ = Unit {0}

one_matched : (past : List Event) (w : Device) (c : ℕ) (d : Digest) (s : Option ℕ) → is_image d s (content_at w c) ≡ true → Vouches past w → Vouches (past ++ Matched c d s ∷ []) w
unfolding IsImageIn
one_matched past w c d s image v = record {
  matches = λ k e n h. elim (matched_after past (Matched c d s) k e n h) [ inl is ↦ subst (IsImageIn w) is image | inr stood ↦ v.matches k e n stood.0 ];
  launches = v.launches;
}

-- another content at one component alone
record WrittenAt (c : ℕ) (w v : Device) : Type 0 where
  others : (k : ℕ) → k ≢ c → content_at v k ≡ content_at w k
  launches : v.launches ≡ w.launches

written_with : (c : ℕ) (w : Device) (bytes : List ℕ) → WrittenAt c w (with_content w c bytes)
written_with c w bytes = record {
  others = λ k other. get_or-set_other w.contents c k bytes [] other;
  launches = refl;
}

written_same : (c : ℕ) (w : Device) → WrittenAt c w w
written_same c w = record { others = λ k other. refl; launches = refl }

one_wrote : (past : List Event) (w v : Device) (c : ℕ) → WrittenAt c w v → Vouches past w → Vouches (past ++ Wrote c ∷ []) v
unfolding IsNoMatch
one_wrote past w v c written vouches = record {
  matches = λ k d s h. elim (matched_after past (Wrote c) k d s h) [
    | inl is ↦ absurd (no_wrote c k d s is)
    | inr stood ↦ ap (is_image d s) (written.others k (λ same. stood.1 (sym same))) ∙ vouches.matches k d s stood.0
  ];
  launches = subst (AllByRecursion HasItsDigest) (sym written.launches) vouches.launches;
}

two_told : (past : List Event) (e f : Event) (w : Device) → Vouches ((past ++ e ∷ []) ++ f ∷ []) w → Vouches (past ++ e ∷ f ∷ []) w
two_told past e f w v = subst (λ (xs : List Event). Vouches xs w) (append_assoc past (e ∷ []) (f ∷ [])) v

-- a failure behind what was told
then_failed : (past es : List Event) (p : ℕ) (w : Device) → Vouches (past ++ es) w → Vouches (past ++ (es ++ Failed p ∷ [])) w
then_failed past es p w v = subst (λ (xs : List Event). Vouches xs w) (append_assoc past es (Failed p ∷ [])) (quiet (past ++ es) w (Failed p) (no_failed p) v)

-- ---- launches

its_digest : (past : List Event) (w : Device) (c : ℕ) (digest : Option Digest) (size : Option ℕ) (args : Option (List ℕ)) → IsCovered past (Invoked c digest size true) → Vouches past w
    → HasItsDigest (record { component = c; bytes = content_at w c; digest = digest; size = size; args = args })
its_digest past w c None size args covered v = absurd covered
its_digest past w c (Some d) size args covered v =
    let image = v.matches c d size covered in
    let content : List ℕ = content_at w c in
    let same : Bool = has_digest d content in
    let sized : Bool = fits_size size content in
    record {
      digest = d;
      named = refl;
      has = (has_decides d content).0 (first_true same sized image);
      size = fits size content (second_true same sized image);
    }

all_then : (launches : List Launched) (launch : Launched) → AllByRecursion HasItsDigest launches → HasItsDigest launch → AllByRecursion HasItsDigest (launches ++ launch ∷ [])
all_then [] launch all here = (here, tt)
all_then (first ∷ launches) launch all here = (all.0, all_then launches launch all.1 here)

-- ---- conditions

abbrev pub KeepsIt : Play Device → Type 0
KeepsIt play = Keeps Device Vouches (λ past w c p v. quiet past w (Set c p) (no_set c p) v) play

module _ (past : List Event) (p : ℕ) (passed failed : Event) (s : State) (w : Device) where
  one_tested : (b : Bool) → (b ≡ true → Vouches past w → Vouches (past ++ passed ∷ []) w) → IsNoMatch failed → Vouches past w
      → Vouches (past ++ (tested p passed failed s w b).events) (tested p passed failed s w b).world
  one_tested true holds none v = holds refl v
  one_tested false holds none v = then_failed past (failed ∷ []) p w (quiet past w failed none v)

one_unread : (past : List Event) (p : ℕ) (w : Device) (o : Outcome Device) → o ≡ unread p w → Vouches past w → Vouches (past ++ o.events) o.world
one_unread past p w o is v = subst (λ (x : Outcome Device). Vouches (past ++ x.events) x.world) (sym is) (subst (λ (xs : List Event). Vouches xs w) (sym (append-nil past)) v)

comparing_keeps : (p : ℕ) (kind : TestKind) (c : ℕ) (holds : State → Bool) → KeepsIt (comparing p kind c holds)
comparing_keeps p kind c holds = record {
  whole = λ past s w v covered. one_tested past p (Tried c kind true) (Tried c kind false) s w (holds s)
      (λ is u. quiet past w (Tried c kind true) (no_tried c kind true) u) (no_tried c kind false) v;
  cut = λ past s w o cut. absurd cut;
}

matched_vouches : (past : List Event) (p c : ℕ) (size : Option ℕ) (s : State) (w : Device) (digest : Option Digest) → Vouches past w
    → Vouches (past ++ (matched p c size s w digest).events) (matched p c size s w digest).world
matched_vouches past p c size s w None v = one_tested past p (Missed c) (Missed c) s w false (λ is u. quiet past w (Missed c) (no_missed c) u) (no_missed c) v
matched_vouches past p c size s w (Some d) v =
    one_tested past p (Matched c d size) (Missed c) s w (is_image d size (content_at w c)) (λ is u. one_matched past w c d size is u) (no_missed c) v

pub tests_keep : (setting : Setting) (kind : TestKind) (p c : ℕ) → KeepsIt (condition_play setting kind p c)
tests_keep setting tests.Vendor p c = comparing_keeps p tests.Vendor c _
tests_keep setting tests.Class p c = comparing_keeps p tests.Class c _
tests_keep setting tests.Device p c = comparing_keeps p tests.Device c _
tests_keep setting tests.Slot p c = comparing_keeps p tests.Slot c _
tests_keep setting tests.ImageMatch p c = record {
  whole = λ past s w v covered. matched_vouches past p c (size_in s.parameters c) s w (digest_in s.parameters c) v;
  cut = λ past s w o cut v covered. one_unread past p w o cut.1 v;
}
tests_keep setting tests.CheckContent p c = record {
  whole = λ past s w v covered. one_tested past p (Tried c tests.CheckContent true) (Tried c tests.CheckContent false) s w
      (is_content (bytes_of (in_force s.parameters c keys.Content)) (content_at w c))
      (λ is u. quiet past w (Tried c tests.CheckContent true) (no_tried c tests.CheckContent true) u) (no_tried c tests.CheckContent false) v;
  cut = λ past s w o cut v covered. one_unread past p w o cut.1 v;
}
tests_keep setting tests.Abort p c = comparing_keeps p tests.Abort c (λ s. false)

-- ---- directives

left_in : Change → Device
left_in (Made w) = w
left_in (Refused cause w) = w

one_concluded : (past es : List Event) (p : ℕ) (s : State) (change : Change) → Vouches (past ++ es) (left_in change)
    → Vouches (past ++ (concluded p es s change).events) (concluded p es s change).world
unfolding left_in
one_concluded past es p s (Made w) v = v
one_concluded past es p s (Refused cause w) v = then_failed past es p w v

module _ {A : Type 0} (p : ℕ) (told : A → List Event) (makes : A → Device → Change) (Leaves : A → Cause → Device → Device → Type 0)
    (made : (past : List Event) (x : A) (w : Device) → Vouches past w → Vouches (past ++ told x) (left_in (makes x w)))
    (left : (past : List Event) (x : A) (cause : Cause) (w v : Device) → Leaves x cause w v → Vouches past w → Vouches (past ++ told x) v) where
  acted_vouches : (past : List Event) (s : State) (w : Device) (wanted : Option A) → Vouches past w → Vouches (past ++ (acted p told makes s w wanted).events) (acted p told makes s w wanted).world
  acted_vouches past s w None v = quiet past w (Failed p) (no_failed p) v
  acted_vouches past s w (Some x) v = one_concluded past (told x) p s (makes x w) (made past x w v)

  cut_vouches : (past : List Event) (s : State) (w : Device) (o : Outcome Device) (wanted : Option A) → ActIsCut p told Leaves s w o wanted → Vouches past w → Vouches (past ++ o.events) o.world
  cut_vouches past s w o None cut v = absurd cut
  cut_vouches past s w o (Some x) (cause, u, leaves, is) v =
      subst (λ (y : Outcome Device). Vouches (past ++ y.events) y.world) (sym is) (then_failed past (told x) p u (left past x cause w u leaves v))

  acting_keeps : (wanted : State → Option A) → KeepsIt (acting p wanted told makes Leaves)
  acting_keeps wanted = record {
    whole = λ past s w v covered. acted_vouches past s w (wanted s) v;
    cut = λ past s w o cut v covered. cut_vouches past s w o (wanted s) cut v;
  }

Writes : ℕ → Device → Change → Type 0
Writes c w change = WrittenAt c w (left_in change)

chosen : (c : ℕ) (w : Device) (b : Bool) (x y : Change) → Writes c w x → Writes c w y → Writes c w (if b then x else y)
chosen c w true x y h k = h
chosen c w false x y h k = k

filled_writes : (setting : Setting) (c : ℕ) (bytes : List ℕ) (w : Device) → Writes c w (filled setting c bytes w)
unfolding left_in Writes
filled_writes setting c bytes w =
    chosen c w (nat_le (length bytes) (capacity_of setting c)) (Made (with_content w c bytes)) (Refused causes.TooLarge w) (written_with c w bytes) (written_same c w)

fetched_writes : (setting : Setting) (c : ℕ) (found : Option (List ℕ)) (w : Device) → Writes c w (fetched setting c found w)
unfolding left_in Writes
fetched_writes setting c None w = written_same c w
fetched_writes setting c (Some bytes) w =
    chosen c w (nat_le (length bytes) (capacity_of setting c)) (Made (with_content w c bytes)) (Refused causes.TooLarge (with_content w c [])) (written_with c w bytes) (written_with c w [])

-- the ask writes nothing
asked_writes : (setting : Setting) (c : ℕ) (uri : List ℕ) (w v : Device) → WrittenAt c (asking setting uri w) v → WrittenAt c w v
asked_writes setting c uri w v written = record { others = written.others; launches = written.launches }

copied_writes : (setting : Setting) (c source : ℕ) (w : Device) → Writes c w (copied setting c source w)
unfolding left_in Writes
copied_writes setting c source w =
    chosen c w (source == c) (Refused causes.SelfCopy w) (filled setting c (content_at w source) w) (written_same c w) (filled_writes setting c (content_at w source) w)

write_leaves : (setting : Setting) (c : ℕ) (cause : Cause) (w v : Device) → WriteLeaves setting c cause w v → WrittenAt c w v
write_leaves setting c cause w v h =
    write_cut setting c w v (λ k. WrittenAt c w v) cause h (λ (bytes, short, is). subst (WrittenAt c w) (sym is) (written_with c w bytes))

fetch_leaves : (setting : Setting) (uri : List ℕ) (c : ℕ) (cause : Cause) (w v : Device) → FetchLeaves setting uri c cause w v → WrittenAt c w v
fetch_leaves setting uri c cause w v h =
    let asked : Device = asking setting uri w in
    fetch_cut setting c w v (λ k. WrittenAt c w v) uri cause h (λ (bytes, short, is). asked_writes setting c uri w v (subst (WrittenAt c asked) (sym is) (written_with c asked bytes)))
    (λ named left. elim left [
      | inl is ↦ subst (WrittenAt c w) (sym is) (written_same c w)
      | inr later ↦ elim later [
        | inl is ↦ asked_writes setting c uri w v (subst (WrittenAt c asked) (sym is) (written_same c asked))
        | inr is ↦ asked_writes setting c uri w v (subst (WrittenAt c asked) (sym is) (written_with c asked []))
      ]
    ])

-- both sides of a swap
record BothWritten (c source : ℕ) (w v : Device) : Type 0 where
  middle : Device
  one : WrittenAt c w middle
  other : WrittenAt source middle v

both_wrote : (past : List Event) (c source : ℕ) (w v : Device) → BothWritten c source w v → Vouches past w → Vouches (past ++ Wrote c ∷ Wrote source ∷ []) v
both_wrote past c source w v both vouches =
    two_told past (Wrote c) (Wrote source) v
    (one_wrote (past ++ Wrote c ∷ []) both.middle v source both.other (one_wrote past w both.middle c both.one vouches))

both_same : (c source : ℕ) (w : Device) → BothWritten c source w w
both_same c source w = record { middle = w; one = written_same c w; other = written_same source w }

BothIn : ℕ → ℕ → Device → Change → Type 0
BothIn c source w change = BothWritten c source w (left_in change)

both_chosen : (c source : ℕ) (w : Device) (b : Bool) (x y : Change) → BothIn c source w x → BothIn c source w y → BothIn c source w (if b then x else y)
both_chosen c source w true x y h k = h
both_chosen c source w false x y h k = k

swapped_writes : (setting : Setting) (c source : ℕ) (w : Device) → BothIn c source w (swapped setting c source w)
unfolding left_in BothIn
swapped_writes setting c source w =
    let middle : Device = with_content w c (content_at w source) in
    let made : Change = Made (with_content middle source (content_at w c)) in
    let refused : Change = Refused causes.TooLarge w in
    let fit : Bool = fits_into setting w source c && fits_into setting w c source in
    both_chosen c source w (source == c) (Refused causes.SelfCopy w) (if fit then made else refused) (both_same c source w)
    (both_chosen c source w fit made refused (record { middle = middle; one = written_with c w (content_at w source); other = written_with source middle (content_at w c) }) (both_same c source w))

swap_leaves : (setting : Setting) (c source : ℕ) (cause : Cause) (w v : Device) → SwapLeaves setting c source cause w v → BothWritten c source w v
swap_leaves setting c source cause w v h =
    swap_cut setting c w v (λ k. BothWritten c source w v) source cause h (λ m (bytes, short, is) (more, fits_too, js). record {
      middle = m;
      one = subst (WrittenAt c w) (sym is) (written_with c w bytes);
      other = subst (WrittenAt source m) (sym js) (written_with source m more);
    })

launched : (past : List Event) (w : Device) (c : ℕ) (parameters : Parameters) → IsCovered past (invoke_event c parameters true) → Vouches past w
    → Vouches (past ++ invoke_event c parameters true ∷ []) (launching w c parameters)
launched past w c parameters covered v =
    let quietly = quiet past w (invoke_event c parameters true) (no_invoked c (digest_in parameters c) (size_in parameters c) true) v in
    record {
      matches = quietly.matches;
      launches = all_then w.launches (launch_of w c parameters) v.launches
          (its_digest past w c (digest_in parameters c) (size_in parameters c) (bytes_of (in_force parameters c keys.Args)) covered v);
    }

one_keeps : {A : Type 0} (p c : ℕ) (makes : A → Device → Change) (Leaves : A → Cause → Device → Device → Type 0) (wanted : State → Option A) → ((x : A) (w : Device) → Writes c w (makes x w))
    → ((x : A) (cause : Cause) (w u : Device) → Leaves x cause w u → WrittenAt c w u) → KeepsIt (acting p wanted (λ x. Wrote c ∷ []) makes Leaves)
unfolding Writes
one_keeps p c makes Leaves wanted writes leaves =
    acting_keeps p (λ x. Wrote c ∷ []) makes Leaves (λ past x w v. one_wrote past w (left_in (makes x w)) c (writes x w) v) (λ past x cause w u left v. one_wrote past w u c (leaves x cause w u left) v) wanted

pub acts_keep : (setting : Setting) (kind : ActKind) (p c : ℕ) → KeepsIt (directive_play setting kind p c)
unfolding Writes BothIn
acts_keep setting acts.Write p c =
    one_keeps p c (λ x. filled setting c x) (λ x. WriteLeaves setting c) (λ s. bytes_of (in_force s.parameters c keys.Content)) (filled_writes setting c) (λ x. write_leaves setting c)
acts_keep setting acts.Fetch p c =
    one_keeps p c (λ x. fetching setting c x) (λ x. FetchLeaves setting x c) (λ s. bytes_of (in_force s.parameters c keys.Uri)) (λ x w. asked_writes setting c x w _ (fetched_writes setting c (payload_of setting (length w.asked) x) (asking setting x w))) (λ x. fetch_leaves setting x c)
acts_keep setting acts.Copy p c =
    one_keeps p c (λ x. copied setting c x) (λ x. WriteLeaves setting c) (λ s. number_of (in_force s.parameters c keys.Source)) (copied_writes setting c) (λ x. write_leaves setting c)
acts_keep setting acts.Swap p c =
    acting_keeps p (λ x. Wrote c ∷ Wrote x ∷ []) (λ x. swapped setting c x) (λ x. SwapLeaves setting c x)
    (λ past x w v. both_wrote past c x w (left_in (swapped setting c x w)) (swapped_writes setting c x w) v)
    (λ past x cause w u leaves v. both_wrote past c x w u (swap_leaves setting c x cause w u leaves) v)
    (λ s. number_of (in_force s.parameters c keys.Source))
acts_keep setting acts.Invoke p c = record {
  whole = λ past s w v covered. launched past w c s.parameters covered.0 v;
  cut = λ past s w o cut v covered.
      subst (λ (x : Outcome Device). Vouches (past ++ x.events) x.world) (sym cut.2)
      (then_failed past (invoke_event c s.parameters false ∷ []) p w
      (quiet past w (invoke_event c s.parameters false) (no_invoked c (digest_in s.parameters c) (size_in s.parameters c) false) v));
}

-- ---- procedures

plan_keeps : (plan : PlanTree) (setting : Setting) → KeepsIt (plan_play plan setting)
plan_keeps plan setting =
    procedure_keeps Device Vouches (λ past w c p v. quiet past w (Set c p) (no_set c p) v) (condition_play setting) (directive_play setting) plan.count (tests_keep setting) (acts_keep setting) plan

vouches_first : (contents : List (List ℕ)) → Vouches [] (first_device contents)
vouches_first contents = record { matches = λ c d s h. absurd (nothing_matched c d s h); launches = tt }

path_covered : (es : List Event) → AllCovered es → CoveredFrom [] es
path_covered es all = (covered_by_standing es).0 all

-- a run is a path
pub safe_launches : SafeLaunches
safe_launches plan setting contents safe are =
    let o = played plan setting contents in
    let covered = safe.covered setting.identities o.events are (record {
      rest = [];
      ending = o.ending;
      run = subst (λ (xs : List Event). RunsPlan plan setting.identities first_state xs o.ending) (sym (append-nil o.events)) (play_runs plan setting contents);
    }) in
    ((plan_keeps plan setting).whole [] first_state (first_device contents) (vouches_first contents) (path_covered o.events covered)).launches

pub faulted_safe_launches : FaultedSafeLaunches
faulted_safe_launches plan setting contents o cut safe are =
    let covered = safe.covered setting.identities o.events are (faulted_is_path plan setting contents o cut) in
    ((plan_keeps plan setting).cut [] first_state (first_device contents) o cut (vouches_first contents) (path_covered o.events covered)).launches
