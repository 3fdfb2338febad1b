-- Conditions and directives on a device go on where they lost their power.
use Rattle.std.proofs.Common.{◌≡◌, ◌≢◌, ℕ, Bool, true, false, List, [], ◌∷◌, ◌++◌, Option, Some, None, refl, sym, ◌∙◌, ap, get_or-set_other}
use Rattle.std.specs.Prelude.{◌==◌, nat_le, if◌then◌else◌, length, option_map}
use Rattle.std.proofs.lemmas.Bool.{eq-eqb, true≢false}
use Rattle.std.proofs.lemmas.List.{append-nil, set-set}
use Rattle.suit_params.specs.declared.digest.Digest.{Digest}
use Rattle.suit_params.specs.declared.param.ParamKey.TheVariants as keys
use Rattle.suit_params.specs.InForce.{in_force, number_of, bytes_of, digest_in, size_in}
use Rattle.suit_commands.specs.declared.kinds.TestKind.{TestKind}
use Rattle.suit_commands.specs.declared.kinds.TestKind.TheVariants as tests
use Rattle.suit_commands.specs.declared.kinds.ActKind.{ActKind}
use Rattle.suit_commands.specs.declared.kinds.ActKind.TheVariants as acts
use Rattle.path_model.specs.declared.event.Event.{Event}
use Rattle.path_model.specs.declared.event.Event.TheVariants.{Tried, Matched, Missed, Wrote}
use Rattle.path_model.specs.declared.cause.Cause.TheVariants as causes
use Rattle.path_model.specs.Behaviour.{State, Done, Condition}
use Rattle.path_model.specs.OneRun.{FreeStep, MatchStep, ContentStep, WriteStep, SwapStep, passed_told, failed_told}
use Rattle.path_model.specs.Settings.{Setting, capacity_of, payload_of}
use Rattle.path_model.specs.Plays.{Outcome}
use Rattle.path_model.specs.DevicePlays.{Device, content_at, with_content, tested, comparing, is_image, matched, is_content, condition_play, Change, Made, Refused, concluded, filled, asking, fetched, fetching, copied, swapped, acted, directive_play}
use Rattle.path_model.specs.RecalledPlays.{Recalling, recalling, free_test, free_act, recalled_test, recalled_act, kept_after, as_recalling, step_comes, LossLeaves, StepIsLost, recalled_condition, recalled_directive}
use Rattle.path_model.specs.ResumeLaws.{EndsUnfailed, with_world, Resumes}

-- ---- both halves for one function in place of a play

record RecalledBy (comes : Recalling → Outcome Recalling) (w : Recalling) : Type 0 where
  own : List Bool
  kept : (comes w).world.kept ≡ w.kept ++ own
  same : (rest : List Bool) (x : Device) → comes (recalling (own ++ rest) w.kept x) ≡ with_world (comes w) rest x

record ResumedBy (comes : Recalling → Outcome Recalling) (w : Recalling) (lost : Outcome Recalling) : Type 0 where
  own : List Bool
  kept : lost.world.kept ≡ w.kept ++ own
  same : comes (recalling own w.kept lost.world.device) ≡ comes w

-- ---- conditions

abbrev at_device : Device → Outcome Device → Outcome Device
at_device x o = record { events = o.events; ending = o.ending; cause = o.cause; world = x }

abbrev test_out : ℕ → FreeStep → State → Device → Bool → Outcome Device
test_out p step s d true = record { events = passed_told step; ending = Done s; cause = None; world = d }
test_out p step s d false = record { events = failed_told step; ending = Condition p s.soft_failure; cause = None; world = d }

-- one that is not free does not look at the device; one that is free tells its step, and a loss in it leaves the device
abbrev TestTells : ℕ → State → (Device → Outcome Device) → Option FreeStep → Type 0
TestTells p s plain None = (d x : Device) → plain x ≡ at_device x (plain d)
TestTells p s plain (Some step) = ((d : Device) → (b : Bool) × (plain d ≡ test_out p step s d b)) × ((d x : Device) → LossLeaves step d x → x ≡ d)

module _ (p : ℕ) (s : State) (plain : Device → Outcome Device) where
  abbrev test_comes : Option FreeStep → Recalling → Outcome Recalling
  test_comes free w = step_comes (λ step. recalled_test p step s) (plain w.device) w free

  done_kept : (step : FreeStep) (d : Device) (kept : List Bool) (b : Bool) → kept_after kept (test_out p step s d b).ending ≡ kept ++ b ∷ []
  done_kept step d kept true = refl
  done_kept step d kept false = refl

  done_told : (step : FreeStep) (d x : Device) (kept rest : List Bool) (b : Bool)
      → recalled_test p step s b (recalling rest (kept ++ b ∷ []) x) ≡ with_world (as_recalling [] (kept_after kept (test_out p step s d b).ending) (test_out p step s d b)) rest x
  done_told step d x kept rest true = refl
  done_told step d x kept rest false = refl

  told_kept : (step : FreeStep) (after : Recalling) (b : Bool) → (recalled_test p step s b after).world.kept ≡ after.kept
  told_kept step after true = refl
  told_kept step after false = refl

  told_again : (step : FreeStep) (after : Recalling) (rest : List Bool) (x : Device) (b : Bool) → recalled_test p step s b (recalling rest after.kept x) ≡ with_world (recalled_test p step s b after) rest x
  told_again step after rest x true = refl
  told_again step after rest x false = refl

  test_whole : (free : Option FreeStep) → TestTells p s plain free → (left kept : List Bool) (d : Device) → RecalledBy (test_comes free) (recalling left kept d)
  test_whole None tells left kept d = record { own = []; kept = sym (append-nil kept); same = λ rest x. ap (as_recalling rest kept) (tells d x) }
  test_whole (Some step) tells [] kept d =
      let done = tells.0 d in
      record {
        own = done.0 ∷ [];
        kept = ap (λ (o : Outcome Device). kept_after kept o.ending) done.1 ∙ done_kept step d kept done.0;
        same = λ rest x. done_told step d x kept rest done.0 ∙ ap (λ (o : Outcome Device). with_world (as_recalling [] (kept_after kept o.ending) o) rest x) (sym done.1);
      }
  test_whole (Some step) tells (b ∷ left) kept d = record {
    own = b ∷ [];
    kept = told_kept step (recalling left (kept ++ b ∷ []) d) b;
    same = λ rest x. told_again step (recalling left (kept ++ b ∷ []) d) rest x b;
  }

  test_lost : (free : Option FreeStep) → TestTells p s plain free → (left kept : List Bool) (d : Device) (lost : Outcome Recalling) → StepIsLost (recalling left kept d) lost free
      → ResumedBy (test_comes free) (recalling left kept d) lost
  test_lost None tells left kept d lost cut = absurd cut
  test_lost (Some step) tells left kept d lost (none, silent, empty, is, leaves) = record {
    own = [];
    kept = is ∙ sym (append-nil kept);
    same = ap (λ (x : Device). test_comes (Some step) (recalling [] kept x)) (tells.1 d lost.world.device leaves) ∙ ap (λ (l : List Bool). test_comes (Some step) (recalling l kept d)) (sym none);
  }

test_resumes : (setting : Setting) (kind : TestKind) (p c : ℕ) → ((s : State) → TestTells p s ((condition_play setting kind p c).comes s) (free_test kind p c s)) → Resumes (recalled_condition setting kind p c)
test_resumes setting kind p c tells = record {
  whole = λ s w goes. let r = test_whole p s ((condition_play setting kind p c).comes s) (free_test kind p c s) (tells s) w.left w.kept w.device in record { own = r.own; kept = r.kept; same = r.same };
  lost = λ s w lost goes cut. let r = test_lost p s ((condition_play setting kind p c).comes s) (free_test kind p c s) (tells s) w.left w.kept w.device lost cut in record { own = r.own; kept = r.kept; same = r.same };
}

tested_at : (p : ℕ) (passed failed : Event) (s : State) (d x : Device) (b : Bool) → tested p passed failed s x b ≡ at_device x (tested p passed failed s d b)
tested_at p passed failed s d x true = refl
tested_at p passed failed s d x false = refl

comparing_tells : (p : ℕ) (kind : TestKind) (c : ℕ) (holds : State → Bool) (s : State) → TestTells p s ((comparing p kind c holds).comes s) None
comparing_tells p kind c holds s d x = tested_at p (Tried c kind true) (Tried c kind false) s d x (holds s)

matching_tells : (p c : ℕ) (size : Option ℕ) (s : State) (o : Option Digest) → TestTells p s (λ d. matched p c size s d o) (option_map (λ digest. MatchStep c p digest size) o)
matching_tells p c size s None = λ d x. tested_at p (Missed c) (Missed c) s d x false
matching_tells p c size s (Some digest) = (λ d. (is_image digest size (content_at d c), out d (is_image digest size (content_at d c))), λ d x h. h)
  where
    out : (d : Device) (b : Bool) → tested p (Matched c digest size) (Missed c) s d b ≡ test_out p (MatchStep c p digest size) s d b
    out d true = refl
    out d false = refl

checking_tells : (p c : ℕ) (s : State) (o : Option (List ℕ))
    → TestTells p s (λ d. tested p (Tried c tests.CheckContent true) (Tried c tests.CheckContent false) s d (is_content o (content_at d c))) (option_map (λ content. ContentStep c p) o)
checking_tells p c s None = λ d x. tested_at p (Tried c tests.CheckContent true) (Tried c tests.CheckContent false) s d x false
checking_tells p c s (Some content) = (λ d. (is_content (Some content) (content_at d c), out d (is_content (Some content) (content_at d c))), λ d x h. h)
  where
    out : (d : Device) (b : Bool) → tested p (Tried c tests.CheckContent true) (Tried c tests.CheckContent false) s d b ≡ test_out p (ContentStep c p) s d b
    out d true = refl
    out d false = refl

pub conditions_resume : (setting : Setting) (kind : TestKind) (p c : ℕ) → Resumes (recalled_condition setting kind p c)
conditions_resume setting tests.Vendor p c = test_resumes setting tests.Vendor p c (comparing_tells p tests.Vendor c _)
conditions_resume setting tests.Class p c = test_resumes setting tests.Class p c (comparing_tells p tests.Class c _)
conditions_resume setting tests.Device p c = test_resumes setting tests.Device p c (comparing_tells p tests.Device c _)
conditions_resume setting tests.Slot p c = test_resumes setting tests.Slot p c (comparing_tells p tests.Slot c _)
conditions_resume setting tests.ImageMatch p c = test_resumes setting tests.ImageMatch p c (λ s. matching_tells p c (size_in s.parameters c) s (digest_in s.parameters c))
conditions_resume setting tests.CheckContent p c = test_resumes setting tests.CheckContent p c (λ s. checking_tells p c s (bytes_of (in_force s.parameters c keys.Content)))
conditions_resume setting tests.Abort p c = test_resumes setting tests.Abort p c (comparing_tells p tests.Abort c (λ t. false))

-- ---- directives

abbrev act_out : FreeStep → State → Device → Outcome Device
act_out step s e = record { events = passed_told step; ending = Done s; cause = None; world = e }

-- it was done, and makes the same of each device that a loss in it may leave
abbrev ActDone : FreeStep → State → (Device → Outcome Device) → Device → Type 0
ActDone step s plain d = (e : Device) × (plain d ≡ act_out step s e) × ((x : Device) → LossLeaves step d x → plain x ≡ plain d)

abbrev ActTells : State → (Device → Outcome Device) → Option FreeStep → Type 0
ActTells s plain None = (d : Device) → EndsUnfailed (plain d).ending → ⊥
ActTells s plain (Some step) = (d : Device) → EndsUnfailed (plain d).ending → ActDone step s plain d

module _ (p : ℕ) (s : State) (plain : Device → Outcome Device) where
  abbrev act_comes : Option FreeStep → Recalling → Outcome Recalling
  act_comes free w = step_comes (λ step. recalled_act p step s) (plain w.device) w free

  act_whole : (free : Option FreeStep) → ActTells s plain free → (left kept : List Bool) (d : Device) → EndsUnfailed (act_comes free (recalling left kept d)).ending → RecalledBy (act_comes free) (recalling left kept d)
  act_whole None tells left kept d goes = absurd (tells d goes)
  act_whole (Some step) tells [] kept d goes =
      let done = tells d goes in
      record {
        own = true ∷ [];
        kept = ap (λ (o : Outcome Device). kept_after kept o.ending) done.1;
        same = λ rest x. ap (λ (o : Outcome Device). with_world (as_recalling [] (kept_after kept o.ending) o) rest x) (sym done.1);
      }
  act_whole (Some step) tells (b ∷ left) kept d goes = record { own = b ∷ []; kept = refl; same = λ rest x. refl }

  act_lost : (free : Option FreeStep) → ActTells s plain free → (left kept : List Bool) (d : Device) (lost : Outcome Recalling) → EndsUnfailed (act_comes free (recalling left kept d)).ending
      → StepIsLost (recalling left kept d) lost free → ResumedBy (act_comes free) (recalling left kept d) lost
  act_lost None tells left kept d lost goes cut = absurd cut
  act_lost (Some step) tells [] kept d lost goes (none, silent, empty, is, leaves) =
      let done = tells d goes in
      record { own = []; kept = is ∙ sym (append-nil kept); same = ap (λ (o : Outcome Device). as_recalling [] (kept_after kept o.ending) o) (done.2 lost.world.device leaves) }
  act_lost (Some step) tells (b ∷ left) kept d lost goes (none, silent, empty, is, leaves) = absurd cc

act_resumes : (setting : Setting) (kind : ActKind) (p c : ℕ) → ((s : State) → ActTells s ((directive_play setting kind p c).comes s) (free_act kind p c s)) → Resumes (recalled_directive setting kind p c)
act_resumes setting kind p c tells = record {
  whole = λ s w goes. let r = act_whole p s ((directive_play setting kind p c).comes s) (free_act kind p c s) (tells s) w.left w.kept w.device goes in record { own = r.own; kept = r.kept; same = r.same };
  lost = λ s w lost goes cut. let r = act_lost p s ((directive_play setting kind p c).comes s) (free_act kind p c s) (tells s) w.left w.kept w.device lost goes cut in record { own = r.own; kept = r.kept; same = r.same };
}

-- a directive with a parameter, which makes the same of each device that a loss in it may leave
module _ (A : Type 0) (p : ℕ) (told : A → List Event) (makes : A → Device → Change) (step : A → FreeStep) (s : State) where
  acting_tells : ((a : A) → told a ≡ passed_told (step a)) → ((a : A) (d x e : Device) → LossLeaves (step a) d x → makes a d ≡ Made e → makes a x ≡ Made e) → (o : Option A)
      → ActTells s (λ d. acted p told makes s d o) (option_map step o)
  acting_tells tells same None = λ d goes. goes
  acting_tells tells same (Some a) = λ d goes. by_change d (makes a d) refl goes
    where
      by_change : (d : Device) (change : Change) → makes a d ≡ change → EndsUnfailed (concluded p (told a) s change).ending → ActDone (step a) s (λ x. acted p told makes s x (Some a)) d
      by_change d (Made e) is goes = (
        e,
        ap (concluded p (told a) s) is ∙ ap (λ (es : List Event). record { events = es; ending = Done s; cause = None; world = e }) (tells a),
        λ x leaves. ap (concluded p (told a) s) (same a d x e leaves is ∙ sym is),
      )
      by_change d (Refused cause e) is goes = absurd goes

-- ---- what each directive makes

written_twice : (d : Device) (c : ℕ) (before bytes : List ℕ) → with_content (with_content d c before) c bytes ≡ with_content d c bytes
written_twice d c before bytes = ap (λ (contents : List (List ℕ)). record { contents = contents; launches = d.launches; asked = d.asked }) (set-set d.contents c before bytes)

-- bytes that go to the component, or not
one_filled : (d : Device) (c : ℕ) (before bytes : List ℕ) (v : Bool) (refused : Device → Change) (e : Device) → ((x : Device) → refused x ≡ Made e → ⊥)
    → (if v then Made (with_content d c bytes) else refused d) ≡ Made e → (if v then Made (with_content (with_content d c before) c bytes) else refused (with_content d c before)) ≡ Made e
one_filled d c before bytes true refused e never is = ap Made (written_twice d c before bytes) ∙ is
one_filled d c before bytes false refused e never is = absurd (never d is)

filled_same : (setting : Setting) (c : ℕ) (bytes : List ℕ) (d x e : Device) (before : List ℕ) → x ≡ with_content d c before → filled setting c bytes d ≡ Made e → filled setting c bytes x ≡ Made e
filled_same setting c bytes d x e before at is =
    ap (filled setting c bytes) at ∙ one_filled d c before bytes (nat_le (length bytes) (capacity_of setting c)) (λ y. Refused causes.TooLarge y) e (λ y h. absurd cc) is

fetched_same : (setting : Setting) (c : ℕ) (found : Option (List ℕ)) (d x e : Device) (before : List ℕ) → x ≡ with_content d c before → fetched setting c found d ≡ Made e → fetched setting c found x ≡ Made e
fetched_same setting c None d x e before at is = absurd cc
fetched_same setting c (Some bytes) d x e before at is =
    ap (fetched setting c (Some bytes)) at ∙ one_filled d c before bytes (nat_le (length bytes) (capacity_of setting c)) (λ y. Refused causes.TooLarge (with_content y c [])) e (λ y h. absurd cc) is

-- the host is asked as before
fetching_same : (setting : Setting) (c : ℕ) (uri : List ℕ) (d x e : Device) (before : List ℕ) → x ≡ with_content d c before → fetching setting c uri d ≡ Made e → fetching setting c uri x ≡ Made e
fetching_same setting c uri d x e before at is =
    ap (fetching setting c uri) at
    ∙ fetched_same setting c (payload_of setting (length d.asked) uri) (asking setting uri d) (asking setting uri (with_content d c before)) e before refl is

-- a copy of another component
one_copied : (setting : Setting) (c source : ℕ) (d x e : Device) (before : List ℕ) (v : Bool) → source == c ≡ v → x ≡ with_content d c before
    → (if v then Refused causes.SelfCopy d else filled setting c (content_at d source) d) ≡ Made e → (if v then Refused causes.SelfCopy x else filled setting c (content_at x source) x) ≡ Made e
one_copied setting c source d x e before true other at is = absurd cc
one_copied setting c source d x e before false other at is =
    let differs : source ≢ c = λ same. true≢false (sym (eq-eqb source c same) ∙ other) in
    let content : content_at x source ≡ content_at d source = ap (λ (y : Device). content_at y source) at ∙ get_or-set_other d.contents c source before [] differs in
    ap (λ (bytes : List ℕ). filled setting c bytes x) content ∙ filled_same setting c (content_at d source) d x e before at is

pub directives_resume : (setting : Setting) (kind : ActKind) (p c : ℕ) → (kind ≡ acts.Invoke → ⊥) → Resumes (recalled_directive setting kind p c)
directives_resume setting acts.Write p c other = act_resumes setting acts.Write p c (λ s.
    acting_tells (List ℕ) p (λ content. Wrote c ∷ []) (λ content. filled setting c content) (λ content. WriteStep c p) s (λ content. refl)
    (λ content d x e leaves is. filled_same setting c content d x e leaves.0 leaves.1 is) (bytes_of (in_force s.parameters c keys.Content)))
directives_resume setting acts.Fetch p c other = act_resumes setting acts.Fetch p c (λ s.
    acting_tells (List ℕ) p (λ uri. Wrote c ∷ []) (λ uri. fetching setting c uri) (λ uri. WriteStep c p) s (λ uri. refl)
    (λ uri d x e leaves is. fetching_same setting c uri d x e leaves.0 leaves.1 is) (bytes_of (in_force s.parameters c keys.Uri)))
directives_resume setting acts.Copy p c other = act_resumes setting acts.Copy p c (λ s.
    acting_tells ℕ p (λ source. Wrote c ∷ []) (λ source. copied setting c source) (λ source. WriteStep c p) s (λ source. refl)
    (λ source d x e leaves is. one_copied setting c source d x e leaves.0 (source == c) refl leaves.1 is) (number_of (in_force s.parameters c keys.Source)))
directives_resume setting acts.Swap p c other = act_resumes setting acts.Swap p c (λ s.
    acting_tells ℕ p (λ source. Wrote c ∷ Wrote source ∷ []) (λ source. swapped setting c source) (λ source. SwapStep c source p) s (λ source. refl)
    (λ source d x e leaves is. ap (swapped setting c source) leaves ∙ is) (number_of (in_force s.parameters c keys.Source)))
directives_resume setting acts.Invoke p c other = absurd (other refl)
