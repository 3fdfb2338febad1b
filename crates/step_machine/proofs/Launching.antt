-- An invoke, as plays have it.
use Rattle.std.proofs.Common.{◌≡◌, ℕ, List, [], ◌∷◌, ◌++◌, Option, Some, None, option_map, Ok, Err, Bool, true, false, refl, sym, ap, subst, ◌∙◌}
use Rattle.std.specs.Option.{option_and_then}
use Rattle.std.specs.Prelude.{IfSome, IsTrue}
use Rattle.suit_edge.specs.declared.launch.Launch.{Launch}
use Rattle.suit_edge.specs.declared.launcher.Image.{Image}
use Rattle.suit_edge.specs.declared.launcher.Launched.{Launched as Answer}
use Rattle.suit_edge.specs.declared.launcher.Launched.TheVariants as answers
use Rattle.suit_edge.specs.Launch.{AddsLaunch, IsLaunch, LaunchCounts}
use Rattle.suit_params.specs.declared.digest.Digest.{Digest}
use Rattle.suit_params.specs.declared.param.ParamKey.TheVariants as keys
use Rattle.suit_params.specs.DigestBytes.{digest_bytes, as_digest, IsLong}
use Rattle.suit_params.specs.DigestLaws.{digest_again}
use Rattle.suit_params.specs.InForce.{Parameters, in_force, bytes_of, digest_in, size_in}
use Rattle.path_model.specs.declared.cause.Cause.TheVariants as causes
use Rattle.path_model.specs.Directives.{invoke_event}
use Rattle.path_model.specs.Plays.{Outcome}
use Rattle.path_model.specs.DevicePlays.{Launched, Device, launch_of, concluded, Refused}
use Rattle.step_machine.specs.Invoking.{IsImageOf, InvokesAs, InvokeCounts, launched_as, result_of}

told_again : (digest : Option Digest) → IfSome digest IsLong → option_and_then as_digest (option_map digest_bytes digest) ≡ digest
told_again None long = refl
told_again (Some digest) long = digest_again digest long

-- the launch that was asked for is that of the play
pub invoke_done : (c : ℕ) (ps : Parameters) (content reads : List ℕ) (before now : List Launch) (image : Image) (digest args : Option (List ℕ)) (size : Option ℕ) (launch : Launch) (u : Unit {0})
    → now ≡ before ++ launch ∷ [] → IsLaunch image true reads c digest size args launch → IsImageOf reads content image
    → digest ≡ option_map digest_bytes (digest_in ps c) → IfSome (digest_in ps c) IsLong → size ≡ size_in ps c → args ≡ bytes_of (in_force ps c keys.Args)
    → InvokesAs c ps content before now (Ok u)
invoke_done c ps content reads before now image digest args size launch u grown is from d_is long s_is a_is = (
  launch,
  grown,
  λ setting p s w same here.
      let asked : Launched = launch_of w c s.parameters in
      let bytes : launch.bytes ≡ asked.bytes = from launch.bytes is.bytes ∙ sym here in
      let named : (launched_as launch).digest ≡ asked.digest =
      ap (λ (d : Option (List ℕ)). option_and_then as_digest d) (is.digest ∙ d_is) ∙ told_again (digest_in ps c) long ∙ ap (λ (qs : Parameters). digest_in qs c) (sym same) in
      let sized : launch.size ≡ asked.size = is.size ∙ s_is ∙ ap (λ (qs : Parameters). size_in qs c) (sym same) in
      let argued : launch.args ≡ asked.args = is.args ∙ a_is ∙ ap (λ (qs : Parameters). bytes_of (in_force qs c keys.Args)) (sym same) in
      let equal : asked ≡ launched_as launch = λ i. record {
        component = sym is.component i;
        bytes = sym bytes i;
        digest = sym named i;
        size = sym sized i;
        args = sym argued i;
      } in
      (refl, ap (λ (l : Launched). record { contents = w.contents; launches = w.launches ++ l ∷ []; asked = w.asked }) equal),
)

pub invoke_cut : (c : ℕ) (ps : Parameters) (content : List ℕ) (before now : List Launch) → now ≡ before → InvokesAs c ps content before now (Err causes.FlashFault)
invoke_cut c ps content before now kept = (
  kept,
  λ setting p s w same here.
      let outcome : Outcome Device = concluded p (invoke_event c s.parameters false ∷ []) s (Refused causes.FlashFault w) in
      record { outcome = outcome; cut = (causes.FlashFault, tt, refl); stops = record { ending = refl; named = refl; world = refl } },
)

pub invoke_failed : (c : ℕ) (ps : Parameters) (content : List ℕ) (before now : List Launch) → now ≡ before → InvokesAs c ps content before now (Err causes.LaunchFault)
invoke_failed c ps content before now kept = (
  kept,
  λ setting p s w same here.
      let outcome : Outcome Device = concluded p (invoke_event c s.parameters false ∷ []) s (Refused causes.LaunchFault w) in
      record { outcome = outcome; cut = (causes.LaunchFault, tt, refl); stops = record { ending = refl; named = refl; world = refl } },
)

-- ---- each answer of the launcher

pub invokes_as : (c : ℕ) (ps : Parameters) (content reads later : List ℕ) (before now : List Launch) (image : Image) (told : Bool) (digest args : Option (List ℕ)) (size : Option ℕ) (answer : Answer)
    → IsTrue told → later ≡ reads → IsImageOf reads content image → digest ≡ option_map digest_bytes (digest_in ps c) → IfSome (digest_in ps c) IsLong → size ≡ size_in ps c → args ≡ bytes_of (in_force ps c keys.Args)
    → AddsLaunch answer before now (IsLaunch image told later c digest size args) → InvokesAs c ps content before now (result_of answer)
invokes_as c ps content reads later before now image told digest args size answers.Done t same from d_is long s_is a_is (launch, grown, is) =
    let tells : IsLaunch image true reads c digest size args launch =
    subst (λ (b : Bool). IsLaunch image b reads c digest size args launch) t (subst (λ (r : List ℕ). IsLaunch image told r c digest size args launch) same is) in
    invoke_done c ps content reads before now image digest args size launch tt grown tells from d_is long s_is a_is
invokes_as c ps content reads later before now image told digest args size answers.DiskFailed t same from d_is long s_is a_is kept = invoke_cut c ps content before now kept
invokes_as c ps content reads later before now image told digest args size answers.Failed t same from d_is long s_is a_is kept = invoke_failed c ps content before now kept

pub counts_as : (answer : Answer) (before now disk_before disk_now : ℕ) → LaunchCounts answer before now disk_before disk_now → InvokeCounts (result_of answer) before now disk_before disk_now
counts_as answers.Done before now disk_before disk_now is = is
counts_as answers.DiskFailed before now disk_before disk_now is = is
counts_as answers.Failed before now disk_before disk_now is = is
