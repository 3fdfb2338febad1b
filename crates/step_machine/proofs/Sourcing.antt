-- Sources and URIs in force, after an override.
use Rattle.std.proofs.Common.{◌≡◌, ◌<◌, ℕ, Bool, true, false, if◌then◌else◌, List, [], ◌∷◌, Option, Some, length, refl, sym, ap, ◌∙◌, subst, arith, inl, inr, ◌⊎◌, ⊎_elim}
use Rattle.std.specs.Prelude.{◌==◌}
use Rattle.std.specs.List.{AllByRecursion}
use Rattle.suit_params.specs.declared.param.Param.{Param}
use Rattle.suit_params.specs.declared.param.Param.TheVariants as params
use Rattle.suit_params.specs.declared.param.ParamKey.TheVariants as keys
use Rattle.suit_params.specs.InForce.{Parameters, bytes_of, in_force, number_of, last_of, rank, with_param, overridden, IsOverridden}
use Rattle.suit_params.specs.ParamKeys.{key_of}
use Rattle.suit_params.specs.ParamMaking.{IsBelow}
use Rattle.suit_cursor.specs.declared.command.LentCommand.{LentCommand}
use Rattle.suit_cursor.specs.declared.command.LentCommand.TheVariants as commands
use Rattle.suit_cursor.specs.Lending.{command_of}
use Rattle.suit_cursor.specs.SoftFailure.{soft_by, soft_behind}
use Rattle.suit_commands.specs.Targets.{NamesSource}
use Rattle.flash_slots.specs.RamContents.{Held}
use Rattle.suit_commands.specs.Tree.{Override}
use Rattle.path_model.specs.Directives.{after_override, soft_after}
use Rattle.step_machine.specs.declared.machine.Machine.{Machine}
use Rattle.step_machine.specs.Allowing.{AllowsCommand}
use Rattle.step_machine.specs.Running.{AreSources, IsReady}
use Rattle.step_machine.specs.UrisSet.{NamesUri}

-- a list names the source, or it was in force before
Named : List Param → ℕ → Option Param → Type 0
Named list source before = NamesSource list source ⊎ (number_of before ≡ Some source)

later : (p : Param) (list : List Param) (source : ℕ) → NamesSource list source → NamesSource (p ∷ list) source
later (params.Source x) list source h = inr h
later _ list source h = h

first : (p : Param) (list : List Param) (source : ℕ) (before : Option Param) → number_of (if rank (key_of p) == 9 then Some p else before) ≡ Some source → NamesSource (p ∷ list) source ⊎ (number_of before ≡ Some source)
first (params.Source x) list source before e = let same : source ≡ x = cc in inl (inl same)
first _ list source before e = inr e

named : (list : List Param) (source : ℕ) (before : Option Param) → number_of (last_of list keys.Source before) ≡ Some source → NamesSource list source ⊎ (number_of before ≡ Some source)
named [] source before e = inr e
named (p ∷ list) source before e =
    ⊎_elim (λ h. inl (later p list source h)) (λ h. first p list source before h)
    (named list source (if rank (key_of p) == 9 then Some p else before) e)

below : (list : List Param) (count source : ℕ) → AllByRecursion (IsBelow count) list → NamesSource list source → source < count
below [] count source all h = absurd h
below (params.Source x ∷ list) count source all (inl e) = let lt : x < count = all.0 in omega (arith, lt, e)
below (params.Source x ∷ list) count source all (inr h) = below list count source all.1 h
below (_ ∷ list) count source all h = below list count source all.1 h

chosen : {A : Type 0} (b : Bool) (x y z : A) → z ≡ (if b then x else y) → (z ≡ x) ⊎ (z ≡ y)
chosen true x y z e = inl e
chosen false x y z e = inr e

-- the same of URIs
later_uri : (p : Param) (list : List Param) (uri : List ℕ) → NamesUri list uri → NamesUri (p ∷ list) uri
later_uri (params.Uri x) list uri h = inr h
later_uri _ list uri h = h

first_uri : (p : Param) (list : List Param) (uri : List ℕ) (before : Option Param) → bytes_of (if rank (key_of p) == 8 then Some p else before) ≡ Some uri → NamesUri (p ∷ list) uri ⊎ (bytes_of before ≡ Some uri)
first_uri (params.Uri x) list uri before e = let same : uri ≡ x = cc in inl (inl same)
first_uri _ list uri before e = inr e

named_uri : (list : List Param) (uri : List ℕ) (before : Option Param) → bytes_of (last_of list keys.Uri before) ≡ Some uri → NamesUri list uri ⊎ (bytes_of before ≡ Some uri)
named_uri [] uri before e = inr e
named_uri (p ∷ list) uri before e =
    ⊎_elim (λ h. inl (later_uri p list uri h)) (λ h. first_uri p list uri before h)
    (named_uri list uri (if rank (key_of p) == 8 then Some p else before) e)

pub sources_after : (machine : Machine) (old new : Parameters) (component : ℕ) (list : List Param) (k : ℕ) → component < 8 → machine.program.now.count ≡ length machine.standings.now
    → AllowsCommand machine (Override list) (k ∷ []) → IsOverridden old new component list → AreSources machine old → AreSources machine new
sources_after machine old new component list k few count allowed is sources = record {
  components = λ other source lt e.
      ⊎_elim
      (λ here.
      ⊎_elim
      (λ h. let b : source < machine.program.now.count = below list machine.program.now.count source allowed.indexed h in
      (omega (arith, b, count), allowed.sources source h))
      (λ h. sources.components component source few h)
      (named list source (in_force old component keys.Source) (sym (ap number_of here) ∙ e)))
      (λ there. sources.components other source lt (sym (ap number_of there) ∙ e))
      (chosen (other == component) (last_of list keys.Source (in_force old component keys.Source)) (in_force old other keys.Source) (in_force new other keys.Source) (is other keys.Source lt));
  uris = λ other uri lt e.
      ⊎_elim
      (λ here.
      ⊎_elim (λ h. allowed.uris uri h) (λ h. sources.uris component uri few h)
      (named_uri list uri (in_force old component keys.Uri) (sym (ap bytes_of here) ∙ e)))
      (λ there. sources.uris other uri lt (sym (ap bytes_of there) ∙ e))
      (chosen (other == component) (last_of list keys.Uri (in_force old component keys.Uri)) (in_force old other keys.Uri) (in_force new other keys.Uri) (is other keys.Uri lt));
}

pub sources_overridden : (machine : Machine) (old new : Parameters) (component : ℕ) (list : List Param) (size : ℕ) (ram : List Held) → component < length machine.standings.now → IsReady machine size ram → (command : LentCommand) → command ≡ commands.Override list
    → AllowsCommand machine (command_of command) (component ∷ []) → IsOverridden old new component list → AreSources machine old → AreSources machine new
sources_overridden machine old new component list size ram inside ready command command_is allowed is sources =
    sources_after machine old new component list component (omega (arith, inside, ready.standings.few)) ready.count
    (subst (λ (x : LentCommand). AllowsCommand machine (command_of x) (component ∷ [])) command_is allowed) is sources

-- ---- the state after it

same_soft : (soft : Bool) (p : Param) → soft_by soft p ≡ soft_after soft p
same_soft soft (params.Soft value) = refl
same_soft soft p = refl

pub override_is : (parameters : Parameters) (selection : List ℕ) (soft : Bool) (component : ℕ) (list : List Param)
    → after_override (record { parameters = parameters; selection = selection; soft_failure = soft }) component list
    ≡ record { parameters = overridden parameters component list; selection = selection; soft_failure = soft_behind soft list }
override_is parameters selection soft component [] = refl
override_is parameters selection soft component (p ∷ list) =
    let after = with_param parameters component p in
    override_is after selection (soft_after soft p) component list
    ∙ ap (λ (b : Bool). record { parameters = overridden after component list; selection = selection; soft_failure = soft_behind b list }) (sym (same_soft soft p))
