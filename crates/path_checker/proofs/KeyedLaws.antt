-- Each parameter in force stands under its own key, after overrides too.
use Rattle.std.proofs.Common.{◌≡◌, ◌<◌, ℕ, Bool, List, [], ◌∷◌, length, Option, Some, None, refl, sym, ap, ◌∙◌, subst, ⊎_elim}
use Rattle.std.specs.Prelude.{◌==◌, if◌then◌else◌}
use Rattle.std.proofs.lemmas.Bool.Decides.{eqb_tells}
use Rattle.std.proofs.lemmas.Option.{same_Some}
use Rattle.suit_params.specs.declared.param.Param.{Param}
use Rattle.suit_params.specs.declared.param.Param.TheVariants as params
use Rattle.suit_params.specs.declared.param.ParamKey.{ParamKey}
use Rattle.suit_params.specs.declared.param.ParamKey.TheVariants as keys
use Rattle.suit_params.specs.ParamKeys.{key_of}
use Rattle.suit_params.specs.InForce.{Parameters, rank, in_force, number_of, last_of, with_param, overridden, IsOverridden}
use Rattle.suit_params.proofs.InForceLawProofs.{in_force_laws}
use Rattle.path_model.specs.ParameterLaws.{StaysWhole}
use Rattle.path_checker.specs.Keyed.{IsKeyed}

last_keyed : (list : List Param) (key : ParamKey) (before : Option Param) → ((p : Param) → before ≡ Some p → key_of p ≡ key) → (p : Param) → last_of list key before ≡ Some p → key_of p ≡ key
last_keyed [] key before old p e = old p e
last_keyed (x ∷ xs) key before old p e =
    last_keyed xs key (if rank (key_of x) == rank key then Some x else before)
    (λ q eq.
    ⊎_elim
    (λ h.
    let is : Some x ≡ Some q = subst (λ (b : Bool). (if b then Some x else before) ≡ Some q) h.0 eq in
    ap key_of (sym (same_Some x q is)) ∙ in_force_laws.own_cell (key_of x) key h.1)
    (λ h. old q (subst (λ (b : Bool). (if b then Some x else before) ≡ Some q) h.0 eq))
    (eqb_tells (rank (key_of x)) (rank key)))
    p e

whole_overridden : StaysWhole → (before : Parameters) (c : ℕ) (list : List Param) → length before ≡ 96 → length (overridden before c list) ≡ 96
whole_overridden stays before c [] whole = whole
whole_overridden stays before c (p ∷ list) whole = whole_overridden stays (with_param before c p) c list (stays.next before c p whole)

pub keyed_overridden : StaysWhole → (before after : Parameters) (c : ℕ) (list : List Param) → IsKeyed before → after ≡ overridden before c list → IsOverridden before after c list → IsKeyed after
keyed_overridden stays before after c list old exact is = record {
  whole = ap (λ (ps : Parameters). length ps) exact ∙ whole_overridden stays before c list old.whole;
  keyed = λ other key p low e.
      let at : (if other == c then last_of list key (in_force before c key) else in_force before other key) ≡ Some p = sym (is other key low) ∙ e in
      ⊎_elim
      (λ h.
      let low_c : c < 8 = subst (λ (n : ℕ). n < 8) h.1 low in
      last_keyed list key (in_force before c key) (λ q eq. old.keyed c key q low_c eq) p (subst (λ (b : Bool). (if b then last_of list key (in_force before c key) else in_force before other key) ≡ Some p) h.0 at))
      (λ h. old.keyed other key p low (subst (λ (b : Bool). (if b then last_of list key (in_force before c key) else in_force before other key) ≡ Some p) h.0 at))
      (eqb_tells other c);
}

pub source_only : (param : Param) → key_of param ≡ keys.Source → ((component : ℕ) → param ≡ params.Source component → ⊥) → None ≡ number_of (Some param)
source_only (params.Vendor id) is other = absurd cc
source_only (params.Class id) is other = absurd cc
source_only (params.Device id) is other = absurd cc
source_only (params.Digest digest) is other = absurd cc
source_only (params.Slot number) is other = absurd cc
source_only (params.Strict value) is other = absurd cc
source_only (params.Soft value) is other = absurd cc
source_only (params.Size size) is other = absurd cc
source_only (params.Content bytes) is other = absurd cc
source_only (params.Uri text) is other = absurd cc
source_only (params.Source component) is other = absurd (other component refl)
source_only (params.Args bytes) is other = absurd cc
