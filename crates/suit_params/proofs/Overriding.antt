-- The parameters in force after an override.
use Rattle.std.proofs.Common.{◌≡◌, ◌≢◌, ◌<◌, ℕ, List, [], ◌∷◌, length, get_or, Option, Some, None, refl, sym, ap, ◌∙◌, arith, ⊎_elim, length-set}
use Rattle.std.specs.Prelude.{◌==◌, if◌then◌else◌, slice_set}
use Rattle.std.specs.Option.{option_copied}
use Rattle.std.specs.Borrow.{Bor}
use Rattle.std.proofs.lemmas.Bool.Decides.{eqb_tells}
use Rattle.std.proofs.lemmas.Grind.{get_or-set_at}
use Rattle.std.proofs.lemmas.List.{get_or-set_other, map-set}
use Rattle.std.proofs.lemmas.Option.{slice_get-get_or}
use Rattle.suit_params.specs.declared.param.Param.{Param}
use Rattle.suit_params.specs.declared.param.ParamKey.{ParamKey}
use Rattle.suit_params.specs.declared.param.ParamKey.TheVariants as keys
use Rattle.suit_params.specs.ParamKeys.{key_of}
use Rattle.suit_params.specs.InForce.{Parameters, rank, cell, held_at, in_force, with_param, overridden, last_of, IsOverridden}
use Rattle.suit_params.specs.Lent.{lent_params}

-- ---- places

pub rank_small : (key : ParamKey) → rank key < 12
rank_small keys.Vendor = omega arith
rank_small keys.Class = omega arith
rank_small keys.Digest = omega arith
rank_small keys.Slot = omega arith
rank_small keys.Strict = omega arith
rank_small keys.Soft = omega arith
rank_small keys.Size = omega arith
rank_small keys.Content = omega arith
rank_small keys.Uri = omega arith
rank_small keys.Source = omega arith
rank_small keys.Args = omega arith
rank_small keys.Device = omega arith

pub within : (component : ℕ) (key : ParamKey) → component < 8 → cell component key < 96
within component key low = omega (arith, rank_small key)

pub in_force_is : (ps : Parameters) (component : ℕ) (key : ParamKey) → length ps ≡ 96 → component < 8 → in_force ps component key ≡ get_or ps (cell component key) None
in_force_is ps component key full low = ap held_at (slice_get-get_or ps (cell component key) None (omega (arith, within component key low)))

pub length-with : (ps : Parameters) (component : ℕ) (p : Param) → length (with_param ps component p) ≡ length ps
length-with ps component p = length-set ps (cell component (key_of p)) (Some p)

-- ---- one parameter

pub at_same : (ps : Parameters) (component : ℕ) (p : Param) (key : ParamKey) → length ps ≡ 96 → component < 8 → rank (key_of p) ≡ rank key
    → in_force (with_param ps component p) component key ≡ Some p
at_same ps component p key full low e =
    let same : cell component key ≡ cell component (key_of p) = omega arith in
    let room : cell component (key_of p) < length ps = omega (arith, within component (key_of p) low) in
    in_force_is (with_param ps component p) component key (length-with ps component p ∙ full) low
    ∙ get_or-set_at ps (cell component (key_of p)) (cell component key) (Some p) None same room

pub at_other : (ps : Parameters) (component other : ℕ) (p : Param) (key : ParamKey) → length ps ≡ 96 → other < 8 → cell other key ≢ cell component (key_of p)
    → in_force (with_param ps component p) other key ≡ in_force ps other key
at_other ps component other p key full low apart =
    in_force_is (with_param ps component p) other key (length-with ps component p ∙ full) low
    ∙ get_or-set_other ps (cell component (key_of p)) (cell other key) (Some p) None apart
    ∙ sym (in_force_is ps other key full low)

same_component : (ps : Parameters) (component : ℕ) (p : Param) (key : ParamKey) → length ps ≡ 96 → component < 8
    → in_force (with_param ps component p) component key ≡ (if rank (key_of p) == rank key then Some p else in_force ps component key)
same_component ps component p key full low = ⊎_elim
    (λ h. rw h.0 (at_same ps component p key full low h.1))
    (λ h. rw h.0 (at_other ps component component p key full low (λ e. h.1 (omega (arith, e)))))
    (eqb_tells (rank (key_of p)) (rank key))

other_component : (ps : Parameters) (component other : ℕ) (p : Param) (key : ParamKey) → length ps ≡ 96 → other < 8 → other ≢ component
    → in_force (with_param ps component p) other key ≡ in_force ps other key
other_component ps component other p key full low apart =
    at_other ps component other p key full low (λ e. apart (omega (arith, e, rank_small key, rank_small (key_of p))))

-- ---- a list of them

pub last_in_force : (ps : Parameters) (component : ℕ) (list : List Param) (key : ParamKey) → length ps ≡ 96 → component < 8
    → in_force (overridden ps component list) component key ≡ last_of list key (in_force ps component key)
last_in_force ps component [] key full low = refl
last_in_force ps component (p ∷ list) key full low =
    last_in_force (with_param ps component p) component list key (length-with ps component p ∙ full) low
    ∙ ap (last_of list key) (same_component ps component p key full low)

pub others_in_force : (ps : Parameters) (component other : ℕ) (list : List Param) (key : ParamKey) → length ps ≡ 96 → other < 8 → other ≢ component
    → in_force (overridden ps component list) other key ≡ in_force ps other key
others_in_force ps component other [] key full low apart = refl
others_in_force ps component other (p ∷ list) key full low apart =
    others_in_force (with_param ps component p) component other list key (length-with ps component p ∙ full) low apart
    ∙ other_component ps component other p key full low apart

pub is_overridden : (ps : Parameters) (component : ℕ) (list : List Param) → length ps ≡ 96 → component < 8 → IsOverridden ps (overridden ps component list) component list
is_overridden ps component list full low other key small = ⊎_elim
    (λ h. rw h.0 (rw h.1 (last_in_force ps component list key full low)))
    (λ h. rw h.0 (others_in_force ps component other list key full small h.1))
    (eqb_tells other component)

-- ---- what is borrowed

pub set_lent : (cells : List (Option (Bor Param))) (i : ℕ) (p : Bor Param) → lent_params (slice_set cells i (Some p)) ≡ slice_set (lent_params cells) i (Some p.now)
set_lent cells i p = map-set option_copied cells i (Some p)
