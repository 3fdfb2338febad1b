-- The knowledge of one component's identity tells, and is narrowed by each answer.
use Rattle.std.proofs.Common.{◌≡◌, Some, None}
use Rattle.std.specs.Prelude.{◌↔◌, true, false}
use Rattle.path_model.specs.declared.identity.Identity.{Identity}
use Rattle.path_checker.specs.declared.judge_plan.facts.Own.{Own}
use Rattle.path_checker.specs.declared.judge_plan.facts.Own.TheVariants as owns
use Rattle.path_checker.specs.declared.judge_plan.facts.Knowledge.{Knowledge}
use Rattle.path_checker.specs.Knowing.{Agrees, AllowsOne}
use Rattle.path_checker.specs.Forking.{DecidesOne, NarrowsOne, HasOne, HasNoneOf, TellsOne, learnt, excluded}
use Rattle.path_checker.proofs.Outside.{narrows_has, narrows_has_not}

pub decides_has : (known : Knowledge) (own : Own) → TellsOne known own (Some true) → DecidesOne known (HasOne own)
decides_has known (owns.Vendor id) tells identity al = tells identity.vendor al.vendor
decides_has known (owns.Class id) tells identity al = tells identity.class al.class
decides_has known (owns.Device id) tells identity al = tells identity.device al.device
decides_has known (owns.Slot number) tells identity al = tells (Some identity.slot) al.slot

pub decides_has_not : (known : Knowledge) (own : Own) → TellsOne known own (Some false) → DecidesOne known (HasNoneOf own)
decides_has_not known (owns.Vendor id) tells identity al h = tells identity.vendor al.vendor h
decides_has_not known (owns.Class id) tells identity al h = tells identity.class al.class h
decides_has_not known (owns.Device id) tells identity al h = tells identity.device al.device h
decides_has_not known (owns.Slot number) tells identity al h = tells (Some identity.slot) al.slot h

-- ---- one of the four narrowed, and the others as they were

Parts : Knowledge → Identity → Type 0
Parts known identity = Agrees known.vendor identity.vendor × (Agrees known.class identity.class × (Agrees known.device identity.device × Agrees known.slot (Some identity.slot)))

narrows_parts : (known narrowed : Knowledge) (identity : Identity) (F : Type 0) → Parts narrowed identity ↔ (Parts known identity × F) → AllowsOne narrowed identity ↔ (AllowsOne known identity × F)
unfolding Parts
narrows_parts known narrowed identity F parts = (
  λ al. let h = parts.0 (al.vendor, (al.class, (al.device, al.slot))) in (record { vendor = h.0.0; class = h.0.1.0; device = h.0.1.1.0; slot = h.0.1.1.1 }, h.1),
  λ h. let p = parts.1 ((h.0.vendor, (h.0.class, (h.0.device, h.0.slot))), h.1) in record { vendor = p.0; class = p.1.0; device = p.1.1.0; slot = p.1.1.1 },
)

first : {P P' F Q : Type 0} → P' ↔ (P × F) → (P' × Q) ↔ ((P × Q) × F)
first narrows = (λ h. let x = narrows.0 h.0 in ((x.0, h.1), x.1), λ h. (narrows.1 (h.0.0, h.1), h.0.1))

later : {P Q Q' F : Type 0} → Q' ↔ (Q × F) → (P × Q') ↔ ((P × Q) × F)
later narrows = (λ h. let x = narrows.0 h.1 in ((h.0, x.0), x.1), λ h. (h.0.0, narrows.1 (h.0.1, h.1)))

pub narrows_learnt : (known : Knowledge) (own : Own) → TellsOne known own None → NarrowsOne known (learnt known own) (HasOne own)
unfolding Parts
narrows_learnt known (owns.Vendor id) free identity = narrows_parts known (learnt known (owns.Vendor id)) identity (identity.vendor ≡ Some id) (first (narrows_has known.vendor id free identity.vendor))
narrows_learnt known (owns.Class id) free identity = narrows_parts known (learnt known (owns.Class id)) identity (identity.class ≡ Some id) (later (first (narrows_has known.class id free identity.class)))
narrows_learnt known (owns.Device id) free identity = narrows_parts known (learnt known (owns.Device id)) identity (identity.device ≡ Some id) (later (later (first (narrows_has known.device id free identity.device))))
narrows_learnt known (owns.Slot number) free identity = narrows_parts known (learnt known (owns.Slot number)) identity (Some identity.slot ≡ Some number) (later (later (later (narrows_has known.slot number free (Some identity.slot)))))

pub narrows_excluded : (known : Knowledge) (own : Own) → TellsOne known own None → NarrowsOne known (excluded known own) (HasNoneOf own)
unfolding Parts
narrows_excluded known (owns.Vendor id) free identity = narrows_parts known (excluded known (owns.Vendor id)) identity (identity.vendor ≡ Some id → ⊥) (first (narrows_has_not known.vendor id free identity.vendor))
narrows_excluded known (owns.Class id) free identity = narrows_parts known (excluded known (owns.Class id)) identity (identity.class ≡ Some id → ⊥) (later (first (narrows_has_not known.class id free identity.class)))
narrows_excluded known (owns.Device id) free identity = narrows_parts known (excluded known (owns.Device id)) identity (identity.device ≡ Some id → ⊥) (later (later (first (narrows_has_not known.device id free identity.device))))
narrows_excluded known (owns.Slot number) free identity = narrows_parts known (excluded known (owns.Slot number)) identity (Some identity.slot ≡ Some number → ⊥) (later (later (later (narrows_has_not known.slot number free (Some identity.slot)))))
