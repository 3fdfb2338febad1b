-- Where `run migrate` stops.
use Rattle.std.proofs.Common.{◌≡◌, ◌<◌, ◌⊎◌, ⊎_elim, ℕ, List, refl, sym, ap, subst, arith}
use Rattle.std.specs.Prelude.{IsTrue}
use Rattle.flash_layout.specs.declared.frame.Frame.{Frame}
use Rattle.flash_layout.specs.declared.frame.TheConstants.{VERSION_1}
use Rattle.flash_layout.specs.declared.key.Key.{Key}
use Rattle.flash_layout.specs.declared.layout.Entry.{Entry}
use Rattle.flash_layout.specs.declared.layout_fault.LayoutFault.{LayoutFault}
use Rattle.flash_layout.specs.declared.layout_fault.LayoutFault.TheVariants.{BaseOverlap}
use Rattle.flash_layout.specs.ConfigLaws.{OneAnswer}
use Rattle.flash_layout.specs.LayoutFaults.{BaseAway, IsBaseHeld, Over, RefusesBase}
use Rattle.flash_layout.specs.Moving.{described_fault}
use Rattle.flash_layout.specs.Overlaps.{IsFirstOver}
use Rattle.flash_layout.specs.Roots.{second_frame}
use Rattle.rollback_record.specs.Migrating.{HasFirst, HasSecond, IsMigrated}
use Rattle.suit_cli.specs.declared.reply.Reply.{Reply}
use Rattle.suit_cli.specs.declared.reply.Outcome.TheVariants as outcomes
use Rattle.suit_cli.specs.Outside.{Flashed, IsStill, Outside}
use Rattle.suit_cli.specs.Stages.{Declines, Goes, IsSaid, Lacks, NoMemory, Says}
use Rattle.suit_cli.specs.Devices.{TellsLayout}
use Rattle.suit_cli.specs.Installed.{Holds, HoldsNone}
use Rattle.suit_cli.specs.Migrating.{AtBase, AtConfig, AtVersion, HasNoBase, IsLeft, MayMigrate, migrates}
use Rattle.suit_cli.specs.MigrateLaws.{Leaves, MigrateLaws, MigrateSays, Moves}
use Rattle.suit_cli.proofs.OneAnswers.{one_config}
use Rattle.suit_cli.proofs.OneFlaw.{one_telling}
use Rattle.suit_cli.proofs.OneStage.{one_reply}
use Rattle.suit_cli.proofs.Running.{Declining, left_declines}

-- ---- a base is refused once, or held

three : (m n : ℕ) → (m < n) ⊎ ((m ≡ n) ⊎ (n < m))
three m n = grind arith

over_once : (frame : Frame) (layout : List Entry) (i k : ℕ) → IsFirstOver frame layout i → IsFirstOver frame layout k → i ≡ k
over_once frame layout i k a b = ⊎_elim (λ h. absurd (a.over (b.least i h))) (⊎_elim (λ e. e) (λ h. absurd (b.over (a.least k h)))) (three i k)

base_once : (frame : Frame) (size : ℕ) (layout : List Entry) (f g : LayoutFault) → RefusesBase frame size layout f → RefusesBase frame size layout g → f ≡ g
base_once frame size layout f g (BaseAway out) (BaseAway also) = refl
base_once frame size layout f g (BaseAway out) (Over k inside b) = absurd (out inside)
base_once frame size layout f g (Over i inside a) (BaseAway out) = absurd (out inside)
base_once frame size layout f g (Over i inside a) (Over k also b) = ap BaseOverlap (over_once frame layout i k a b)

base_not : (frame : Frame) (size : ℕ) (layout : List Entry) (f : LayoutFault) → IsBaseHeld frame size layout → RefusesBase frame size layout f → ⊥
base_not frame size layout f held (BaseAway out) = out held.inside
base_not frame size layout f held (Over i inside a) = a.over (held.clear i a.inside)

-- ---- one cause

module _ (configs : OneAnswer) (base : ℕ) (flash : Flashed) (t : IsTrue flash.told) where
  holds_first : (P : List Entry → Type 0) (first : HasFirst flash.size flash.reads P) → Holds flash (first.layout, first.key, VERSION_1)
  holds_first P first told = first.config

  holds_second : (second : HasSecond flash.size flash.reads) → Holds flash (second.layout, second.key, second.frame)
  holds_second second told = second.config

  not_both : (P : List Entry → Type 0) → HasFirst flash.size flash.reads P → HasSecond flash.size flash.reads → ⊥
  not_both P first second =
      let same = (one_config configs flash t).value (first.layout, first.key, VERSION_1) (second.layout, second.key, second.frame) (holds_first P first) (holds_second second) in
      let one : second.frame.version ≡ 1 = ap (λ (c : List Entry × Key × Frame). c.2.version) same in
      omega (arith, one, second.version)

  same_first : (P Q : List Entry → Type 0) (x : HasFirst flash.size flash.reads P) (y : HasFirst flash.size flash.reads Q) → y.layout ≡ x.layout
  same_first P Q x y =
      ap (λ (c : List Entry × Key × Frame). c.0)
      ((one_config configs flash t).value (x.layout, x.key, VERSION_1) (y.layout, y.key, VERSION_1) (holds_first P x) (holds_first Q y))

  first_not_none : (P : List Entry → Type 0) → HasFirst flash.size flash.reads P → (r : Reply) → HoldsNone flash r → ⊥
  first_not_none P first r none = (one_config configs flash t).never (first.layout, first.key, VERSION_1) r (holds_first P first) none

  second_not_none : HasSecond flash.size flash.reads → (r : Reply) → HoldsNone flash r → ⊥
  second_not_none second r none = (one_config configs flash t).never (second.layout, second.key, second.frame) r (holds_second second) none

  one_base : (r q : Reply) → HasNoBase base flash r → HasNoBase base flash q → q ≡ r
  one_base r q x y =
      let first = x.refuses t in
      let other = y.refuses t in
      let there = subst (λ (l : List Entry). RefusesBase (second_frame base) flash.size l (described_fault y.fault)) (same_first _ _ first other) other.holds in
      let same = base_once (second_frame base) flash.size first.layout (described_fault y.fault) (described_fault x.fault) there first.holds in
      one_telling (described_fault x.fault) r q x.tells (subst (λ (f : LayoutFault). TellsLayout f q) same y.tells)

  one_left : (r q : Reply) → IsLeft base flash r → IsLeft base flash q → q ≡ r
  one_left r q (AtConfig x) (AtConfig y) = (one_config configs flash t).refusal r q x y
  one_left r q (AtConfig x) (AtVersion y) = absurd (second_not_none (y.second t) r x)
  one_left r q (AtConfig x) (AtBase y) = absurd (first_not_none _ (y.refuses t) r x)
  one_left r q (AtVersion x) (AtConfig y) = absurd (second_not_none (x.second t) q y)
  one_left r q (AtVersion x) (AtVersion y) = one_reply r q _ _ x.says y.says
  one_left r q (AtVersion x) (AtBase y) = absurd (not_both _ (y.refuses t) (x.second t))
  one_left r q (AtBase x) (AtConfig y) = absurd (first_not_none _ (x.refuses t) q y)
  one_left r q (AtBase x) (AtVersion y) = absurd (not_both _ (x.refuses t) (y.second t))
  one_left r q (AtBase x) (AtBase y) = one_base r q x y

  -- a flash that may be migrated is not left
  may_not_left : (r : Reply) → MayMigrate base flash → IsLeft base flash r → ⊥
  may_not_left r may (AtConfig x) = first_not_none _ (may t) r x
  may_not_left r may (AtVersion x) = not_both _ (may t) (x.second t)
  may_not_left r may (AtBase x) =
      let first = may t in
      let other = x.refuses t in
      base_not (second_frame base) flash.size first.layout (described_fault x.fault) first.holds
      (subst (λ (l : List Entry). RefusesBase (second_frame base) flash.size l (described_fault x.fault)) (same_first _ _ first other) other.holds)

one_migrate : OneAnswer → (base : ℕ) (b : Outside) → IsTrue b.flash.told → (r q : Reply) → MigrateSays base b r → MigrateSays base b q → q ≡ r
one_migrate configs base b t r q (Leaves x) (Leaves y) = one_left configs base b.flash t r q x y
one_migrate configs base b t r q (Leaves x) (Moves may says) = absurd (may_not_left configs base b.flash t r may x)
one_migrate configs base b t r q (Moves may says) (Leaves y) = absurd (may_not_left configs base b.flash t q may y)
one_migrate configs base b t r q (Moves may says) (Moves also says') = one_reply r q _ _ says says'

-- ---- the laws

migrate_says : (base : ℕ) (b a : Outside) (r : Reply) → migrates base b a (Says r) → MigrateSays base b r
migrate_says base b a r (Declines _ d) = Leaves d.1
migrate_says base b a r (Goes u m _ g (IsSaid _ same says)) = Moves g.is.0 says

migrate_done : (base : ℕ) (b a : Outside) (r : Reply) → IsTrue b.flash.told → migrates base b a (Says r) → r.outcome ≡ outcomes.Done → IsMigrated base b.flash.reads a.flash.reads
migrate_done base b a r t (Declines _ d) done = absurd (subst Declining done (left_declines base b.flash r d.1))
migrate_done base b a r t (Goes u m _ g (IsSaid _ same says)) done = subst (λ (o : Outside). IsMigrated base b.flash.reads o.flash.reads) (sym same) (g.is.1 t)

migrate_still : (base : ℕ) (b a : Outside) (r : Reply) → migrates base b a (Says r) → (r.outcome ≡ outcomes.Done → ⊥) → IsStill b.flash a.flash
migrate_still base b a r (Declines _ d) never = d.0.still
migrate_still base b a r (Goes u m _ g (IsSaid _ same says)) never = absurd (never says.outcome_is)

migrate_starved : (base : ℕ) (b a : Outside) → migrates base b a NoMemory → IsStill b.flash a.flash
migrate_starved base b a (Lacks l) = l.still
migrate_starved base b a (Goes u m _ g rest) = elim rest [ ]

pub migrate_laws : OneAnswer → MigrateLaws
migrate_laws configs = record {
  only = migrate_says;
  always = λ base b a r q t says answer. one_migrate configs base b t r q says (migrate_says base b a q answer);
  migrated = migrate_done;
  still = migrate_still;
  starved = migrate_starved;
}
