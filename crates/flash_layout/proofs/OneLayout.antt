-- A value describes a layout or has one first fault, and never both.
use Rattle.std.proofs.Common.{◌≡◌, ◌<◌, ◌⊎◌, inl, inr, ⊎_elim, ℕ, List, [], None, Result, Ok, Err, IfErr, IfOk, refl, sym, ap, ◌∙◌, subst, arith}
use Rattle.serde_json.specs.Data.{Data}
use Rattle.json_fields.specs.declared.flaw.Flaw.{Flaw}
use Rattle.json_fields.specs.declared.flaw.FlawKind.{FlawKind}
use Rattle.json_fields.specs.declared.flaw.FlawKind.TheVariants as kinds
use Rattle.json_fields.specs.declared.flaw.JsonFault.{JsonFault}
use Rattle.json_fields.specs.declared.flaw.JsonFault.TheVariants.{Flawed}
use Rattle.json_fields.specs.declared.flaw.JsonFault.TheVariants as faults
use Rattle.json_fields.specs.Answers.{Gives}
use Rattle.suit_params.specs.Alike.{IsFirstLike, IsFirstAlike, HaveNoneAlike}
use Rattle.flash_layout.specs.declared.frame.Frame.{Frame}
use Rattle.flash_layout.specs.declared.layout.Entry.{Entry}
use Rattle.flash_layout.specs.declared.layout.Memory.TheVariants.{Ram}
use Rattle.flash_layout.specs.declared.layout_fault.LayoutFault.{LayoutFault}
use Rattle.flash_layout.specs.declared.layout_fault.LayoutFault.TheVariants.{BadField, BadHex, BadUuid, TooMany, TwoAlike, Overlap, Outside, BaseOutside, BaseOverlap, NoMemory}
use Rattle.flash_layout.specs.Devices.{described_layout}
use Rattle.flash_layout.specs.Overlaps.{identifier_of, IsFirstShared, IsFirstOverlap, HaveNoOverlap, IsFirstOutside, IsFirstOver}
use Rattle.flash_layout.specs.LayoutFaults.{fault_at, fault_of, fault_told, AreHeld, IsBaseHeld, RefusesBase, BaseAway, Over, RefusesEntries, Many, Alike, Shared, Beyond, Misplaced, IsLayoutOf, RefusesLayout, BadValue, BadEntries, IsFaultOf, IsAccepted, IsRefusedFor}
use Rattle.flash_layout.proofs.Kept.{err_not_ok, ok_same}

pub fault_of_entries : (size : ℕ) (d : Data) (layout : List Entry) (frame : Frame) (fault : LayoutFault) → described_layout d ≡ Ok (layout, frame) → RefusesEntries frame size layout fault → IsFaultOf size d fault
fault_of_entries size d layout frame (BadField t) e r = BadEntries layout frame (BadField t) e r
fault_of_entries size d layout frame (BadHex t) e r = BadEntries layout frame (BadHex t) e r
fault_of_entries size d layout frame (BadUuid t) e r = BadEntries layout frame (BadUuid t) e r
fault_of_entries size d layout frame (TooMany n) e r = BadEntries layout frame (TooMany n) e r
fault_of_entries size d layout frame (TwoAlike i j) e r = BadEntries layout frame (TwoAlike i j) e r
fault_of_entries size d layout frame (Overlap i j) e r = BadEntries layout frame (Overlap i j) e r
fault_of_entries size d layout frame (Outside i) e r = BadEntries layout frame (Outside i) e r
fault_of_entries size d layout frame BaseOutside e r = BadEntries layout frame BaseOutside e r
fault_of_entries size d layout frame (BaseOverlap i) e r = BadEntries layout frame (BaseOverlap i) e r
fault_of_entries size d layout frame NoMemory e r = tt

is_fault : (size : ℕ) (d : Data) (kind : FlawKind) (pointer : List ℕ) → RefusesLayout size d (fault_at kind pointer) → IsFaultOf size d (fault_at kind pointer)
is_fault size d kinds.Field pointer r = r
is_fault size d kinds.Hex pointer r = r
is_fault size d kinds.Uuid pointer r = r

pub fault_of_fields : (size : ℕ) (d : Data) (fault : JsonFault) → Gives {X = List Entry × Frame} (λ device. device) (Err fault) (described_layout d) → IsFaultOf size d (fault_told fault)
fault_of_fields size d (Flawed f) e = is_fault size d f.kind f.pointer (BadValue f e)
fault_of_fields size d faults.NoMemory e = tt

abbrev flaw_or : Flaw → Result (List Entry × Frame) Flaw → Flaw
flaw_or other (Ok device) = other
flaw_or other (Err f) = f

three : (m n : ℕ) → (m < n) ⊎ ((m ≡ n) ⊎ (n < m))
three m n = grind arith

-- ---- what is refused is not allowed

entry_none : Entry
entry_none = record { identifier = []; memory = Ram; slots = 0; starts = []; capacity = 0; vendor = None; class = None; device = None }

alike_not : (layout : List Entry) (i j : ℕ) → HaveNoneAlike identifier_of layout → IsFirstAlike identifier_of layout i j → ⊥
alike_not layout i j none a = none i j a.first.below a.inside entry_none (a.first.same entry_none)

overlap_not : (layout : List Entry) (i j : ℕ) → HaveNoOverlap layout → IsFirstOverlap layout i j → ⊥
overlap_not layout i j none a = let from = a.first.from in let inside = a.first.inside in a.first.shares (none i (omega (arith, from, inside)) j from inside)

base_not : (frame : Frame) (size : ℕ) (layout : List Entry) (f : LayoutFault) → IsBaseHeld frame size layout → RefusesBase frame size layout f → ⊥
base_not frame size layout f h (BaseAway out) = out h.inside
base_not frame size layout f h (Over i inside a) = a.over (h.clear i a.inside)

not_held : (frame : Frame) (size : ℕ) (layout : List Entry) (f : LayoutFault) → AreHeld frame size layout → RefusesEntries frame size layout f → ⊥
not_held frame size layout f h (Many n) = let few = h.few in omega (arith, few, n)
not_held frame size layout f h (Alike i j few a) = alike_not layout i j h.apart a
not_held frame size layout f h (Shared i j few apart a) = overlap_not layout i j h.clear a
not_held frame size layout f h (Beyond i few apart clear a) = a.outside (h.inside i a.inside)
not_held frame size layout f h (Misplaced _ few apart clear inside r) = base_not frame size layout f h.base r

-- ---- there is only one fault of each kind

alike_once : (layout : List Entry) (i j k l : ℕ) → IsFirstAlike identifier_of layout i j → IsFirstAlike identifier_of layout k l → (i ≡ k) × (j ≡ l)
alike_once layout i j k l a b =
    let second : j ≡ l =
    ⊎_elim (λ h. absurd (b.least i j a.first.below h entry_none (a.first.same entry_none)))
    (⊎_elim (λ e. e) (λ h. absurd (a.least k l b.first.below h entry_none (b.first.same entry_none)))) (three j l) in
    let first_b : IsFirstLike identifier_of layout j k = subst (λ n. IsFirstLike identifier_of layout n k) (sym second) b.first in
    (⊎_elim (λ h. absurd (first_b.least i h entry_none (a.first.same entry_none))) (⊎_elim (λ e. e) (λ h. absurd (a.first.least k h entry_none (first_b.same entry_none)))) (three i k), second)

overlap_once : (layout : List Entry) (i j k l : ℕ) → IsFirstOverlap layout i j → IsFirstOverlap layout k l → (i ≡ k) × (j ≡ l)
overlap_once layout i j k l a b =
    let first : i ≡ k =
    ⊎_elim (λ h. absurd (a.first.shares (b.least i h j a.first.from a.first.inside)))
    (⊎_elim (λ e. e) (λ h. absurd (b.first.shares (a.least k h l b.first.from b.first.inside)))) (three i k) in
    let shared_b : IsFirstShared layout i l = subst (λ n. IsFirstShared layout n l) (sym first) b.first in
    (first, ⊎_elim (λ h. absurd (a.first.shares (shared_b.least j a.first.from h))) (⊎_elim (λ e. e) (λ h. absurd (shared_b.shares (a.first.least l shared_b.from h)))) (three j l))

outside_once : (size : ℕ) (layout : List Entry) (i k : ℕ) → IsFirstOutside size layout i → IsFirstOutside size layout k → i ≡ k
outside_once size layout i k a b = ⊎_elim (λ h. absurd (a.outside (b.least i h))) (⊎_elim (λ e. e) (λ h. absurd (b.outside (a.least k h)))) (three i k)

over_once : (frame : Frame) (layout : List Entry) (i k : ℕ) → IsFirstOver frame layout i → IsFirstOver frame layout k → i ≡ k
over_once frame layout i k a b = ⊎_elim (λ h. absurd (a.over (b.least i h))) (⊎_elim (λ e. e) (λ h. absurd (b.over (a.least k h)))) (three i k)

base_once : (frame : Frame) (size : ℕ) (layout : List Entry) (f g : LayoutFault) → RefusesBase frame size layout f → RefusesBase frame size layout g → f ≡ g
base_once frame size layout f g (BaseAway out) (BaseAway also) = refl
base_once frame size layout f g (BaseAway out) (Over k inside b) = absurd (out inside)
base_once frame size layout f g (Over i inside a) (BaseAway out) = absurd (out inside)
base_once frame size layout f g (Over i inside a) (Over k also b) = ap BaseOverlap (over_once frame layout i k a b)

entries_once : (frame : Frame) (size : ℕ) (layout : List Entry) (f g : LayoutFault) → RefusesEntries frame size layout f → RefusesEntries frame size layout g → f ≡ g
entries_once frame size layout f g (Many h) (Many h') = refl
entries_once frame size layout f g (Many h) (Alike k l few' b) = absurd (omega (arith, h, few'))
entries_once frame size layout f g (Many h) (Shared k l few' apart' b) = absurd (omega (arith, h, few'))
entries_once frame size layout f g (Many h) (Beyond k few' apart' clear' b) = absurd (omega (arith, h, few'))
entries_once frame size layout f g (Many h) (Misplaced _ few' apart' clear' inside' b) = absurd (omega (arith, h, few'))
entries_once frame size layout f g (Alike i j few a) (Many h') = absurd (omega (arith, h', few))
entries_once frame size layout f g (Alike i j few a) (Alike k l few' b) = let e = alike_once layout i j k l a b in ap (λ n. TwoAlike n j) e.0 ∙ ap (TwoAlike k) e.1
entries_once frame size layout f g (Alike i j few a) (Shared k l few' apart' b) = absurd (alike_not layout i j apart' a)
entries_once frame size layout f g (Alike i j few a) (Beyond k few' apart' clear' b) = absurd (alike_not layout i j apart' a)
entries_once frame size layout f g (Alike i j few a) (Misplaced _ few' apart' clear' inside' b) = absurd (alike_not layout i j apart' a)
entries_once frame size layout f g (Shared i j few apart a) (Many h') = absurd (omega (arith, h', few))
entries_once frame size layout f g (Shared i j few apart a) (Alike k l few' b) = absurd (alike_not layout k l apart b)
entries_once frame size layout f g (Shared i j few apart a) (Shared k l few' apart' b) = let e = overlap_once layout i j k l a b in ap (λ n. Overlap n j) e.0 ∙ ap (Overlap k) e.1
entries_once frame size layout f g (Shared i j few apart a) (Beyond k few' apart' clear' b) = absurd (overlap_not layout i j clear' a)
entries_once frame size layout f g (Shared i j few apart a) (Misplaced _ few' apart' clear' inside' b) = absurd (overlap_not layout i j clear' a)
entries_once frame size layout f g (Beyond i few apart clear a) (Many h') = absurd (omega (arith, h', few))
entries_once frame size layout f g (Beyond i few apart clear a) (Alike k l few' b) = absurd (alike_not layout k l apart b)
entries_once frame size layout f g (Beyond i few apart clear a) (Shared k l few' apart' b) = absurd (overlap_not layout k l clear b)
entries_once frame size layout f g (Beyond i few apart clear a) (Beyond k few' apart' clear' b) = ap Outside (outside_once size layout i k a b)
entries_once frame size layout f g (Beyond i few apart clear a) (Misplaced _ few' apart' clear' inside' b) = absurd (a.outside (inside' i a.inside))
entries_once frame size layout f g (Misplaced _ few apart clear inside a) (Many h') = absurd (omega (arith, h', few))
entries_once frame size layout f g (Misplaced _ few apart clear inside a) (Alike k l few' b) = absurd (alike_not layout k l apart b)
entries_once frame size layout f g (Misplaced _ few apart clear inside a) (Shared k l few' apart' b) = absurd (overlap_not layout k l clear b)
entries_once frame size layout f g (Misplaced _ few apart clear inside a) (Beyond k few' apart' clear' b) = absurd (b.outside (inside k b.inside))
entries_once frame size layout f g (Misplaced _ few apart clear inside a) (Misplaced _ few' apart' clear' inside' b) = base_once frame size layout f g a b

pub once : (size : ℕ) (d : Data) (f g : LayoutFault) → RefusesLayout size d f → RefusesLayout size d g → f ≡ g
once size d _ _ (BadValue a e) (BadValue b e') = ap fault_of (ap (flaw_or a) (sym e ∙ e'))
once size d _ _ (BadValue a e) (BadEntries q there g e' r') = absurd (err_not_ok a (q, there) (sym e ∙ e'))
once size d _ _ (BadEntries p frame f e r) (BadValue b e') = absurd (err_not_ok b (p, frame) (sym e' ∙ e))
once size d _ _ (BadEntries p frame f e r) (BadEntries q there g e' r') =
    let same = ok_same (q, there) (p, frame) (sym e' ∙ e) in
    entries_once frame size p f g r (subst (λ (x : List Entry × Frame). RefusesEntries x.1 size x.0 g) same r')

pub never_both : (size : ℕ) (d : Data) (layout : List Entry) (frame : Frame) (f : LayoutFault) → IsLayoutOf size d layout frame → RefusesLayout size d f → ⊥
never_both size d layout frame _ p (BadValue a e) = err_not_ok a (layout, frame) (sym e ∙ p.reads)
never_both size d layout frame _ p (BadEntries q there f e r) =
    let same = ok_same (q, there) (layout, frame) (sym e ∙ p.reads) in
    not_held frame size layout f p.held (subst (λ (x : List Entry × Frame). RefusesEntries x.1 size x.0 f) same r)

refused_or_short : (size : ℕ) (d : Data) (g : LayoutFault) → IsFaultOf size d g → RefusesLayout size d g ⊎ (g ≡ NoMemory)
refused_or_short size d (BadField t) h = inl h
refused_or_short size d (BadHex t) h = inl h
refused_or_short size d (BadUuid t) h = inl h
refused_or_short size d (TooMany n) h = inl h
refused_or_short size d (TwoAlike i j) h = inl h
refused_or_short size d (Overlap i j) h = inl h
refused_or_short size d (Outside i) h = inl h
refused_or_short size d BaseOutside h = inl h
refused_or_short size d (BaseOverlap i) h = inl h
refused_or_short size d NoMemory h = inr refl

pub refused_for : (size : ℕ) (d : Data) (f : LayoutFault) (result : Result (List Entry × Frame) LayoutFault) → IfOk result (λ r. IsLayoutOf size d r.0 r.1) → IfErr result (IsFaultOf size d) → RefusesLayout size d f
    → IsRefusedFor f result
refused_for size d f (Ok device) ok bad r = never_both size d device.0 device.1 f ok r
refused_for size d f (Err g) ok bad r = ⊎_elim (λ refused. inl (once size d g f refused r)) inr (refused_or_short size d g bad)

pub accepted : (size : ℕ) (d : Data) (layout : List Entry) (frame : Frame) (result : Result (List Entry × Frame) LayoutFault) → IsLayoutOf size d layout frame → IfErr result (IsFaultOf size d) → IsAccepted result
accepted size d layout frame (Ok other) p bad = tt
accepted size d layout frame (Err g) p bad = ⊎_elim (λ refused. absurd (never_both size d layout frame g p refused)) (λ short. short) (refused_or_short size d g bad)
