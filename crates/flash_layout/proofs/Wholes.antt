-- A component that is read is allowed on its own, apart from the size of the flash.
use Rattle.std.proofs.Common.{◌≡◌, ◌<◌, ◌≤◌, ℕ, ◌^◌, ◌-◌, Bool, true, false, true≢false, List, [], ◌∷◌, length, get_or, Option, Some, None, option_and_then, Result, Ok, refl, sym, ap, subst, ◌∙◌, arith}
use Rattle.std.specs.Prelude.{IfSome, nat_le, ◌==◌, slice_index, if◌then◌else◌, codes, All}
use Rattle.std.specs.Str.{bytes_eq}
use Rattle.std.proofs.lemmas.Bool.Decides.{nat_tests}
use Rattle.det_cbor.specs.HeadReading.{◌>>=◌}
use Rattle.serde_json.specs.Data.{Data}
use Rattle.serde_json.specs.Find.{as_u64, as_number}
use Rattle.json_fields.specs.declared.flaw.Flaw.{Flaw}
use Rattle.json_fields.specs.declared.flaw.FlawKind.TheVariants.{Field}
use Rattle.json_fields.specs.Flaws.{flawed, found_or}
use Rattle.json_fields.specs.Values.{number_up_to, hex_of, uuid_of}
use Rattle.json_fields.specs.Pointers.{key_token}
use Rattle.json_fields.specs.Arrays.{array_of}
use Rattle.json_fields.specs.Objects.{object_of, required}
use Rattle.flash_layout.specs.declared.frame.Frame.{Frame}
use Rattle.flash_layout.specs.declared.frame.TheConstants.{VERSION_1}
use Rattle.flash_layout.specs.declared.layout.Entry.{Entry}
use Rattle.flash_layout.specs.declared.layout.Memory.{Memory}
use Rattle.flash_layout.specs.declared.layout.Memory.TheVariants as memory
use Rattle.flash_layout.specs.declared.component_fields.ComponentFields.{ComponentFields}
use Rattle.flash_layout.specs.declared.device_fields.DeviceFields.{DeviceFields}
use Rattle.flash_layout.specs.declared.starts.Starts.{Starts}
use Rattle.suit_params.specs.Identifiers.{spelled_id}
use Rattle.flash_layout.specs.Layouts.{IsBehindHead, IsInRam, IsOfMemory, IsLayout, slot_size, slot_starts}
use Rattle.flash_layout.specs.ComponentFields.{short_id, id_of, capacity_limit, some_capacity, capacity_of, no_starts, one_or_two, flash_starts, starts_of, no_component, memory_said, takes_component, starts_in, entry_with, whole, component_of}
use Rattle.flash_layout.specs.Devices.{some_components, components_of, frame_with, no_device, takes_device, described_layout}
use Rattle.flash_layout.specs.Frames.{First, IsFrame, Second, frame_size}
use Rattle.flash_layout.specs.Overlaps.{IsClearItself, LiesClear, LiesInside}
use Rattle.flash_layout.specs.LayoutFaults.{AreHeld, HasBaseInside}
use Rattle.flash_layout.proofs.Kept.{err_not_ok, ok_same, bind_ok, under_ok, found_ok, object_kept, array_kept}

-- ---- single values

abbrev flawed_at : {A : Type 0} → Result A Flaw
flawed_at = flawed Field

kept_test : {A : Type 0} (b : Bool) (x y : A) → (if b then Ok x else flawed_at) ≡ Ok y → (b ≡ true) × (x ≡ y)
kept_test true x y e = (refl, ok_same x y e)
kept_test false x y e = absurd (err_not_ok _ y e)

le_of : (m n : ℕ) → nat_le m n ≡ true → m ≤ n
le_of m n e = grind (arith, nat_tests)

number_small : (limit : ℕ) (d : Data) (n : ℕ) → number_up_to limit d ≡ Ok n → n ≤ limit
number_small limit d n e =
    let p = bind_ok (found_or Field (option_and_then as_u64 (as_number d))) (λ m. if nat_le m limit then Ok m else flawed_at) n e in
    let q = kept_test (nat_le p.0 limit) p.0 n p.2 in
    subst (λ m. m ≤ limit) q.1 (le_of p.0 limit q.0)

pub record IsCapacity (said : Option Memory) (n : ℕ) : Type 0 where
  pub some : 1 ≤ n
  pub few : n ≤ capacity_limit said

capacity_is : (said : Option Memory) (d : Data) (n : ℕ) → capacity_of said d ≡ Ok n → IsCapacity said n
capacity_is said d n e =
    let p = bind_ok (number_up_to (capacity_limit said) d) some_capacity n e in
    let q = kept_test (nat_le 1 p.0) p.0 n p.2 in
    let few : p.0 ≤ capacity_limit said = number_small (capacity_limit said) d p.0 p.1 in
    subst (IsCapacity said) q.1 (record { some = le_of 1 p.0 q.0; few = few })

abbrev pub IsShortId : List (List ℕ) → Type 0
IsShortId id = length (spelled_id id) ≤ 64

id_is : (d : Data) (id : List (List ℕ)) → id_of d ≡ Ok id → IsShortId id
id_is d id e =
    let p = bind_ok (array_of hex_of d) short_id id e in
    let q = kept_test (nat_le (length (spelled_id p.0)) 64) p.0 id p.2 in
    subst IsShortId q.1 (le_of (length (spelled_id p.0)) 64 q.0)

-- one or two starts, with 0 for one that is missing
pub record AreStarts (s : Starts) : Type 0 where
  pub some : 1 ≤ s.count
  pub few : s.count ≤ 2
  pub rest : s.count ≡ 1 → slice_index s.places 1 ≡ 0

abbrev one_start : List ℕ → Starts
one_start xs = record { count = 1; places = slice_index xs 0 ∷ 0 ∷ [] }

abbrev two_starts : List ℕ → Starts
two_starts xs = record { count = 2; places = slice_index xs 0 ∷ slice_index xs 1 ∷ [] }

by_counts : (xs : List ℕ) (s : Starts) (b c : Bool) → (if b then Ok (one_start xs) else if c then Ok (two_starts xs) else flawed_at) ≡ Ok s → AreStarts s
by_counts xs s true c e = subst AreStarts (ok_same (one_start xs) s e) (record { some = omega arith; few = omega arith; rest = λ _. refl })
by_counts xs s false true e = subst AreStarts (ok_same (two_starts xs) s e) (record { some = omega arith; few = omega arith; rest = λ bad. absurd (omega (arith, bad)) })
by_counts xs s false false e = absurd (err_not_ok _ s e)

one_or_two_is : (xs : List ℕ) (s : Starts) → one_or_two xs ≡ Ok s → AreStarts s
one_or_two_is xs s e = by_counts xs s (length xs == 1) (length xs == 2) e

flash_starts_is : (d : Data) (s : Starts) → flash_starts d ≡ Ok s → AreStarts s
flash_starts_is d s e = let p = bind_ok (array_of (λ x. number_up_to (2 ^ 64 - 1) x) d) one_or_two s e in one_or_two_is p.0 s p.2

starts_is : (said : Option Memory) (d : Data) (s : Starts) → starts_of said d ≡ Ok s → AreStarts s
starts_is None d s e = flash_starts_is d s e
starts_is (Some memory.Flash) d s e = flash_starts_is d s e
starts_is (Some memory.Ram) d s e = absurd (err_not_ok _ s e)

-- ---- the fields so far

pub record AreParts (said has : Option Memory) (most : Option ℕ) (names : Option (List (List ℕ))) (starts : Option Starts) : Type 0 where
  pub same : has ≡ said
  pub capacity : IfSome most (IsCapacity said)
  pub id : IfSome names IsShortId
  pub slots : IfSome starts AreStarts

abbrev pub AreSound : Option Memory → ComponentFields → Type 0
AreSound said t = AreParts said t.memory t.capacity t.id t.slots

-- one of two ways to read
either_kept : {A : Type 0} (P : A → Type 0) (b : Bool) (read other : Result A Flaw) → ((u : A) → read ≡ Ok u → P u) → ((u : A) → other ≡ Ok u → P u) → (u : A) → (if b then read else other) ≡ Ok u → P u
either_kept P true read other one two u e = one u e
either_kept P false read other one two u e = two u e

-- a value that is read and then set
set_kept : {A D : Type 0} (P : D → Type 0) (read : Result A Flaw) (set : A → D) → ((x : A) → read ≡ Ok x → P (set x)) → (u : D) → (read >>= λ x. Ok (set x)) ≡ Ok u → P u
set_kept P read set each u e =
    let p = bind_ok read (λ x. Ok (set x)) u e in
    subst P (ok_same (set p.0) u p.2) (each p.0 p.1)

none_kept : {A : Type 0} (P : A → Type 0) (u : A) → flawed_at ≡ Ok u → P u
none_kept P u e = absurd (err_not_ok _ u e)

component_kept : (said : Option Memory) (t u : ComponentFields) (key : List ℕ) (d : Data) → AreSound said t → takes_component t key d ≡ Ok u → AreSound said u
component_kept said t u key d h e =
    let P : ComponentFields → Type 0 = AreSound said in
    let by_uuid : (set : List ℕ → ComponentFields) → ((x : List ℕ) → P (set x)) → (v : ComponentFields) → (uuid_of d >>= λ x. Ok (set x)) ≡ Ok v → P v =
    λ set each. set_kept P (uuid_of d) set (λ x _. each x) in
    either_kept P (bytes_eq key (codes "capacity")) _ _
    (set_kept P (capacity_of t.memory d) (λ n. record t { capacity = Some n })
    (λ n is. record { same = h.same; capacity = capacity_is said d n (subst (λ m. capacity_of m d ≡ Ok n) h.same is); id = h.id; slots = h.slots }))
    (either_kept P (bytes_eq key (codes "class")) _ _ (by_uuid (λ x. record t { class = Some x }) (λ x. h))
    (either_kept P (bytes_eq key (codes "device")) _ _ (by_uuid (λ x. record t { device = Some x }) (λ x. h))
    (either_kept P (bytes_eq key (codes "id")) _ _
    (set_kept P (id_of d) (λ id. record t { id = Some id }) (λ id is. record { same = h.same; capacity = h.capacity; id = id_is d id is; slots = h.slots }))
    (either_kept P (bytes_eq key (codes "kind")) _ _ (set_kept P (found_or Field t.memory) (λ kind. t) (λ kind is. h))
    (either_kept P (bytes_eq key (codes "slots")) _ _
    (set_kept P (starts_of t.memory d) (λ s. record t { slots = Some s }) (λ s is. record { same = h.same; capacity = h.capacity; id = h.id; slots = starts_is t.memory d s is }))
    (either_kept P (bytes_eq key (codes "vendor")) _ _ (by_uuid (λ x. record t { vendor = Some x }) (λ x. h)) (none_kept P)))))))
    u e

-- ---- components

-- a component is allowed, wherever its slots start
abbrev pub IsFormed : Entry → Memory → Type 0
IsFormed e memory.Flash = AreStarts (record { count = e.slots; places = e.starts })
IsFormed e memory.Ram = IsInRam e

pub record IsWhole (e : Entry) : Type 0 where
  pub short : IsShortId e.identifier
  pub some : 1 ≤ e.capacity
  pub formed : IsFormed e e.memory

abbrev some_or : {A : Type 0} → A → Option A → A
some_or other (Some x) = x
some_or other None = other

abbrev has_some : {A : Type 0} → Option A → Bool
has_some (Some x) = true
has_some None = false

if_some : {A : Type 0} (P : A → Type 0) (o : Option A) (x : A) → o ≡ Some x → IfSome o P → P x
if_some P (Some y) x e h = subst P (ap (some_or y) e) h
if_some P None x e h = absurd (true≢false (sym (ap has_some e)))

required_ok : {A : Type 0} (key : List ℕ) (o : Option A) (x : A) → required key o ≡ Ok x → o ≡ Some x
required_ok key o x e = found_ok Field o x (under_ok (key_token key) (found_or Field o) x e)

formed_is : (t : ComponentFields) (capacity : ℕ) (id : List (List ℕ)) (kind : Memory) (s : Starts) → AreSound (Some kind) t → IsCapacity (Some kind) capacity → starts_in kind t.slots ≡ Ok s
    → IsFormed (entry_with t capacity id kind s) kind
formed_is t capacity id memory.Flash s h c e = if_some AreStarts t.slots s (required_ok (codes "slots") t.slots s e) h.slots
formed_is t capacity id memory.Ram s h c e =
    let same : no_starts ≡ s = ok_same no_starts s e in
    subst (λ x. IsInRam (entry_with t capacity id memory.Ram x)) same (refl, refl, refl, c.few)

whole_is : (said : Option Memory) (t : ComponentFields) (e : Entry) → AreSound said t → whole t ≡ Ok e → IsWhole e
whole_is said t e h is =
    let a = bind_ok (required (codes "capacity") t.capacity) _ e is in
    let b = bind_ok (required (codes "id") t.id) _ e a.2 in
    let k = bind_ok (required (codes "kind") t.memory) _ e b.2 in
    let s = bind_ok (starts_in k.0 t.slots) (λ starts. Ok (entry_with t a.0 b.0 k.0 starts)) e k.2 in
    let kind : said ≡ Some k.0 = sym h.same ∙ required_ok (codes "kind") t.memory k.0 k.1 in
    let sound : AreSound (Some k.0) t = subst (λ m. AreSound m t) kind h in
    let capacity : IsCapacity (Some k.0) a.0 = if_some (IsCapacity (Some k.0)) t.capacity a.0 (required_ok (codes "capacity") t.capacity a.0 a.1) sound.capacity in
    let short : IsShortId b.0 = if_some IsShortId t.id b.0 (required_ok (codes "id") t.id b.0 b.1) sound.id in
    subst IsWhole (ok_same (entry_with t a.0 b.0 k.0 s.0) e s.2)
    (record { short = short; some = capacity.some; formed = formed_is t a.0 b.0 k.0 s.0 sound capacity s.1 })

component_is : (d : Data) (e : Entry) → component_of d ≡ Ok e → IsWhole e
component_is d e is =
    let said = memory_said d in
    let p = bind_ok (object_of takes_component (no_component said) d) (λ t. whole t) e is in
    let start : AreSound said (no_component said) = record { same = refl; capacity = tt; id = tt; slots = tt } in
    let sound = object_kept (AreSound said) takes_component (λ t u key x. component_kept said t u key x) d (no_component said) p.0 start p.1 in
    whole_is said p.0 e sound p.2

-- ---- devices

pub record AreWhole (layout : List Entry) : Type 0 where
  pub some : 1 ≤ length layout
  pub each : All IsWhole layout

components_are : (d : Data) (layout : List Entry) → components_of d ≡ Ok layout → AreWhole layout
components_are d layout e =
    let p = bind_ok (array_of component_of d) some_components layout e in
    let q = kept_test (nat_le 1 (length p.0)) p.0 layout p.2 in
    subst AreWhole q.1 (record { some = le_of 1 (length p.0) q.0; each = array_kept IsWhole component_of component_is d p.0 p.1 })

abbrev AreRead : DeviceFields → Type 0
AreRead t = IfSome t.components AreWhole

takes_kept : (t u : DeviceFields) (key : List ℕ) (d : Data) → AreRead t → takes_device t key d ≡ Ok u → AreRead u
takes_kept t u key d h e =
    either_kept AreRead (bytes_eq key (codes "base")) _ _ (set_kept AreRead (number_up_to (2 ^ 64 - 1) d) (λ base. record t { base = Some base }) (λ base is. h))
    (either_kept AreRead (bytes_eq key (codes "components")) _ _
    (set_kept AreRead (components_of d) (λ entries. record t { components = Some entries }) (λ entries is. components_are d entries is)) (none_kept AreRead)) u e

-- the components are allowed, and the frame has the base, or is that of version 1
pub record IsDescribed (layout : List Entry) (frame : Frame) : Type 0 where
  pub whole : AreWhole layout
  pub base : Option ℕ
  pub frame_is : frame_with base ≡ frame

pub described_whole : (d : Data) (layout : List Entry) (frame : Frame) → described_layout d ≡ Ok (layout, frame) → IsDescribed layout frame
described_whole d layout frame e =
    let p = bind_ok (object_of takes_device no_device d) (λ t. required (codes "components") t.components >>= λ entries. Ok (entries, frame_with t.base)) (layout, frame) e in
    let q = bind_ok (required (codes "components") p.0.components) (λ entries. Ok (entries, frame_with p.0.base)) (layout, frame) p.2 in
    let same = ok_same (q.0, frame_with p.0.base) (layout, frame) q.2 in
    let read = object_kept AreRead takes_device takes_kept d no_device p.0 tt p.1 in
    let whole = if_some AreWhole p.0.components q.0 (required_ok (codes "components") p.0.components q.0 q.1) read in
    record {
      whole = subst AreWhole (ap (λ (x : List Entry × Frame). x.0) same) whole;
      base = p.0.base;
      frame_is = ap (λ (x : List Entry × Frame). x.1) same;
    }

formed_few : (e : Entry) (m : Memory) → IsFormed e m → e.slots ≤ 2
formed_few e memory.Flash h = h.few
formed_few e memory.Ram h = let one = h.0 in omega (arith, one)

pub whole_few : (e : Entry) → IsWhole e → e.slots ≤ 2
whole_few e h = formed_few e e.memory h.formed

pub whole_slots : (layout : List Entry) → AreWhole layout → All (λ e. e.slots ≤ 2) layout
whole_slots layout h k d lt = whole_few (get_or layout k d) (h.each k d lt)

-- ---- layouts

lies : (frame : Frame) (size : ℕ) (e : Entry) → LiesInside size e → LiesClear frame e → All (λ p. IsBehindHead frame size p (slot_size e)) (slot_starts e)
lies frame size e inside clear k d lt = let there = inside k d lt in (there.0, there.1, clear k d lt)

held_by : (frame : Frame) (size : ℕ) (e : Entry) (m : Memory) → IsFormed e m → IsClearItself e → LiesInside size e → LiesClear frame e → IsOfMemory frame size e m
held_by frame size e memory.Flash h clear inside over = (h.some, h.few, h.rest, clear, lies frame size e inside over)
held_by frame size e memory.Ram h clear inside over = h

pub allowed_layout : (frame : Frame) (size : ℕ) (layout : List Entry) → AreWhole layout → AreHeld frame size layout → IsLayout frame size layout
allowed_layout frame size layout whole held = record {
  some = whole.some;
  few = held.few;
  each = λ k d lt. let e = get_or layout k d in let w = whole.each k d lt in record {
    short = w.short;
    some = w.some;
    held = held_by frame size e e.memory w.formed ((held.clear k lt k (omega arith) lt).itself d refl) (held.inside k lt d) (held.base.clear k lt d);
  };
  apart = λ i j d below lt. record {
    other = held.apart i j below lt d;
    clear = (held.clear i (omega (arith, below, lt)) j (omega (arith, below)) lt).others d (omega (arith, below));
  };
}

-- ---- frames

frame_from : (size : ℕ) (base : Option ℕ) → size < 2 ^ 64 → 49152 ≤ size → HasBaseInside size (frame_with base) → IsFrame size (frame_with base)
frame_from size None low large inside = First refl refl large
frame_from size (Some base) low large inside = let there = inside refl in Second refl there.0 there.1 (omega (arith, low, there.1))

pub frame_placed : (size : ℕ) (layout : List Entry) (frame : Frame) → IsDescribed layout frame → size < 2 ^ 64 → 49152 ≤ size → HasBaseInside size frame → IsFrame size frame
frame_placed size layout frame is low large inside =
    subst (IsFrame size) is.frame_is (frame_from size is.base low large (subst (HasBaseInside size) (sym is.frame_is) inside))
