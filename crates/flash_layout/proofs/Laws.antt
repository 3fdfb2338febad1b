-- A layout that is written on a configuration page is read back.
use Rattle.std.proofs.Common.{◌≡◌, ℕ, ◌+◌, ◌-◌, ◌*◌, ◌^◌, ◌<◌, ◌≤◌, false, ltb, List, [], ◌∷◌, ◌++◌, length, get_or, take, drop, replicate, Option, Some, None, Result, Ok, Err, refl, sym, ap, subst, ◌∙◌, append_assoc, arith}
use Rattle.std.specs.List.{slice_range, All}
use Rattle.std.specs.Prelude.{IfSome}
use Rattle.std.proofs.lemmas.Bool.{le-ltb}
use Rattle.std.proofs.lemmas.List.Elements.{All-head, All-tail, All-weaker}
use Rattle.std.proofs.lemmas.List.{take_at, drop_at, take_all, append-nil, length-append, length-replicate}
use Rattle.det_cbor.specs.HeadReading.{kind_of_major}
use Rattle.det_cbor.specs.HeadSpelling.{major_of}
use Rattle.det_cbor.specs.Heads.{head_bytes}
use Rattle.det_cbor.specs.DataItem.{spell_items}
use Rattle.det_cbor.specs.Position.{Position}
use Rattle.det_cbor.specs.declared.head.HeadKind.{HeadKind}
use Rattle.det_cbor.specs.declared.head.HeadKind.TheVariants as kinds
use Rattle.det_cbor.specs.ArgumentLaws.{head_length}
use Rattle.det_cbor.proofs.Heads.{plain_again}
use Rattle.suit_params.specs.Reading.{array_from, resting, head_from, bytes_from, content_from}
use Rattle.flash_layout.specs.declared.frame.Frame.{Frame}
use Rattle.flash_layout.specs.declared.layout.Entry.{Entry}
use Rattle.flash_layout.specs.declared.layout.Memory.{Memory}
use Rattle.flash_layout.specs.declared.layout.Memory.TheVariants as memory
use Rattle.flash_layout.specs.declared.key.Key.{Key}
use Rattle.flash_layout.specs.Frames.{most, page_bytes}
use Rattle.suit_params.specs.Identifiers.{string_items, spelled_id}
use Rattle.flash_layout.specs.Layouts.{IsUuid, IsTypedEntry, AreTyped, IsEntry, IsLayout}
use Rattle.suit_params.specs.declared.refusal.Refusal.{Refusal}
use Rattle.flash_layout.specs.ConfigLaws.{OneConfig}
use Rattle.flash_layout.specs.ConfigPage.{IsConfigPage, memory_byte, optional_id, number_bytes, entry_bytes, entries_bytes, config_page}
use Rattle.flash_layout.specs.PageReading.{parts_from, identifier_at, memory_at, id_at, number_at, entry_at, entries_at, key_at, page_at}
use Rattle.flash_layout.proofs.PageFields.{field, number_read, number_long}
use Rattle.flash_layout.proofs.Spellings.{spelled_parts}

-- ---- identifiers

pub head_read : (kind : HeadKind) (n : ℕ) (rest : List ℕ) (p : Position) → major_of kind < 7 → kind_of_major (major_of kind) ≡ kind → n < 2 ^ 64 → p.left ≡ head_bytes (major_of kind) n ++ rest
    → head_from p ≡ Ok (record { kind = kind; value = n }, resting p rest)
unfolding head_from
head_read kind n rest p lt is fits left = rw (left, plain_again kind n rest lt is fits) refl

-- a byte string, and where reading goes on
record ReadsPart (p : Position) (part rest : List ℕ) : Type 0 where
  inner : Position
  next : Position
  read : content_from p ≡ Ok (inner, next)
  content : inner.left ≡ part
  after : next.left ≡ rest

part_read : (part rest : List ℕ) (p : Position) → length part < 2 ^ 64 → p.left ≡ (head_bytes 2 (length part) ++ part) ++ rest → ReadsPart p part rest
unfolding content_from bytes_from
part_read part rest p fits left =
    let h : Position = resting p (part ++ rest) in
    let enough : ltb (length (part ++ rest)) (length part) ≡ false = le-ltb _ _ (omega (arith, length-append part rest)) in
    record {
      inner = record { left = part; place = h.place };
      next = record { left = rest; place = h.place + length part };
      read = rw (head_read kinds.Bytes (length part) (part ++ rest) p (omega arith) refl fits (left ∙ append_assoc (head_bytes 2 (length part)) part rest), enough, take_at part rest (length part) refl, drop_at part rest (length part) refl) refl;
      content = refl;
      after = refl;
    }

parts_read : (parts : List (List ℕ)) (rest : List ℕ) (p : Position) → length (spell_items (string_items parts)) < 2 ^ 64 → p.left ≡ spell_items (string_items parts) ++ rest → parts_from (length parts) p ≡ Ok parts
parts_read [] rest p fits left = refl
parts_read (part ∷ parts) rest p fits left =
    let string = head_bytes 2 (length part) ++ part in
    let others = spell_items (string_items parts) in
    let long : length string + length others ≡ length (string ++ others) = sym (length-append string others) in
    let inside : length part < 2 ^ 64 = omega (arith, long, fits, length-append (head_bytes 2 (length part)) part) in
    let one = part_read part (others ++ rest) p inside (left ∙ append_assoc string others rest) in
    rw (one.read, one.content, parts_read parts rest one.next (omega (arith, long, fits)) one.after) refl

pub count_fits : (parts : List (List ℕ)) → length (spell_items (string_items parts)) < 2 ^ 64 → length parts ≤ length (spell_items (string_items parts))
count_fits [] fits = omega arith
count_fits (part ∷ parts) fits =
    let string = head_bytes 2 (length part) ++ part in
    let others = spell_items (string_items parts) in
    let long : length string + length others ≡ length (string ++ others) = sym (length-append string others) in
    let inside : length part < 2 ^ 64 = omega (arith, long, fits, length-append (head_bytes 2 (length part)) part) in
    omega (arith, long, (head_length 2 (length part) inside).0, length-append (head_bytes 2 (length part)) part, count_fits parts (omega (arith, long, fits)))

pub identifier_read : (parts : List (List ℕ)) → length (spelled_id parts) < 2 ^ 64 → identifier_at (spelled_id parts) ≡ Ok parts
unfolding identifier_at array_from
identifier_read parts short =
    let is = spelled_parts parts in
    let items = spell_items (string_items parts) in
    let fits : length items < 2 ^ 64 = omega (arith, short, ap length is, length-append (head_bytes 4 (length parts)) items) in
    let p : Position = record { left = spelled_id parts; place = 0 } in
    rw (head_read kinds.Array (length parts) items p (omega arith) refl (omega (arith, fits, count_fits parts fits)) is) (parts_read parts [] (resting p items) fits (sym (append-nil items)))

-- ---- fields of known lengths

memory_read : (m : Memory) → memory_at (memory_byte m) ≡ m
memory_read memory.Flash = refl
memory_read memory.Ram = refl

id_read : (id : Option (List ℕ)) → IfSome id IsUuid → id_at (optional_id id) ≡ id
id_read None is = refl
id_read (Some id) is = ap (λ (l : List ℕ). Some l) (take_all 16 id (omega (arith, is)))

id_long : (id : Option (List ℕ)) → IfSome id IsUuid → length (optional_id id) ≡ 17
id_long None is = refl
id_long (Some id) is = omega (arith, is)

pair_of : (xs : List ℕ) → length xs ≡ 2 → get_or xs 0 0 ∷ get_or xs 1 0 ∷ [] ≡ xs
pair_of [] is = absurd cc
pair_of (a ∷ []) is = absurd (omega (arith, is))
pair_of (a ∷ b ∷ []) is = refl
pair_of (a ∷ b ∷ c ∷ rest) is = absurd (omega (arith, is))

starts_read : (a b xs : List ℕ) → number_at a ≡ get_or xs 0 0 → number_at b ≡ get_or xs 1 0 → length xs ≡ 2 → number_at a ∷ number_at b ∷ [] ≡ xs
starts_read a b xs first second two = rw (first, second) (pair_of xs two)

same_entry : (a b : Entry) → a.identifier ≡ b.identifier → a.memory ≡ b.memory → a.slots ≡ b.slots → a.starts ≡ b.starts → a.capacity ≡ b.capacity → a.vendor ≡ b.vendor → a.class ≡ b.class → a.device ≡ b.device → a ≡ b
same_entry a b p q r s t u v w = λ i. record { identifier = p i; memory = q i; slots = r i; starts = s i; capacity = t i; vendor = u i; class = v i; device = w i }

-- the fields of a component's bytes
module _ (m s n : ℕ) (spelling zeros vendor class device capacity first second : List ℕ) where
  abbrev pub whole : List ℕ
  whole = m ∷ s ∷ ((n ∷ (spelling ++ zeros)) ++ ((vendor ++ (class ++ device)) ++ (capacity ++ (first ++ second))))

  pub record HasFields : Type 0 where
    pub name : slice_range whole 3 (3 + n) ≡ spelling
    pub padded : slice_range whole 3 67 ≡ spelling ++ zeros
    pub one : slice_range whole 67 84 ≡ vendor
    pub two : slice_range whole 84 101 ≡ class
    pub three : slice_range whole 101 118 ≡ device
    pub size : slice_range whole 118 126 ≡ capacity
    pub start : slice_range whole 126 134 ≡ first
    pub other : slice_range whole 134 142 ≡ second
    pub long : length whole ≡ 142

  has_fields : length spelling ≡ n → length spelling + length zeros ≡ 64 → length vendor ≡ 17 → length class ≡ 17 → length device ≡ 17 → length capacity ≡ 8 → length first ≡ 8 → length second ≡ 8 → HasFields
  has_fields short padding v c d k f g =
      let l1 = length-append spelling zeros in
      let h1 : List ℕ = m ∷ s ∷ n ∷ (spelling ++ zeros) in
      let h2 = h1 ++ vendor in
      let h3 = h2 ++ class in
      let h4 = h3 ++ device in
      let h5 = h4 ++ capacity in
      let h6 = h5 ++ first in
      let n1 : length h1 ≡ 67 = omega (arith, l1) in
      let n2 : length h2 ≡ 84 = omega (arith, n1, v, length-append h1 vendor) in
      let n3 : length h3 ≡ 101 = omega (arith, n2, c, length-append h2 class) in
      let n4 : length h4 ≡ 118 = omega (arith, n3, d, length-append h3 device) in
      let n5 : length h5 ≡ 126 = omega (arith, n4, k, length-append h4 capacity) in
      let n6 : length h6 ≡ 134 = omega (arith, n5, f, length-append h5 first) in
      let all : whole ≡ h6 ++ second = simp append_assoc in
      let to : length spelling ≡ 3 + n - 3 = omega (arith, short) in
      record {
        name = field (m ∷ s ∷ n ∷ []) spelling (zeros ++ ((vendor ++ (class ++ device)) ++ (capacity ++ (first ++ second)))) whole 3 (3 + n) (simp append_assoc) refl to;
        padded = field (m ∷ s ∷ n ∷ []) (spelling ++ zeros) ((vendor ++ (class ++ device)) ++ (capacity ++ (first ++ second))) whole 3 67 refl refl (omega (arith, l1, padding));
        one = field h1 vendor ((class ++ device) ++ (capacity ++ (first ++ second))) whole 67 84 (simp append_assoc) n1 v;
        two = field h2 class (device ++ (capacity ++ (first ++ second))) whole 84 101 (simp append_assoc) n2 c;
        three = field h3 device (capacity ++ (first ++ second)) whole 101 118 (simp append_assoc) n3 d;
        size = field h4 capacity (first ++ second) whole 118 126 (simp append_assoc) n4 k;
        start = field h5 first second whole 126 134 (simp append_assoc) n5 f;
        other = field h6 second [] whole 134 142 (all ∙ ap (λ (l : List ℕ). h6 ++ l) (sym (append-nil second))) n6 g;
        long = ap length all ∙ omega (arith, n6, g, length-append h6 second);
      }

-- ---- components

pub entry_fields : (e : Entry) → IsTypedEntry e → length (spelled_id e.identifier) ≤ 64
    → HasFields (memory_byte e.memory) e.slots (length (spelled_id e.identifier)) (spelled_id e.identifier) (replicate (64 - length (spelled_id e.identifier)) 0)
    (optional_id e.vendor) (optional_id e.class) (optional_id e.device) (number_bytes e.capacity) (number_bytes (get_or e.starts 0 0)) (number_bytes (get_or e.starts 1 0))
entry_fields e typed short =
    has_fields _ _ _ _ _ _ _ _ _ _ _ refl (omega (arith, short, length-replicate {A = ℕ} (64 - length (spelled_id e.identifier)) 0)) (id_long e.vendor typed.vendor) (id_long e.class typed.class) (id_long e.device typed.device)
    (number_long e.capacity) (number_long (get_or e.starts 0 0)) (number_long (get_or e.starts 1 0))

entry_read : (e : Entry) → IsTypedEntry e → length (spelled_id e.identifier) ≤ 64 → entry_at (entry_bytes e) ≡ Ok e
unfolding entry_at entry_bytes
entry_read e typed short =
    let f = entry_fields e typed short in
    let few : ltb 64 (length (spelled_id e.identifier)) ≡ false = le-ltb _ _ short in
    let start0 = ap number_at f.start ∙ number_read (get_or e.starts 0 0) typed.first in
    let start1 = ap number_at f.other ∙ number_read (get_or e.starts 1 0) typed.second in
    rw (few, ap identifier_at f.name ∙ identifier_read e.identifier (omega (arith, short)))
    (ap (λ (x : Entry). Ok x) (same_entry _ e refl (memory_read e.memory) refl
    (starts_read _ _ e.starts start0 start1 typed.starts)
    (ap number_at f.size ∙ number_read e.capacity typed.capacity)
    (ap id_at f.one ∙ id_read e.vendor typed.vendor) (ap id_at f.two ∙ id_read e.class typed.class) (ap id_at f.three ∙ id_read e.device typed.device)))

pub entry_long : (e : Entry) → IsTypedEntry e → length (spelled_id e.identifier) ≤ 64 → length (entry_bytes e) ≡ 142
unfolding entry_bytes
entry_long e typed short = (entry_fields e typed short).long

abbrev pub IsShort : Entry → Type 0
IsShort e = length (spelled_id e.identifier) ≤ 64

entries_read : (es : List Entry) (zeros : List ℕ) → All IsTypedEntry es → All IsShort es → entries_at (length es) (entries_bytes es ++ zeros) ≡ Ok es
entries_read [] zeros typed short = refl
entries_read (e ∷ es) zeros typed short =
    let is = All-head IsTypedEntry e es typed in
    let few = All-head IsShort e es short in
    let more = entries_bytes es ++ zeros in
    let whole = append_assoc (entry_bytes e) (entries_bytes es) zeros in
    let long = entry_long e is few in
    let first = ap (λ (l : List ℕ). entry_at (take 142 l)) whole ∙ ap entry_at (take_at (entry_bytes e) more 142 long) ∙ entry_read e is few in
    let rest = ap (λ (l : List ℕ). entries_at (length es) (drop 142 l)) whole ∙ ap (entries_at (length es)) (drop_at (entry_bytes e) more 142 long)
    ∙ entries_read es zeros (All-tail IsTypedEntry e es typed) (All-tail IsShort e es short) in
    rw (first, rest) refl

pub entries_long : (es : List Entry) → All IsTypedEntry es → All IsShort es → length (entries_bytes es) ≡ 142 * length es
entries_long [] typed short = refl
entries_long (e ∷ es) typed short =
    omega (arith, length-append (entry_bytes e) (entries_bytes es), entry_long e (All-head IsTypedEntry e es typed) (All-head IsShort e es short), entries_long es (All-tail IsTypedEntry e es typed) (All-tail IsShort e es short))

-- ---- the page

pub short_of : (frame : Frame) (size : ℕ) (layout : List Entry) → IsLayout frame size layout → All IsShort layout
short_of frame size layout allowed = All-weaker (IsEntry frame size) IsShort (λ e is. is.short) layout allowed.each

page_fields : (frame : Frame) (layout : List Entry) (key : Key) → AreTyped layout key → All IsShort layout → length layout ≤ most frame → page_at frame (config_page frame layout key) ≡ Ok (layout, key)
unfolding page_at config_page
page_fields frame layout key typed short few =
    let entries = entries_bytes layout in
    let zeros : List ℕ = replicate (142 * most frame - length entries) 0 in
    let long : length entries ≡ 142 * length layout = entries_long layout typed.entries short in
    let all : length (entries ++ zeros) ≡ 142 * most frame = omega (arith, long, few, length-append entries zeros, length-replicate {A = ℕ} (142 * most frame - length entries) 0) in
    let size : length (entries ++ zeros) ≡ 68 + 142 * most frame - 68 = omega (arith, all) in
    let front : List ℕ = 0xA5 ∷ frame.version ∷ key.length ∷ length layout ∷ key.bytes in
    let fits : ltb (most frame) (length layout) ≡ false = le-ltb _ _ few in
    let room : length front ≡ 68 = omega (arith, typed.room) in
    let body : slice_range (front ++ (entries ++ zeros)) 68 (68 + 142 * most frame) ≡ entries ++ zeros = field front (entries ++ zeros) [] (front ++ (entries ++ zeros)) 68 (68 + 142 * most frame) (ap (λ (l : List ℕ). front ++ l) (sym (append-nil (entries ++ zeros)))) room size in
    let bytes : slice_range (front ++ (entries ++ zeros)) 4 68 ≡ key.bytes = field (0xA5 ∷ frame.version ∷ key.length ∷ length layout ∷ []) key.bytes (entries ++ zeros) (front ++ (entries ++ zeros)) 4 68 refl refl typed.room in
    let same : key_at (front ++ (entries ++ zeros)) ≡ key = λ i. record { bytes = bytes i; length = key.length } in
    rw (fits, ap (entries_at (length layout)) body ∙ entries_read layout zeros typed.entries short) (ap (λ (k : Key). Ok (layout, k)) same)

pub page_read : (frame : Frame) (size : ℕ) (bytes : List ℕ) (layout : List Entry) (key : Key) → AreTyped layout key → IsConfigPage frame size bytes layout key → page_at frame bytes ≡ Ok (layout, key)
page_read frame size bytes layout key typed is = ap (page_at frame) is.is ∙ page_fields frame layout key typed (short_of frame size layout is.allowed) is.allowed.few

-- a page has exactly the bytes that are read
pub page_long : (frame : Frame) (size : ℕ) (layout : List Entry) (key : Key) → AreTyped layout key → IsLayout frame size layout → length (config_page frame layout key) ≡ page_bytes frame
unfolding config_page
page_long frame size layout key typed allowed =
    let entries = entries_bytes layout in
    let zeros : List ℕ = replicate (142 * most frame - length entries) 0 in
    let long : length entries ≡ 142 * length layout = entries_long layout typed.entries (short_of frame size layout allowed) in
    omega (
      arith,
      long,
      allowed.few,
      typed.room,
      length-append entries zeros,
      length-replicate {A = ℕ} (142 * most frame - length entries) 0,
      length-append (0xA5 ∷ frame.version ∷ key.length ∷ length layout ∷ key.bytes) (entries ++ zeros),
    )

same_ok : (r : Result (List Entry × Key) Refusal) (a b : List Entry × Key) → r ≡ Ok a → r ≡ Ok b → (a.0 ≡ b.0) × (a.1 ≡ b.1)
same_ok r a b p q = let e : ◌≡◌ {A = Result (List Entry × Key) Refusal} (Ok a) (Ok b) = sym p ∙ q in let same : a ≡ b = cc in (ap (λ (x : List Entry × Key). x.0) same, ap (λ (x : List Entry × Key). x.1) same)

-- a page has at most one layout and key
pub one_config : OneConfig
one_config frame size bytes layout key others other typed also is so =
    same_ok (page_at frame bytes) (layout, key) (others, other) (page_read frame size bytes layout key typed is) (page_read frame size bytes others other also so)

-- ---- reading a page that has a layout and a key

same_config : (frame : Frame) (size : ℕ) (bytes : List ℕ) (layout : List Entry) (key : Key) (read : List Entry × Key) → AreTyped layout key → IsConfigPage frame size bytes layout key → page_at frame bytes ≡ Ok read → ◌≡◌ {A = List Entry × Key} read (layout, key)
same_config frame size bytes layout key read typed is e =
    let both : ◌≡◌ {A = Result (List Entry × Key) Refusal} (Ok read) (Ok (layout, key)) = sym e ∙ page_read frame size bytes layout key typed is in
    cc

pub read_some : (frame : Frame) (size : ℕ) (bytes : List ℕ) (layout : List Entry) (key : Key) (read : List Entry × Key) → AreTyped layout key → IsConfigPage frame size bytes layout key → page_at frame bytes ≡ Ok read
    → ◌≡◌ {A = Option (List Entry × Key)} (Some read) (Some (layout, key))
read_some frame size bytes layout key read typed is e = ap (λ (x : List Entry × Key). Some x) (same_config frame size bytes layout key read typed is e)

pub read_other : (frame : Frame) (size : ℕ) (bytes : List ℕ) (layout : List Entry) (key : Key) (read : List Entry × Key) → AreTyped layout key → IsConfigPage frame size bytes layout key → page_at frame bytes ≡ Ok read
    → IsConfigPage frame size bytes read.0 read.1
read_other frame size bytes layout key read typed is e = subst (λ (x : List Entry × Key). IsConfigPage frame size bytes x.0 x.1) (sym (same_config frame size bytes layout key read typed is e)) is

pub not_refused : (frame : Frame) (size : ℕ) (bytes : List ℕ) (layout : List Entry) (key : Key) (r : Refusal) → AreTyped layout key → IsConfigPage frame size bytes layout key → page_at frame bytes ≡ Err r → ⊥
not_refused frame size bytes layout key r typed is e =
    let both : ◌≡◌ {A = Result (List Entry × Key) Refusal} (Err r) (Ok (layout, key)) = sym e ∙ page_read frame size bytes layout key typed is in
    cc
