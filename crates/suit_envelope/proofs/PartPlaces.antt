-- The parts of an envelope are inside the bytes that spell it, and are byte strings.
use Rattle.std.proofs.Common.{◌≡◌, ℕ, Bool, true, false, cond, eqb, List, [], ◌∷◌, ◌++◌, length, Option, Some, None, sym, ap, subst, ◌∙◌, ◌+◌, ◌≤◌, ◌<◌, arith, lit<}
use Rattle.std.specs.Prelude.{IfSome}
use Rattle.std.specs.List.{AllByRecursion}
use Rattle.std.proofs.lemmas.List.{length-append}
use Rattle.det_cbor.specs.Heads.{head_bytes}
use Rattle.det_cbor.specs.DataItem.{DataItem, ByteString, MapOf, TaggedItem, DataPairs, NoPairs, PairThen, pair_count, spell, spell_pairs, IsString, IsValidWithin, ArePairsWithin}
use Rattle.suit_envelope.specs.Said.{EnvelopeOf}
use Rattle.suit_envelope.specs.declared.key.Key.{Key}
use Rattle.suit_envelope.specs.declared.key.Key.TheVariants as keys
use Rattle.suit_envelope.specs.Envelopes.{Entry, entries, EnvelopeMap, map_entries, as_map, envelope_map, EnvelopeSays, says_nothing, put, put_value, put_all, key_of}
use Rattle.suit_envelope.specs.Places.{EndsBelow, PartsEndBelow, PartsAreStrings}
use Rattle.suit_envelope.proofs.EnvelopeJudging.{map_fits}

-- a byte string at a place ends before another place
record Lies (end : ℕ) (content : List ℕ) (place : ℕ) : Type 0 where
  inside : place + length content ≤ end
  string : IsString content

abbrev HeldLies : ℕ → Option (List ℕ) → ℕ → Type 0
HeldLies end None place = Unit {0}
HeldLies end (Some content) place = Lies end content place

record PartsLie (end : ℕ) (said : EnvelopeSays) : Type 0 where
  wrapper : Lies end said.wrapper said.wrapper_place
  manifest : Lies end said.manifest said.manifest_place
  payload_fetch : HeldLies end said.payload_fetch said.payload_fetch_place
  install : HeldLies end said.install said.install_place
  text : IfSome said.text IsString

nothing_lies : (end : ℕ) (tagged : Bool) → PartsLie end (says_nothing tagged)
nothing_lies end tagged =
    let none : Lies end [] 0 = record { inside = omega arith; string = (lit< tt, tt) } in
    record { wrapper = none; manifest = none; payload_fetch = tt; install = tt; text = tt }

put_lies : (end : ℕ) (s : EnvelopeSays) (key : Key) (content : List ℕ) (place : ℕ) → PartsLie end s → Lies end content place → PartsLie end (put s key content place)
put_lies end s keys.Wrapper content place before here = record { wrapper = here; manifest = before.manifest; payload_fetch = before.payload_fetch; install = before.install; text = before.text }
put_lies end s keys.Manifest content place before here = record { wrapper = before.wrapper; manifest = here; payload_fetch = before.payload_fetch; install = before.install; text = before.text }
put_lies end s keys.PayloadFetch content place before here = record { wrapper = before.wrapper; manifest = before.manifest; payload_fetch = here; install = before.install; text = before.text }
put_lies end s keys.Install content place before here = record { wrapper = before.wrapper; manifest = before.manifest; payload_fetch = before.payload_fetch; install = here; text = before.text }
put_lies end s keys.Text content place before here = record { wrapper = before.wrapper; manifest = before.manifest; payload_fetch = before.payload_fetch; install = before.install; text = here.string }
put_lies end s keys.Payload content place before here = before
put_lies end s keys.Unknown content place before here = before

-- ---- entries

-- an entry's value ends before a place, and is valid
record Ends (end levels : ℕ) (e : Entry) : Type 0 where
  inside : e.value_place + length (spell e.value) ≤ end
  valid : IsValidWithin levels e.value

put_value_lies : (end levels : ℕ) (s : EnvelopeSays) (key : Key) (place : ℕ) (x : DataItem) → PartsLie end s → place + length (spell x) ≤ end → IsValidWithin levels x → PartsLie end (put_value s key place x)
put_value_lies end levels s key place (ByteString content) before fits valid =
    put_lies end s key content (place + length (head_bytes 2 (length content))) before (record { inside = omega (arith, fits, length-append (head_bytes 2 (length content)) content); string = valid })
put_value_lies end levels s key place _ before fits valid = before

put_all_lies : (end levels : ℕ) (s : EnvelopeSays) (es : List Entry) → PartsLie end s → AllByRecursion (Ends end levels) es → PartsLie end (put_all s es)
put_all_lies end levels s [] before fits = before
put_all_lies end levels s (e ∷ es) before fits =
    put_all_lies end levels (put_value s (key_of e.key) e.value_place e.value) es (put_value_lies end levels s (key_of e.key) e.value_place e.value before fits.0.inside fits.0.valid) fits.1

entries_end : (end levels place : ℕ) (before : Option (List ℕ)) (ps : DataPairs) → place + length (spell_pairs ps) ≤ end → ArePairsWithin levels before ps → AllByRecursion (Ends end levels) (entries place ps)
entries_end end levels place before NoPairs fits valid = tt
entries_end end levels place before (PairThen key value ps) fits valid =
    let sum : length (spell_pairs (PairThen key value ps)) ≡ length (spell key) + (length (spell value) + length (spell_pairs ps)) =
    length-append (spell key) (spell value ++ spell_pairs ps) ∙ ap (λ (n : ℕ). length (spell key) + n) (length-append (spell value) (spell_pairs ps)) in
    (record { inside = omega (arith, sum); valid = valid.2 }, entries_end end levels (place + length (spell key) + length (spell value)) (Some (spell key)) ps (omega (arith, sum)) valid.3)

-- ---- the map ends where the item does

as_map_ends : (tagged : Bool) (place : ℕ) (y : DataItem) (m : EnvelopeMap) (end : ℕ) → place + length (spell y) ≤ end → as_map tagged place y ≡ Some m → m.place + length (spell (MapOf m.pairs)) ≤ end
as_map_ends tagged place (MapOf ps) m end fits is =
    let same : ◌≡◌ {A = EnvelopeMap} (record { tagged = tagged; place = place; pairs = ps }) m = cc in
    subst (λ (k : EnvelopeMap). k.place + length (spell (MapOf k.pairs)) ≤ end) same fits
as_map_ends tagged place _ m end fits is = absurd cc

tagged_ends : (b : Bool) (tag : ℕ) (y : DataItem) (m : EnvelopeMap)
    → (let u : Bool × ℕ × DataItem = cond b (true, 0 + length (head_bytes 6 tag), y) (false, 0, TaggedItem tag y) in as_map u.0 u.1 u.2 ≡ Some m)
    → m.place + length (spell (MapOf m.pairs)) ≤ length (spell (TaggedItem tag y))
tagged_ends true tag y m is = as_map_ends true (0 + length (head_bytes 6 tag)) y m (length (spell (TaggedItem tag y))) (omega (arith, length-append (head_bytes 6 tag) (spell y))) is
tagged_ends false tag y m is = absurd cc

map_ends : (x : DataItem) (m : EnvelopeMap) → envelope_map 0 x ≡ Some m → m.place + length (spell (MapOf m.pairs)) ≤ length (spell x)
map_ends (TaggedItem tag y) m is = tagged_ends (eqb tag 107) tag y m is
map_ends (MapOf ps) m is = as_map_ends false 0 (MapOf ps) m (length (spell (MapOf ps))) (omega arith) is
map_ends _ m is = absurd cc

parts_lie : (bytes : List ℕ) (said : EnvelopeSays) → EnvelopeOf bytes said → PartsLie (length bytes) said
parts_lie bytes said so =
    let is = so.says_so in
    let m = is.map in
    let fits = map_fits 0 0 so.item m so.spells.valid is.shape in
    let inside = map_ends so.item m is.shape in
    let whole : length bytes ≡ length (spell so.item) = ap length so.spells.is in
    let parts : length (spell (MapOf m.pairs)) ≡ length (head_bytes 5 (pair_count m.pairs)) + length (spell_pairs m.pairs) = length-append (head_bytes 5 (pair_count m.pairs)) (spell_pairs m.pairs) in
    let ends = entries_end (length bytes) fits.within (m.place + length (head_bytes 5 (pair_count m.pairs))) None m.pairs (omega arith) fits.valid in
    subst (PartsLie (length bytes)) (sym is.says) (put_all_lies (length bytes) fits.within (says_nothing m.tagged) (map_entries m) (nothing_lies (length bytes) m.tagged) ends)

-- ---- the laws

held_ends : (end limit : ℕ) (o : Option (List ℕ)) (place : ℕ) → end < limit → HeldLies end o place → EndsBelow limit o place
held_ends end limit None place fits lies = tt
held_ends end limit (Some content) place fits lies = let inside = lies.inside in omega arith

pub parts_end : (bytes : List ℕ) (said : EnvelopeSays) (limit : ℕ) → EnvelopeOf bytes said → length bytes < limit → PartsEndBelow limit said
parts_end bytes said limit so fits =
    let lie = parts_lie bytes said so in
    let wrapper = lie.wrapper.inside in
    let manifest = lie.manifest.inside in
    record {
      wrapper = omega arith;
      manifest = omega arith;
      members = record {
        payload_fetch = held_ends (length bytes) limit said.payload_fetch said.payload_fetch_place fits lie.payload_fetch;
        install = held_ends (length bytes) limit said.install said.install_place fits lie.install;
      };
    }

held_string : (end : ℕ) (o : Option (List ℕ)) (place : ℕ) → HeldLies end o place → IfSome o IsString
held_string end None place lies = tt
held_string end (Some content) place lies = lies.string

pub parts_are_strings : (bytes : List ℕ) (said : EnvelopeSays) → EnvelopeOf bytes said → PartsAreStrings said
parts_are_strings bytes said so =
    let lie = parts_lie bytes said so in
    record {
      wrapper = lie.wrapper.string;
      manifest = lie.manifest.string;
      payload_fetch = held_string (length bytes) said.payload_fetch said.payload_fetch_place lie.payload_fetch;
      install = held_string (length bytes) said.install said.install_place lie.install;
      text = lie.text;
    }
