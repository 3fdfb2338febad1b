-- Judging a manifest agrees with the grammar and the refusals.
use Rattle.std.proofs.Common.{◌≡◌, ℕ, ◌+◌, true, List, [], ◌∷◌, length, Some, Ok, Err, refl, ap, subst, ◌∙◌}
use Rattle.std.specs.List.{AllByRecursion}
use Rattle.det_cbor.specs.DataItem.{DataItem, IsValidWithin}
use Rattle.det_cbor.specs.HeadReading.{◌>>=◌}
use Rattle.det_cbor.specs.ResultLaws.{bind_ok, bind_err, same_ok}
use Rattle.suit_params.specs.declared.refusal.Refusal.{Refusal}
use Rattle.suit_params.specs.Refusing.{SaysHeld, RefusesHeld, Here, Later, RefusesFirst}
use Rattle.suit_params.specs.Judging.{judge_held}
use Rattle.suit_params.specs.JudgingLaws.{Judges}
use Rattle.suit_params.specs.HeldLaws.{held_judges}
use Rattle.suit_envelope.specs.Envelopes.{Entry, has_key, RefusesLack, LacksKey as Lack}
use Rattle.suit_manifest.specs.declared.manifest.Manifest.{Manifest}
use Rattle.suit_manifest.specs.Maps.{entries_of, IsKeyAmong, entry_under, SaysUnder}
use Rattle.suit_manifest.specs.Common.{IsCommon, RefusesCommon}
use Rattle.suit_manifest.specs.Manifests.{manifest_keys, required_keys, IsVersion, SaysNumber, common_said, IsManifest, RefusesVersion, RefusesNumber, RefusesManifestValues, BadVersion, BadNumber, BadCommon, BadLater, RefusesManifest}
use Rattle.suit_manifest.specs.MapReading.{needed, judge_at}
use Rattle.suit_manifest.specs.CommonReading.{judge_common}
use Rattle.suit_manifest.specs.ManifestJudging.{judge_number, judge_version, judge_later, manifest_of, judge_values, judge_manifest}
use Rattle.suit_manifest.proofs.CommonJudging.{common_judges}
use Rattle.suit_manifest.proofs.KeyedMaps.{map_ok, none_lacks_last, BadEntries, ItLacks, ItRefuses, map_err, map_refused}
use Rattle.suit_manifest.proofs.MapLaws.{known_again, none_lacks, some_has, lacks_none, has_some, needed_ok, needed_err, Fits, at_ok, at_err}
use Rattle.suit_manifest.proofs.ValueJudging.{number_judges, version_judges}
use Rattle.suit_manifest.proofs.LaterJudging.{LaterSay, later_ok, later_err, later_again, later_refused}

abbrev Known : List Entry → Type 0
Known es = AllByRecursion (IsKeyAmong manifest_keys) es

abbrev HasAll : List Entry → Type 0
HasAll es = AllByRecursion (λ n. has_key n es ≡ true) required_keys

abbrev Lacks : ℕ → List Entry → Refusal → Type 0
Lacks place es r = RefusesFirst (RefusesLack place es) (λ n. has_key n es ≡ true) required_keys r

held_common : Judges (judge_held judge_common) (SaysHeld IsCommon) (RefusesHeld RefusesCommon)
held_common = held_judges judge_common IsCommon RefusesCommon common_judges

record ValuesSay (es : List Entry) (said : Manifest) : Type 0 where
  version : SaysUnder 1 IsVersion es 1
  sequence : SaysUnder 2 SaysNumber es said.sequence
  common : SaysUnder 3 (SaysHeld IsCommon) es (common_said said)
  later : LaterSay (length said.components) es (record { reference = said.reference; validate = said.validate; load = said.load; invoke = said.invoke; payload_fetch = said.payload_fetch; install = said.install; text = said.text })

first_version : (es : List Entry) (v : ℕ) → SaysUnder 1 IsVersion es v → SaysUnder 1 IsVersion es 1
first_version es v so = subst (SaysUnder 1 IsVersion es) so.says_so.first so

values_ok : (levels place : ℕ) (es : List Entry) (said : Manifest) → AllByRecursion (Fits levels) es → judge_values place es ≡ Ok said → ValuesSay es said
values_ok levels place es said all e =
    bind_ok (needed place 1 (entry_under 1 es)) _ said e (λ a a-is e. bind_ok (needed place 2 (entry_under 2 es)) _ said e (λ b b-is e. bind_ok (needed place 3 (entry_under 3 es)) _ said e (λ c c-is e.
    bind_ok (judge_at judge_version a) _ said e (λ v v-is e. bind_ok (judge_at judge_number b) _ said e (λ n n-is e. bind_ok (judge_at (judge_held judge_common) c) _ said e (λ common common-is e.
    bind_ok (judge_later (length common.components) es) _ said e (λ later later-is e.
    subst (ValuesSay es) (same_ok _ said e) (record {
      version = first_version es v (at_ok judge_version IsVersion RefusesVersion version_judges levels 1 es a v all (needed_ok place 1 (entry_under 1 es) a a-is) v-is);
      sequence = at_ok judge_number SaysNumber RefusesNumber number_judges levels 2 es b n all (needed_ok place 2 (entry_under 2 es) b b-is) n-is;
      common = at_ok (judge_held judge_common) (SaysHeld IsCommon) (RefusesHeld RefusesCommon) held_common levels 3 es c common all (needed_ok place 3 (entry_under 3 es) c c-is) common-is;
      later = later_ok (length common.components) es levels all later later-is;
    }))))))))

-- if the version and the sequence number are good, the common part and what follows it decide
to_common : (place : ℕ) (es : List Entry) (n : ℕ) (c : Entry) → SaysUnder 1 IsVersion es 1 → SaysUnder 2 SaysNumber es n → entry_under 3 es ≡ Some c
    → judge_values place es ≡ (judge_at (judge_held judge_common) c >>= λ common. judge_later (length common.components) es >>= λ later. Ok (manifest_of n common later))
to_common place es n c version number there =
    rw (
      version.there,
      number.there,
      there,
      version_judges.again version.entry.value_place version.entry.value 1 version.says_so,
      number_judges.again number.entry.value_place number.entry.value n number.says_so,
    ) refl

values_again : (place : ℕ) (es : List Entry) (said : Manifest) → ValuesSay es said → judge_values place es ≡ Ok said
values_again place es said so =
    to_common place es said.sequence so.common.entry so.version so.sequence so.common.there
    ∙ rw (held_common.again so.common.entry.value_place so.common.entry.value (common_said said) so.common.says_so, later_again (length said.components) es _ so.later) refl

abbrev BadManifest : ℕ → List Entry → Refusal → Type 0
BadManifest = BadEntries required_keys RefusesManifestValues

values_err : (levels place : ℕ) (es : List Entry) (r : Refusal) → AllByRecursion (Fits levels) es → judge_values place es ≡ Err r → BadManifest place es r
values_err levels place es r all e =
    bind_err (needed place 1 (entry_under 1 es)) _ r e
    (λ f. let found = needed_err place 1 (entry_under 1 es) r f in subst (BadManifest place es) found.1 (ItLacks (Here 1 (2 ∷ 3 ∷ []) _ (Lack (none_lacks 1 es found.0)))))
    (λ a a-is e. let a_there = needed_ok place 1 (entry_under 1 es) a a-is in let one = some_has 1 es a a_there in
    bind_err (needed place 2 (entry_under 2 es)) _ r e
    (λ f. let found = needed_err place 2 (entry_under 2 es) r f in subst (BadManifest place es) found.1 (ItLacks (Later 1 (2 ∷ 3 ∷ []) _ one (Here 2 (3 ∷ []) _ (Lack (none_lacks 2 es found.0))))))
    (λ b b-is e. let b_there = needed_ok place 2 (entry_under 2 es) b b-is in let two = some_has 2 es b b_there in
    bind_err (needed place 3 (entry_under 3 es)) _ r e
    (λ f. let found = needed_err place 3 (entry_under 3 es) r f in subst (BadManifest place es) found.1 (ItLacks (Later 1 (2 ∷ 3 ∷ []) _ one (Later 2 (3 ∷ []) _ two (Here 3 [] _ (Lack (none_lacks 3 es found.0)))))))
    (λ c c-is e. let c_there = needed_ok place 3 (entry_under 3 es) c c-is in
    by_value a b c a_there b_there c_there (some_has 1 es a a_there) (some_has 2 es b b_there) (some_has 3 es c c_there) e)))
  where
    by_value : (a b c : Entry) → entry_under 1 es ≡ Some a → entry_under 2 es ≡ Some b → entry_under 3 es ≡ Some c → has_key 1 es ≡ true → has_key 2 es ≡ true → has_key 3 es ≡ true
        → (judge_at judge_version a >>= λ v. judge_at judge_number b >>= λ n. judge_at (judge_held judge_common) c >>= λ common. judge_later (length common.components) es >>= λ later. Ok (manifest_of n common later)) ≡ Err r → BadManifest place es r
    by_value a b c a_there b_there c_there one two three e =
        bind_err (judge_at judge_version a) _ r e
        (λ f. ItRefuses (one, (two, (three, tt))) (BadVersion (at_err judge_version IsVersion RefusesVersion version_judges levels 1 es a r all a_there f)))
        (λ v v-is e. let version = first_version es v (at_ok judge_version IsVersion RefusesVersion version_judges levels 1 es a v all a_there v-is) in
        bind_err (judge_at judge_number b) _ r e
        (λ f. ItRefuses (one, (two, (three, tt))) (BadNumber version (at_err judge_number SaysNumber RefusesNumber number_judges levels 2 es b r all b_there f)))
        (λ n n-is e. let number = at_ok judge_number SaysNumber RefusesNumber number_judges levels 2 es b n all b_there n-is in
        bind_err (judge_at (judge_held judge_common) c) _ r e
        (λ f. ItRefuses (one, (two, (three, tt))) (BadCommon n version number (at_err (judge_held judge_common) (SaysHeld IsCommon) (RefusesHeld RefusesCommon) held_common levels 3 es c r all c_there f)))
        (λ common common-is e. let said = at_ok (judge_held judge_common) (SaysHeld IsCommon) (RefusesHeld RefusesCommon) held_common levels 3 es c common all c_there common-is in
        bind_err (judge_later (length common.components) es) _ r e
        (λ f. ItRefuses (one, (two, (three, tt))) (BadLater n common version number said (later_err (length common.components) es levels all r f)))
        (λ later later-is e. absurd cc))))

values_refused : (place : ℕ) (es : List Entry) (r : Refusal) → HasAll es → RefusesManifestValues es r → judge_values place es ≡ Err r
values_refused place es r has (BadVersion bad) =
    let b = has_some 2 es has.1.0 in
    let c = has_some 3 es has.1.1.0 in
    rw (bad.there, b.1, c.1, version_judges.refuses bad.entry.value_place bad.entry.value r bad.refuses) refl
values_refused place es r has (BadNumber version bad) =
    let c = has_some 3 es has.1.1.0 in
    rw (version.there, bad.there, c.1, version_judges.again version.entry.value_place version.entry.value 1 version.says_so, number_judges.refuses bad.entry.value_place bad.entry.value r bad.refuses) refl
values_refused place es r has (BadCommon n version number bad) =
    to_common place es n bad.entry version number bad.there ∙ rw (held_common.refuses bad.entry.value_place bad.entry.value r bad.refuses) refl
values_refused place es r has (BadLater n common version number said bad) =
    to_common place es n said.entry version number said.there
    ∙ rw (held_common.again said.entry.value_place said.entry.value common said.says_so, later_refused (length common.components) es r bad) refl

lack_refused : (place : ℕ) (es : List Entry) (r : Refusal) → Lacks place es r → judge_values place es ≡ Err r
lack_refused place es r (Here n rest s (Lack lacks)) = rw (lacks_none 1 es lacks) refl
lack_refused place es r (Later n rest s one (Here n2 rest2 s2 (Lack lacks))) = let a = has_some 1 es one in rw (a.1, lacks_none 2 es lacks) refl
lack_refused place es r (Later n rest s one (Later n2 rest2 s2 two (Here n3 rest3 s3 (Lack lacks)))) =
    let a = has_some 1 es one in
    let b = has_some 2 es two in
    rw (a.1, b.1, lacks_none 3 es lacks) refl
lack_refused place es r (Later n rest s one (Later n2 rest2 s2 two (Later n3 rest3 s3 three after))) = none_lacks_last place es r after

-- ---- the map

manifest_ok : (levels place : ℕ) (x : DataItem) (said : Manifest) → IsValidWithin levels x → judge_manifest place x ≡ Ok said → IsManifest place x said
manifest_ok levels place x said valid e =
    let map = map_ok manifest_keys judge_values levels place x said valid e in
    let es = entries_of place map.pairs in
    let so = values_ok (levels + 1) place es said map.fit map.values in
    let complete : HasAll es = (some_has 1 es so.version.entry so.version.there, (some_has 2 es so.sequence.entry so.sequence.there, (some_has 3 es so.common.entry so.common.there, tt))) in
    record {
      map = record { pairs = map.pairs; is = map.is; known = map.known; complete = complete };
      version = so.version;
      sequence = so.sequence;
      common = so.common;
      reference = so.later.reference;
      validate = so.later.validate;
      load = so.later.load;
      invoke = so.later.invoke;
      payload_fetch = so.later.payload_fetch;
      install = so.later.install;
      text = so.later.text;
    }

manifest_again : (place : ℕ) (x : DataItem) (said : Manifest) → IsManifest place x said → judge_manifest place x ≡ Ok said
manifest_again place x said so =
    let es = entries_of place so.map.pairs in
    let later : LaterSay (length said.components) es (record { reference = said.reference; validate = said.validate; load = said.load; invoke = said.invoke; payload_fetch = said.payload_fetch; install = said.install; text = said.text }) =
    record { reference = so.reference; validate = so.validate; load = so.load; invoke = so.invoke; payload_fetch = so.payload_fetch; install = so.install; text = so.text } in
    ap (judge_manifest place) so.map.is ∙ rw (known_again manifest_keys es so.map.known) (values_again place es said (record { version = so.version; sequence = so.sequence; common = so.common; later = later }))

bad_refused : (place : ℕ) (es : List Entry) (r : Refusal) → BadManifest place es r → judge_values place es ≡ Err r
bad_refused place es r (ItLacks lacks) = lack_refused place es r lacks
bad_refused place es r (ItRefuses has bad) = values_refused place es r has bad

pub manifest_judges : Judges judge_manifest IsManifest RefusesManifest
manifest_judges = record { ok = manifest_ok; again = manifest_again; err = map_err manifest_keys required_keys judge_values RefusesManifestValues values_err; refuses = map_refused manifest_keys required_keys judge_values RefusesManifestValues bad_refused }
