-- Judging the common part agrees with the grammar and the refusals.
use Rattle.std.proofs.Common.{◌≡◌, ℕ, ◌+◌, Bool, true, List, [], ◌∷◌, length, Result, Ok, Err, refl, ap, subst, ◌∙◌}
use Rattle.std.specs.List.{AllByRecursion}
use Rattle.det_cbor.specs.DataItem.{DataItem, IsValidWithin}
use Rattle.det_cbor.specs.HeadReading.{◌>>=◌}
use Rattle.det_cbor.specs.ResultLaws.{bind_ok, bind_err, same_ok, same_err}
use Rattle.suit_params.specs.declared.refusal.Refusal.{Refusal}
use Rattle.suit_params.specs.Refusing.{SaysHeld, RefusesHeld, Here, Later, RefusesFirst}
use Rattle.suit_params.specs.Judging.{judge_held}
use Rattle.suit_params.specs.JudgingLaws.{Judges}
use Rattle.suit_params.specs.HeldLaws.{held_judges}
use Rattle.suit_commands.specs.Sequences.{SaysSequence}
use Rattle.suit_commands.specs.SequenceFaults.{RefusesSequence}
use Rattle.suit_commands.specs.SequenceJudging.{judge_sequence}
use Rattle.suit_commands.specs.Tree.{SequenceTree}
use Rattle.suit_commands.proofs.SequenceJudging.{sequence_judges}
use Rattle.suit_envelope.specs.Envelopes.{Entry, has_key, RefusesLack, LacksKey as Lack}
use Rattle.suit_manifest.specs.Maps.{entries_of, IsKeyAmong, entry_under, SaysUnder, MaySayUnder}
use Rattle.suit_manifest.specs.Common.{CommonSays, common_keys, SaysShared, IsCommon, RefusesCommonValues, BadIdentifiers, BadShared, RefusesCommon}
use Rattle.suit_manifest.specs.Components.{IsComponents, RefusesComponents}
use Rattle.suit_manifest.specs.ComponentsJudging.{judge_components}
use Rattle.suit_manifest.specs.MapReading.{needed, judge_at, may}
use Rattle.suit_manifest.specs.CommonReading.{judge_shared, judge_common_values, judge_common}
use Rattle.suit_manifest.proofs.ComponentsJudging.{components_judge}
use Rattle.suit_manifest.proofs.KeyedMaps.{map_ok, none_lacks_last, BadEntries, ItLacks, ItRefuses, map_err, map_refused}
use Rattle.suit_manifest.proofs.MapLaws.{known_again, none_lacks, some_has, lacks_none, needed_ok, needed_err, Fits, at_ok, at_err, need_again, need_refused, may_ok, may_again, may_err, may_refused}

-- a byte string that holds a sequence, for this number of components
pub held_sequence_judges : (shared : Bool) (count : ℕ) → Judges (judge_held (judge_sequence shared count 7)) (SaysHeld (SaysSequence shared count 8)) (RefusesHeld (RefusesSequence shared count 8))
held_sequence_judges shared count = held_judges (judge_sequence shared count 7) (SaysSequence shared count 8) (RefusesSequence shared count 8) (sequence_judges shared count 7)

abbrev ShareSays : ℕ → ℕ → DataItem → SequenceTree → Type 0
ShareSays count = SaysHeld (SaysSequence true count 8)

abbrev ShareForm : ℕ → ℕ → DataItem → Refusal → Type 0
ShareForm count = RefusesHeld (RefusesSequence true count 8)

abbrev Known : List Entry → Type 0
Known es = AllByRecursion (IsKeyAmong common_keys) es

record ValuesSay (es : List Entry) (said : CommonSays) : Type 0 where
  components : SaysUnder 2 IsComponents es said.components
  shared : MaySayUnder 4 (SaysShared (length said.components)) es said.shared

values_ok : (levels place : ℕ) (es : List Entry) (said : CommonSays) → AllByRecursion (Fits levels) es → judge_common_values place es ≡ Ok said → ValuesSay es said
values_ok levels place es said all e =
    bind_ok (needed place 2 (entry_under 2 es)) _ said e (λ a a-is f. bind_ok (judge_at judge_components a) _ said f (λ ids ids-is g. bind_ok (may (judge_at (judge_shared (length ids))) (entry_under 4 es)) _ said g (λ shared shared-is h.
    subst (ValuesSay es) (same_ok _ said h) (record {
      components = at_ok judge_components IsComponents RefusesComponents components_judge levels 2 es a ids all (needed_ok place 2 (entry_under 2 es) a a-is) ids-is;
      shared = may_ok (judge_shared (length ids)) (ShareSays (length ids)) (ShareForm (length ids)) (held_sequence_judges true (length ids)) levels 4 es shared all shared-is;
    }))))

values_again : (place : ℕ) (es : List Entry) (said : CommonSays) → ValuesSay es said → judge_common_values place es ≡ Ok said
values_again place es said so =
    let ids = said.components in
    let first = need_again judge_components IsComponents RefusesComponents components_judge place 2 es ids so.components in
    let second = may_again (judge_shared (length ids)) (ShareSays (length ids)) (ShareForm (length ids)) (held_sequence_judges true (length ids)) 4 es said.shared so.shared in
    both (needed place 2 (entry_under 2 es)) ids first ∙ rw second refl
  where
    rest : List (List (List ℕ)) → Result CommonSays Refusal
    rest ids = may (judge_at (judge_shared (length ids))) (entry_under 4 es) >>= λ shared. Ok (record { components = ids; shared = shared })

    both : (r : Result Entry Refusal) (ids : List (List (List ℕ))) → (r >>= judge_at judge_components) ≡ Ok ids → (r >>= λ a. judge_at judge_components a >>= rest) ≡ rest ids
    both (Ok a) ids e = ap (λ (t : Result (List (List (List ℕ))) Refusal). t >>= rest) e
    both (Err r) ids e = absurd cc

abbrev BadCommon : ℕ → List Entry → Refusal → Type 0
BadCommon = BadEntries (2 ∷ []) RefusesCommonValues

values_err : (levels place : ℕ) (es : List Entry) (r : Refusal) → AllByRecursion (Fits levels) es → judge_common_values place es ≡ Err r → BadCommon place es r
values_err levels place es r all e =
    bind_err (needed place 2 (entry_under 2 es)) _ r e
    (λ f. let found = needed_err place 2 (entry_under 2 es) r f in subst (BadCommon place es) found.1 (ItLacks (Here 2 [] _ (Lack (none_lacks 2 es found.0)))))
    (λ a a-is f. let there = needed_ok place 2 (entry_under 2 es) a a-is in bind_err (judge_at judge_components a) _ r f
    (λ g. ItRefuses (some_has 2 es a there, tt) (BadIdentifiers (at_err judge_components IsComponents RefusesComponents components_judge levels 2 es a r all there g)))
    (λ ids ids-is g. bind_err (may (judge_at (judge_shared (length ids))) (entry_under 4 es)) _ r g
    (λ h. ItRefuses (some_has 2 es a there, tt) (BadShared ids (at_ok judge_components IsComponents RefusesComponents components_judge levels 2 es a ids all there ids-is)
    (may_err (judge_shared (length ids)) (ShareSays (length ids)) (ShareForm (length ids)) (held_sequence_judges true (length ids)) levels 4 es r all h)))
    (λ shared shared-is h. absurd cc)))

-- the identifiers have been judged, and what follows decides
after_ids : (place : ℕ) (es : List Entry) (z : Result CommonSays Refusal) (ids : List (List (List ℕ))) → (needed place 2 (entry_under 2 es) >>= judge_at judge_components) ≡ Ok ids
    → (may (judge_at (judge_shared (length ids))) (entry_under 4 es) >>= λ shared. Ok (record { components = ids; shared = shared })) ≡ z → judge_common_values place es ≡ z
after_ids place es z ids e f = both (needed place 2 (entry_under 2 es)) e ∙ f
  where
    rest : List (List (List ℕ)) → Result CommonSays Refusal
    rest ids = may (judge_at (judge_shared (length ids))) (entry_under 4 es) >>= λ shared. Ok (record { components = ids; shared = shared })

    both : (r : Result Entry Refusal) → (r >>= judge_at judge_components) ≡ Ok ids → (r >>= λ a. judge_at judge_components a >>= rest) ≡ rest ids
    both (Ok a) e = ap (λ (t : Result (List (List (List ℕ))) Refusal). t >>= rest) e
    both (Err r) e = absurd cc

values_refused : (place : ℕ) (es : List Entry) (r : Refusal) → RefusesCommonValues es r → judge_common_values place es ≡ Err r
values_refused place es r (BadIdentifiers bad) = by_need (needed place 2 (entry_under 2 es)) (need_refused judge_components IsComponents RefusesComponents components_judge place 2 es r bad)
  where
    rest : List (List (List ℕ)) → Result CommonSays Refusal
    rest ids = may (judge_at (judge_shared (length ids))) (entry_under 4 es) >>= λ shared. Ok (record { components = ids; shared = shared })

    by_need : (t : Result Entry Refusal) → (t >>= judge_at judge_components) ≡ Err r → (t >>= λ a. judge_at judge_components a >>= rest) ≡ Err r
    by_need (Ok a) e = ap (λ (u : Result (List (List (List ℕ))) Refusal). u >>= rest) e
    by_need (Err s) e = let same = same_err s r e in ap (λ (u : Refusal). Err u) same
values_refused place es r (BadShared ids so bad) =
    let first = need_again judge_components IsComponents RefusesComponents components_judge place 2 es ids so in
    let second = may_refused (judge_shared (length ids)) (ShareSays (length ids)) (ShareForm (length ids)) (held_sequence_judges true (length ids)) 4 es r bad in
    after_ids place es (Err r) ids first (rw second refl)

lack_refused : (place : ℕ) (es : List Entry) (r : Refusal) → RefusesFirst (RefusesLack place es) (λ n. has_key n es ≡ true) (2 ∷ []) r → judge_common_values place es ≡ Err r
lack_refused place es r (Here n rest s (Lack lacks)) = rw (lacks_none 2 es lacks) refl
lack_refused place es r (Later n rest s has later) = none_lacks_last place es r later

-- ---- the map

common_ok : (levels place : ℕ) (x : DataItem) (said : CommonSays) → IsValidWithin levels x → judge_common place x ≡ Ok said → IsCommon place x said
common_ok levels place x said valid e =
    let map = map_ok common_keys judge_common_values levels place x said valid e in
    let so = values_ok (levels + 1) place (entries_of place map.pairs) said map.fit map.values in
    let complete : AllByRecursion (λ n. has_key n (entries_of place map.pairs) ≡ true) (2 ∷ []) = (some_has 2 (entries_of place map.pairs) so.components.entry so.components.there, tt) in
    record { map = record { pairs = map.pairs; is = map.is; known = map.known; complete = complete }; components = so.components; shared = so.shared }

common_again : (place : ℕ) (x : DataItem) (said : CommonSays) → IsCommon place x said → judge_common place x ≡ Ok said
common_again place x said so =
    let es = entries_of place so.map.pairs in
    ap (judge_common place) so.map.is ∙ rw (known_again common_keys es so.map.known) (values_again place es said (record { components = so.components; shared = so.shared }))

bad_refused : (place : ℕ) (es : List Entry) (r : Refusal) → BadCommon place es r → judge_common_values place es ≡ Err r
bad_refused place es r (ItLacks lacks) = lack_refused place es r lacks
bad_refused place es r (ItRefuses has bad) = values_refused place es r bad

pub common_judges : Judges judge_common IsCommon RefusesCommon
common_judges = record { ok = common_ok; again = common_again; err = map_err common_keys (2 ∷ []) judge_common_values RefusesCommonValues values_err; refuses = map_refused common_keys (2 ∷ []) judge_common_values RefusesCommonValues bad_refused }
