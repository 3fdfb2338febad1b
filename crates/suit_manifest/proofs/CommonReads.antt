-- Reading the common part agrees with judging it.
use Rattle.std.proofs.Common.{◌≡◌, ℕ, ◌+◌, Bool, true, List, [], length, Option, None, Result, Ok, Err, refl, sym, ap, ◌∙◌, arith}
use Rattle.std.specs.Prelude.{option_map}
use Rattle.det_cbor.specs.DataItem.{MapOf, DataPairs, IsValidWithin}
use Rattle.det_cbor.specs.HeadReading.{◌>>=◌}
use Rattle.suit_params.specs.declared.refusal.Refusal.{Refusal}
use Rattle.suit_params.specs.Judging.{judge_held, judge_each}
use Rattle.suit_params.specs.HeldLaws.{ReadsAs}
use Rattle.suit_commands.specs.SequenceJudging.{judge_sequence}
use Rattle.suit_commands.specs.SequenceReading.{whole_sequence}
use Rattle.suit_commands.specs.Tree.{SequenceTree}
use Rattle.suit_commands.proofs.SequenceReads.{sequence_read}
use Rattle.suit_envelope.specs.Envelopes.{Entry}
use Rattle.suit_manifest.specs.Maps.{entries_of, entry_under}
use Rattle.suit_manifest.specs.Common.{CommonSays, common_keys}
use Rattle.suit_manifest.specs.Elements.{held_at}
use Rattle.suit_manifest.specs.ComponentsJudging.{judge_components}
use Rattle.suit_manifest.specs.ComponentsReading.{components_at}
use Rattle.suit_manifest.specs.MapReading.{judge_entry, judge_at, may, value_of}
use Rattle.suit_manifest.specs.CommonReading.{judge_shared, judge_common_values, judge_common, shared_at, common_found, common_values_from, common_at}
use Rattle.suit_manifest.specs.declared.common.CommonValues.{CommonValues}
use Rattle.suit_manifest.specs.ManifestLaws.{NumbersAscend}
use Rattle.suit_manifest.proofs.KeyNumbers.{ordered_within}
use Rattle.suit_manifest.proofs.PairsTaken.{AreLeft, take_read, end_read}
use Rattle.suit_manifest.proofs.Picked.{head_under, rest_after, left_over, ending, known_or_left, AllPicked, all_picked}
use Rattle.suit_manifest.proofs.RowsAgain.{KeysAscend}
use Rattle.suit_manifest.proofs.ComponentsReads.{components_read}
use Rattle.suit_manifest.proofs.KeyedMaps.{pairs_fit, all_pairs, keyed_read}
use Rattle.suit_manifest.proofs.MapLaws.{known_ok, may_read, need_read, held_reads}

-- a byte string that holds a sequence
pub held_sequence_reads : (shared : Bool) (count : ℕ) → ReadsAs (held_at (whole_sequence shared count 7)) (judge_held (judge_sequence shared count 7))
held_sequence_reads shared count = held_reads (whole_sequence shared count 7) (judge_sequence shared count 7) (λ p fits. sequence_read shared count 7 p fits)

-- the pairs of a map, before any was taken
pub all_left : (levels place : ℕ) (pairs : DataPairs) → IsValidWithin levels (MapOf pairs)
    → AreLeft (levels + 1) (entries_of place pairs) (all_pairs place pairs)
all_left levels place pairs valid = record { pairs = pairs; before = None; rest = []; valid = valid.2; bytes = refl; are = refl; count = refl }

abbrev pub given : {V : Type 0} → V → Result V Refusal
given v = Ok v

-- the values that are picked are those under the numbers, if all keys are known
pub picked_is : {V : Type 0} (keys : List ℕ) (es : List Entry) (picked looked : V) → KeysAscend 0 keys → NumbersAscend es → (AllPicked keys es es → picked ≡ looked)
    → (ending (left_over keys es) >>= λ _. given picked) ≡ (judge_each (judge_entry keys) es >>= λ _. given looked)
picked_is {V} keys es picked looked up ascend same =
    ap (λ (r : Result Unit Refusal). r >>= λ _. given picked) (sym (known_or_left keys 0 es up ascend)) ∙ by_judge (judge_each (judge_entry keys) es) refl
  where
    by_judge : (r : Result Unit Refusal) → judge_each (judge_entry keys) es ≡ r → (r >>= λ _. given picked) ≡ (r >>= λ _. given looked)
    by_judge (Ok done) is =
        let known = known_ok keys es is in
        ap (λ (v : V). given v) (same (all_picked keys 0 es es up ascend known (λ n among. refl)))
    by_judge (Err r) is = refl

-- ---- the values of the common part

abbrev looked : List Entry → CommonValues
looked es = record { components = option_map value_of (entry_under 2 es); shared = option_map value_of (entry_under 4 es) }

found_read : (levels place : ℕ) (pairs : DataPairs) → IsValidWithin levels (MapOf pairs)
    → common_found (all_pairs place pairs) ≡ (judge_each (judge_entry common_keys) (entries_of place pairs) >>= λ _. Ok (looked (entries_of place pairs)))
found_read levels place pairs valid =
    let es = entries_of place pairs in
    let a = take_read 2 (levels + 1) es (all_pairs place pairs) (all_left levels place pairs valid) in
    let b = take_read 4 (levels + 1) (rest_after 2 es) a.next a.left in
    let picked : CommonValues = record { components = option_map value_of (head_under 2 es); shared = option_map value_of (head_under 4 (rest_after 2 es)) } in
    let last = picked_is common_keys es picked (looked es) (omega arith, (omega arith, tt)) (ordered_within levels place pairs valid)
    (λ all i. record { components = option_map value_of (all.0 i); shared = option_map value_of (all.1.0 i) }) in
    rw (a.is, b.is, end_read (levels + 1) (rest_after 4 (rest_after 2 es)) b.next b.left) last

abbrev with_shared : List (List (List ℕ)) → Option SequenceTree → Result CommonSays Refusal
with_shared ids shared = Ok (record { components = ids; shared = shared })

values_read : (levels place : ℕ) (pairs : DataPairs) → IsValidWithin levels (MapOf pairs) → common_values_from place (looked (entries_of place pairs)) ≡ judge_common_values place (entries_of place pairs)
values_read levels place pairs valid =
    let es = entries_of place pairs in
    let all = pairs_fit levels place pairs valid in
    need_read components_at judge_components components_read (levels + 1) place 2 es
    (λ ids. may (shared_at (length ids)) (option_map value_of (entry_under 4 es)) >>= λ shared. Ok (record { components = ids; shared = shared }))
    (λ ids. may (judge_at (judge_shared (length ids))) (entry_under 4 es) >>= λ shared. Ok (record { components = ids; shared = shared })) all
    (λ ids. ap (λ (r : Result (Option SequenceTree) Refusal). r >>= with_shared ids)
    (may_read (shared_at (length ids)) (judge_shared (length ids)) (held_sequence_reads true (length ids)) (levels + 1) 4 es all))

pub common_read : ReadsAs common_at judge_common
common_read = keyed_read common_keys judge_common_values common_found looked common_values_from found_read values_read
