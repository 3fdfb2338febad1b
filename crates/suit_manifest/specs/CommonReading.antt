-- How the common part of a manifest is judged, and how it is read from an item that was judged before.
use Rattle.std.specs.Prelude.{ℕ, true, List, length, Result, Ok}
use Rattle.det_cbor.specs.DataItem.{DataItem, DataPairs}
use Rattle.det_cbor.specs.HeadReading.{◌>>=◌}
use Rattle.det_cbor.specs.Position.{Position}
use Rattle.suit_params.specs.declared.refusal.Refusal.{Refusal}
use Rattle.suit_params.specs.Judging.{judge_held}
use Rattle.suit_commands.specs.Allowed.{levels_inside}
use Rattle.suit_commands.specs.SequenceJudging.{judge_sequence}
use Rattle.suit_commands.specs.SequenceReading.{whole_sequence}
use Rattle.suit_commands.specs.Tree.{SequenceTree}
use Rattle.suit_envelope.specs.Envelopes.{Entry}
use Rattle.suit_params.specs.Reading.{map_from}
use Rattle.suit_manifest.specs.declared.common.CommonValues.{CommonValues}
use Rattle.suit_manifest.specs.declared.pairs.Pairs.{Pairs}
use Rattle.suit_manifest.specs.Maps.{entry_under}
use Rattle.suit_manifest.specs.Common.{CommonSays, common_keys}
use Rattle.suit_manifest.specs.Elements.{judge_map, held_at}
use Rattle.suit_manifest.specs.ComponentsJudging.{judge_components}
use Rattle.suit_manifest.specs.ComponentsReading.{components_at}
use Rattle.suit_manifest.specs.MapReading.{judge_keyed, needed, judge_at, may, take_from, end_from}

abbrev pub judge_shared : ℕ → ℕ → DataItem → Result SequenceTree Refusal
judge_shared count = judge_held (judge_sequence true count levels_inside)

-- the entries are judged once all keys are known
abbrev pub judge_common_values : ℕ → List Entry → Result CommonSays Refusal
judge_common_values place es =
    needed place 2 (entry_under 2 es) >>= λ a. judge_at judge_components a
    >>= λ ids. may (judge_at (judge_shared (length ids))) (entry_under 4 es)
    >>= λ shared. Ok (record { components = ids; shared = shared })

abbrev pub judge_common_pairs : ℕ → DataPairs → Result CommonSays Refusal
judge_common_pairs = judge_keyed common_keys judge_common_values

abbrev pub judge_common : ℕ → DataItem → Result CommonSays Refusal
judge_common = judge_map judge_common_pairs

-- ---- reading

abbrev pub shared_at : ℕ → Position → Result SequenceTree Refusal
shared_at count = held_at (whole_sequence true count levels_inside)

-- the values, in the order of their keys
abbrev pub common_found : Pairs → Result CommonValues Refusal
common_found s =
    take_from 2 s >>= λ components. take_from 4 components.1 >>= λ shared. end_from shared.1
    >>= λ _. Ok (record { components = components.0; shared = shared.0 })

-- the values of a map at this place
abbrev pub common_values_from : ℕ → CommonValues → Result CommonSays Refusal
common_values_from place v =
    needed place 2 v.components >>= λ a. components_at a
    >>= λ ids. may (shared_at (length ids)) v.shared
    >>= λ shared. Ok (record { components = ids; shared = shared })

abbrev pub common_pairs_from : ℕ → ℕ → Position → Result CommonSays Refusal
common_pairs_from place pairs p =
    common_found (record { map = p; left = pairs }) >>= common_values_from place

-- a whole item, read as the common part
abbrev pub common_at : Position → Result CommonSays Refusal
common_at p = map_from p >>= λ h. common_pairs_from p.place h.0 h.1
