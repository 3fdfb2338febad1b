-- How a map of parameters is spelled, piece by piece.
use Rattle.std.proofs.Common.{◌≡◌, ◌<◌, ◌^◌, ℕ, List, ◌++◌, length, refl, ap, ◌∙◌, append_assoc}
use Rattle.std.specs.List.{AllByRecursion}
use Rattle.det_cbor.specs.Heads.{head_bytes}
use Rattle.det_cbor.specs.DataItem.{pair_count, spell, spell_pairs}
use Rattle.suit_params.specs.declared.param.Param.{Param}
use Rattle.suit_params.specs.ParamMaking.{param_pairs, params_item, IsParam}
use Rattle.suit_params.specs.ParamWriting.{IsWritten}
use Rattle.suit_params.proofs.ParamWritten.{params_counted, written_says, written_valid}

pub is_written : (ps : List Param) → length ps < 2 ^ 64 → AllByRecursion IsParam ps → IsWritten ps
is_written ps few all count place below ascending =
    record {
      item = params_item ps;
      spells = record { valid = written_valid ps few all ascending; is = refl };
      says_so = written_says count place ps all below;
    }

-- the head of a map and its pairs
pub params_spelled : (out : List ℕ) (n : ℕ) (ps : List Param) → n ≡ length ps → (out ++ head_bytes 5 n) ++ spell_pairs (param_pairs ps) ≡ out ++ spell (params_item ps)
params_spelled out n ps is =
    let count : n ≡ pair_count (param_pairs ps) = is ∙ params_counted ps in
    append_assoc out (head_bytes 5 n) (spell_pairs (param_pairs ps)) ∙ ap (λ (k : ℕ). out ++ (head_bytes 5 k ++ spell_pairs (param_pairs ps))) count

-- ---- pieces that were appended one after another

pub after_two : (out a b l m : List ℕ) → l ≡ out ++ a → m ≡ l ++ b → m ≡ (out ++ a) ++ b
after_two out a b l m e f = f ∙ ap (λ (k : List ℕ). k ++ b) e

pub after_three : (out a b d l m n : List ℕ) → l ≡ out ++ a → m ≡ l ++ b → n ≡ m ++ d → n ≡ ((out ++ a) ++ b) ++ d
after_three out a b d l m n e f g = g ∙ ap (λ (k : List ℕ). k ++ d) (after_two out a b l m e f)
