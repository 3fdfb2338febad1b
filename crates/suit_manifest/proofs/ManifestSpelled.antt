-- How the maps of a manifest are spelled, piece by piece.
use Rattle.std.proofs.Common.{◌≡◌, ℕ, List, [], ◌++◌, ap, sym, ◌∙◌, append_assoc}
use Rattle.std.proofs.lemmas.List.{append-nil}
use Rattle.det_cbor.specs.Heads.{head_bytes}
use Rattle.det_cbor.specs.DataItem.{MapOf, DataPairs, pair_count, spell, spell_pairs}

-- a head and then the pairs were appended
pub map_written : (out l m : List ℕ) (n : ℕ) (ps : DataPairs) → n ≡ pair_count ps → l ≡ out ++ head_bytes 5 n → m ++ [] ≡ l ++ spell_pairs ps → m ≡ out ++ spell (MapOf ps)
map_written out l m n ps counted head rest =
    sym (append-nil m)
    ∙ rest
    ∙ ap (λ (k : List ℕ). k ++ spell_pairs ps) head
    ∙ append_assoc out (head_bytes 5 n) (spell_pairs ps)
    ∙ ap (λ (k : ℕ). out ++ (head_bytes 5 k ++ spell_pairs ps)) counted
