-- An envelope has one list of payloads, and a play one outcome.
use Rattle.std.proofs.Common.{◌≡◌, ℕ, List, [], ◌++◌, sym, ◌∙◌, ap}
use Rattle.std.proofs.lemmas.Option.{same_Some}
use Rattle.det_cbor.specs.DataItem.{DataItem}
use Rattle.det_cbor.proofs.OneSpelling.{one_spelling}
use Rattle.suit_envelope.specs.Envelopes.{EnvelopeMap, envelope_map, map_entries}
use Rattle.suit_envelope.specs.Payloads.{HasPayloads, integrated_payloads}

pub one_list : (bytes : List ℕ) (x y : List (List ℕ × List ℕ)) → HasPayloads bytes x → HasPayloads bytes y → y ≡ x
one_list bytes x y a b =
    let item : b.envelope.item ≡ a.envelope.item = (one_spelling 0 0 b.envelope.item a.envelope.item [] [] b.envelope.spells.valid a.envelope.spells.valid
    (ap (λ (l : List ℕ). l ++ []) (sym b.envelope.spells.is ∙ a.envelope.spells.is))).0 in
    let map : b.envelope.says_so.map ≡ a.envelope.says_so.map = same_Some _ _ (sym b.envelope.says_so.shape ∙ ap (λ (i : DataItem). envelope_map 0 i) item ∙ a.envelope.says_so.shape) in
    b.are ∙ ap (λ (m : EnvelopeMap). integrated_payloads (map_entries m)) map ∙ sym a.are
