-- The pieces of the MAC structure make up the structure.
use Rattle.std.proofs.Common.{◌≡◌, ℕ, List, ◌++◌, ◌∷◌, [], append_assoc}
use Rattle.std.proofs.lemmas.List.{append-nil}
use Rattle.std.specs.Prelude.{codes}
use Rattle.det_cbor.specs.Heads.{head_bytes}

pub fed : (protected payload : List ℕ) →
    132 ∷ 100 ∷ 77 ∷ 65 ∷ 67 ∷ 48 ∷ (protected ++ 64 ∷ [] ++ payload) ≡ head_bytes 4 4 ++ (head_bytes 3 4 ++ codes "MAC0" ++ (protected ++ (head_bytes 2 0 ++ [] ++ (payload ++ []))))
unfolding head_bytes
fed protected payload = simp (append_assoc, append-nil)
