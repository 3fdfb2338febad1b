-- Events that follow others after which the same matches stand.
use Rattle.std.proofs.Common.{◌≡◌, ℕ, List, [], ◌∷◌, ◌++◌, Option, Some, None, sym, ap, subst, ◌∙◌, append_assoc, ⊎_elim}
use Rattle.std.proofs.lemmas.List.{append-nil}
use Rattle.suit_params.specs.declared.digest.Digest.{Digest}
use Rattle.path_model.specs.declared.event.Event.{Event}
use Rattle.path_model.specs.declared.event.Event.TheVariants.{Set, Tried, Matched, Missed, Wrote, Invoked, Failed}
use Rattle.path_model.specs.Safe.{HasMatched, IsCovered}
use Rattle.path_model.specs.Following.{CoveredFrom, SameMatches}
use Rattle.path_model.proofs.Covering.{HasMatched-append, CoveredFrom-append}
use Rattle.path_model.proofs.CoverLaws.{match_stands, matched_after}

pub same_matches : (a : List Event) → SameMatches a a
same_matches a c d s = (λ h. h, λ h. h)

pub same_trans : (a b z : List Event) → SameMatches a b → SameMatches b z → SameMatches a z
same_trans a b z p q c d s = (λ h. (q c d s).0 ((p c d s).0 h), λ h. (p c d s).1 ((q c d s).1 h))

still : (a b : List Event) (e : Event) (c : ℕ) (d : Digest) (s : Option ℕ) → (HasMatched a c d s → HasMatched b c d s) → HasMatched (a ++ e ∷ []) c d s → HasMatched (b ++ e ∷ []) c d s
still a b e c d s same h =
    ⊎_elim
    (λ is. subst (λ (x : Event). HasMatched (b ++ x ∷ []) c d s) (sym is) (match_stands b c d s))
    (λ x. HasMatched-append b (e ∷ []) c d s (x.1, tt) (same x.0))
    (matched_after a e c d s h)

pub same_after : (a b : List Event) (e : Event) → SameMatches a b → SameMatches (a ++ e ∷ []) (b ++ e ∷ [])
same_after a b e p c d s = (still a b e c d s (p c d s).0, still b a e c d s (p c d s).1)

pub same_append : (a b es : List Event) → SameMatches a b → SameMatches (a ++ es) (b ++ es)
same_append a b [] p = subst (λ (x : List Event). SameMatches x (b ++ [])) (sym (append-nil a)) (subst (SameMatches a) (sym (append-nil b)) p)
same_append a b (e ∷ es) p =
    let later : SameMatches ((a ++ e ∷ []) ++ es) ((b ++ e ∷ []) ++ es) = same_append (a ++ e ∷ []) (b ++ e ∷ []) es (same_after a b e p) in
    subst (λ (x : List Event). SameMatches x (b ++ e ∷ es)) (append_assoc a (e ∷ []) es) (subst (SameMatches ((a ++ e ∷ []) ++ es)) (append_assoc b (e ∷ []) es) later)

covered_same : (a b : List Event) (e : Event) → SameMatches a b → IsCovered a e → IsCovered b e
covered_same a b (Set c p) same h = h
covered_same a b (Tried c k p) same h = h
covered_same a b (Matched c d s) same h = h
covered_same a b (Missed c) same h = h
covered_same a b (Wrote c) same h = h
covered_same a b (Invoked c None s p) same h = h
covered_same a b (Invoked c (Some d) s p) same h = (same c d s).0 h
covered_same a b (Failed p) same h = h

pub CoveredFrom-same : (a b es : List Event) → SameMatches a b → CoveredFrom a es → CoveredFrom b es
CoveredFrom-same a b [] same h = tt
CoveredFrom-same a b (e ∷ es) same h = (covered_same a b e same h.0, CoveredFrom-same (a ++ e ∷ []) (b ++ e ∷ []) es (same_after a b e same) h.1)

-- ---- a history, what came after it, and what came after that

pub joined : (before mid es fs all : List Event) → mid ≡ before ++ es → all ≡ mid ++ fs → all ≡ before ++ (es ++ fs)
joined before mid es fs all p q = q ∙ ap (λ (x : List Event). x ++ fs) p ∙ append_assoc before es fs

pub CoveredFrom-joined : (before mid es fs : List Event) → mid ≡ before ++ es → CoveredFrom before es → CoveredFrom mid fs → CoveredFrom before (es ++ fs)
CoveredFrom-joined before mid es fs p a b = CoveredFrom-append before es fs a (subst (λ (x : List Event). CoveredFrom x fs) p b)

pub same_joined : (kept before es fs last : List Event) → SameMatches kept (before ++ es) → SameMatches last (kept ++ fs) → SameMatches last (before ++ (es ++ fs))
same_joined kept before es fs last p q =
    subst (SameMatches last) (append_assoc before es fs) (same_trans last (kept ++ fs) ((before ++ es) ++ fs) q (same_append kept (before ++ es) fs p))
