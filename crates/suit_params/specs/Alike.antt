-- Things with the same component identifier (draft-ietf-suit-manifest-25, section 8.4.5).
use Rattle.std.specs.Prelude.{◌≡◌, ◌≢◌, ◌<◌, ℕ, List, length, slice_index_or, Option, MatchOption}

-- the things at the two indices have the same identifier
abbrev pub HaveOneId : {T : Type 0} → (T → List (List ℕ)) → List T → ℕ → ℕ → Type 0
HaveOneId {T = T} id all i j = (d : T) → id (slice_index_or all i d) ≡ id (slice_index_or all j d)

-- they have different identifiers
abbrev pub HaveOtherIds : {T : Type 0} → (T → List (List ℕ)) → List T → ℕ → ℕ → Type 0
HaveOtherIds {T = T} id all i j =
    (d : T) → id (slice_index_or all i d) ≢ id (slice_index_or all j d)

-- no thing before the last one has its identifier
abbrev pub HasNoLike : {T : Type 0} → (T → List (List ℕ)) → List T → ℕ → Type 0
HasNoLike id all last = (k : ℕ) → k < last → HaveOtherIds id all k last

-- this is the first thing before the last one that has its identifier
pub record IsFirstLike {T : Type 0} (id : T → List (List ℕ)) (all : List T) (last first : ℕ)
    : Type 0 where
  pub below : first < last
  pub same : HaveOneId id all first last
  pub least : (k : ℕ) → k < first → HaveOtherIds id all k last

-- the first two with the same identifier: the second is as low as possible, and then the first
pub record IsFirstAlike {T : Type 0} (id : T → List (List ℕ)) (all : List T) (i j : ℕ)
    : Type 0 where
  pub inside : j < length all
  pub first : IsFirstLike id all j i
  pub least : (k l : ℕ) → k < l → l < j → HaveOtherIds id all k l

-- no two things have the same identifier
abbrev pub HaveNoneAlike : {T : Type 0} → (T → List (List ℕ)) → List T → Type 0
HaveNoneAlike id all = (i j : ℕ) → i < j → j < length all → HaveOtherIds id all i j

-- what a search for two with the same identifier answers
abbrev pub TellsAlike : {T : Type 0} → (T → List (List ℕ)) → List T → Option (ℕ × ℕ) → Type 0
TellsAlike id all answer =
    MatchOption answer (HaveNoneAlike id all) (λ p. IsFirstAlike id all p.0 p.1)
