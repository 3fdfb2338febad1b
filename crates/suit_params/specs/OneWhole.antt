-- Any bytes say exactly one thing of a form, or have exactly one refusal.
use Rattle.std.specs.Prelude.{◌≡◌, ◌⊎◌, ℕ, List}
use Rattle.std.specs.List.{AllByRecursion}
use Rattle.det_cbor.specs.DataItem.{IsByte}
use Rattle.suit_params.specs.declared.refusal.Refusal.{Refusal}
use Rattle.suit_params.specs.Refusing.{Refuses, Says, RefusesWhole, SaysWhole}

-- the bytes as a whole say exactly one thing, and have no refusal
pub record SaysJustOne {A : Type 0} (says : Says A) (form : Refuses) (place : ℕ) (bytes : List ℕ)
    : Type 0 where
  pub said : A
  pub whole : SaysWhole says place bytes said
  pub only : (a : A) → SaysWhole says place bytes a → a ≡ said
  pub sound : (r : Refusal) → RefusesWhole form place bytes r → ⊥

-- the bytes have exactly one refusal, and say nothing
pub record RefusesJustOnce {A : Type 0} (says : Says A) (form : Refuses) (place : ℕ)
    (bytes : List ℕ) : Type 0 where
  pub refusal : Refusal
  pub refuses : RefusesWhole form place bytes refusal
  pub only : (r : Refusal) → RefusesWhole form place bytes r → r ≡ refusal
  pub empty : (a : A) → SaysWhole says place bytes a → ⊥

-- this is so for all bytes, at any place
abbrev pub HasOneAnswer : {A : Type 0} → Says A → Refuses → Type 0
HasOneAnswer says form =
    (place : ℕ) (bytes : List ℕ) → AllByRecursion IsByte bytes
    → SaysJustOne says form place bytes ⊎ RefusesJustOnce says form place bytes
