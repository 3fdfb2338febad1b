-- The laws of descriptions.
use Rattle.std.proofs.Common.{◌≡◌, ◌<◌, ◌≤◌, ℕ, List, [], length, Result, Ok, Err, inl, inr, refl, ap, subst, arith}
use Rattle.std.proofs.lemmas.Bool.{cases_lt}
use mathlib.Core.Logic.{∥∥₁_elim}
use Rattle.det_cbor.specs.ItemSplitting.{ItemSplitting}
use Rattle.serde_json.specs.Data.{Data}
use Rattle.json_fields.specs.declared.flaw.Flaw.{Flaw}
use Rattle.suit_envelope.specs.PayloadOrder.{PayloadOrderLaw}
use Rattle.author.specs.declared.fields.Described.{Described}
use Rattle.author.specs.Descriptions.{described}
use Rattle.author.specs.DescriptionLaws.{DescriptionLaws}
use Rattle.author.specs.Faults.{AreFewAndApart, IsDescription}
use Rattle.author.proofs.DescriptionGrammar.{grammatical, members_allowed}
use Rattle.author.proofs.GivenPartProofs.{parts}
use Rattle.author.proofs.Likes.{Like, BothRead, BothFlawed}
use Rattle.author.proofs.PayloadsAscend.{ascend}
use Rattle.author.proofs.ReadOnce.{read_once}
use Rattle.author.proofs.SameFields.{SameComponents, like_described, never_flawed}

abbrev Files : Type 0
Files = List (List ℕ × List ℕ)

-- ---- independence from the files

abbrev BothSame : Result Described Flaw → Result Described Flaw → Type 0
BothSame (Ok p) (Ok q) = SameComponents p q
BothSame (Ok p) (Err f) = Unit {0}
BothSame (Err f) (Ok q) = Unit {0}
BothSame (Err f) (Err g) = Unit {0}

both_same : (r s : Result Described Flaw) → Like SameComponents r s → BothSame r s
both_same _ _ (BothRead p q h) = h
both_same _ _ (BothFlawed f) = tt

same_components : (d : Data) (f g : Files) (p q : Described) → described f d ≡ Ok p → described g d ≡ Ok q → p.manifest.components ≡ q.manifest.components
same_components d f g p q e k =
    subst (λ r. BothSame r (Ok q)) e (subst (λ s. BothSame (described f d) s) k (both_same (described f d) (described g d) (like_described f g d)))

at_most : (n : ℕ) → (8 < n → ⊥) → n ≤ 8
at_most n few = elim (cases_lt 8 n) [
  | inl more ↦ absurd (few more)
  | inr less ↦ less
]

-- its components are few and apart, with any files
pub few_apart : (d : Data) (files : Files) (p : Described) → ∥ IsDescription d ∥₁ → described files d ≡ Ok p → AreFewAndApart p.manifest.components
few_apart d files p h e = record {
  few = at_most (length p.manifest.components) (λ more. ∥∥₁_elim h (λ x y. absurd x) (λ k.
      let few : length k.said.manifest.components ≤ 8 = k.components.few in
      let same : length k.said.manifest.components ≡ length p.manifest.components = ap length (same_components d [] files k.said p k.reads e) in
      absurd (omega (arith, few, same, more))));
  apart = λ i j before inside is. ∥∥₁_elim h (λ x y. absurd x) (λ k.
      let same : AreFewAndApart p.manifest.components = subst AreFewAndApart (same_components d [] files k.said p k.reads e) k.components in
      same.apart i j before inside is);
}

-- an accepted value is a description
by_reading : (d : Data) → ∥ IsDescription d ∥₁ → (r : Result Described Flaw) → described [] d ≡ r → IsDescription d
by_reading d h (Ok p) e = record { said = p; reads = e; components = few_apart d [] p h e }
by_reading d h (Err flaw) e = absurd (never_flawed d [] flaw h e)

pub is_description : (d : Data) → ∥ IsDescription d ∥₁ → IsDescription d
is_description d h = by_reading d h (described [] d) refl

-- ---- the laws

some_said : (d : Data) (files : Files) → IsDescription d → (r : Result Described Flaw) → described files d ≡ r → (p : Described) × (described files d ≡ Ok p)
some_said d files h (Ok p) e = (p, e)
some_said d files h (Err flaw) e = absurd (never_flawed d files flaw ∣ h ∣₁ e)

pub laws : ItemSplitting → PayloadOrderLaw → DescriptionLaws
laws items payloads = record {
  some = λ d files h. some_said d files h (described files d) refl;
  grammatical = λ d files p h is. grammatical items d files p (few_apart d files p ∣ h ∣₁ is) is;
  members = λ d files p h is. members_allowed d files p (few_apart d files p ∣ h ∣₁ is) is;
  payloads = ascend payloads;
  once = read_once;
  parts = parts;
}
