-- The flaws of a description, and its components, do not depend on its files.
use Rattle.std.proofs.Common.{◌≡◌, ℕ, List, [], Bool, false, true, Option, Some, None, Result, Ok, Err, refl, ap, arith}
use Rattle.std.specs.Prelude.{is_some, unwrap_or, codes}
use Rattle.std.specs.Str.{bytes_eq}
use mathlib.Core.Logic.{∥∥₁_elim}
use Rattle.serde_json.specs.Data.{Data}
use Rattle.serde_json.specs.Find.{as_object}
use Rattle.json_fields.specs.declared.flaw.Flaw.{Flaw}
use Rattle.json_fields.specs.Objects.{required}
use Rattle.suit_commands.specs.Allowed.{levels_allowed}
use Rattle.author.specs.declared.fields.Fields.{Fields}
use Rattle.author.specs.declared.fields.Described.{Described}
use Rattle.author.specs.declared.payload_fields.PayloadField.{PayloadField}
use Rattle.author.specs.declared.severing.Severed.{Severed}
use Rattle.author.specs.declared.scope.Source.{Source}
use Rattle.author.specs.Members.{described_member}
use Rattle.author.specs.Payloads.{PayloadsSoFar, source_bytes, payload_of, takes_payload, payloads_of}
use Rattle.author.specs.Severing.{given_in, severed_of}
use Rattle.author.specs.Faults.{IsDescription}
use Rattle.author.specs.Descriptions.{count_in, no_fields, scope_of, field_sequence, takes_field, described}
use Rattle.author.proofs.Likes.{Like, BothRead, BothFlawed, Any, like_same, like_any, like_bind, like_then, like_if, like_object}
use Rattle.author.proofs.SameFlaws.{Files, scope_with}
use Rattle.author.proofs.SameSequences.{like_sequence}

module _ (f g : Files) where
  like_member : (count : ℕ) (d : Data) → Like Any (described_member (scope_with f false count) d) (described_member (scope_with g false count) d)
  like_member count d = like_if Any (is_some (as_object d)) _ _ _ _ (like_any _) (like_bind Any Any _ _ _ _ (like_sequence f g false count levels_allowed d) (λ x y h. BothRead _ _ tt))

  -- ---- payloads

  like_source : (file bytes : Option (List ℕ)) → Like Any (source_bytes f file bytes) (source_bytes g file bytes)
  like_source (Some name) None = BothRead _ _ tt
  like_source None (Some bytes) = BothRead _ _ tt
  like_source (Some name) (Some bytes) = BothFlawed _
  like_source None None = BothFlawed _

  like_payload : (d : Data) → Like Any (payload_of f d) (payload_of g d)
  like_payload d = like_then Any _ _ _ (λ (t : PayloadField). like_source t.file t.bytes)

  abbrev PayloadsLike : PayloadsSoFar → PayloadsSoFar → Type 0
  PayloadsLike t u = (t.files ≡ f) × (u.files ≡ g)

  like_payloads : (d : Data) → Like Any (payloads_of f d) (payloads_of g d)
  like_payloads d =
      like_bind PayloadsLike Any _ _ _ _
      (like_object PayloadsLike takes_payload takes_payload
      (λ t u k x h. like_bind Any PayloadsLike (payload_of t.files x) (payload_of u.files x) _ _ (rw (h.0, h.1) (like_payload x)) (λ p q e. BothRead _ _ h)) d _ _ (refl, refl))
      (λ x y h. BothRead _ _ tt)

  -- ---- fields

  module _ (count : ℕ) (given : Severed) where
    abbrev source_with : Files → Source
    source_with files = record { scope = record { files = files; shared = false; count = count }; given = given }

    abbrev FieldsLike : Fields → Fields → Type 0
    FieldsLike t u = (t.source ≡ source_with f) × (u.source ≡ source_with g) × (t.components ≡ u.components) × (t.sequence ≡ u.sequence)

    like_commands : (t u : Fields) (shared : Bool) (d : Data) → FieldsLike t u → Like Any (field_sequence t shared d) (field_sequence u shared d)
    like_commands t u shared d h = rw (h.0, h.1) (like_sequence f g shared count levels_allowed d)

    like_field : (t u : Fields) (k : List ℕ) (d : Data) → FieldsLike t u → Like FieldsLike (takes_field t k d) (takes_field u k d)
    like_field t u k d h =
        like_if FieldsLike (bytes_eq k (codes "sequence")) _ _ _ _ (like_then FieldsLike _ _ _ (λ n. BothRead _ _ (h.0, h.1, h.2, refl))) (
        like_if FieldsLike (bytes_eq k (codes "components")) _ _ _ _ (like_then FieldsLike _ _ _ (λ ids. BothRead _ _ (h.0, h.1, ap (λ (o : Option (List (List (List ℕ)))). Some (unwrap_or o ids)) h.2, h.3))) (
        like_if FieldsLike (bytes_eq k (codes "reference")) _ _ _ _ (like_then FieldsLike _ _ _ (λ text. BothRead _ _ h)) (
        like_if FieldsLike (bytes_eq k (codes "shared")) _ _ _ _ (like_bind Any FieldsLike _ _ _ _ (like_commands t u true d h) (λ x y e. BothRead _ _ h)) (
        like_if FieldsLike (bytes_eq k (codes "validate")) _ _ _ _ (like_bind Any FieldsLike _ _ _ _ (like_commands t u false d h) (λ x y e. BothRead _ _ h)) (
        like_if FieldsLike (bytes_eq k (codes "load")) _ _ _ _ (like_bind Any FieldsLike _ _ _ _ (like_commands t u false d h) (λ x y e. BothRead _ _ h)) (
        like_if FieldsLike (bytes_eq k (codes "invoke")) _ _ _ _ (like_bind Any FieldsLike _ _ _ _ (like_commands t u false d h) (λ x y e. BothRead _ _ h)) (
        like_if FieldsLike (bytes_eq k (codes "payload-fetch")) _ _ _ _ (like_bind Any FieldsLike (described_member (scope_of t false) d) (described_member (scope_of u false) d) _ _ (rw (h.0, h.1) (like_member count d)) (λ x y e. BothRead _ _ h)) (
        like_if FieldsLike (bytes_eq k (codes "install")) _ _ _ _ (like_bind Any FieldsLike (described_member (scope_of t false) d) (described_member (scope_of u false) d) _ _ (rw (h.0, h.1) (like_member count d)) (λ x y e. BothRead _ _ h)) (
        like_if FieldsLike (bytes_eq k (codes "text")) _ _ _ _ (like_then FieldsLike _ _ _ (λ m. BothRead _ _ h)) (
        like_if FieldsLike (bytes_eq k (codes "sever")) _ _ _ _ (like_bind Any FieldsLike (severed_of t.source.given d) (severed_of u.source.given d) _ _ (rw (h.0, h.1) (like_any _)) (λ x y e. BothRead _ _ h)) (
        like_if FieldsLike (bytes_eq k (codes "payloads")) _ _ _ _ (like_bind Any FieldsLike (payloads_of t.source.scope.files d) (payloads_of u.source.scope.files d) _ _ (rw (h.0, h.1) (like_payloads d)) (λ x y e. BothRead _ _ h)) (
        like_if FieldsLike (bytes_eq k (codes "kid")) _ _ _ _ (like_then FieldsLike _ _ _ (λ kid. BothRead _ _ h)) (
        like_if FieldsLike (bytes_eq k (codes "mac")) _ _ _ _ (like_then FieldsLike _ _ _ (λ mac. BothRead _ _ h)) (
        like_if FieldsLike (bytes_eq k (codes "algorithm")) _ _ _ _ (like_then FieldsLike _ _ _ (λ kind. BothRead _ _ h)) (BothFlawed _)))))))))))))))

abbrev pub SameComponents : Described → Described → Type 0
SameComponents p q = p.manifest.components ≡ q.manifest.components

pub like_described : (f g : Files) (d : Data) → Like SameComponents (described f d) (described g d)
like_described f g d =
    let R : Fields → Fields → Type 0 = FieldsLike f g (count_in d) (given_in d) in
    like_bind R SameComponents _ _ _ _
    (like_object R takes_field takes_field (λ t u k x h. like_field f g (count_in d) (given_in d) t u k x h) d (no_fields f d) (no_fields g d) (refl, refl, refl, refl))
    (λ t u h.
    like_bind (λ x y. x ≡ y) SameComponents (required (codes "components") t.components) (required (codes "components") u.components) _ _
    (rw h.2 (like_same (λ x y. x ≡ y) (λ x. refl) _))
    (λ ids other e. like_bind Any SameComponents (required (codes "sequence") t.sequence) (required (codes "sequence") u.sequence) _ _ (rw h.3 (like_any _)) (λ n m k. BothRead _ _ e)))

-- a description stays one with its files
abbrev was_read : Result Described Flaw → Bool
was_read (Ok p) = true
was_read (Err f) = false

not_like : (p : Described) (r : Result Described Flaw) (s : Result Described Flaw) (flaw : Flaw) → Like SameComponents r s → r ≡ Ok p → s ≡ Err flaw → ⊥
not_like p _ _ flaw (BothRead x y h) e k = let bad : true ≡ false = ap was_read k in grind arith
not_like p _ _ flaw (BothFlawed f) e k = let bad : false ≡ true = ap was_read e in grind arith

pub never_flawed : (d : Data) (files : Files) (flaw : Flaw) → ∥ IsDescription d ∥₁ → described files d ≡ Err flaw → ⊥
never_flawed d files flaw h e = ∥∥₁_elim h (λ x y. absurd x) (λ p. not_like p.said _ _ flaw (like_described [] files d) p.reads e)
