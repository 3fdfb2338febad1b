-- The payloads of a description ascend in the order of their keys' spellings.
use Rattle.std.proofs.Common.{◌≡◌, ℕ, List, [], None, Ok}
use Rattle.std.specs.Prelude.{codes}
use Rattle.std.specs.Str.{bytes_eq}
use Rattle.serde_json.specs.Data.{Data}
use Rattle.json_fields.specs.Objects.{required}
use Rattle.suit_envelope.specs.PayloadOrder.{AreAscending, PayloadOrderLaw}
use Rattle.author.specs.declared.fields.Described.{Described}
use Rattle.author.specs.declared.fields.Fields.{Fields}
use Rattle.author.specs.Payloads.{PayloadsSoFar, payload_of, takes_payload, payloads_of}
use Rattle.author.specs.Descriptions.{no_fields, takes_field, whole, described}
use Rattle.author.proofs.Keeps.{Holds, WasRead, WasFlawed, held, holds_bind, holds_then, holds_choice, holds_object}

abbrev Files : Type 0
Files = List (List ℕ × List ℕ)

abbrev SoFar : PayloadsSoFar → Type 0
SoFar t = AreAscending None t.list

payloads_ascend : PayloadOrderLaw → (files : Files) (d : Data) → Holds (AreAscending None) (payloads_of files d)
payloads_ascend put_ascends files d =
    holds_bind SoFar (AreAscending None) _ _
    (holds_object SoFar takes_payload (λ t k x h. holds_then SoFar (payload_of t.files x) _ (λ bytes. WasRead _ (put_ascends (k, bytes) t.list h))) d (record { files = files; list = [] }) tt)
    (λ t h. WasRead _ h)

abbrev Kept : Fields → Type 0
Kept t = AreAscending None t.payloads

field_keeps : PayloadOrderLaw → (t : Fields) (k : List ℕ) (d : Data) → Kept t → Holds Kept (takes_field t k d)
field_keeps law t k d h =
    holds_choice Kept (bytes_eq k (codes "sequence")) _ _ (λ _. holds_then Kept _ _ (λ x. WasRead _ h)) (λ _.
    holds_choice Kept (bytes_eq k (codes "components")) _ _ (λ _. holds_then Kept _ _ (λ x. WasRead _ h)) (λ _.
    holds_choice Kept (bytes_eq k (codes "reference")) _ _ (λ _. holds_then Kept _ _ (λ x. WasRead _ h)) (λ _.
    holds_choice Kept (bytes_eq k (codes "shared")) _ _ (λ _. holds_then Kept _ _ (λ x. WasRead _ h)) (λ _.
    holds_choice Kept (bytes_eq k (codes "validate")) _ _ (λ _. holds_then Kept _ _ (λ x. WasRead _ h)) (λ _.
    holds_choice Kept (bytes_eq k (codes "load")) _ _ (λ _. holds_then Kept _ _ (λ x. WasRead _ h)) (λ _.
    holds_choice Kept (bytes_eq k (codes "invoke")) _ _ (λ _. holds_then Kept _ _ (λ x. WasRead _ h)) (λ _.
    holds_choice Kept (bytes_eq k (codes "payload-fetch")) _ _ (λ _. holds_then Kept _ _ (λ x. WasRead _ h)) (λ _.
    holds_choice Kept (bytes_eq k (codes "install")) _ _ (λ _. holds_then Kept _ _ (λ x. WasRead _ h)) (λ _.
    holds_choice Kept (bytes_eq k (codes "text")) _ _ (λ _. holds_then Kept _ _ (λ x. WasRead _ h)) (λ _.
    holds_choice Kept (bytes_eq k (codes "sever")) _ _ (λ _. holds_then Kept _ _ (λ x. WasRead _ h)) (λ _.
    holds_choice Kept (bytes_eq k (codes "payloads")) _ _ (λ _. holds_bind (AreAscending None) Kept _ _ (payloads_ascend law t.source.scope.files d) (λ ps g. WasRead _ g)) (λ _.
    holds_choice Kept (bytes_eq k (codes "kid")) _ _ (λ _. holds_then Kept _ _ (λ x. WasRead _ h)) (λ _.
    holds_choice Kept (bytes_eq k (codes "mac")) _ _ (λ _. holds_then Kept _ _ (λ x. WasRead _ h)) (λ _.
    holds_choice Kept (bytes_eq k (codes "algorithm")) _ _ (λ _. holds_then Kept _ _ (λ x. WasRead _ h)) (λ _. WasFlawed _)))))))))))))))

described_ascend : PayloadOrderLaw → (files : Files) (d : Data) → Holds (λ (p : Described). AreAscending None p.payloads) (described files d)
described_ascend law files d =
    holds_bind Kept (λ (p : Described). AreAscending None p.payloads) _ _
    (holds_object Kept takes_field (field_keeps law) d (no_fields files d) tt)
    (λ t h.
    holds_then (λ (p : Described). AreAscending None p.payloads) (required (codes "components") t.components) _
    (λ ids. holds_then (λ (p : Described). AreAscending None p.payloads) (required (codes "sequence") t.sequence) _ (λ n. WasRead (whole t ids n) h)))

pub ascend : PayloadOrderLaw → (d : Data) (files : Files) (p : Described) → described files d ≡ Ok p → AreAscending None p.payloads
ascend law d files p e = held (λ (p : Described). AreAscending None p.payloads) (described files d) p (described_ascend law files d) e
