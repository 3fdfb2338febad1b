-- Judging a parameter's value agrees with the grammar and the refusals.
use Rattle.std.proofs.Common.{◌≡◌, ℕ, Bool, true, false, cond, eqb, ltb, List, length, Result, Ok, Err, refl, subst}
use Rattle.std.proofs.lemmas.Bool.{eqb-true, eqb-false, ne_eqb, lt-ltb, le-ltb, ltb-true, ltb-false}
use Rattle.det_cbor.specs.DataItem.{DataItem, UnsignedInteger, ByteString, TextString, Boolean, IsValidWithin}
use Rattle.det_cbor.specs.HeadReading.{◌>>=◌}
use Rattle.det_cbor.specs.ResultLaws.{same_ok, same_err}
use Rattle.det_cbor.specs.ArgumentLaws.{IsBytes, bytes_of_all}
use Rattle.suit_params.specs.declared.digest.Digest.{Digest}
use Rattle.suit_params.specs.declared.param.Param.{Param}
use Rattle.suit_params.specs.declared.param.Param.TheVariants as params
use Rattle.suit_params.specs.declared.param.ParamKey.{ParamKey}
use Rattle.suit_params.specs.declared.param.ParamKey.TheVariants as keys
use Rattle.suit_params.specs.declared.refusal.Refusal.{Refusal}
use Rattle.suit_params.specs.declared.refusal.Why.TheVariants.{BadParam, BadIndex}
use Rattle.suit_params.specs.Refusing.{refused, content_place}
use Rattle.suit_params.specs.Judging.{judge_digest}
use Rattle.suit_params.specs.Digests.{IsDigest, RefusesDigest}
use Rattle.suit_params.specs.Params.{SaysValue, SaysVendor, SaysClass, SaysDevice, SaysDigest, SaysSlot, SaysStrict, SaysSoft, SaysSize, SaysContent, SaysUri, SaysSource, SaysArgs, IsOfKind, RefusesValue, OtherKind, BadDigest, NoComponent}
use Rattle.suit_params.specs.ParamJudging.{judge_id, judge_index, judge_content, judge_value}
use Rattle.suit_params.specs.JudgingLaws.{whole_ok, whole_err, whole_read, whole_refused}
use Rattle.suit_params.proofs.DigestAnswers.{digest_judges}

-- ---- judging

-- a result is what the item says, or its refusal
data Judged (count place : ℕ) (key : ParamKey) (x : DataItem) : Result Param Refusal → Type 0 where
  Said : (p : Param) → SaysValue count place key x p → Judged count place key x (Ok p)
  Bad : (r : Refusal) → RefusesValue count place key x r → Judged count place key x (Err r)

-- byte strings whose length makes them identifiers
id_judged : (count place : ℕ) (key : ParamKey) (id : List ℕ) (make : List ℕ → Param) → (length id ≡ 16 → SaysValue count place key (ByteString id) (make id))
    → ((length id ≡ 16 → ⊥) → IsOfKind key (ByteString id) → ⊥) → Judged count place key (ByteString id) (judge_id place (ByteString id) >>= λ v. Ok (make v))
id_judged count place key id make says other = by_length (eqb (length id) 16) refl
  where
    by_length : (t : Bool) → eqb (length id) 16 ≡ t → Judged count place key (ByteString id) (cond {A = Result (List ℕ) Refusal} t (Ok id) (Err (refused place BadParam)) >>= λ v. Ok (make v))
    by_length true is = Said (make id) (says (eqb-true _ _ is))
    by_length false is = Bad (refused place BadParam) (OtherKind key (ByteString id) (other (eqb-false _ _ is)))

source_judged : (count place i : ℕ) → Judged count place keys.Source (UnsignedInteger i) (judge_index count place i >>= λ j. Ok (params.Source j))
source_judged count place i = by_count (ltb i count) refl
  where
    by_count : (t : Bool) → ltb i count ≡ t → Judged count place keys.Source (UnsignedInteger i) (cond {A = Result ℕ Refusal} t (Ok i) (Err (refused place (BadIndex i count))) >>= λ j. Ok (params.Source j))
    by_count true is = Said (params.Source i) (SaysSource i (ltb-true i count is))
    by_count false is = Bad (refused place (BadIndex i count)) (NoComponent i (ltb-false i count is))

digest_judged : (count place : ℕ) (content : List ℕ) → IsBytes content → Judged count place keys.Digest (ByteString content) (judge_content place content >>= λ d. Ok (params.Digest d))
digest_judged count place content fits = by_answer (judge_content place content) refl
  where
    by_answer : (a : Result Digest Refusal) → judge_content place content ≡ a → Judged count place keys.Digest (ByteString content) (a >>= λ d. Ok (params.Digest d))
    by_answer (Ok d) is = Said (params.Digest d) (SaysDigest content d (whole_ok judge_digest IsDigest RefusesDigest digest_judges (content_place place content) content d fits is))
    by_answer (Err r) is = Bad r (BadDigest content r (whole_err judge_digest IsDigest RefusesDigest digest_judges (content_place place content) content r fits is))

judged : (count : ℕ) (key : ParamKey) (levels place : ℕ) (x : DataItem) → IsValidWithin levels x → Judged count place key x (judge_value count key place x)
judged count keys.Vendor levels place (ByteString id) valid = id_judged count place keys.Vendor id (λ v. params.Vendor v) (SaysVendor id) (λ no. no)
judged count keys.Class levels place (ByteString id) valid = id_judged count place keys.Class id (λ v. params.Class v) (SaysClass id) (λ no. no)
judged count keys.Device levels place (ByteString id) valid = id_judged count place keys.Device id (λ v. params.Device v) (SaysDevice id) (λ no. no)
judged count keys.Digest levels place (ByteString content) valid = digest_judged count place content (bytes_of_all content valid.1)
judged count keys.Slot levels place (UnsignedInteger n) valid = Said (params.Slot n) (SaysSlot n)
judged count keys.Strict levels place (Boolean b) valid = Said (params.Strict b) (SaysStrict b)
judged count keys.Soft levels place (Boolean b) valid = Said (params.Soft b) (SaysSoft b)
judged count keys.Size levels place (UnsignedInteger n) valid = Said (params.Size n) (SaysSize n)
judged count keys.Content levels place (ByteString bytes) valid = Said (params.Content bytes) (SaysContent bytes)
judged count keys.Uri levels place (TextString text) valid = Said (params.Uri text) (SaysUri text)
judged count keys.Source levels place (UnsignedInteger i) valid = source_judged count place i
judged count keys.Args levels place (ByteString bytes) valid = Said (params.Args bytes) (SaysArgs bytes)
judged count key levels place x valid = Bad (refused place BadParam) (OtherKind key x (λ no. no))

pub value_ok : (count : ℕ) (key : ParamKey) (levels place : ℕ) (x : DataItem) (p : Param) → IsValidWithin levels x → judge_value count key place x ≡ Ok p → SaysValue count place key x p
value_ok count key levels place x p valid e = by_answer (judge_value count key place x) (judged count key levels place x valid) e
  where
    by_answer : (a : Result Param Refusal) → Judged count place key x a → a ≡ Ok p → SaysValue count place key x p
    by_answer a (Said q says) e = subst (SaysValue count place key x) (same_ok q p e) says
    by_answer a (Bad r refuses) e = absurd cc

pub value_err : (count : ℕ) (key : ParamKey) (levels place : ℕ) (x : DataItem) (r : Refusal) → IsValidWithin levels x → judge_value count key place x ≡ Err r → RefusesValue count place key x r
value_err count key levels place x r valid e = by_answer (judge_value count key place x) (judged count key levels place x valid) e
  where
    by_answer : (a : Result Param Refusal) → Judged count place key x a → a ≡ Err r → RefusesValue count place key x r
    by_answer a (Said q says) e = absurd cc
    by_answer a (Bad s refuses) e = subst (RefusesValue count place key x) (same_err s r e) refuses

-- ---- the other direction

-- a byte string of another length is not an identifier
no_id : (place : ℕ) (id : List ℕ) → (length id ≡ 16 → ⊥) → judge_id place (ByteString id) ≡ Err (refused place BadParam)
no_id place id other = let no : eqb (length id) 16 ≡ false = ne_eqb (length id) 16 other in rw no refl

pub value_again : (count : ℕ) (key : ParamKey) (place : ℕ) (x : DataItem) (p : Param) → SaysValue count place key x p → judge_value count key place x ≡ Ok p
value_again count key place x p (SaysVendor id long) = rw long refl
value_again count key place x p (SaysClass id long) = rw long refl
value_again count key place x p (SaysDevice id long) = rw long refl
value_again count key place x p (SaysDigest content digest whole) = let is : judge_content place content ≡ Ok digest = whole_read judge_digest IsDigest RefusesDigest digest_judges (content_place place content) content digest whole in rw is refl
value_again count key place x p (SaysSource i lt) = rw (lt-ltb i count lt) refl
value_again count key place x p _ = refl

other_kind : (count place : ℕ) (key : ParamKey) (x : DataItem) → (IsOfKind key x → ⊥) → judge_value count key place x ≡ Err (refused place BadParam)
other_kind count place keys.Vendor (ByteString id) other = rw (no_id place id other) refl
other_kind count place keys.Class (ByteString id) other = rw (no_id place id other) refl
other_kind count place keys.Device (ByteString id) other = rw (no_id place id other) refl
other_kind count place keys.Digest (ByteString content) other = absurd (other tt)
other_kind count place keys.Slot (UnsignedInteger n) other = absurd (other tt)
other_kind count place keys.Strict (Boolean b) other = absurd (other tt)
other_kind count place keys.Soft (Boolean b) other = absurd (other tt)
other_kind count place keys.Size (UnsignedInteger n) other = absurd (other tt)
other_kind count place keys.Content (ByteString bytes) other = absurd (other tt)
other_kind count place keys.Uri (TextString text) other = absurd (other tt)
other_kind count place keys.Source (UnsignedInteger i) other = absurd (other tt)
other_kind count place keys.Args (ByteString bytes) other = absurd (other tt)
other_kind count place key x other = refl

pub value_refused : (count : ℕ) (key : ParamKey) (place : ℕ) (x : DataItem) (r : Refusal) → RefusesValue count place key x r → judge_value count key place x ≡ Err r
value_refused count key place x r (OtherKind k y other) = other_kind count place k y other
value_refused count key place x r (BadDigest content s whole) = let is : judge_content place content ≡ Err s = whole_refused judge_digest IsDigest RefusesDigest digest_judges (content_place place content) content s whole in rw is refl
value_refused count key place x r (NoComponent i le) = let no : ltb i count ≡ false = le-ltb i count le in rw no refl
