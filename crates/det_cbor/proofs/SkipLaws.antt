-- An item is skipped just as it is read.
use Rattle.det_cbor.specs.ResultLaws.{same_ok, same_err}
use Rattle.std.proofs.Common.{◌≡◌, ℕ, zero, suc, List, ◌∷◌, Option, Some, None, Result, Ok, Err, refl, sym, ap, ◌∙◌}
use Rattle.det_cbor.specs.declared.head.HeadKind.{HeadKind}
use Rattle.det_cbor.specs.declared.head.HeadKind.TheVariants as kinds
use Rattle.det_cbor.specs.declared.reason.Stop.{Stop}
use Rattle.det_cbor.specs.declared.head.Head.{Head}
use Rattle.det_cbor.specs.DataItem.{DataItem, ByteString, TextString, ArrayOf, MapOf, TaggedItem}
use Rattle.det_cbor.specs.DataLists.{items_of, pairs_of}
use Rattle.det_cbor.specs.HeadReading.{◌>>=◌, head_at}
use Rattle.det_cbor.specs.ItemReading.{Read, Reader, stopped, string_at, text_at, items_by, read_of, in_order, pairs_by, body_with, item_with, item_at}
use Rattle.det_cbor.specs.ItemSkipping.{Skipper, rest_of, skips_by, pair_skips_by, skip_body, skip_with, skip_at}

abbrev pub SkipsAs : Skipper → Reader → Type 0
SkipsAs skip read = (bytes : List ℕ) → skip bytes ≡ rest_of (read bytes)

keeps_rest : {A B : Type 0} (f : A → B) (r : Read A) → rest_of (r >>= λ x. Ok (f x.0, x.1)) ≡ rest_of r
keeps_rest f (Ok x) = refl
keeps_rest f (Err s) = refl

pub skips_as : (skip : Skipper) (read : Reader) → SkipsAs skip read → (count : ℕ) (bytes : List ℕ) → skips_by skip count bytes ≡ rest_of (items_by read count bytes)
skips_as skip read law zero bytes = refl
skips_as skip read law (suc count) bytes = rw (law bytes) (first_step (λ b. skips_as skip read law count b) (read bytes))
  where
    first_step : ((b : List ℕ) → skips_by skip count b ≡ rest_of (items_by read count b)) → (r : Read DataItem) → (rest_of r >>= λ rest. skips_by skip count rest) ≡ rest_of (r >>= λ first. items_by read count first.1 >>= λ others. Ok (first.0 ∷ others.0, others.1))
    first_step later (Ok first) = later first.1 ∙ sym (keeps_rest (λ (xs : List DataItem). first.0 ∷ xs) (items_by read count first.1))
    first_step later (Err s) = refl

pub pair_skips_as : (skip : Skipper) (read : Reader) → SkipsAs skip read → (before : Option (List ℕ)) (count : ℕ) (bytes : List ℕ) → pair_skips_by skip before count bytes ≡ rest_of (pairs_by read before count bytes)
pair_skips_as skip read law before zero bytes = refl
pair_skips_as skip read law before (suc count) bytes = rw (law bytes) (key_step (λ o b. pair_skips_as skip read law o count b) (read bytes))
  where
    value_step : ((o : Option (List ℕ)) (b : List ℕ) → pair_skips_by skip o count b ≡ rest_of (pairs_by read o count b)) → (key : DataItem) (spelled : List ℕ) (r : Read DataItem)
        → (rest_of r >>= λ rest. pair_skips_by skip (Some spelled) count rest) ≡ rest_of (r >>= λ value. pairs_by read (Some spelled) count value.1 >>= λ others. Ok ((key, value.0) ∷ others.0, others.1))
    value_step later key spelled (Ok value) = later (Some spelled) value.1 ∙ sym (keeps_rest (λ (ps : List (DataItem × DataItem)). (key, value.0) ∷ ps) (pairs_by read (Some spelled) count value.1))
    value_step later key spelled (Err s) = refl

    order_step : ((o : Option (List ℕ)) (b : List ℕ) → pair_skips_by skip o count b ≡ rest_of (pairs_by read o count b)) → (key : DataItem) (spelled after : List ℕ) (o : Result Unit Stop)
        → (o >>= λ sorted. skip after >>= λ rest. pair_skips_by skip (Some spelled) count rest) ≡ rest_of (o >>= λ sorted. read after >>= λ value. pairs_by read (Some spelled) count value.1 >>= λ others. Ok ((key, value.0) ∷ others.0, others.1))
    order_step later key spelled after (Ok sorted) = rw (law after) (value_step later key spelled (read after))
    order_step later key spelled after (Err s) = refl

    key_step : ((o : Option (List ℕ)) (b : List ℕ) → pair_skips_by skip o count b ≡ rest_of (pairs_by read o count b)) → (r : Read DataItem)
        → (rest_of r >>= λ after. stopped bytes (in_order before (read_of bytes after)) >>= λ sorted. skip after >>= λ rest. pair_skips_by skip (Some (read_of bytes after)) count rest)
        ≡ rest_of (r >>= λ key. stopped bytes (in_order before (read_of bytes key.1)) >>= λ sorted. read key.1 >>= λ value. pairs_by read (Some (read_of bytes key.1)) count value.1 >>= λ others. Ok ((key.0, value.0) ∷ others.0, others.1))
    key_step later (Ok key) = order_step later key.0 (read_of bytes key.1) key.1 (stopped bytes (in_order before (read_of bytes key.1)))
    key_step later (Err s) = refl

-- the same for the parts, if there may be any
abbrev pub PartsSkipAs : Option Skipper → Option Reader → Type 0
PartsSkipAs None None = Unit {0}
PartsSkipAs (Some skip) (Some read) = SkipsAs skip read
PartsSkipAs None (Some read) = ⊥
PartsSkipAs (Some skip) None = ⊥

body_as : (skips : Option Skipper) (reads : Option Reader) → PartsSkipAs skips reads → (bytes : List ℕ) (value : ℕ) (rest : List ℕ) (kind : HeadKind) → skip_body skips bytes value rest kind ≡ rest_of (body_with reads bytes value rest kind)
body_as skips reads law bytes value rest kinds.Unsigned = refl
body_as skips reads law bytes value rest kinds.Negative = refl
body_as skips reads law bytes value rest kinds.Bytes = sym (keeps_rest ByteString (stopped bytes (string_at value rest)))
body_as skips reads law bytes value rest kinds.Text = sym (keeps_rest TextString (stopped bytes (text_at value rest)))
body_as skips reads law bytes value rest kinds.Bool = refl
body_as skips reads law bytes value rest kinds.Null = refl
body_as None None law bytes value rest kinds.Array = refl
body_as None None law bytes value rest kinds.Map = refl
body_as None None law bytes value rest kinds.Tag = refl
body_as None (Some read) law bytes value rest kind = absurd law
body_as (Some skip) None law bytes value rest kind = absurd law
body_as (Some skip) (Some read) law bytes value rest kinds.Array = skips_as skip read law value rest ∙ sym (keeps_rest (λ (xs : List DataItem). ArrayOf (items_of xs)) (items_by read value rest))
body_as (Some skip) (Some read) law bytes value rest kinds.Map = pair_skips_as skip read law None value rest ∙ sym (keeps_rest (λ (ps : List (DataItem × DataItem)). MapOf (pairs_of ps)) (pairs_by read None value rest))
body_as (Some skip) (Some read) law bytes value rest kinds.Tag = law rest ∙ sym (keeps_rest (TaggedItem value) (read rest))

whole_as : (skips : Option Skipper) (reads : Option Reader) → PartsSkipAs skips reads → SkipsAs (skip_with skips) (item_with reads)
whole_as skips reads law bytes = head_step (stopped bytes (head_at bytes))
  where
    head_step : (r : Read Head) → (r >>= λ h. skip_body skips bytes h.0.value h.1 h.0.kind) ≡ rest_of (r >>= λ h. body_with reads bytes h.0.value h.1 h.0.kind)
    head_step (Ok h) = body_as skips reads law bytes h.0.value h.1 h.0.kind
    head_step (Err s) = refl

pub skip_as : (k : ℕ) → SkipsAs (skip_at k) (item_at k)
unfolding skip_at item_at
skip_as zero bytes = whole_as None None tt bytes
skip_as (suc k) bytes = whole_as (Some (skip_at k)) (Some (item_at k)) (skip_as k) bytes

-- ---- the meaning of the skipper's answers

pub answer_read : (bytes : List ℕ) (rest : List ℕ) → Ok rest ≡ skip_at 16 bytes → (x : DataItem) × (item_at 16 bytes ≡ Ok (x, rest))
answer_read bytes rest e = by_answer (item_at 16 bytes) refl (e ∙ skip_as 16 bytes)
  where
    by_answer : (r : Read DataItem) → item_at 16 bytes ≡ r → Ok rest ≡ rest_of r → (x : DataItem) × (item_at 16 bytes ≡ Ok (x, rest))
    by_answer (Ok x) is f = (x.0, is ∙ ap (λ (l : List ℕ). Ok (x.0, l)) (same_ok x.1 rest (sym f)))
    by_answer (Err s) is f = absurd cc

pub answer_refused : (bytes : List ℕ) (s : Stop) → Err s ≡ skip_at 16 bytes → item_at 16 bytes ≡ Err s
answer_refused bytes s e = by_answer (item_at 16 bytes) refl (e ∙ skip_as 16 bytes)
  where
    by_answer : (r : Read DataItem) → item_at 16 bytes ≡ r → Err s ≡ rest_of r → item_at 16 bytes ≡ Err s
    by_answer (Ok x) is f = absurd cc
    by_answer (Err t) is f = is ∙ ap Err (same_err t s (sym f))
