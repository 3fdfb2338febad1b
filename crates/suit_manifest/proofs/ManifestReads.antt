-- Reading a manifest agrees with judging it.
use Rattle.std.proofs.Common.{◌≡◌, ℕ, ◌+◌, Bool, true, false, cond, eqb, List, [], ◌++◌, length, Option, Some, None, Result, Ok, Err, refl, sym, ap, ◌∙◌, arith}
use Rattle.std.specs.Prelude.{option_map}
use Rattle.std.specs.List.{AllByRecursion}
use Rattle.std.proofs.lemmas.List.{append-nil}
use Rattle.det_cbor.specs.Heads.{head_bytes}
use Rattle.det_cbor.specs.DataItem.{DataItem, ByteString, TextString, ArrayOf, MapOf, NullItem, DataPairs, spell, IsValidWithin}
use Rattle.det_cbor.specs.HeadReading.{◌>>=◌}
use Rattle.det_cbor.specs.Position.{Position}
use Rattle.suit_params.specs.declared.digest.Digest.{Digest}
use Rattle.suit_params.specs.declared.refusal.Refusal.{Refusal}
use Rattle.suit_params.specs.declared.refusal.Why.TheVariants.{Trailing}
use Rattle.suit_params.specs.Refusing.{refused, content_place}
use Rattle.suit_params.specs.Judging.{judge_held, judge_each}
use Rattle.suit_params.specs.Reading.{item_from, only_from, whole_judged}
use Rattle.suit_params.proofs.DigestJudging.{digest_read}
use Rattle.det_cbor.specs.ArgumentLaws.{IsBytes, bytes_of_all}
use Rattle.suit_params.specs.HeldLaws.{ReadsAs, by_string, content_read, whole_is}
use Rattle.suit_params.specs.HeadLaws.{item_head_read, bytes_again, after}
use Rattle.suit_params.specs.TextLaws.{good_text}
use Rattle.suit_commands.specs.Tree.{SequenceTree}
use Rattle.suit_envelope.specs.Envelopes.{Entry}
use Rattle.suit_manifest.specs.declared.manifest.Manifest.{Manifest}
use Rattle.suit_manifest.specs.declared.manifest.Member.{Member}
use Rattle.suit_manifest.specs.declared.manifest.Member.TheVariants as members
use Rattle.suit_manifest.specs.declared.manifest.TextMember.{TextMember}
use Rattle.suit_manifest.specs.declared.manifest.TextMember.TheVariants as texts
use Rattle.suit_manifest.specs.declared.later.Later.{Later}
use Rattle.suit_manifest.specs.declared.manifest_map.ManifestValues.{ManifestValues}
use Rattle.suit_manifest.specs.declared.manifest_map.LaterValues.{LaterValues}
use Rattle.suit_manifest.specs.Maps.{entries_of, entry_under}
use Rattle.suit_manifest.specs.Common.{CommonSays}
use Rattle.suit_manifest.specs.Manifests.{manifest_keys}
use Rattle.suit_manifest.specs.Elements.{held_at, only_at}
use Rattle.suit_manifest.specs.MapReading.{judge_entry, needed, judge_at, may, value_of}
use Rattle.suit_manifest.specs.CommonReading.{judge_common, common_at}
use Rattle.suit_manifest.specs.ManifestJudging.{judge_number, known_version, judge_version, judge_text, judge_member, judge_held_apart, judge_here, judge_severed, judge_text_apart, judge_item, judge_text_here, judge_text_member, member_or_empty, text_of, judge_later, manifest_of, judge_values, judge_manifest}
use Rattle.suit_manifest.specs.ManifestReading.{number_at, version_at, text_at, member_at, apart_at, here_at, severed_at, text_apart_at, text_here_at, text_member_at, later_from, manifest_found, values_from, manifest_at}
use Rattle.suit_manifest.proofs.Arrays.{at}
use Rattle.suit_manifest.proofs.KeyedMaps.{pairs_fit, all_pairs, keyed_read}
use Rattle.suit_manifest.proofs.CommonReads.{held_sequence_reads, all_left, given, picked_is, common_read}
use Rattle.suit_manifest.proofs.KeyNumbers.{ordered_within}
use Rattle.suit_manifest.proofs.PairsTaken.{take_read, then_read, found, others, end_read}
use Rattle.suit_manifest.proofs.Picked.{ending}
use Rattle.suit_manifest.proofs.MapLaws.{Fits, under_fits, may_read, held_reads}
use Rattle.suit_manifest.proofs.ValueJudging.{by_kind}

-- ---- values

pub number_read : ReadsAs number_at judge_number
unfolding number_at
number_read levels place NullItem valid = rw (item_head_read levels (at place NullItem) NullItem [] valid (sym (append-nil (spell NullItem)))) refl
number_read levels place x valid = rw (item_head_read levels (at place x) x [] valid (sym (append-nil (spell x)))) refl

version_read : ReadsAs version_at judge_version
version_read levels place x valid = ap (λ (r : Result ℕ Refusal). r >>= known_version place) (number_read levels place x valid)

text_read : ReadsAs text_at judge_text
unfolding text_at
text_read levels place (TextString text) valid =
    let p = at place (TextString text) in
    let q = after p (head_bytes 3 (length text)) (text ++ []) in
    rw (item_head_read levels p (TextString text) [] valid (sym (append-nil (spell (TextString text)))), bytes_again q text [] refl, good_text text valid.1) refl
text_read levels place x valid = rw (item_head_read levels (at place x) x [] valid (sym (append-nil (spell x)))) refl

abbrev made_apart : Digest → Result Member Refusal
made_apart d = Ok (members.Apart d)

abbrev made_here : SequenceTree → Result Member Refusal
made_here s = Ok (members.Here s)

abbrev made_text : Digest → Result TextMember Refusal
made_text d = Ok (texts.Apart d)

severed_read : (count : ℕ) → ReadsAs (severed_at count) (judge_severed count)
unfolding severed_at
severed_read count levels place x valid =
    by_kind Member (λ (y : DataItem). IsValidWithin levels y → severed_at count (at place y) ≡ judge_severed count place y)
    (λ items v. rw (item_head_read levels (at place (ArrayOf items)) (ArrayOf items) [] v (sym (append-nil (spell (ArrayOf items)))))
    (ap (λ (r : Result Digest Refusal). r >>= made_apart) (digest_read levels (ArrayOf items) place v)))
    (λ y o v. rw (item_head_read levels (at place y) y [] v (sym (append-nil (spell y))), o.read (apart_at (at place y)) (here_at count (at place y)), o.judged judge_held_apart (judge_here count) place)
    (ap (λ (r : Result SequenceTree Refusal). r >>= made_here) (held_sequence_reads false count levels place y v)))
    x valid

-- an item that is judged, and of which nothing is kept
item_then : {A : Type 0} (p : Position) (z : A) → IsBytes p.left → (only_from p >>= λ _. Ok z) ≡ (whole_judged judge_item p.place p.left >>= λ _. Ok z)
item_then {A} p z fits = whole_is (λ q. Ok z) (λ place x. Ok z) (λ levels place x valid. refl) p fits ∙ by_answer (item_from p)
  where
    by_end : (t : Bool) (x : DataItem) (r : Refusal) → cond t (Ok z) (Err r) ≡ (cond {A = Result DataItem Refusal} t (Ok x) (Err r) >>= λ _. Ok z)
    by_end true x r = refl
    by_end false x r = refl

    by_answer : (a : Result (DataItem × Position) Refusal)
        → (a >>= λ x. cond (eqb (length x.1.left) 0) (Ok z) (Err (refused x.1.place Trailing))) ≡ ((a >>= λ x. cond (eqb (length x.1.left) 0) (judge_item p.place x.0) (Err (refused x.1.place Trailing))) >>= λ _. Ok z)
    by_answer (Ok x) = by_end (eqb (length x.1.left) 0) x.0 (refused x.1.place Trailing)
    by_answer (Err r) = refl

text_here_read : ReadsAs text_here_at judge_text_here
text_here_read levels place x valid =
    by_string (λ (y : DataItem). IsValidWithin levels y → text_here_at (at place y) ≡ judge_text_here place y)
    (λ bytes v.
    let c : Position = record { left = bytes; place = content_place place bytes } in
    rw (content_read levels (at place (ByteString bytes)) (ByteString bytes) [] v (sym (append-nil (spell (ByteString bytes))))) (item_then c (texts.Here bytes) (bytes_of_all bytes v.1) ∙ regroup (whole_judged judge_item c.place bytes) bytes))
    (λ y o v. rw (content_read levels (at place y) y [] v (sym (append-nil (spell y))), o.judged place) refl)
    x valid
  where
    regroup : (r : Result DataItem Refusal) (bytes : List ℕ) → (r >>= λ _. Ok (texts.Here bytes)) ≡ ((r >>= λ _. Ok bytes) >>= λ content. Ok (texts.Here content))
    regroup (Ok item) bytes = refl
    regroup (Err e) bytes = refl

text_member_read : ReadsAs text_member_at judge_text_member
unfolding text_member_at
text_member_read levels place x valid =
    by_kind TextMember (λ (y : DataItem). IsValidWithin levels y → text_member_at (at place y) ≡ judge_text_member place y)
    (λ items v. rw (item_head_read levels (at place (ArrayOf items)) (ArrayOf items) [] v (sym (append-nil (spell (ArrayOf items)))))
    (ap (λ (r : Result Digest Refusal). r >>= made_text) (digest_read levels (ArrayOf items) place v)))
    (λ y o v. rw (item_head_read levels (at place y) y [] v (sym (append-nil (spell y))), o.read (text_apart_at (at place y)) (text_here_at (at place y)), o.judged judge_text_apart judge_text_here place)
    (text_here_read levels place y v))
    x valid

-- ---- the values after common

abbrev made_later : Option (List ℕ) → Option SequenceTree → Option SequenceTree → Option SequenceTree → Member → Member → TextMember → Result Later Refusal
made_later a b c d e f t = Ok (record { reference = a; validate = b; load = c; invoke = d; payload_fetch = e; install = f; text = t })

abbrev made_member : Option Member → Result Member Refusal
made_member m = Ok (member_or_empty m)

abbrev made_text_member : Option TextMember → Result TextMember Refusal
made_text_member m = Ok (text_of m)

-- steps, each of which is read as it is judged
also : {A B : Type 0} (r s : Result A Refusal) (f g : A → Result B Refusal) → r ≡ s → ((a : A) → f a ≡ g a) → (r >>= f) ≡ (s >>= g)
also {A} {B} r s f g is same = ap (λ (t : Result A Refusal). t >>= f) is ∙ by_answer s
  where
    by_answer : (t : Result A Refusal) → (t >>= f) ≡ (t >>= g)
    by_answer (Ok a) = same a
    by_answer (Err e) = refl

-- the values of entries in the order of their numbers
abbrev later_values : Option Entry → Option Entry → Option Entry → Option Entry → Option Entry → Option Entry → Option Entry → LaterValues
later_values reference validate load invoke payload_fetch install text = record {
  reference = option_map value_of reference;
  validate = option_map value_of validate;
  load = option_map value_of load;
  invoke = option_map value_of invoke;
  payload_fetch = option_map value_of payload_fetch;
  install = option_map value_of install;
  text = option_map value_of text;
}

abbrev all_values : Option Entry → Option Entry → Option Entry → LaterValues → ManifestValues
all_values version sequence common later = record { version = option_map value_of version; sequence = option_map value_of sequence; common = option_map value_of common; later = later }

-- the values under the numbers
abbrev looked_later : List Entry → LaterValues
looked_later es = later_values (entry_under 4 es) (entry_under 7 es) (entry_under 8 es) (entry_under 9 es) (entry_under 16 es) (entry_under 20 es) (entry_under 23 es)

abbrev looked : List Entry → ManifestValues
looked es = all_values (entry_under 1 es) (entry_under 2 es) (entry_under 3 es) (looked_later es)

module _ (count levels place : ℕ) (pairs : DataPairs) (valid : IsValidWithin levels (MapOf pairs)) where
  all : AllByRecursion (Fits (levels + 1)) (entries_of place pairs)
  all = pairs_fit levels place pairs valid

  member_in : (n : ℕ) → may (member_at count) (option_map value_of (entry_under n (entries_of place pairs))) ≡ may (judge_at (judge_member count)) (entry_under n (entries_of place pairs))
  member_in n = may_read (member_at count) (judge_member count) (held_sequence_reads false count) (levels + 1) n (entries_of place pairs) all

  severed_is : (n : ℕ) → may (severed_at count) (option_map value_of (entry_under n (entries_of place pairs))) ≡ may (judge_at (judge_severed count)) (entry_under n (entries_of place pairs))
  severed_is n = may_read (severed_at count) (judge_severed count) (severed_read count) (levels + 1) n (entries_of place pairs) all

  pub later_read : later_from count (looked_later (entries_of place pairs)) ≡ judge_later count (entries_of place pairs)
  later_read =
      rw (
        may_read text_at judge_text text_read (levels + 1) 4 (entries_of place pairs) all,
        member_in 7,
        member_in 8,
        member_in 9,
        severed_is 16,
        severed_is 20,
        may_read text_member_at judge_text_member text_member_read (levels + 1) 23 (entries_of place pairs) all,
      )
      (by_first (may (judge_at judge_text) (entry_under 4 (entries_of place pairs))) (may (judge_at (judge_member count)) (entry_under 7 (entries_of place pairs))) (may (judge_at (judge_member count)) (entry_under 8 (entries_of place pairs)))
      (may (judge_at (judge_member count)) (entry_under 9 (entries_of place pairs))) (may (judge_at (judge_severed count)) (entry_under 16 (entries_of place pairs))) (may (judge_at (judge_severed count)) (entry_under 20 (entries_of place pairs)))
      (may (judge_at judge_text_member) (entry_under 23 (entries_of place pairs))))
    where
      by_text : (e : Result (Option Member) Refusal) (f : Result (Option Member) Refusal) (g : Result (Option TextMember) Refusal) (a : Option (List ℕ)) (b c d : Option SequenceTree)
          → ((e >>= made_member) >>= λ payload_fetch. (f >>= made_member) >>= λ install. (g >>= made_text_member) >>= λ text.
          made_later a b c d payload_fetch install text)
          ≡ (e >>= λ payload_fetch. f >>= λ install. g >>= λ text. made_later a b c d (member_or_empty payload_fetch) (member_or_empty install) (text_of text))
      by_text (Ok x) (Ok y) (Ok z) a b c d = refl
      by_text (Ok x) (Ok y) (Err r) a b c d = refl
      by_text (Ok x) (Err r) g a b c d = refl
      by_text (Err r) f g a b c d = refl

      by_first : (r : Result (Option (List ℕ)) Refusal) (s t u : Result (Option SequenceTree) Refusal) (e f : Result (Option Member) Refusal) (g : Result (Option TextMember) Refusal)
          → (r >>= λ reference. s >>= λ validate. t >>= λ load. u >>= λ invoke. (e >>= made_member) >>= λ payload_fetch. (f >>= made_member) >>= λ install. (g >>= made_text_member) >>= λ text.
          made_later reference validate load invoke payload_fetch install text)
          ≡ (r >>= λ reference. s >>= λ validate. t >>= λ load. u >>= λ invoke. e >>= λ payload_fetch. f >>= λ install. g >>= λ text.
          made_later reference validate load invoke (member_or_empty payload_fetch) (member_or_empty install) (text_of text))
      by_first (Ok a) (Ok b) (Ok c) (Ok d) e f g = by_text e f g a b c d
      by_first (Ok a) (Ok b) (Ok c) (Err x) e f g = refl
      by_first (Ok a) (Ok b) (Err x) u e f g = refl
      by_first (Ok a) (Err x) t u e f g = refl
      by_first (Err x) s t u e f g = refl

-- ---- the map

held_common : ReadsAs (held_at (only_at common_at)) (judge_held judge_common)
held_common = held_reads (only_at common_at) judge_common (λ p fits. whole_is common_at judge_common common_read p fits)

abbrev made_of : ℕ → CommonSays → Later → Result Manifest Refusal
made_of n common later = Ok (manifest_of n common later)

-- a required entry, read on its own
entry_read : {A : Type 0} (read : Position → Result A Refusal) (judge : ℕ → DataItem → Result A Refusal) → ReadsAs read judge → (levels : ℕ) (e : Entry) → Fits levels e → read (value_of e) ≡ judge_at judge e
entry_read read judge law levels e fits = law levels e.value_place e.value fits

values_read : (levels place : ℕ) (pairs : DataPairs) → IsValidWithin levels (MapOf pairs) → values_from place (looked (entries_of place pairs)) ≡ judge_values place (entries_of place pairs)
values_read levels place pairs valid =
    let es = entries_of place pairs in
    let all = pairs_fit levels place pairs valid in
    by_entries (entry_under 1 es) (entry_under 2 es) (entry_under 3 es) (λ e is. under_fits (levels + 1) 1 es e all is) (λ e is. under_fits (levels + 1) 2 es e all is) (λ e is. under_fits (levels + 1) 3 es e all is)
    (λ count. later_read count levels place pairs valid)
  where
    after_from : ℕ → CommonSays → Result Manifest Refusal
    after_from n common = later_from (length common.components) (looked_later (entries_of place pairs)) >>= λ later. Ok (manifest_of n common later)

    after_judged : ℕ → CommonSays → Result Manifest Refusal
    after_judged n common = judge_later (length common.components) (entries_of place pairs) >>= λ later. Ok (manifest_of n common later)

    by_entries : (a b c : Option Entry) → ((e : Entry) → a ≡ Some e → Fits (levels + 1) e) → ((e : Entry) → b ≡ Some e → Fits (levels + 1) e) → ((e : Entry) → c ≡ Some e → Fits (levels + 1) e)
        → ((count : ℕ) → later_from count (looked_later (entries_of place pairs)) ≡ judge_later count (entries_of place pairs))
        → (needed place 1 (option_map value_of a) >>= λ a. needed place 2 (option_map value_of b) >>= λ b. needed place 3 (option_map value_of c) >>= λ c. version_at a >>= λ v. number_at b >>= λ n. held_at (only_at common_at) c >>= after_from n)
        ≡ (needed place 1 a >>= λ a. needed place 2 b >>= λ b. needed place 3 c >>= λ c. judge_at judge_version a >>= λ v. judge_at judge_number b >>= λ n. judge_at (judge_held judge_common) c >>= after_judged n)
    by_entries None b c fa fb fc rest = refl
    by_entries (Some a) None c fa fb fc rest = refl
    by_entries (Some a) (Some b) None fa fb fc rest = refl
    by_entries (Some a) (Some b) (Some c) fa fb fc rest =
        also (version_at (value_of a)) (judge_at judge_version a) _ _ (entry_read version_at judge_version version_read (levels + 1) a (fa a refl)) (λ v.
        also (number_at (value_of b)) (judge_at judge_number b) _ _ (entry_read number_at judge_number number_read (levels + 1) b (fb b refl)) (λ n.
        also (held_at (only_at common_at) (value_of c)) (judge_at (judge_held judge_common) c) (after_from n) (after_judged n) (entry_read (held_at (only_at common_at)) (judge_held judge_common) held_common (levels + 1) c (fc c refl)) (λ common.
        ap (λ (r : Result Later Refusal). r >>= made_of n common) (rest (length common.components)))))

abbrev all_of : Option Position → Option Position → Option Position → LaterValues → Result ManifestValues Refusal
all_of version sequence common later = Ok (record { version = version; sequence = sequence; common = common; later = later })

found_read : (levels place : ℕ) (pairs : DataPairs) → IsValidWithin levels (MapOf pairs)
    → manifest_found (all_pairs place pairs) ≡ (judge_each (judge_entry manifest_keys) (entries_of place pairs) >>= λ _. Ok (looked (entries_of place pairs)))
found_read levels place pairs valid =
    let es = entries_of place pairs in
    let a = take_read 1 (levels + 1) es (all_pairs place pairs) (all_left levels place pairs valid) in
    let b = then_read 2 a in
    let c = then_read 3 b in
    let d = then_read 4 c in
    let e = then_read 7 d in
    let f = then_read 8 e in
    let g = then_read 9 f in
    let h = then_read 16 g in
    let j = then_read 20 h in
    let k = then_read 23 j in
    let later = later_values (found d) (found e) (found f) (found g) (found h) (found j) (found k) in
    let picked = all_values (found a) (found b) (found c) later in
    let last = picked_is manifest_keys es picked (looked es)
    (omega arith, (omega arith, (omega arith, (omega arith, (omega arith, (omega arith, (omega arith, (omega arith, (omega arith, (omega arith, tt)))))))))) (ordered_within levels place pairs valid)
    (λ all i.
    let later = later_values (all.1.1.1.0 i) (all.1.1.1.1.0 i) (all.1.1.1.1.1.0 i) (all.1.1.1.1.1.1.0 i) (all.1.1.1.1.1.1.1.0 i) (all.1.1.1.1.1.1.1.1.0 i) (all.1.1.1.1.1.1.1.1.1.0 i) in
    all_values (all.0 i) (all.1.0 i) (all.1.1.0 i) later) in
    rw (a.is, b.is, c.is, d.is, e.is, f.is, g.is, h.is, j.is, k.is, end_read (levels + 1) (others k) k.next k.left)
    (with_later (ending (others k)) later picked.version picked.sequence picked.common ∙ last)
  where
    with_later : (r : Result Unit Refusal) (later : LaterValues) (version sequence common : Option Position) → ((r >>= λ _. given later) >>= all_of version sequence common) ≡ (r >>= λ _. all_of version sequence common later)
    with_later (Ok done) later version sequence common = refl
    with_later (Err bad) later version sequence common = refl

pub manifest_read : ReadsAs manifest_at judge_manifest
manifest_read = keyed_read manifest_keys judge_values manifest_found looked values_from found_read values_read
