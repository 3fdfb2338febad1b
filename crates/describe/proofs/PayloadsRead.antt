-- Integrated payloads are read where their contents are bytes.
use Rattle.std.proofs.Common.{◌≡◌, ℕ, List, [], ◌∷◌, Ok, Ordering, Less, Equal, Greater, nat_cmp, refl}
use Rattle.std.specs.Cmp.Lexicographic.{slice_cmp}
use Rattle.std.specs.List.{AllByRecursion}
use Rattle.std.specs.Ordering.{match_ordering}
use Rattle.det_cbor.specs.DataItem.{IsByte}
use Rattle.serde_json.specs.Data.{Data, object, Members, no_members, member, put}
use Rattle.json_fields.specs.Objects.{members_of}
use Rattle.suit_envelope.specs.PayloadOrder.{put_payload}
use Rattle.author.specs.Payloads.{payload_of, takes_payload, payloads_of}
use Rattle.describe.specs.PayloadData.{payload_data, with_payloads}
use Rattle.describe.proofs.ValuesRead.{hex_read}

module _ (files : List (List ℕ × List ℕ)) where
  payload_read : (content : List ℕ) → AllByRecursion IsByte content → payload_of files (payload_data content) ≡ Ok content
  payload_read content h = rw (hex_read content h) refl

  abbrev AreRead : Members → Type 0
  AreRead no_members = Unit {0}
  AreRead (member k d ms) = ((content : List ℕ) × (payload_of files d ≡ Ok content)) × AreRead ms

  put_at : (o : Ordering) (k l : List ℕ) (d e : Data) (ms rest : Members) → ((content : List ℕ) × (payload_of files d ≡ Ok content)) → AreRead (member l e ms) → AreRead rest
      → AreRead (match_ordering o (member k d (member l e ms)) (member l d ms) (member l e rest))
  put_at Less k l d e ms rest h hs ks = (h, hs)
  put_at Equal k l d e ms rest h hs ks = (h, hs.1)
  put_at Greater k l d e ms rest h hs ks = (hs.0, ks)

  put_read : (k : List ℕ) (d : Data) (ms : Members) → ((content : List ℕ) × (payload_of files d ≡ Ok content)) → AreRead ms → AreRead (put k d ms)
  put_read k d no_members h hs = (h, tt)
  put_read k d (member l e ms) h hs = put_at (slice_cmp nat_cmp k l) k l d e ms (put k d ms) h hs (put_read k d ms h hs.1)

  with_read : (ps : List (List ℕ × List ℕ)) (ms : Members) → AllByRecursion (λ p. AllByRecursion IsByte p.1) ps → AreRead ms → AreRead (with_payloads ps ms)
  with_read [] ms h hs = hs
  with_read (p ∷ ps) ms h hs = with_read ps (put p.0 (payload_data p.1) ms) h.1 (put_read p.0 (payload_data p.1) ms (p.1, payload_read p.1 h.0) hs)

  all_read : (ms : Members) (so_far : List (List ℕ × List ℕ)) → AreRead ms
      → (list : List (List ℕ × List ℕ)) × (members_of takes_payload (record { files = files; list = so_far }) ms ≡ Ok (record { files = files; list = list }))
  all_read no_members so_far h = (so_far, refl)
  all_read (member k d ms) so_far h =
      let later = all_read ms (put_payload (k, h.0.0) so_far) h.1 in
      (later.0, rw h.0.1 later.1)

  pub payloads_read : (ps : List (List ℕ × List ℕ)) → AllByRecursion (λ p. AllByRecursion IsByte p.1) ps
      → (list : List (List ℕ × List ℕ)) × (payloads_of files (object (with_payloads ps no_members)) ≡ Ok list)
  payloads_read ps h =
      let all = all_read (with_payloads ps no_members) [] (with_read ps no_members h tt) in
      (all.0, rw all.1 refl)
