-- An envelope that is made from its parts says those parts.
use Rattle.std.proofs.Common.{◌≡◌, ◌≢◌, ℕ, ◌+◌, true, List, [], ◌∷◌, length, Option, Some, None, refl, sym, ap, subst}
use Rattle.std.specs.List.{AllByRecursion}
use Rattle.det_cbor.specs.Heads.{head_bytes}
use Rattle.det_cbor.specs.DataItem.{UnsignedInteger, ByteString, TextString, DataPairs, pair_count, spell}
use Rattle.suit_params.specs.Refusing.{content_place}
use Rattle.suit_envelope.specs.Envelopes.{Entry, EnvelopeMap, EnvelopeSays, entries, map_entries, key_of, says_nothing, put_all, IsKnown, IsValue, IsEnvelope}
use Rattle.suit_envelope.specs.declared.key.Key.TheVariants.{Wrapper, Unknown}
use Rattle.suit_envelope.specs.declared.parts.EnvelopeParts.{EnvelopeParts}
use Rattle.suit_envelope.specs.Making.{member_then, payload_pairs, pairs_made, envelope_made, SaysParts}
use Rattle.suit_envelope.specs.Payloads.{integrated_payloads}
use Rattle.suit_envelope.specs.WrapperParts.{HasWrapper, wrapper_item}
use Rattle.suit_envelope.proofs.WrapperLaws.{says_wrapper}

-- ---- facts about each pair

payloads_known : (place : ℕ) (ps : List (List ℕ × List ℕ)) → AllByRecursion IsKnown (entries place (payload_pairs ps))
payloads_known place [] = tt
payloads_known place (p ∷ ps) = (λ e. absurd cc, payloads_known (place + length (spell (TextString p.0)) + length (spell (ByteString p.1))) ps)

payload_values : (place : ℕ) (ps : List (List ℕ × List ℕ)) → AllByRecursion IsValue (entries place (payload_pairs ps))
payload_values place [] = tt
payload_values place (p ∷ ps) = ((tt, λ e. absurd cc), payload_values (place + length (spell (TextString p.0)) + length (spell (ByteString p.1))) ps)

member_all : (P : Entry → Type 0) (place n : ℕ) (member : Option (List ℕ)) (ps : DataPairs)
    → ((at value_at : ℕ) (content : List ℕ) → P (record { key = UnsignedInteger n; key_place = at; value = ByteString content; value_place = value_at }))
    → ((at : ℕ) → AllByRecursion P (entries at ps)) → AllByRecursion P (entries place (member_then n member ps))
member_all P place n None ps one rest = rest place
member_all P place n (Some content) ps one rest = (one _ _ content, rest _)

members_all : (P : Entry → Type 0) (place : ℕ) (parts : EnvelopeParts)
    → ((n : ℕ) → key_of (UnsignedInteger n) ≢ Unknown → key_of (UnsignedInteger n) ≢ Wrapper → (at value_at : ℕ) (content : List ℕ) → P (record { key = UnsignedInteger n; key_place = at; value = ByteString content; value_place = value_at }))
    → ((at : ℕ) → AllByRecursion P (entries at (payload_pairs parts.payloads)))
    → AllByRecursion P (entries place (member_then 16 parts.payload_fetch (member_then 20 parts.install (member_then 23 parts.text (payload_pairs parts.payloads)))))
members_all P place parts one payloads =
    member_all P place 16 parts.payload_fetch _ (one 16 (λ e. absurd cc) (λ e. absurd cc))
    (λ at. member_all P at 20 parts.install _ (one 20 (λ e. absurd cc) (λ e. absurd cc))
    (λ at. member_all P at 23 parts.text _ (one 23 (λ e. absurd cc) (λ e. absurd cc)) payloads))

-- ---- what they say

payloads_put : (s : EnvelopeSays) (place : ℕ) (ps : List (List ℕ × List ℕ)) → put_all s (entries place (payload_pairs ps)) ≡ s
payloads_put s place [] = refl
payloads_put s place (p ∷ ps) = payloads_put s (place + length (spell (TextString p.0)) + length (spell (ByteString p.1))) ps

by_put : (parts : EnvelopeParts) (s : EnvelopeSays) (place : ℕ) → SaysParts parts s → SaysParts parts (put_all s (entries place (payload_pairs parts.payloads)))
by_put parts s place says = subst (SaysParts parts) (sym (payloads_put s place parts.payloads)) says

put_says : (place : ℕ) (wrapper manifest : List ℕ) (payload_fetch install text : Option (List ℕ)) (payloads : List (List ℕ × List ℕ))
    → (let parts : EnvelopeParts = record { wrapper = wrapper; manifest = manifest; payload_fetch = payload_fetch; install = install; text = text; payloads = payloads } in SaysParts parts (put_all (says_nothing true) (entries place (pairs_made parts))))
put_says place w m None None None ps = by_put _ _ _ (record { tagged = refl; wrapper = refl; manifest = refl; payload_fetch = refl; install = refl; text = refl })
put_says place w m None None (Some t) ps = by_put _ _ _ (record { tagged = refl; wrapper = refl; manifest = refl; payload_fetch = refl; install = refl; text = refl })
put_says place w m None (Some i) None ps = by_put _ _ _ (record { tagged = refl; wrapper = refl; manifest = refl; payload_fetch = refl; install = refl; text = refl })
put_says place w m None (Some i) (Some t) ps = by_put _ _ _ (record { tagged = refl; wrapper = refl; manifest = refl; payload_fetch = refl; install = refl; text = refl })
put_says place w m (Some f) None None ps = by_put _ _ _ (record { tagged = refl; wrapper = refl; manifest = refl; payload_fetch = refl; install = refl; text = refl })
put_says place w m (Some f) None (Some t) ps = by_put _ _ _ (record { tagged = refl; wrapper = refl; manifest = refl; payload_fetch = refl; install = refl; text = refl })
put_says place w m (Some f) (Some i) None ps = by_put _ _ _ (record { tagged = refl; wrapper = refl; manifest = refl; payload_fetch = refl; install = refl; text = refl })
put_says place w m (Some f) (Some i) (Some t) ps = by_put _ _ _ (record { tagged = refl; wrapper = refl; manifest = refl; payload_fetch = refl; install = refl; text = refl })

abbrev pub made_map : EnvelopeParts → EnvelopeMap
made_map parts = record { tagged = true; place = 0 + length (head_bytes 6 107); pairs = pairs_made parts }

-- ---- which payloads there are

payloads_made : (place : ℕ) (ps : List (List ℕ × List ℕ)) → integrated_payloads (entries place (payload_pairs ps)) ≡ ps
payloads_made place [] = refl
payloads_made place (p ∷ ps) = ap (λ (rest : List (List ℕ × List ℕ)). p ∷ rest) (payloads_made (place + length (spell (TextString p.0)) + length (spell (ByteString p.1))) ps)

-- a member is not a payload
member_beside : (place n : ℕ) (member : Option (List ℕ)) (ps : DataPairs) (payloads : List (List ℕ × List ℕ)) → ((at : ℕ) → integrated_payloads (entries at ps) ≡ payloads)
    → integrated_payloads (entries place (member_then n member ps)) ≡ payloads
member_beside place n None ps payloads rest = rest place
member_beside place n (Some content) ps payloads rest = rest _

all_payloads : (place : ℕ) (parts : EnvelopeParts) → integrated_payloads (entries place (member_then 16 parts.payload_fetch (member_then 20 parts.install (member_then 23 parts.text (payload_pairs parts.payloads))))) ≡ parts.payloads
all_payloads place parts =
    member_beside place 16 parts.payload_fetch _ parts.payloads
    (λ at. member_beside at 20 parts.install _ parts.payloads
    (λ at. member_beside at 23 parts.text _ parts.payloads (λ at. payloads_made at parts.payloads)))

-- what is made follows the grammar, says what the parts are, and has their payloads
pub record Made (parts : EnvelopeParts) : Type 0 where
  pub said : EnvelopeSays
  pub is : IsEnvelope 0 (envelope_made parts) said
  pub all : said ≡ put_all (says_nothing true) (map_entries (made_map parts))
  pub says : SaysParts parts said
  pub payloads : parts.payloads ≡ integrated_payloads (map_entries is.map)

pub made_says : (parts : EnvelopeParts) → HasWrapper parts.wrapper → Made parts
made_says parts holds =
    let m = made_map parts in
    let start = m.place + length (head_bytes 5 (pair_count m.pairs)) in
    let key = start + length (spell (UnsignedInteger 2)) in
    record {
      said = put_all (says_nothing true) (map_entries m);
      is = record {
        map = m;
        shape = refl;
        known = (λ e. absurd cc, (λ e. absurd cc, members_all IsKnown _ parts (λ n known other at value_at content. known) (λ at. payloads_known at parts.payloads)));
        required = (refl, (refl, tt));
        values = (
          (tt, λ e. (holds.0, record { content = parts.wrapper; is = refl; holds = record { item = wrapper_item holds.0 holds.1; spells = holds.2.spells; says_so = says_wrapper (content_place key parts.wrapper) parts.wrapper holds.0 holds.1 holds.2 } })),
          (
            (tt, λ e. absurd cc),
            members_all IsValue _ parts (λ n known other at value_at content. (tt, λ e. absurd (other e))) (λ at. payload_values at parts.payloads),
          ),
        );
        says = refl;
      };
      all = refl;
      says = put_says start parts.wrapper parts.manifest parts.payload_fetch parts.install parts.text parts.payloads;
      payloads = sym (all_payloads _ parts);
    }
