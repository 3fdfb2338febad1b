-- The laws of conditions and directives on contents.
use Rattle.std.proofs.Common.{◌≡◌, ◌≢◌, ◌<◌, ◌≤◌, ℕ, Bool, true, false, List, [], ◌∷◌, Option, Some, None, refl, sym, ap, subst, ◌∙◌, inl, inr, length, length-set, arith, get_or-set_same, get_or-set_other}
use Rattle.std.proofs.lemmas.Bool.{eq-eqb, ne_eqb, le-leb, lt-leb, and_from, and_left, and_right, true≢false}
use lib.Pointwise.{bytes_decides}
use Rattle.std.specs.Prelude.{◌==◌, nat_le, ◌&&◌, if◌then◌else◌, option_to_list}
use Rattle.std.specs.Option.{option_and_then}
use Rattle.std.specs.Str.{bytes_eq}
use Rattle.suit_params.specs.DigestLaws.{has_decides}
use Rattle.suit_params.specs.Hashes.{hash_like, has_digest}
use Rattle.suit_params.specs.declared.digest.Digest.{Digest}
use Rattle.suit_params.specs.declared.param.ParamKey.TheVariants as keys
use Rattle.suit_params.specs.InForce.{in_force, number_of, bytes_of, digest_in, size_in}
use Rattle.suit_commands.specs.declared.kinds.TestKind.{TestKind}
use Rattle.suit_commands.specs.declared.kinds.TestKind.TheVariants as tests
use Rattle.suit_commands.specs.declared.kinds.ActKind.{ActKind}
use Rattle.suit_commands.specs.declared.kinds.ActKind.TheVariants as acts
use Rattle.path_model.specs.declared.event.Event.{Event}
use Rattle.path_model.specs.declared.event.Event.TheVariants.{Tried, Matched, Missed, Wrote}
use Rattle.path_model.specs.declared.cause.Cause.{Cause}
use Rattle.path_model.specs.declared.cause.Cause.TheVariants as causes
use Rattle.path_model.specs.Behaviour.{State, Done, Condition}
use Rattle.path_model.specs.Settings.{Setting, capacity_of, found_under, payload_of}
use Rattle.path_model.specs.Plays.{Outcome}
use Rattle.path_model.specs.DevicePlays.{Device, content_at, with_content, tested, unread, comparing, fits_size, is_image, matched, is_content, condition_play, Change, Made, Refused, concluded, filled, asking, fetched, fetching, copied, swapped, fits_into, acted, ActIsCut, HoldsAny, WriteLeaves, FetchLeaves, SwapLeaves, launch_of}
use Rattle.path_model.specs.DeviceLaws.{IsUnread, ConditionRules, FailsFor, Holds, WriteRules, FetchRules, CopyRules, Exchanged, NoRoom, SwapRules, InvokeRule, PayloadRules, HoldsSome, Leaves, IsFault, FaultRule, acts_at}
use Rattle.path_model.proofs.Fits.{first_true, second_true, fits}
use Rattle.path_model.proofs.DeviceLeads.{tested_world, matched_world}
use Rattle.path_model.proofs.Leaving.{write_cut, fetch_cut, swap_cut}

-- ---- conditions

failed_or_done : (s : State) (p : ℕ) (soft : Bool) → Condition p soft ≡ Done s → ⊥
failed_or_done s p soft e = absurd cc

passed_so : (p : ℕ) (passed failed : Event) (s : State) (w : Device) (b : Bool) → (tested p passed failed s w b).ending ≡ Done s → b ≡ true
passed_so p passed failed s w true e = refl
passed_so p passed failed s w false e = absurd (failed_or_done s p s.soft_failure e)

so_passed : (p : ℕ) (passed failed : Event) (s : State) (w : Device) (b : Bool) → b ≡ true → (tested p passed failed s w b).ending ≡ Done s
so_passed p passed failed s w true e = refl
so_passed p passed failed s w false e = absurd (true≢false (sym e))

the_digest : Digest → Option Digest → Digest
the_digest d None = d
the_digest d (Some n) = n

the_bytes : List ℕ → Option (List ℕ) → List ℕ
the_bytes d None = d
the_bytes d (Some n) = n

fits_so : (s : Option ℕ) (content : List ℕ) → ((n : ℕ) → s ≡ Some n → length content ≡ n) → fits_size s content ≡ true
fits_so None content has = refl
fits_so (Some m) content has = eq-eqb (length content) m (has m refl)

-- of the digest in force
record IsImageOf (digest : Option Digest) (size : Option ℕ) (content : List ℕ) : Type 0 where
  is : Digest
  named : digest ≡ Some is
  has : hash_like is content ≡ is
  long : (n : ℕ) → size ≡ Some n → length content ≡ n

image_passed : (p c : ℕ) (size : Option ℕ) (s : State) (w : Device) (digest : Option Digest) → (matched p c size s w digest).ending ≡ Done s → IsImageOf digest size (content_at w c)
image_passed p c size s w None e = absurd (failed_or_done s p s.soft_failure e)
image_passed p c size s w (Some d) e =
    let content : List ℕ = content_at w c in
    let image = passed_so p (Matched c d size) (Missed c) s w (is_image d size content) e in
    let same : Bool = has_digest d content in
    record {
      is = d;
      named = refl;
      has = (has_decides d content).0 (first_true same (fits_size size content) image);
      long = fits size content (second_true same (fits_size size content) image);
    }

passed_image : (p c : ℕ) (size : Option ℕ) (s : State) (w : Device) (digest : Option Digest) → IsImageOf digest size (content_at w c) → (matched p c size s w digest).ending ≡ Done s
unfolding the_digest
passed_image p c size s w None image = let none : None ≡ Some image.is = image.named in absurd cc
passed_image p c size s w (Some d) image =
    let content : List ℕ = content_at w c in
    let same : d ≡ image.is = ap (the_digest d) image.named in
    so_passed p (Matched c d size) (Missed c) s w (is_image d size content)
    (and_from (has_digest d content) (fits_size size content)
    ((has_decides d content).1 (ap (λ (x : Digest). hash_like x content) same ∙ image.has ∙ sym same)) (fits_so size content image.long))

content_passed : (wanted : Option (List ℕ)) (content : List ℕ) → is_content wanted content ≡ true → wanted ≡ Some content
content_passed None content e = absurd (true≢false (sym e))
content_passed (Some x) content e = ap Some (sym ((bytes_decides content x).0 e))

passed_content : (wanted : Option (List ℕ)) (content : List ℕ) → wanted ≡ Some content → is_content wanted content ≡ true
unfolding the_bytes
passed_content None content e = absurd cc
passed_content (Some x) content e = (bytes_decides content x).1 (sym (ap (the_bytes x) e))

comparing_world : (p : ℕ) (kind : TestKind) (c : ℕ) (holds : State → Bool) (s : State) (w : Device) → ((comparing p kind c holds).comes s w).world ≡ w
comparing_world p kind c holds s w = tested_world p (Tried c kind true) (Tried c kind false) s w (holds s)

pub conditions_leave : (setting : Setting) (kind : TestKind) (p c : ℕ) (s : State) (w : Device) → ((condition_play setting kind p c).comes s w).world ≡ w
conditions_leave setting tests.Vendor p c = comparing_world p tests.Vendor c _
conditions_leave setting tests.Class p c = comparing_world p tests.Class c _
conditions_leave setting tests.Device p c = comparing_world p tests.Device c _
conditions_leave setting tests.Slot p c = comparing_world p tests.Slot c _
conditions_leave setting tests.ImageMatch p c = λ s w. matched_world p c (size_in s.parameters c) s w (digest_in s.parameters c)
conditions_leave setting tests.CheckContent p c = λ s w.
    tested_world p (Tried c tests.CheckContent true) (Tried c tests.CheckContent false) s w (is_content (bytes_of (in_force s.parameters c keys.Content)) (content_at w c))
conditions_leave setting tests.Abort p c = λ s w. refl

was_unread : (p : ℕ) (w : Device) (o : Outcome Device) → o ≡ unread p w → IsUnread p w o
was_unread p w o is = record {
  events = ap (λ (x : Outcome Device). x.events) is;
  ending = ap (λ (x : Outcome Device). x.ending) is;
  cause = ap (λ (x : Outcome Device). x.cause) is;
  world = ap (λ (x : Outcome Device). x.world) is;
}

conditions_cut : (setting : Setting) (kind : TestKind) (p c : ℕ) (s : State) (w : Device) (o : Outcome Device) → (condition_play setting kind p c).IsCut s w o → IsUnread p w o
conditions_cut setting tests.Vendor p c s w o cut = absurd cut
conditions_cut setting tests.Class p c s w o cut = absurd cut
conditions_cut setting tests.Device p c s w o cut = absurd cut
conditions_cut setting tests.Slot p c s w o cut = absurd cut
conditions_cut setting tests.ImageMatch p c s w o cut = was_unread p w o cut.1
conditions_cut setting tests.CheckContent p c s w o cut = was_unread p w o cut.1
conditions_cut setting tests.Abort p c s w o cut = absurd cut

pub condition_rules : ConditionRules
condition_rules = record {
  image = λ setting p c s w. (
    λ passed. let i = image_passed p c (size_in s.parameters c) s w (digest_in s.parameters c) passed in
        record { digest = i.is; named = i.named; has = i.has; size = i.long },
    λ has. passed_image p c (size_in s.parameters c) s w (digest_in s.parameters c) (record { is = has.digest; named = has.named; has = has.has; long = has.size }),
  );
  content = λ setting p c s w.
      let wanted = bytes_of (in_force s.parameters c keys.Content) in
      let told : Bool → Event = λ b. Tried c tests.CheckContent b in (
        λ passed. content_passed wanted (content_at w c) (passed_so p (told true) (told false) s w (is_content wanted (content_at w c)) passed),
        λ same. so_passed p (told true) (told false) s w (is_content wanted (content_at w c)) (passed_content wanted (content_at w c) same),
      );
  leaves = conditions_leave;
  cut = conditions_cut;
}

-- ---- the effect of a directive

when_true : {A : Type 0} (b : Bool) (x y : A) → b ≡ true → (if b then x else y) ≡ x
when_true true x y e = refl
when_true false x y e = absurd (true≢false (sym e))

when_false : {A : Type 0} (b : Bool) (x y : A) → b ≡ false → (if b then x else y) ≡ y
when_false true x y e = absurd (true≢false e)
when_false false x y e = refl

holds_with : (c : ℕ) (bytes : List ℕ) (w : Device) → Holds c bytes w (with_content w c bytes)
holds_with c bytes w = record {
  content = λ inside. get_or-set_same w.contents c bytes [] inside;
  others = λ k other. get_or-set_other w.contents c k bytes [] other;
  launches = refl;
  asked = refl;
}

-- a directive whose parameter is there comes to its change
module _ {A : Type 0} (p : ℕ) (told : A → List Event) (makes : A → Device → Change) (s : State) (w : Device) where
  lacking : (wanted : Option A) → wanted ≡ None → FailsFor (acted p told makes s w wanted) causes.Missing w
  lacking wanted none =
      let is = ap (acted p told makes s w) none in
      (ap (λ (o : Outcome Device). o.cause) is, ap (λ (o : Outcome Device). o.world) is)

  there : (wanted : Option A) (x : A) (change : Change) → wanted ≡ Some x → makes x w ≡ change → acted p told makes s w wanted ≡ concluded p (told x) s change
  there wanted x change some is = ap (acted p told makes s w) some ∙ ap (concluded p (told x) s) is

made_holds : (p c : ℕ) (es : List Event) (s : State) (w : Device) (bytes : List ℕ) (o : Outcome Device) → o ≡ concluded p es s (Made (with_content w c bytes)) → (o.ending ≡ Done s) × Holds c bytes w o.world
made_holds p c es s w bytes o is =
    (ap (λ (x : Outcome Device). x.ending) is, subst (λ (v : Device). Holds c bytes w v) (sym (ap (λ (x : Outcome Device). x.world) is)) (holds_with c bytes w))

refused_fails : (p : ℕ) (es : List Event) (s : State) (cause : Cause) (w : Device) (o : Outcome Device) → o ≡ concluded p es s (Refused cause w) → FailsFor o cause w
refused_fails p es s cause w o is = (ap (λ (x : Outcome Device). x.cause) is, ap (λ (x : Outcome Device). x.world) is)

filled_made : (setting : Setting) (c : ℕ) (bytes : List ℕ) (w : Device) → length bytes ≤ capacity_of setting c → filled setting c bytes w ≡ Made (with_content w c bytes)
filled_made setting c bytes w le = when_true (nat_le (length bytes) (capacity_of setting c)) (Made (with_content w c bytes)) (Refused causes.TooLarge w) (le-leb (length bytes) (capacity_of setting c) le)

filled_large : (setting : Setting) (c : ℕ) (bytes : List ℕ) (w : Device) → capacity_of setting c < length bytes → filled setting c bytes w ≡ Refused causes.TooLarge w
filled_large setting c bytes w lt = when_false (nat_le (length bytes) (capacity_of setting c)) (Made (with_content w c bytes)) (Refused causes.TooLarge w) (lt-leb (length bytes) (capacity_of setting c) lt)

pub write_rules : WriteRules
write_rules = record {
  missing = λ setting p c s w none. lacking p (λ x. Wrote c ∷ []) (λ x. filled setting c x) s w (bytes_of (in_force s.parameters c keys.Content)) none;
  fits = λ setting p c s w bytes some le.
      made_holds p c (Wrote c ∷ []) s w bytes (acts_at setting acts.Write p c s w)
      (there p (λ x. Wrote c ∷ []) (λ x. filled setting c x) s w (bytes_of (in_force s.parameters c keys.Content)) bytes (Made (with_content w c bytes)) some (filled_made setting c bytes w le));
  too_large = λ setting p c s w bytes some lt.
      refused_fails p (Wrote c ∷ []) s causes.TooLarge w (acts_at setting acts.Write p c s w)
      (there p (λ x. Wrote c ∷ []) (λ x. filled setting c x) s w (bytes_of (in_force s.parameters c keys.Content)) bytes (Refused causes.TooLarge w) some (filled_large setting c bytes w lt));
}

module _ (setting : Setting) (p c : ℕ) (s : State) (w : Device) (uri : List ℕ) (some : bytes_of (in_force s.parameters c keys.Uri) ≡ Some uri) where
  fetch_comes : (change : Change) → fetching setting c uri w ≡ change → acts_at setting acts.Fetch p c s w ≡ concluded p (Wrote c ∷ []) s change
  fetch_comes change is = there p (λ x. Wrote c ∷ []) (λ x. fetching setting c x) s w (bytes_of (in_force s.parameters c keys.Uri)) uri change some is

fetched_made : (setting : Setting) (c : ℕ) (found : Option (List ℕ)) (bytes : List ℕ) (w : Device) → found ≡ Some bytes → length bytes ≤ capacity_of setting c → fetched setting c found w ≡ Made (with_content w c bytes)
fetched_made setting c found bytes w is le =
    ap (λ (o : Option (List ℕ)). fetched setting c o w) is
    ∙ when_true (nat_le (length bytes) (capacity_of setting c)) (Made (with_content w c bytes)) (Refused causes.TooLarge (with_content w c [])) (le-leb (length bytes) (capacity_of setting c) le)

fetched_large : (setting : Setting) (c : ℕ) (found : Option (List ℕ)) (bytes : List ℕ) (w : Device) → found ≡ Some bytes → capacity_of setting c < length bytes → fetched setting c found w ≡ Refused causes.TooLarge (with_content w c [])
fetched_large setting c found bytes w is lt =
    ap (λ (o : Option (List ℕ)). fetched setting c o w) is
    ∙ when_false (nat_le (length bytes) (capacity_of setting c)) (Made (with_content w c bytes)) (Refused causes.TooLarge (with_content w c [])) (lt-leb (length bytes) (capacity_of setting c) lt)

pub fetch_rules : FetchRules
fetch_rules = record {
  missing = λ setting p c s w none. lacking p (λ x. Wrote c ∷ []) (λ x. fetching setting c x) s w (bytes_of (in_force s.parameters c keys.Uri)) none;
  absent = λ setting p c s w uri some none.
      let asked : Device = asking setting uri w in
      refused_fails p (Wrote c ∷ []) s causes.Absent asked (acts_at setting acts.Fetch p c s w)
      (fetch_comes setting p c s w uri some (Refused causes.Absent asked) (ap (λ (o : Option (List ℕ)). fetched setting c o asked) none));
  fits = λ setting p c s w uri bytes some found le.
      let asked : Device = asking setting uri w in
      made_holds p c (Wrote c ∷ []) s asked bytes (acts_at setting acts.Fetch p c s w)
      (fetch_comes setting p c s w uri some (Made (with_content asked c bytes)) (fetched_made setting c (payload_of setting (length w.asked) uri) bytes asked found le));
  too_large = λ setting p c s w uri bytes some found lt.
      let asked : Device = asking setting uri w in
      let is = fetch_comes setting p c s w uri some (Refused causes.TooLarge (with_content asked c [])) (fetched_large setting c (payload_of setting (length w.asked) uri) bytes asked found lt) in
      (ap (λ (x : Outcome Device). x.cause) is, subst (λ (v : Device). Holds c [] asked v) (sym (ap (λ (x : Outcome Device). x.world) is)) (holds_with c [] asked));
}

module _ (setting : Setting) (p c : ℕ) (s : State) (w : Device) (source : ℕ) (some : number_of (in_force s.parameters c keys.Source) ≡ Some source) where
  copy_comes : (change : Change) → copied setting c source w ≡ change → acts_at setting acts.Copy p c s w ≡ concluded p (Wrote c ∷ []) s change
  copy_comes change is = there p (λ x. Wrote c ∷ []) (λ x. copied setting c x) s w (number_of (in_force s.parameters c keys.Source)) source change some is

  swap_comes : (change : Change) → swapped setting c source w ≡ change → acts_at setting acts.Swap p c s w ≡ concluded p (Wrote c ∷ Wrote source ∷ []) s change
  swap_comes change is = there p (λ x. Wrote c ∷ Wrote x ∷ []) (λ x. swapped setting c x) s w (number_of (in_force s.parameters c keys.Source)) source change some is

copied_other : (setting : Setting) (c source : ℕ) (w : Device) → source ≢ c → copied setting c source w ≡ filled setting c (content_at w source) w
copied_other setting c source w other = when_false (source == c) (Refused causes.SelfCopy w) (filled setting c (content_at w source) w) (ne_eqb source c other)

pub copy_rules : CopyRules
copy_rules = record {
  missing = λ setting p c s w none. lacking p (λ x. Wrote c ∷ []) (λ x. copied setting c x) s w (number_of (in_force s.parameters c keys.Source)) none;
  itself = λ setting p c s w some.
      refused_fails p (Wrote c ∷ []) s causes.SelfCopy w (acts_at setting acts.Copy p c s w)
      (copy_comes setting p c s w c some (Refused causes.SelfCopy w) (when_true (c == c) (Refused causes.SelfCopy w) (filled setting c (content_at w c) w) (eq-eqb c c refl)));
  fits = λ setting p c source s w some other le.
      let bytes : List ℕ = content_at w source in
      made_holds p c (Wrote c ∷ []) s w bytes (acts_at setting acts.Copy p c s w)
      (copy_comes setting p c s w source some (Made (with_content w c bytes)) (copied_other setting c source w other ∙ filled_made setting c bytes w le));
  too_large = λ setting p c source s w some other lt.
      refused_fails p (Wrote c ∷ []) s causes.TooLarge w (acts_at setting acts.Copy p c s w)
      (copy_comes setting p c s w source some (Refused causes.TooLarge w) (copied_other setting c source w other ∙ filled_large setting c (content_at w source) w lt));
}

-- ---- swaps

module _ (setting : Setting) (c source : ℕ) (w : Device) (other : source ≢ c) where
  both : Device
  both = with_content (with_content w c (content_at w source)) source (content_at w c)

  fit : Bool
  fit = fits_into setting w source c && fits_into setting w c source

  swapped_by : (b : Bool) → fit ≡ b → swapped setting c source w ≡ (if b then Made both else Refused causes.TooLarge w)
  unfolding both fit
  swapped_by b is =
      when_false (source == c) (Refused causes.SelfCopy w) (if fit then Made both else Refused causes.TooLarge w) (ne_eqb source c other)
      ∙ ap (λ (x : Bool). if x then Made both else Refused causes.TooLarge w) is

  exchanged : Exchanged c source w both
  unfolding both
  exchanged =
      let middle : Device = with_content w c (content_at w source) in
      let apart : c ≢ source = λ same. other (sym same) in
      record {
        content = λ inside. get_or-set_other middle.contents source c (content_at w c) [] apart ∙ get_or-set_same w.contents c (content_at w source) [] inside;
        source_content = λ inside. get_or-set_same middle.contents source (content_at w c) []
            (let long = length-set w.contents c (content_at w source) in omega (arith, inside, long));
        others = λ k not_one not_two. get_or-set_other middle.contents source k (content_at w c) [] not_two ∙ get_or-set_other w.contents c k (content_at w source) [] not_one;
        launches = refl;
        asked = refl;
      }

  fit_true : length (content_at w source) ≤ capacity_of setting c → length (content_at w c) ≤ capacity_of setting source → fit ≡ true
  unfolding fit
  fit_true one two =
      and_from (fits_into setting w source c) (fits_into setting w c source) (le-leb (length (content_at w source)) (capacity_of setting c) one) (le-leb (length (content_at w c)) (capacity_of setting source) two)

  fit_false : NoRoom setting w c source → fit ≡ false
  unfolding fit
  fit_false room = elim room [
    | inl one ↦ and_left (fits_into setting w source c) (fits_into setting w c source) (lt-leb (length (content_at w source)) (capacity_of setting c) one)
    | inr two ↦ and_right (fits_into setting w source c) (fits_into setting w c source) (lt-leb (length (content_at w c)) (capacity_of setting source) two)
  ]

pub swap_rules : SwapRules
swap_rules = record {
  missing = λ setting p c s w none. lacking p (λ x. Wrote c ∷ Wrote x ∷ []) (λ x. swapped setting c x) s w (number_of (in_force s.parameters c keys.Source)) none;
  itself = λ setting p c s w some.
      refused_fails p (Wrote c ∷ Wrote c ∷ []) s causes.SelfCopy w (acts_at setting acts.Swap p c s w)
      (swap_comes setting p c s w c some (Refused causes.SelfCopy w) (when_true (c == c) (Refused causes.SelfCopy w) _ (eq-eqb c c refl)));
  fits = λ setting p c source s w some other one two.
      let is = swap_comes setting p c s w source some (Made (both setting c source w other)) (swapped_by setting c source w other true (fit_true setting c source w other one two)) in
      (ap (λ (x : Outcome Device). x.ending) is, subst (λ (v : Device). Exchanged c source w v) (sym (ap (λ (x : Outcome Device). x.world) is)) (exchanged setting c source w other));
  too_large = λ setting p c source s w some other room.
      refused_fails p (Wrote c ∷ Wrote source ∷ []) s causes.TooLarge w (acts_at setting acts.Swap p c s w)
      (swap_comes setting p c s w source some (Refused causes.TooLarge w) (swapped_by setting c source w other false (fit_false setting c source w other room)));
}

pub invoke_rule : InvokeRule
invoke_rule setting p c s w = (
  refl,
  record {
    launch = launch_of w c s.parameters;
    is = record { component = refl; bytes = refl; digest = refl; size = refl; args = refl };
    added = refl;
    contents = refl;
    asked = refl;
  },
)

-- ---- payloads

pub payload_rules : PayloadRules
payload_rules = record {
  integrated = λ setting request key. refl;
  named = λ setting request first uri name other is.
      when_false (first == 35) (found_under setting.payloads (first ∷ uri)) (option_and_then (setting.files request) (found_under setting.words (first ∷ uri))) (ne_eqb first 35 other)
      ∙ ap (option_and_then (setting.files request)) is;
  unnamed = λ setting request first uri other is.
      when_false (first == 35) (found_under setting.payloads (first ∷ uri)) (option_and_then (setting.files request) (found_under setting.words (first ∷ uri))) (ne_eqb first 35 other)
      ∙ ap (option_and_then (setting.files request)) is;
  asks_none = λ words key. refl;
  asks = λ words first uri name other is.
      when_false (first == 35) [] (option_to_list (found_under words (first ∷ uri))) (ne_eqb first 35 other) ∙ ap option_to_list is;
  asks_unnamed = λ words first uri other is.
      when_false (first == 35) [] (option_to_list (found_under words (first ∷ uri))) (ne_eqb first 35 other) ∙ ap option_to_list is;
  none = λ key. refl;
  here = λ key value pairs. when_true (bytes_eq key key) (Some value) (found_under pairs key) ((bytes_decides key key).1 refl);
  later = λ key other value pairs differs. when_false (bytes_eq other key) (Some value) (found_under pairs key) (not_same other key differs);
}
  where
    by_test : (other key : List ℕ) → other ≢ key → (b : Bool) → bytes_eq other key ≡ b → b ≡ false
    by_test other key differs true is = absurd (differs ((bytes_decides other key).0 is))
    by_test other key differs false is = refl

    not_same : (other key : List ℕ) → other ≢ key → bytes_eq other key ≡ false
    not_same other key differs = by_test other key differs (bytes_eq other key) refl

-- ---- faults

held_some : (setting : Setting) (c : ℕ) (w v : Device) → HoldsAny setting c w v → HoldsSome setting c w v
held_some setting c w v (bytes, short, is) = record { bytes = bytes; short = short; holds = subst (λ (u : Device). Holds c bytes w u) (sym is) (holds_with c bytes w) }

module _ {A : Type 0} (setting : Setting) (kind : ActKind) (p c : ℕ) (told : A → List Event) (Left : A → Cause → Device → Device → Type 0)
    (s : State) (wanted : Option A) (leaves : (x : A) → wanted ≡ Some x → (cause : Cause) (w v : Device) → Left x cause w v → Leaves setting kind cause c s w v) where
  cut_so : (w : Device) (o : Outcome Device) (named : Option A) → wanted ≡ named → ActIsCut p told Left s w o named → IsFault setting kind p c s w o
  cut_so w o None same cut = absurd cut
  cut_so w o (Some x) same (cause, v, left, is) = record {
    ending = ap (λ (y : Outcome Device). y.ending) is;
    cause = cause;
    named = ap (λ (y : Outcome Device). y.cause) is;
    leaves = subst (λ (u : Device). Leaves setting kind cause c s w u) (sym (ap (λ (y : Outcome Device). y.world) is)) (leaves x same cause w v left);
  }

  cut_fault : (w : Device) (o : Outcome Device) → ActIsCut p told Left s w o wanted → IsFault setting kind p c s w o
  cut_fault w o cut = cut_so w o wanted refl cut

write_left : (setting : Setting) (c : ℕ) (s : State) (cause : Cause) (w v : Device) → WriteLeaves setting c cause w v → Leaves setting acts.Write cause c s w v
write_left setting c s cause w v h = write_cut setting c w v (λ k. Leaves setting acts.Write k c s w v) cause h (held_some setting c w v)

copy_left : (setting : Setting) (c : ℕ) (s : State) (cause : Cause) (w v : Device) → WriteLeaves setting c cause w v → Leaves setting acts.Copy cause c s w v
copy_left setting c s cause w v h = write_cut setting c w v (λ k. Leaves setting acts.Copy k c s w v) cause h (held_some setting c w v)

fetch_left : (setting : Setting) (c : ℕ) (s : State) (uri : List ℕ) → bytes_of (in_force s.parameters c keys.Uri) ≡ Some uri → (cause : Cause) (w v : Device) → FetchLeaves setting uri c cause w v
    → Leaves setting acts.Fetch cause c s w v
fetch_left setting c s uri same cause w v h =
    let asked : Device = asking setting uri w in
    fetch_cut setting c w v (λ k. Leaves setting acts.Fetch k c s w v) uri cause h
    (λ any. record { uri = uri; named = same; then_so = held_some setting c asked v any })
    (λ named left. elim left [
      | inl is ↦ inl is
      | inr later ↦ inr (record {
        uri = uri;
        named = same;
        then_so = elim later [ inl is ↦ inl is | inr is ↦ inr (subst (λ (u : Device). Holds c [] asked u) (sym is) (holds_with c [] asked)) ];
      })
    ])

swap_left : (setting : Setting) (c : ℕ) (s : State) (source : ℕ) (cause : Cause) (w v : Device) → SwapLeaves setting c source cause w v → Leaves setting acts.Swap cause c s w v
swap_left setting c s source cause w v h =
    swap_cut setting c w v (λ k. Leaves setting acts.Swap k c s w v) source cause h
    (λ m one two. record { source = source; middle = m; one = held_some setting c w m one; other = held_some setting source m v two })

pub fault_rule : FaultRule
fault_rule setting acts.Write p c s w o cut =
    cut_fault setting acts.Write p c (λ x. Wrote c ∷ []) (λ x. WriteLeaves setting c) s (bytes_of (in_force s.parameters c keys.Content)) (λ x same. write_left setting c s) w o cut
fault_rule setting acts.Fetch p c s w o cut =
    cut_fault setting acts.Fetch p c (λ x. Wrote c ∷ []) (λ x. FetchLeaves setting x c) s (bytes_of (in_force s.parameters c keys.Uri)) (fetch_left setting c s) w o cut
fault_rule setting acts.Copy p c s w o cut =
    cut_fault setting acts.Copy p c (λ x. Wrote c ∷ []) (λ x. WriteLeaves setting c) s (number_of (in_force s.parameters c keys.Source)) (λ x same. copy_left setting c s) w o cut
fault_rule setting acts.Swap p c s w o cut =
    cut_fault setting acts.Swap p c (λ x. Wrote c ∷ Wrote x ∷ []) (λ x. SwapLeaves setting c x) s (number_of (in_force s.parameters c keys.Source)) (λ x same. swap_left setting c s x) w o cut
fault_rule setting acts.Invoke p c s w o (causes.LaunchFault, stops, is) = record {
  ending = ap (λ (y : Outcome Device). y.ending) is;
  cause = causes.LaunchFault;
  named = ap (λ (y : Outcome Device). y.cause) is;
  leaves = ap (λ (y : Outcome Device). y.world) is;
}
fault_rule setting acts.Invoke p c s w o (causes.FlashFault, stops, is) = record {
  ending = ap (λ (y : Outcome Device). y.ending) is;
  cause = causes.FlashFault;
  named = ap (λ (y : Outcome Device). y.cause) is;
  leaves = ap (λ (y : Outcome Device). y.world) is;
}
fault_rule setting acts.Invoke p c s w o (causes.HostFault, stops, is) = absurd stops
fault_rule setting acts.Invoke p c s w o (causes.Missing, stops, is) = absurd stops
fault_rule setting acts.Invoke p c s w o (causes.SelfCopy, stops, is) = absurd stops
fault_rule setting acts.Invoke p c s w o (causes.TooLarge, stops, is) = absurd stops
fault_rule setting acts.Invoke p c s w o (causes.Absent, stops, is) = absurd stops
