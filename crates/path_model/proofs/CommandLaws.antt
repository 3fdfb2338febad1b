-- The laws of one condition or directive.
use Rattle.std.proofs.Common.{◌≡◌, ◌≢◌, ℕ, true, false, List, [], ◌∷◌, Option, Some, None, refl, sym, ap, subst, ◌∙◌, inl, inr, ◌⊎◌}
use Rattle.std.specs.Prelude.{◌↔◌, option_map, slice_get}
use Rattle.suit_params.specs.declared.digest.Digest.{Digest}
use Rattle.path_model.specs.declared.identity.Identity.{Identity}
use Rattle.suit_params.specs.declared.param.Param.{Param}
use Rattle.suit_params.specs.declared.param.Param.TheVariants as params
use Rattle.suit_params.specs.declared.param.ParamKey.{ParamKey}
use Rattle.suit_params.specs.declared.param.ParamKey.TheVariants as keys
use Rattle.suit_commands.specs.declared.kinds.TestKind.{TestKind}
use Rattle.suit_commands.specs.declared.kinds.TestKind.TheVariants as tests
use Rattle.suit_commands.specs.declared.kinds.ActKind.{ActKind}
use Rattle.suit_commands.specs.declared.kinds.ActKind.TheVariants as acts
use Rattle.path_model.specs.declared.event.Event.{Event}
use Rattle.path_model.specs.declared.event.Event.TheVariants.{Tried, Matched, Missed, Wrote, Invoked, Failed}
use Rattle.suit_params.specs.ParamKeys.{key_of, key_number, numbered}
use Rattle.suit_params.specs.InForce.{in_force, identifier_of, number_of, digest_of, bytes_of, digest_in, size_in}
use Rattle.path_model.specs.Behaviour.{State, Ending, Done, Condition, Directive}
use Rattle.path_model.specs.Conditions.{Tests, Compares, Matches, ChecksContent, IsUnmet, vendor_of, class_of, device_of, slot_of}
use Rattle.path_model.specs.Directives.{Writes, Acts}
use Rattle.path_model.specs.CommandLaws.{PassedBy, FailedAt, MatchTold, PassTold, EndsPassed, ConditionsEnd, AbortFails, ConditionsNeed, HasValue, Follows, IdentityFollowed, IdentityNeeded, IdentityDecides, MatchIsFree, ContentIsFree, EndsEitherWay, written, DirectivesWrite, DirectivesNeed, InvokesTell}

-- ---- keys by their numbers

numbered_again : (key : ParamKey) → numbered (key_number key) ≡ Some key
numbered_again keys.Vendor = refl
numbered_again _ = refl

same_some : (key other : ParamKey) → Some key ≡ Some other → key ≡ other
same_some key other same = cc

same_key : (key other : ParamKey) → key_number key ≡ key_number other → key ≡ other
same_key key other same = same_some key other (sym (numbered_again key) ∙ ap numbered same ∙ numbered_again other)

-- the parameter in force under the key of a number
at_key : (s : State) (c : ℕ) (key other : ParamKey) (held : Option Param) → key_number key ≡ key_number other → in_force s.parameters c key ≡ held → in_force s.parameters c other ≡ held
at_key s c key other held same is = subst (λ (k : ParamKey). in_force s.parameters c k ≡ held) (same_key key other same) is

-- ---- how conditions end

compares_end : {A : Type 0} (kind : TestKind) → kind ≢ tests.ImageMatch → (p c : ℕ) (wanted own : Option A) (s : State) (es : List Event) (e : Ending) → Compares p kind c wanted own s es e → EndsPassed kind c s es e ⊎ ((es ≡ Tried c kind false ∷ Failed p ∷ []) × (e ≡ Condition p s.soft_failure))
compares_end kind other p c wanted own s es e run =
    elim run [
      | inl (same, passed) ↦ inl (record { event = Tried c kind true; tells = PassTold kind c other; passed = passed })
      | inr (differs, failed) ↦ inr failed
    ]

matches_end : (p c : ℕ) (digest : Option Digest) (size : Option ℕ) (s : State) (es : List Event) (e : Ending) → Matches p c digest size s es e → EndsPassed tests.ImageMatch c s es e ⊎ FailedAt p tests.ImageMatch c s es e
matches_end p c None size s es e run = inr run
matches_end p c (Some digest) size s es e run =
    elim run [
      | inl passed ↦ inl (record { event = Matched c digest size; tells = MatchTold c digest size; passed = passed })
      | inr failed ↦ inr failed
    ]

content_other : tests.CheckContent ≢ tests.ImageMatch
content_other same = absurd cc

content_ends : (p c : ℕ) (content : Option (List ℕ)) (s : State) (es : List Event) (e : Ending) → ChecksContent p c content s es e → EndsPassed tests.CheckContent c s es e ⊎ FailedAt p tests.CheckContent c s es e
content_ends p c None s es e run = inr run
content_ends p c (Some content) s es e run =
    elim run [
      | inl passed ↦ inl (record { event = Tried c tests.CheckContent true; tells = PassTold tests.CheckContent c content_other; passed = passed })
      | inr failed ↦ inr failed
    ]

pub conditions_end : ConditionsEnd
conditions_end tests.Vendor ids p c s es e run = compares_end tests.Vendor (λ same. absurd cc) p c (identifier_of (in_force s.parameters c keys.Vendor)) (vendor_of (slice_get ids c)) s es e run
conditions_end tests.Class ids p c s es e run = compares_end tests.Class (λ same. absurd cc) p c (identifier_of (in_force s.parameters c keys.Class)) (class_of (slice_get ids c)) s es e run
conditions_end tests.Device ids p c s es e run = compares_end tests.Device (λ same. absurd cc) p c (identifier_of (in_force s.parameters c keys.Device)) (device_of (slice_get ids c)) s es e run
conditions_end tests.Slot ids p c s es e run = compares_end tests.Slot (λ same. absurd cc) p c (number_of (in_force s.parameters c keys.Slot)) (slot_of (slice_get ids c)) s es e run
conditions_end tests.ImageMatch ids p c s es e run = matches_end p c (digest_in s.parameters c) (size_in s.parameters c) s es e run
conditions_end tests.CheckContent ids p c s es e run = content_ends p c (bytes_of (in_force s.parameters c keys.Content)) s es e run
conditions_end tests.Abort ids p c s es e run = inr run

pub abort_fails : AbortFails
abort_fails ids p c s es e = (λ run. run, λ failed. failed)

-- ---- the needs of conditions

none_wanted : {A : Type 0} (kind : TestKind) (p c : ℕ) (wanted own : Option A) (s : State) (es : List Event) (e : Ending) → wanted ≡ None → Compares p kind c wanted own s es e ↔ IsUnmet p (Tried c kind false) s es e
none_wanted kind p c None own s es e none = (
  λ run. elim run [ inl (same, passed) ↦ absurd same | inr (differs, failed) ↦ failed ],
  λ failed. inr (λ same. same, failed),
)
none_wanted kind p c (Some wanted) own s es e none = absurd cc

none_own : {A : Type 0} (kind : TestKind) (p c : ℕ) (wanted own : Option A) (s : State) (es : List Event) (e : Ending) → own ≡ None → Compares p kind c wanted own s es e ↔ IsUnmet p (Tried c kind false) s es e
none_own kind p c None own s es e none = none_wanted kind p c None own s es e refl
none_own kind p c (Some wanted) None s es e none =
    let differs : None ≡ Some wanted → ⊥ = λ same. absurd cc in (
      λ run. elim run [ inl (same, passed) ↦ absurd (differs same) | inr (not_same, failed) ↦ failed ],
      λ failed. inr (differs, failed),
    )
none_own kind p c (Some wanted) (Some own) s es e none = absurd cc

match_needs : (p c : ℕ) (digest : Option Digest) (size : Option ℕ) (s : State) (es : List Event) (e : Ending) → digest ≡ None → Matches p c digest size s es e ↔ IsUnmet p (Missed c) s es e
match_needs p c None size s es e none = (λ run. run, λ failed. failed)
match_needs p c (Some d) size s es e none = absurd cc

content_needs : (p c : ℕ) (content : Option (List ℕ)) (s : State) (es : List Event) (e : Ending) → content ≡ None → ChecksContent p c content s es e ↔ IsUnmet p (Tried c tests.CheckContent false) s es e
content_needs p c None s es e none = (λ run. run, λ failed. failed)
content_needs p c (Some content) s es e none = absurd cc

pub conditions_need : ConditionsNeed
conditions_need tests.Vendor key ids p c s es e number none =
    none_wanted tests.Vendor p c (identifier_of (in_force s.parameters c keys.Vendor)) (vendor_of (slice_get ids c)) s es e (ap identifier_of (at_key s c key keys.Vendor None number none))
conditions_need tests.Class key ids p c s es e number none =
    none_wanted tests.Class p c (identifier_of (in_force s.parameters c keys.Class)) (class_of (slice_get ids c)) s es e (ap identifier_of (at_key s c key keys.Class None number none))
conditions_need tests.Device key ids p c s es e number none =
    none_wanted tests.Device p c (identifier_of (in_force s.parameters c keys.Device)) (device_of (slice_get ids c)) s es e (ap identifier_of (at_key s c key keys.Device None number none))
conditions_need tests.Slot key ids p c s es e number none =
    none_wanted tests.Slot p c (number_of (in_force s.parameters c keys.Slot)) (slot_of (slice_get ids c)) s es e (ap number_of (at_key s c key keys.Slot None number none))
conditions_need tests.ImageMatch key ids p c s es e number none =
    match_needs p c (digest_in s.parameters c) (size_in s.parameters c) s es e (ap digest_of (at_key s c key keys.Digest None number none))
conditions_need tests.CheckContent key ids p c s es e number none =
    content_needs p c (bytes_of (in_force s.parameters c keys.Content)) s es e (ap bytes_of (at_key s c key keys.Content None number none))
conditions_need tests.Abort key ids p c s es e number none = abort_fails ids p c s es e

pub identity_needed : IdentityNeeded
identity_needed tests.Vendor ids p c s es e on none = none_own tests.Vendor p c (identifier_of (in_force s.parameters c keys.Vendor)) (vendor_of (slice_get ids c)) s es e (ap vendor_of none)
identity_needed tests.Class ids p c s es e on none = none_own tests.Class p c (identifier_of (in_force s.parameters c keys.Class)) (class_of (slice_get ids c)) s es e (ap class_of none)
identity_needed tests.Device ids p c s es e on none = none_own tests.Device p c (identifier_of (in_force s.parameters c keys.Device)) (device_of (slice_get ids c)) s es e (ap device_of none)
identity_needed tests.Slot ids p c s es e on none = none_own tests.Slot p c (number_of (in_force s.parameters c keys.Slot)) (slot_of (slice_get ids c)) s es e (ap slot_of none)
identity_needed tests.ImageMatch ids p c s es e on none = absurd on
identity_needed tests.CheckContent ids p c s es e on none = absurd on
identity_needed tests.Abort ids p c s es e on none = absurd on

-- ---- the conditions on the identity

compares_alike : {A : Type 0} (kind : TestKind) (p c : ℕ) (wanted own : Option A) (s : State) (es fs : List Event) (e f : Ending) → Compares p kind c wanted own s es e → Compares p kind c wanted own s fs f → (es ≡ fs) × (e ≡ f)
compares_alike kind p c wanted own s es fs e f run other =
    elim run [
      | inl (same, (is, done)) ↦ elim other [
        | inl (again, (js, end)) ↦ (is ∙ sym js, done ∙ sym end)
        | inr (differs, failed) ↦ absurd (differs same)
      ]
      | inr (differs, (is, failed)) ↦ elim other [
        | inl (same, passed) ↦ absurd (differs same)
        | inr (again, (js, end)) ↦ (is ∙ sym js, failed ∙ sym end)
      ]
    ]

pub identity_decides : IdentityDecides
identity_decides tests.Vendor ids p c s es fs e f on run other = compares_alike tests.Vendor p c (identifier_of (in_force s.parameters c keys.Vendor)) (vendor_of (slice_get ids c)) s es fs e f run other
identity_decides tests.Class ids p c s es fs e f on run other = compares_alike tests.Class p c (identifier_of (in_force s.parameters c keys.Class)) (class_of (slice_get ids c)) s es fs e f run other
identity_decides tests.Device ids p c s es fs e f on run other = compares_alike tests.Device p c (identifier_of (in_force s.parameters c keys.Device)) (device_of (slice_get ids c)) s es fs e f run other
identity_decides tests.Slot ids p c s es fs e f on run other = compares_alike tests.Slot p c (number_of (in_force s.parameters c keys.Slot)) (slot_of (slice_get ids c)) s es fs e f run other
identity_decides tests.ImageMatch ids p c s es fs e f on run other = absurd on
identity_decides tests.CheckContent ids p c s es fs e f on run other = absurd on
identity_decides tests.Abort ids p c s es fs e f on run other = absurd on

-- a comparison, where what is compared is known
compares_known : {A : Type 0} (kind : TestKind) (p c : ℕ) (wanted own : Option A) (value : A) (held : Option A) (s : State) (es : List Event) (e : Ending) → wanted ≡ Some value → own ≡ held
    → Compares p kind c wanted own s es e
    ↔ (((held ≡ Some value) × PassedBy (Tried c kind true) s es e) ⊎ ((held ≡ Some value → ⊥) × IsUnmet p (Tried c kind false) s es e))
compares_known {A} kind p c wanted own value held s es e w-is o-is = (
  λ run. subst (λ (o : Option A). Compares p kind c (Some value) o s es e) o-is (subst (λ (w : Option A). Compares p kind c w own s es e) w-is run),
  λ ends. subst (λ (w : Option A). Compares p kind c w own s es e) (sym w-is) (subst (λ (o : Option A). Compares p kind c (Some value) o s es e) (sym o-is) ends),
)

-- ---- a parameter by its number

abbrev Made : ParamKey → Param → Type 0
Made keys.Vendor param = (id : List ℕ) × (param ≡ params.Vendor id)
Made keys.Class param = (id : List ℕ) × (param ≡ params.Class id)
Made keys.Device param = (id : List ℕ) × (param ≡ params.Device id)
Made keys.Slot param = (slot : ℕ) × (param ≡ params.Slot slot)
Made keys.Content param = (content : List ℕ) × (param ≡ params.Content content)
Made keys.Uri param = (uri : List ℕ) × (param ≡ params.Uri uri)
Made keys.Source param = (source : ℕ) × (param ≡ params.Source source)
Made _ param = Unit {0}

made : (param : Param) → Made (key_of param) param
made (params.Vendor id) = (id, refl)
made (params.Class id) = (id, refl)
made (params.Device id) = (id, refl)
made (params.Slot slot) = (slot, refl)
made (params.Content content) = (content, refl)
made (params.Uri uri) = (uri, refl)
made (params.Source source) = (source, refl)
made _ = tt

made_as : (key : ParamKey) (param : Param) → key_number (key_of param) ≡ key_number key → Made key param
made_as key param number = subst (λ (k : ParamKey). Made k param) (same_key (key_of param) key number) (made param)

-- the parameter in force under the key of a known one
held_as : (s : State) (c : ℕ) (param known : Param) → param ≡ known → in_force s.parameters c (key_of param) ≡ Some param → in_force s.parameters c (key_of known) ≡ Some known
held_as s c param known is held = subst (λ (p : Param). in_force s.parameters c (key_of p) ≡ Some p) is held

-- ---- the conditions follow the identity

vendor_followed : (ids : List Identity) (identity : Identity) (id : List ℕ) (p c : ℕ) (s : State) (es : List Event) (e : Ending) → slice_get ids c ≡ Some identity → in_force s.parameters c keys.Vendor ≡ Some (params.Vendor id) → Tests tests.Vendor ids p c s es e ↔ Follows (HasValue identity (params.Vendor id)) p tests.Vendor c s es e
vendor_followed ids identity id p c s es e there held =
    compares_known tests.Vendor p c (identifier_of (in_force s.parameters c keys.Vendor)) (vendor_of (slice_get ids c)) id identity.vendor s es e (ap identifier_of held) (ap vendor_of there)

class_followed : (ids : List Identity) (identity : Identity) (id : List ℕ) (p c : ℕ) (s : State) (es : List Event) (e : Ending) → slice_get ids c ≡ Some identity → in_force s.parameters c keys.Class ≡ Some (params.Class id) → Tests tests.Class ids p c s es e ↔ Follows (HasValue identity (params.Class id)) p tests.Class c s es e
class_followed ids identity id p c s es e there held =
    compares_known tests.Class p c (identifier_of (in_force s.parameters c keys.Class)) (class_of (slice_get ids c)) id identity.class s es e (ap identifier_of held) (ap class_of there)

device_followed : (ids : List Identity) (identity : Identity) (id : List ℕ) (p c : ℕ) (s : State) (es : List Event) (e : Ending) → slice_get ids c ≡ Some identity → in_force s.parameters c keys.Device ≡ Some (params.Device id) → Tests tests.Device ids p c s es e ↔ Follows (HasValue identity (params.Device id)) p tests.Device c s es e
device_followed ids identity id p c s es e there held =
    compares_known tests.Device p c (identifier_of (in_force s.parameters c keys.Device)) (device_of (slice_get ids c)) id identity.device s es e (ap identifier_of held) (ap device_of there)

held_number : Option ℕ → ℕ
held_number None = 0
held_number (Some n) = n

same_number : (m n : ℕ) → Some m ≡ Some n → m ≡ n
unfolding held_number
same_number m n same = ap held_number same

slot_followed : (ids : List Identity) (identity : Identity) (slot p c : ℕ) (s : State) (es : List Event) (e : Ending) → slice_get ids c ≡ Some identity → in_force s.parameters c keys.Slot ≡ Some (params.Slot slot) → Tests tests.Slot ids p c s es e ↔ Follows (HasValue identity (params.Slot slot)) p tests.Slot c s es e
slot_followed ids identity slot p c s es e there held =
    let known = compares_known tests.Slot p c (number_of (in_force s.parameters c keys.Slot)) (slot_of (slice_get ids c)) slot (Some identity.slot) s es e (ap number_of held) (ap slot_of there) in (
      λ run. elim (known.0 run) [
        | inl (same, passed) ↦ inl (same_number identity.slot slot same, passed)
        | inr (differs, failed) ↦ inr (λ same. differs (ap Some same), failed)
      ],
      λ ends. known.1 (elim ends [
        | inl (same, passed) ↦ inl (ap Some same, passed)
        | inr (differs, failed) ↦ inr (λ same. differs (same_number identity.slot slot same), failed)
      ]),
    )

-- the parameter in force is made of a value, which the condition asks for
followed_as : {A : Type 0} (kind : TestKind) (make : A → Param) (ids : List Identity) (identity : Identity) (param : Param) (p c : ℕ) (s : State) (es : List Event) (e : Ending)
    → ((value : A) → in_force s.parameters c (key_of (make value)) ≡ Some (make value) → Tests kind ids p c s es e ↔ Follows (HasValue identity (make value)) p kind c s es e)
    → (value : A) × (param ≡ make value) → in_force s.parameters c (key_of param) ≡ Some param
    → Tests kind ids p c s es e ↔ Follows (HasValue identity param) p kind c s es e
followed_as kind make ids identity param p c s es e each v held =
    subst (λ (q : Param). Tests kind ids p c s es e ↔ Follows (HasValue identity q) p kind c s es e) (sym v.1)
    (each v.0 (held_as s c param (make v.0) v.1 held))

pub identity_followed : IdentityFollowed
identity_followed tests.Vendor ids identity param p c s es e on number there held =
    followed_as tests.Vendor params.Vendor ids identity param p c s es e (λ id. vendor_followed ids identity id p c s es e there) (made_as keys.Vendor param number) held
identity_followed tests.Class ids identity param p c s es e on number there held =
    followed_as tests.Class params.Class ids identity param p c s es e (λ id. class_followed ids identity id p c s es e there) (made_as keys.Class param number) held
identity_followed tests.Device ids identity param p c s es e on number there held =
    followed_as tests.Device params.Device ids identity param p c s es e (λ id. device_followed ids identity id p c s es e there) (made_as keys.Device param number) held
identity_followed tests.Slot ids identity param p c s es e on number there held =
    followed_as tests.Slot params.Slot ids identity param p c s es e (λ slot. slot_followed ids identity slot p c s es e there) (made_as keys.Slot param number) held
identity_followed tests.ImageMatch ids identity param p c s es e on number there held = absurd on
identity_followed tests.CheckContent ids identity param p c s es e on number there held = absurd on
identity_followed tests.Abort ids identity param p c s es e on number there held = absurd on

-- ---- the conditions on the content

sized : (size : Option ℕ) → number_of (option_map params.Size size) ≡ size
sized None = refl
sized (Some n) = refl

digested : (digest : Option Digest) → digest_of (option_map params.Digest digest) ≡ digest
digested None = refl
digested (Some d) = refl

pub match_is_free : MatchIsFree
match_is_free ids p c digest size s es e digest-is size-is =
    let d : digest_in s.parameters c ≡ Some digest = ap digest_of digest-is in
    let z : size_in s.parameters c ≡ size = ap number_of size-is ∙ sized size in (
      λ run. subst (λ (o : Option Digest). Matches p c o size s es e) d (subst (λ (n : Option ℕ). Matches p c (digest_in s.parameters c) n s es e) z run),
      λ ends. subst (λ (n : Option ℕ). Matches p c (digest_in s.parameters c) n s es e) (sym z) (subst (λ (o : Option Digest). Matches p c o size s es e) (sym d) ends),
    )

pub content_is_free : ContentIsFree
content_is_free ids p c content s es e held =
    let is : bytes_of (in_force s.parameters c keys.Content) ≡ Some content = ap bytes_of held in (
      λ run. subst (λ (o : Option (List ℕ)). ChecksContent p c o s es e) is run,
      λ ends. subst (λ (o : Option (List ℕ)). ChecksContent p c o s es e) (sym is) ends,
    )

-- ---- directives

writes_either : {A : Type 0} (p : ℕ) (held : Option A) (value : A) (w : A → List Event) (s : State) (es : List Event) (e : Ending) → held ≡ Some value → Writes p held w s es e ↔ EndsEitherWay (w value) p s es e
writes_either {A} p held value w s es e is = (
  λ run. subst (λ (o : Option A). Writes p o w s es e) is run,
  λ ends. subst (λ (o : Option A). Writes p o w s es e) (sym is) ends,
)

writes_nothing : {A : Type 0} (p : ℕ) (held : Option A) (w : A → List Event) (s : State) (es : List Event) (e : Ending) → held ≡ None → Writes p held w s es e ↔ ((es ≡ Failed p ∷ []) × (e ≡ Directive p))
writes_nothing {A} p held w s es e is = (
  λ run. subst (λ (o : Option A). Writes p o w s es e) is run,
  λ ends. subst (λ (o : Option A). Writes p o w s es e) (sym is) ends,
)

-- the parameter in force is made of a value, of which the directive writes
written_as : {A : Type 0} (kind : ActKind) (make : A → Param) (param : Param) (p c : ℕ) (s : State) (es : List Event) (e : Ending)
    → ((value : A) → in_force s.parameters c (key_of (make value)) ≡ Some (make value) → Acts kind p c s es e ↔ EndsEitherWay (written kind c (make value)) p s es e)
    → (value : A) × (param ≡ make value) → in_force s.parameters c (key_of param) ≡ Some param
    → Acts kind p c s es e ↔ EndsEitherWay (written kind c param) p s es e
written_as kind make param p c s es e each v held =
    subst (λ (q : Param). Acts kind p c s es e ↔ EndsEitherWay (written kind c q) p s es e) (sym v.1)
    (each v.0 (held_as s c param (make v.0) v.1 held))

pub directives_write : DirectivesWrite
directives_write acts.Write param p c s es e other number held =
    written_as acts.Write params.Content param p c s es e (λ content is. writes_either p (bytes_of (in_force s.parameters c keys.Content)) content (λ content. Wrote c ∷ []) s es e (ap bytes_of is)) (made_as keys.Content param number) held
directives_write acts.Fetch param p c s es e other number held =
    written_as acts.Fetch params.Uri param p c s es e (λ uri is. writes_either p (bytes_of (in_force s.parameters c keys.Uri)) uri (λ uri. Wrote c ∷ []) s es e (ap bytes_of is)) (made_as keys.Uri param number) held
directives_write acts.Copy param p c s es e other number held =
    written_as acts.Copy params.Source param p c s es e (λ source is. writes_either p (number_of (in_force s.parameters c keys.Source)) source (λ source. Wrote c ∷ []) s es e (ap number_of is)) (made_as keys.Source param number) held
directives_write acts.Swap param p c s es e other number held =
    written_as acts.Swap params.Source param p c s es e (λ source is. writes_either p (number_of (in_force s.parameters c keys.Source)) source (λ source. Wrote c ∷ Wrote source ∷ []) s es e (ap number_of is)) (made_as keys.Source param number) held
directives_write acts.Invoke param p c s es e other number held = absurd (other refl)

pub directives_need : DirectivesNeed
directives_need acts.Write key p c s es e other number none =
    writes_nothing p (bytes_of (in_force s.parameters c keys.Content)) (λ content. Wrote c ∷ []) s es e (ap bytes_of (at_key s c key keys.Content None number none))
directives_need acts.Fetch key p c s es e other number none =
    writes_nothing p (bytes_of (in_force s.parameters c keys.Uri)) (λ uri. Wrote c ∷ []) s es e (ap bytes_of (at_key s c key keys.Uri None number none))
directives_need acts.Copy key p c s es e other number none =
    writes_nothing p (number_of (in_force s.parameters c keys.Source)) (λ source. Wrote c ∷ []) s es e (ap number_of (at_key s c key keys.Source None number none))
directives_need acts.Swap key p c s es e other number none =
    writes_nothing p (number_of (in_force s.parameters c keys.Source)) (λ source. Wrote c ∷ Wrote source ∷ []) s es e (ap number_of (at_key s c key keys.Source None number none))
directives_need acts.Invoke key p c s es e other number none = absurd (other refl)

-- an invoke with this digest and size
InvokesWith : ℕ → ℕ → State → List Event → Ending → Option Digest → Option ℕ → Type 0
InvokesWith p c s es e digest size =
    ((es ≡ Invoked c digest size true ∷ []) × (e ≡ Done s)) ⊎ ((es ≡ Invoked c digest size false ∷ Failed p ∷ []) × (e ≡ Directive p))

pub invokes_tell : InvokesTell
unfolding InvokesWith
invokes_tell p c digest size s es e digest-is size-is =
    let d : digest_in s.parameters c ≡ digest = ap digest_of digest-is ∙ digested digest in
    let z : size_in s.parameters c ≡ size = ap number_of size-is ∙ sized size in (
      λ run. subst (λ (o : Option Digest). InvokesWith p c s es e o size) d (subst (λ (n : Option ℕ). InvokesWith p c s es e (digest_in s.parameters c) n) z run),
      λ ends. subst (λ (n : Option ℕ). InvokesWith p c s es e (digest_in s.parameters c) n) (sym z) (subst (λ (o : Option Digest). InvokesWith p c s es e o size) (sym d) ends),
    )
