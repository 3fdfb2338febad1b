-- What is judged of an envelope has one answer each.
use Rattle.std.proofs.Common.{◌≡◌, ⊎_elim, ℕ, List, [], ◌<◌, ◌≤◌, arith, refl, sym, ◌∙◌}
use Rattle.std.specs.List.{AllByRecursion}
use Rattle.std.proofs.lemmas.Bool.{cases_lt}
use Rattle.det_cbor.specs.DataItem.{IsByte}
use Rattle.suit_params.specs.declared.refusal.Refusal.{Refusal}
use Rattle.suit_commands.specs.Capped.{capped}
use Rattle.suit_commands.specs.Numbers.{width_number}
use Rattle.suit_commands.specs.Tree.{PlanTree}
use Rattle.suit_envelope.specs.Authentic.{IsAuthentic, TellSame}
use Rattle.suit_envelope.specs.Envelopes.{EnvelopeSays}
use Rattle.suit_envelope.specs.EnvelopeLaws.{AuthenticityLaw, EnvelopeLaws}
use Rattle.suit_envelope.specs.WrapperParts.{HasWrapper}
use Rattle.suit_envelope.specs.declared.authenticity.Authenticity.{Authenticity}
use Rattle.suit_envelope.specs.declared.authenticity.Authenticity.TheVariants as answers
use Rattle.suit_manifest.specs.declared.manifest.Manifest.{Manifest}
use Rattle.suit_manifest.specs.declared.manifest.Members.{Members}
use Rattle.suit_manifest.specs.declared.members.MemberFault.{MemberFault}
use Rattle.suit_manifest.specs.ManifestLaws.{ManifestLaws}
use Rattle.suit_manifest.specs.MembersApart.{HasMembers, LacksMembers}
use Rattle.suit_manifest.specs.MembersLaws.{MembersLaws}
use Rattle.path_checker.specs.PlanVerdicts.{widest}
use Rattle.path_model.specs.CoverLaws.{BadPathRefutes}
use Rattle.flash_layout.specs.declared.layout.Entry.{Entry}
use Rattle.flash_layout.specs.declared.place.Places.{Places}
use Rattle.flash_layout.specs.Placement.{ArePlaces, IsFirstUnknown}
use Rattle.admission.specs.declared.refusal.NotSafe.{NotSafe}
use Rattle.admission.specs.declared.refusal.NotSafe.TheVariants as not_safe
use Rattle.admission.specs.declared.refusal.Procedure.TheVariants as procedures
use Rattle.admission.specs.Opening.{HasManifest, HasNoManifest, Spell, SpellNone, trimmed_size}
use Rattle.admission.specs.Judging.{AreSafe, IsNotSafe}
use Rattle.admission.specs.Admission.{IsUnauthentic}
use Rattle.admission.specs.AdmissionLaws.{JudgeAlike, JudgingLaws}
use Rattle.admission.proofs.Chain.{IsJudgement}

same_unit : (a b : Unit {0}) → a ≡ b
same_unit a b = refl

-- ---- the envelope

module _ (envelopes : EnvelopeLaws) (bytes : List ℕ) where
  one_envelope : (a b : EnvelopeSays) → Spell bytes a → Spell bytes b → a ≡ b
  one_envelope a b x y =
      ⊎_elim (λ one. one.only a x.envelope ∙ sym (one.only b y.envelope)) (λ none. absurd (none.empty a x.envelope)) (envelopes.whole 0 bytes x.are_bytes)

  envelope_never : (a : EnvelopeSays) (r : Refusal) → Spell bytes a → SpellNone bytes r → ⊥
  envelope_never a r x y = ⊎_elim (λ one. one.sound r y.refuses) (λ none. none.empty a x.envelope) (envelopes.whole 0 bytes x.are_bytes)

  envelope_alike : (r s : Refusal) → SpellNone bytes r → SpellNone bytes s → r ≡ s
  envelope_alike r s x y =
      ⊎_elim (λ one. absurd (one.sound r x.refuses)) (λ none. none.only r x.refuses ∙ sym (none.only s y.refuses)) (envelopes.whole 0 bytes x.are_bytes)

  pub envelope_judged : IsJudgement (Spell bytes) (SpellNone bytes) (λ x y. x ≡ y)
  envelope_judged = record { same = one_envelope; never = envelope_never; alike = envelope_alike }

-- ---- its length

-- a size above the limit
pub record IsLong (limit : ℕ) (said : EnvelopeSays) (size : ℕ) : Type 0 where
  pub long : limit < trimmed_size said
  pub size_is : size ≡ capped (trimmed_size said)

abbrev pub IsShort : ℕ → EnvelopeSays → Unit {0} → Type 0
IsShort limit said _ = trimmed_size said ≤ limit

above_not_within : (n limit : ℕ) → n ≤ limit → limit < n → ⊥
above_not_within n limit within above = omega (arith, within, above)

pub length_judged : (limit : ℕ) (said : EnvelopeSays) → IsJudgement (IsShort limit said) (IsLong limit said) (λ x y. x ≡ y)
length_judged limit said = record {
  same = λ a b x y. same_unit a b;
  never = λ a size x y. above_not_within (trimmed_size said) limit x y.long;
  alike = λ m n x y. x.size_is ∙ sym y.size_is;
}

-- ---- authenticity

only_yes : (answer : Authenticity) → TellSame answers.Yes answer → answer ≡ answers.Yes
only_yes answers.Yes same = refl
only_yes (answers.DigestDiffers stated found) same = absurd same
only_yes answers.NoMac same = absurd same
only_yes (answers.MacDiffers expected found) same = absurd same

abbrev pub AuthenticUnder : List ℕ → EnvelopeSays → Unit {0} → Type 0
AuthenticUnder key said _ = IsAuthentic said.wrapper said.manifest key

module _ (law : AuthenticityLaw) (said : EnvelopeSays) (wrapper : HasWrapper said.wrapper) (key : List ℕ) where
  authenticity_never : (a : Unit {0}) (answer : Authenticity) → AuthenticUnder key said a → IsUnauthentic said key answer → ⊥
  authenticity_never a answer is un =
      un.lacking (only_yes answer (law is.digest is.blocks said.manifest key answers.Yes answer (is.stated, is.verifies) (un.answers is.digest is.blocks is.says)))

  authenticity_alike : (a b : Authenticity) → IsUnauthentic said key a → IsUnauthentic said key b → TellSame a b
  authenticity_alike a b x y = law wrapper.0 wrapper.1 said.manifest key a b (x.answers wrapper.0 wrapper.1 wrapper.2) (y.answers wrapper.0 wrapper.1 wrapper.2)

  pub authenticity_judged : IsJudgement (AuthenticUnder key said) (IsUnauthentic said key) TellSame
  authenticity_judged = record { same = λ a b x y. same_unit a b; never = authenticity_never; alike = authenticity_alike }

-- ---- the manifest

module _ (manifests : ManifestLaws) (said : EnvelopeSays) (are : AllByRecursion IsByte said.manifest) where
  one_manifest : (m n : Manifest) → HasManifest said m → HasManifest said n → m ≡ n
  one_manifest m n x y = ⊎_elim (λ one. one.only m x ∙ sym (one.only n y)) (λ none. absurd (none.empty m x)) (manifests.whole said.manifest_place said.manifest are)

  manifest_never : (m : Manifest) (r : Refusal) → HasManifest said m → HasNoManifest said r → ⊥
  manifest_never m r x y = ⊎_elim (λ one. one.sound r y) (λ none. none.empty m x) (manifests.whole said.manifest_place said.manifest are)

  manifest_alike : (r s : Refusal) → HasNoManifest said r → HasNoManifest said s → r ≡ s
  manifest_alike r s x y =
      ⊎_elim (λ one. absurd (one.sound r x)) (λ none. none.only r x ∙ sym (none.only s y)) (manifests.whole said.manifest_place said.manifest are)

  pub manifest_judged : IsJudgement (HasManifest said) (HasNoManifest said) (λ x y. x ≡ y)
  manifest_judged = record { same = one_manifest; never = manifest_never; alike = manifest_alike }

-- ---- the places

abbrev pub ArePlaced : List Entry → Manifest → Unit {0} → Type 0
ArePlaced layout manifest _ = (places : Places) × ArePlaces layout manifest.components places

module _ (layout : List Entry) (ids : List (List (List ℕ))) where
  first_is_one : (a b : ℕ) → IsFirstUnknown layout ids a → IsFirstUnknown layout ids b → a ≡ b
  first_is_one a b first other =
      ⊎_elim (λ below. let place = other.before a [] below in absurd (first.lacks [] place.0 place.1))
      (λ high. ⊎_elim (λ below. let place = first.before b [] below in absurd (other.lacks [] place.0 place.1)) (λ low. omega (arith, high, low)) (cases_lt b a))
      (cases_lt a b)

pub places_judged : (layout : List Entry) (manifest : Manifest)
    → IsJudgement (ArePlaced layout manifest) (IsFirstUnknown layout manifest.components) (λ x y. x ≡ y)
places_judged layout manifest = record {
  same = λ a b x y. same_unit a b;
  never = λ a component x y. y.lacks [] _ (x.1.each component [] y.inside);
  alike = first_is_one layout manifest.components;
}

-- ---- the members

module _ (law : MembersLaws) (bytes : List ℕ) (said : EnvelopeSays) (manifest : Manifest) (spell : Spell bytes said) where
  one_members : (m n : Members) → HasMembers said manifest m → HasMembers said manifest n → m ≡ n
  one_members m n x y =
      ⊎_elim (λ one. one.only m x ∙ sym (one.only n y)) (λ none. absurd (none.sound m x)) (law.one_answer bytes said manifest spell.envelope)

  members_never : (m : Members) (fault : MemberFault) → HasMembers said manifest m → LacksMembers said manifest fault → ⊥
  members_never m fault x y = ⊎_elim (λ one. one.sound fault y) (λ none. none.sound m x) (law.one_answer bytes said manifest spell.envelope)

  one_fault : (f g : MemberFault) → LacksMembers said manifest f → LacksMembers said manifest g → f ≡ g
  one_fault f g x y =
      ⊎_elim (λ one. absurd (one.sound f x)) (λ none. none.only f x ∙ sym (none.only g y)) (law.one_answer bytes said manifest spell.envelope)

  pub members_judged : IsJudgement (HasMembers said manifest) (LacksMembers said manifest) (λ x y. x ≡ y)
  members_judged = record { same = one_members; never = members_never; alike = one_fault }

-- ---- both procedures

abbrev pub ProceduresSafe : PlanTree → PlanTree → Unit {0} → Type 0
ProceduresSafe update invocation _ = AreSafe update invocation

module _ (refutes : BadPathRefutes) (u i : PlanTree) where
  procedures_never : (a : Unit {0}) (r : NotSafe) → ProceduresSafe u i a → IsNotSafe u i r → ⊥
  procedures_never a (not_safe.TooWide procedures.Update width) x y = above_not_within (width_number u) widest x.narrow.update_narrow y.wide
  procedures_never a (not_safe.TooWide procedures.Invocation width) x y = above_not_within (width_number i) widest x.narrow.invocation_narrow y.1.wide
  procedures_never a (not_safe.Unsafe procedures.Update path) x y = refutes u path y.1 x.update_safe
  procedures_never a (not_safe.Unsafe procedures.Invocation path) x y = refutes i path y.2 x.invocation_safe
  procedures_never a not_safe.NoMemory x y = y

  procedures_alike : (r s : NotSafe) → IsNotSafe u i r → IsNotSafe u i s → JudgeAlike r s
  procedures_alike (not_safe.TooWide procedures.Update w) (not_safe.TooWide procedures.Update v) x y = (refl, x.width_is ∙ sym y.width_is)
  procedures_alike (not_safe.TooWide procedures.Update w) (not_safe.TooWide procedures.Invocation v) x y = absurd (above_not_within (width_number u) widest y.0 x.wide)
  procedures_alike (not_safe.TooWide procedures.Update w) (not_safe.Unsafe procedures.Update q) x y = absurd (above_not_within (width_number u) widest y.0.update_narrow x.wide)
  procedures_alike (not_safe.TooWide procedures.Update w) (not_safe.Unsafe procedures.Invocation q) x y = absurd (above_not_within (width_number u) widest y.0.update_narrow x.wide)
  procedures_alike (not_safe.TooWide procedures.Invocation w) (not_safe.TooWide procedures.Update v) x y = absurd (above_not_within (width_number u) widest x.0 y.wide)
  procedures_alike (not_safe.TooWide procedures.Invocation w) (not_safe.TooWide procedures.Invocation v) x y = (refl, x.1.width_is ∙ sym y.1.width_is)
  procedures_alike (not_safe.TooWide procedures.Invocation w) (not_safe.Unsafe procedures.Update q) x y = absurd (above_not_within (width_number i) widest y.0.invocation_narrow x.1.wide)
  procedures_alike (not_safe.TooWide procedures.Invocation w) (not_safe.Unsafe procedures.Invocation q) x y = absurd (above_not_within (width_number i) widest y.0.invocation_narrow x.1.wide)
  procedures_alike (not_safe.Unsafe procedures.Update p) (not_safe.TooWide procedures.Update v) x y = absurd (above_not_within (width_number u) widest x.0.update_narrow y.wide)
  procedures_alike (not_safe.Unsafe procedures.Update p) (not_safe.TooWide procedures.Invocation v) x y = absurd (above_not_within (width_number i) widest x.0.invocation_narrow y.1.wide)
  procedures_alike (not_safe.Unsafe procedures.Update p) (not_safe.Unsafe procedures.Update q) x y = refl
  procedures_alike (not_safe.Unsafe procedures.Update p) (not_safe.Unsafe procedures.Invocation q) x y = absurd (refutes u p x.1 y.1)
  procedures_alike (not_safe.Unsafe procedures.Invocation p) (not_safe.TooWide procedures.Update v) x y = absurd (above_not_within (width_number u) widest x.0.update_narrow y.wide)
  procedures_alike (not_safe.Unsafe procedures.Invocation p) (not_safe.TooWide procedures.Invocation v) x y = absurd (above_not_within (width_number i) widest x.0.invocation_narrow y.1.wide)
  procedures_alike (not_safe.Unsafe procedures.Invocation p) (not_safe.Unsafe procedures.Update q) x y = absurd (refutes u q y.1 x.1)
  procedures_alike (not_safe.Unsafe procedures.Invocation p) (not_safe.Unsafe procedures.Invocation q) x y = refl
  procedures_alike not_safe.NoMemory s x y = absurd x
  procedures_alike (not_safe.TooWide p w) not_safe.NoMemory x y = absurd y
  procedures_alike (not_safe.Unsafe p w) not_safe.NoMemory x y = absurd y

  pub procedures_judged : IsJudgement (ProceduresSafe u i) (IsNotSafe u i) JudgeAlike
  procedures_judged = record { same = λ a b x y. same_unit a b; never = procedures_never; alike = procedures_alike }

pub judging_laws : BadPathRefutes → JudgingLaws
judging_laws refutes = record {
  never_both = λ update invocation r is is_not. (procedures_judged refutes update invocation).never tt r is is_not;
  one_refusal = λ update invocation r other x y. (procedures_judged refutes update invocation).alike r other x y;
}
