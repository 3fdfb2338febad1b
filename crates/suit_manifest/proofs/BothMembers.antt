-- Payload-fetch and install together: what is answered, and that an envelope has one answer or one fault.
use Rattle.std.proofs.Common.{◌≡◌, ℕ, List, Option, Some, None, Result, Ok, Err, refl, ap, ◌∙◌, ◌⊎◌, inl, inr}
use Rattle.std.specs.Prelude.{IfOk, IfErr, IfSome}
use Rattle.det_cbor.specs.DataItem.{IsString}
use Rattle.det_cbor.specs.ArgumentLaws.{bytes_of_all}
use Rattle.suit_commands.specs.Tree.{SequenceTree}
use Rattle.suit_envelope.specs.EnvelopeLaws.{EnvelopeLaws}
use Rattle.suit_envelope.specs.Envelopes.{EnvelopeSays}
use Rattle.suit_envelope.specs.declared.severed.MemberName.TheVariants as names
use Rattle.suit_manifest.specs.declared.manifest.Manifest.{Manifest}
use Rattle.suit_manifest.specs.declared.manifest.Members.{Members}
use Rattle.suit_manifest.specs.declared.members.MemberFault.{MemberFault}
use Rattle.suit_manifest.specs.declared.members.MemberFault.TheVariants as faults
use Rattle.suit_manifest.specs.Manifests.{count_said}
use Rattle.suit_manifest.specs.MembersApart.{HasPayloadFetch, LacksPayloadFetch, LacksInstall, HasMembers, LacksMembers, ByPayloadFetch, ByInstall, IsLackBy, IsTakenAs, IsLackedAs}
use Rattle.suit_manifest.specs.MembersLaws.{HasOneAnswer, HasOneFault, MembersLaws}
use Rattle.suit_manifest.proofs.OneMember.{has_same, has_never, lack_same, HasOrLacks, HoldsBytes, has_or_lacks}

-- ---- the answer

pub fetch_lacks : (said : EnvelopeSays) (manifest : Manifest) (f : MemberFault) → IsLackBy (LacksPayloadFetch said manifest) f → IsLackBy (LacksMembers said manifest) f
fetch_lacks said manifest (faults.Severed n) bad = ByPayloadFetch bad
fetch_lacks said manifest (faults.Differs n a b) bad = ByPayloadFetch bad
fetch_lacks said manifest (faults.Refused r) bad = ByPayloadFetch bad
fetch_lacks said manifest faults.NoMemory bad = tt

pub install_lacks : (said : EnvelopeSays) (manifest : Manifest) (fetch : Option SequenceTree) (f : MemberFault) → HasPayloadFetch said manifest fetch → IsLackBy (LacksInstall said manifest) f
    → IsLackBy (LacksMembers said manifest) f
install_lacks said manifest fetch (faults.Severed n) has bad = ByInstall fetch has bad
install_lacks said manifest fetch (faults.Differs n a b) has bad = ByInstall fetch has bad
install_lacks said manifest fetch (faults.Refused r) has bad = ByInstall fetch has bad
install_lacks said manifest fetch faults.NoMemory has bad = tt

-- ---- one answer or one fault

members_same : (said : EnvelopeSays) (manifest : Manifest) (a b : Members) → HasMembers said manifest a → HasMembers said manifest b → a ≡ b
members_same said manifest a b x y =
    let fetch = has_same (count_said manifest) said.payload_fetch said.payload_fetch_place manifest.payload_fetch a.payload_fetch b.payload_fetch x.payload_fetch y.payload_fetch in
    let install = has_same (count_said manifest) said.install said.install_place manifest.install a.install b.install x.install y.install in
    let first : ◌≡◌ {A = Members} a (record { payload_fetch = b.payload_fetch; install = a.install }) = ap (λ (o : Option SequenceTree). record { payload_fetch = o; install = a.install }) fetch in
    let second : ◌≡◌ {A = Members} (record { payload_fetch = b.payload_fetch; install = a.install }) b = ap (λ (o : Option SequenceTree). record { payload_fetch = b.payload_fetch; install = o }) install in
    first ∙ second

fetch_never : {P : Type 0} (said : EnvelopeSays) (manifest : Manifest) (a : Option SequenceTree) (f : MemberFault) → HasPayloadFetch said manifest a → LacksPayloadFetch said manifest f → P
fetch_never said manifest a f x bad = absurd (has_never names.PayloadFetch (count_said manifest) said.payload_fetch said.payload_fetch_place manifest.payload_fetch a f x bad)

members_never : (said : EnvelopeSays) (manifest : Manifest) (a : Members) (f : MemberFault) → HasMembers said manifest a → LacksMembers said manifest f → ⊥
members_never said manifest a f x (ByPayloadFetch bad) = fetch_never said manifest a.payload_fetch f x.payload_fetch bad
members_never said manifest a f x (ByInstall fetch has bad) = has_never names.Install (count_said manifest) said.install said.install_place manifest.install a.install f x.install bad

faults_same : (said : EnvelopeSays) (manifest : Manifest) (f g : MemberFault) → LacksMembers said manifest f → LacksMembers said manifest g → f ≡ g
faults_same said manifest f g (ByPayloadFetch x) (ByPayloadFetch y) =
    lack_same names.PayloadFetch (count_said manifest) said.payload_fetch said.payload_fetch_place manifest.payload_fetch f g x y
faults_same said manifest f g (ByPayloadFetch x) (ByInstall fetch has y) = fetch_never said manifest fetch f has x
faults_same said manifest f g (ByInstall fetch has x) (ByPayloadFetch y) = fetch_never said manifest fetch g has y
faults_same said manifest f g (ByInstall fetch has x) (ByInstall fetch2 has2 y) = lack_same names.Install (count_said manifest) said.install said.install_place manifest.install f g x y

-- ---- every answer and every fault

lack_not : (said : EnvelopeSays) (manifest : Manifest) (a : Members) (f : MemberFault) → HasMembers said manifest a → IsLackBy (LacksMembers said manifest) f → f ≡ faults.NoMemory
lack_not said manifest a (faults.Severed n) x bad = absurd (members_never said manifest a (faults.Severed n) x bad)
lack_not said manifest a (faults.Differs n s t) x bad = absurd (members_never said manifest a (faults.Differs n s t) x bad)
lack_not said manifest a (faults.Refused r) x bad = absurd (members_never said manifest a (faults.Refused r) x bad)
lack_not said manifest a faults.NoMemory x bad = refl

pub every_members : (said : EnvelopeSays) (manifest : Manifest) (r : Result Members MemberFault) → IfOk r (HasMembers said manifest) → IfErr r (IsLackBy (LacksMembers said manifest))
    → (a : Members) → HasMembers said manifest a → IsTakenAs a r
every_members said manifest (Ok found) ok err a x = members_same said manifest found a ok x
every_members said manifest (Err f) ok err a x = lack_not said manifest a f x err

lack_is : (said : EnvelopeSays) (manifest : Manifest) (f g : MemberFault) → LacksMembers said manifest f → IsLackBy (LacksMembers said manifest) g → (g ≡ f) ⊎ (g ≡ faults.NoMemory)
lack_is said manifest f (faults.Severed n) x bad = inl (faults_same said manifest (faults.Severed n) f bad x)
lack_is said manifest f (faults.Differs n s t) x bad = inl (faults_same said manifest (faults.Differs n s t) f bad x)
lack_is said manifest f (faults.Refused r) x bad = inl (faults_same said manifest (faults.Refused r) f bad x)
lack_is said manifest f faults.NoMemory x bad = inr refl

pub every_fault : (said : EnvelopeSays) (manifest : Manifest) (r : Result Members MemberFault) → IfOk r (HasMembers said manifest) → IfErr r (IsLackBy (LacksMembers said manifest))
    → (f : MemberFault) → LacksMembers said manifest f → IsLackedAs f r
every_fault said manifest (Ok found) ok err f x = members_never said manifest found f ok x
every_fault said manifest (Err g) ok err f x = lack_is said manifest f g x err

-- ---- the laws

one_of : (said : EnvelopeSays) (manifest : Manifest) → HasOrLacks names.PayloadFetch (count_said manifest) said.payload_fetch said.payload_fetch_place manifest.payload_fetch
    → HasOrLacks names.Install (count_said manifest) said.install said.install_place manifest.install → HasOneAnswer said manifest ⊎ HasOneFault said manifest
one_of said manifest (inl a) (inl b) =
    let members : Members = record { payload_fetch = a.0; install = b.0 } in
    let has : HasMembers said manifest members = record { payload_fetch = a.1; install = b.1 } in
    inl (record { one = members; holds = has; only = λ m x. members_same said manifest m members x has; sound = λ f bad. members_never said manifest members f has bad })
one_of said manifest (inl a) (inr f) =
    let lacks : LacksMembers said manifest f.0 = ByInstall a.0 a.1 f.1 in
    inr (record { one = f.0; holds = lacks; only = λ g x. faults_same said manifest g f.0 x lacks; sound = λ m x. members_never said manifest m f.0 x lacks })
one_of said manifest (inr f) other =
    let lacks : LacksMembers said manifest f.0 = ByPayloadFetch f.1 in
    inr (record { one = f.0; holds = lacks; only = λ g x. faults_same said manifest g f.0 x lacks; sound = λ m x. members_never said manifest m f.0 x lacks })

holds_bytes : (held : Option (List ℕ)) → IfSome held IsString → HoldsBytes held
holds_bytes None fits = tt
holds_bytes (Some content) fits = bytes_of_all content fits.1

pub members_laws : EnvelopeLaws → MembersLaws
members_laws laws = record {
  one_answer = λ bytes said manifest so.
      let strings = laws.strings bytes said so in
      one_of said manifest
      (has_or_lacks names.PayloadFetch (count_said manifest) said.payload_fetch said.payload_fetch_place manifest.payload_fetch (holds_bytes said.payload_fetch strings.payload_fetch))
      (has_or_lacks names.Install (count_said manifest) said.install said.install_place manifest.install (holds_bytes said.install strings.install));
}
