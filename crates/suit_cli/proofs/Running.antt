-- The status of a run that had an answer and put it.
use Rattle.std.proofs.Common.{◌≡◌, ◌<◌, ◌≤◌, ap, ℕ, zero, suc, List, [], ◌∷◌, ◌⊎◌, inl, inr, refl, sym, subst, ◌∙◌, ◌+◌, arith}
use Rattle.std.specs.Prelude.{IsTrue}
use Rattle.suit_commands.specs.Tree.{PlanTree}
use Rattle.suit_envelope.specs.Envelopes.{EnvelopeSays}
use Rattle.suit_envelope.specs.EnvelopeLaws.{EnvelopeLaws}
use Rattle.suit_envelope.specs.declared.authenticity.Authenticity.{Authenticity}
use Rattle.suit_envelope.specs.declared.authenticity.Authenticity.TheVariants as authenticities
use Rattle.suit_manifest.specs.declared.manifest.Manifest.{Manifest}
use Rattle.suit_manifest.specs.declared.members.MemberFault.{MemberFault}
use Rattle.suit_manifest.specs.declared.members.MemberFault.TheVariants as faults
use Rattle.suit_manifest.specs.ManifestLaws.{ManifestLaws}
use Rattle.suit_envelope.specs.Said.{EnvelopeOf, RefusesBytes}
use Rattle.suit_manifest.specs.MembersApart.{HasMembers}
use Rattle.suit_manifest.specs.MembersLaws.{MembersLaws}
use Rattle.suit_manifest.specs.Procedures.{update_tree, invocation_tree}
use Rattle.suit_cli.specs.declared.reply.Reply.{Reply}
use Rattle.suit_cli.specs.declared.reply.Outcome.{Outcome}
use Rattle.suit_cli.specs.declared.reply.Outcome.TheVariants as outcomes
use Rattle.suit_cli.specs.Replies.{IsReply}
use Rattle.suit_cli.specs.declared.reply.Object.{Object}
use Rattle.suit_cli.specs.declared.reply.Object.TheVariants as objects
use Rattle.suit_cli.specs.Outside.{Outside, Flashed, Quiet, Asks, MayAsk}
use Rattle.suit_cli.specs.Stages.{Ending, Says, FaultOf, NoMemory, Answers, at_host, Goes, Declines, Faults, Ends, IsSaid}
use Rattle.suit_cli.specs.Statuses.{status_of, ending_status}
use Rattle.suit_cli.specs.Inputs.{file, longest_file, longest_shown, longest_key, IsRead, IsUnread, IsAbsent, IsTooLong, IsNoKey, IsUnreadKey, IsEmptyKey}
use Rattle.admission.specs.Refusals.{of_members}
use Rattle.suit_cli.specs.Refusals.{TellsRefusal}
use Rattle.suit_cli.specs.Envelopes as stages
use Rattle.suit_cli.specs.Envelopes.{AreBytes, IsRefused, IsShort, IsLong, ManifestOf, RefusesItsManifest, IsLack}
use Rattle.suit_cli.specs.Holding.{HasManifest, HasProcedures}
use Rattle.suit_cli.specs.CommandCauses.{NoManifest, AtFile, AtEnvelope, AtLength, AtManifest, CheckSays, BeforeMembers, AtMembers, AtUpdateWidth, AtInvocationWidth, AtPaths, SameButPath}
use Rattle.suit_cli.specs.Judgement.{IsNarrow, IsWide, AreSafe, AreJudged, JudgedSafe, JudgedUnsafe, ShowUnsafe, UpdateUnsafe, InvocationUnsafe}
use Rattle.suit_cli.specs.Shown.{IsShown, authenticity_outcome}
use Rattle.suit_cli.specs.Devices.{IsNoDevice, IsNoJson, IsNoLayout}
use Rattle.suit_cli.specs.Installed.{HoldsNone, IsBlank, IsBad}
use Rattle.suit_cli.specs.Migrating.{IsLeft, AtConfig as AtNoConfig, AtVersion, AtBase, migrates}
use Rattle.suit_cli.specs.Commands.{in_manifest, judges_manifest, checks, shows_manifest, shows, inits_as, inits, begins_boot, tells_status, drills}
use Rattle.path_model.proofs.Refuting.{IsBadPath-not_safe}
use Rattle.suit_cli.proofs.OneCause.{Behind, Stops, Passes, passes, one_way}
use Rattle.suit_cli.proofs.OneStage.{one_reply, one_file, one_envelope, one_short, one_manifest, one_members, one_narrow}

-- ---- the outcomes of stages that decline

abbrev pub Declining : Outcome → Type 0
Declining outcomes.Refused = Unit {0}
Declining outcomes.TooWide = Unit {0}
Declining outcomes.Unconfigured = Unit {0}
Declining outcomes.NotBlank = Unit {0}
Declining outcomes.NothingInstalled = Unit {0}
Declining outcomes.Severed = Unit {0}
Declining outcomes.Differs = Unit {0}
Declining outcomes.NotAuthentic = Unit {0}
Declining outcomes.UnknownComponent = Unit {0}
Declining outcomes.Absent = Unit {0}
Declining outcomes.TooLong = Unit {0}
Declining outcomes.SecondLayout = Unit {0}
Declining outcomes.Done = ⊥
Declining outcomes.Unsafe = ⊥
Declining outcomes.Usage = ⊥

pub declining : (r : Reply) (o : Outcome) (t : List ℕ) → IsReply r o t → Declining o → Declining r.outcome
declining r o t says d = subst Declining (sym says.outcome_is) d

pub unread_declines : (limit : ℕ) (name : List ℕ) (b : Outside) (r : Reply) → IsUnread limit name b r → Declining r.outcome
unread_declines limit name b r (IsAbsent none says) = declining r _ _ says tt
unread_declines limit name b r (IsTooLong long says) = declining r _ _ says tt

pub no_key_declines : (name : List ℕ) (b : Outside) (r : Reply) → IsNoKey name b r → Declining r.outcome
no_key_declines name b r (IsUnreadKey u) = unread_declines longest_key name b r u
no_key_declines name b r (IsEmptyKey read says) = declining r _ _ says tt

pub lack_told : (r : Reply) (fault : MemberFault) → TellsRefusal r (of_members fault) → Declining r.outcome
lack_told r (faults.Severed name) says = declining r _ _ says tt
lack_told r (faults.Differs name stated found) says = declining r _ _ says tt
lack_told r (faults.Refused refusal) says = declining r _ _ says tt
lack_told r faults.NoMemory says = absurd says

-- ---- judgements

pub unsafe_refuted : (u i : PlanTree) (t : List ℕ) → ShowUnsafe u i t → AreSafe u i → ⊥
unsafe_refuted u i t (UpdateUnsafe bad is text) safe = IsBadPath-not_safe _ bad is safe.update_safe
unsafe_refuted u i t (InvocationUnsafe bad first is text) safe = IsBadPath-not_safe _ bad is safe.invocation_safe

pub judged_safe : (u i : PlanTree) (r : Reply) → AreJudged u i r → AreSafe u i → r.outcome ≡ outcomes.Done
judged_safe u i r (JudgedSafe safe says) is = says.outcome_is
judged_safe u i r (JudgedUnsafe outcome unsafe) is = absurd (unsafe_refuted u i r.text unsafe is)

pub judged_unsafe : (u i : PlanTree) (r : Reply) → AreJudged u i r → (AreSafe u i → ⊥) → r.outcome ≡ outcomes.Unsafe
judged_unsafe u i r (JudgedSafe safe says) never = absurd (never safe)
judged_unsafe u i r (JudgedUnsafe outcome unsafe) never = outcome

pub done_safe : (u i : PlanTree) (r : Reply) → AreJudged u i r → r.outcome ≡ outcomes.Done → AreSafe u i
done_safe u i r (JudgedSafe safe says) done = safe
done_safe u i r (JudgedUnsafe outcome unsafe) done = let never = sym outcome ∙ done in absurd cc

-- ---- up to the manifest

-- of a host that tells: it stops there, or a manifest is reached
pub record Reached (name : List ℕ) (next : List ℕ → EnvelopeSays → Manifest → Answers) (b a : Outside) (e : Ending) : Type 0 where
  pub said : EnvelopeSays
  pub manifest : Manifest
  pub has : HasManifest name b said manifest
  pub there : Outside
  pub quiet : Quiet (longest_file + 1) b there
  pub asks : Asks (name ∷ []) b there
  pub on : next has.in_envelope.bytes said manifest there a e

reached : (name : List ℕ) (next : List ℕ → EnvelopeSays → Manifest → Answers) (b a : Outside) (e : Ending) (bytes : List ℕ) (said : EnvelopeSays) (manifest : Manifest) (m0 m1 m2 m3 : Outside)
    → (file longest_file name).gives b m0 bytes → (stages.envelope_in bytes).gives m0 m1 said → (stages.short longest_shown said).gives m1 m2 tt → (stages.manifest_in said).gives m2 m3 manifest
    → next bytes said manifest m3 a e → Reached name next b a e
reached name next b a e bytes said manifest m0 m1 m2 m3 read env is_short man rest = record {
  said = said;
  manifest = manifest;
  has = record { in_envelope = record { bytes = bytes; read = read.1; are_bytes = env.1.0; envelope = env.1.1 }; is_short = is_short.1; says = man.1 };
  there = m3;
  quiet = subst (λ (o : Outside). Quiet (longest_file + 1) b o) (sym (man.0 ∙ is_short.0 ∙ env.0)) read.0.quiet;
  asks = subst (λ (o : Outside). Asks (name ∷ []) b o) (sym (man.0 ∙ is_short.0 ∙ env.0)) read.0.asks;
  on = rest;
}

pub reaches : (name : List ℕ) (next : List ℕ → EnvelopeSays → Manifest → Answers) (b a : Outside) (r : Reply) → in_manifest name next b a (Says r) → NoManifest name b r ⊎ Reached name next b a (Says r)
reaches name next b a r (Declines _ d) = inl (AtFile d.1)
reaches name next b a r (Goes bytes m0 _ read (Declines _ d)) = inl (AtEnvelope bytes read.1 d.1.0 d.1.1)
reaches name next b a r (Goes bytes m0 _ read (Goes said m1 _ env (Declines _ d))) =
    inl (AtLength said (record { bytes = bytes; read = read.1; are_bytes = env.1.0; envelope = env.1.1 }) d.1)
reaches name next b a r (Goes bytes m0 _ read (Goes said m1 _ env (Goes u m2 _ short (Declines _ d)))) =
    inl (AtManifest said (record { bytes = bytes; read = read.1; are_bytes = env.1.0; envelope = env.1.1 }) short.1 d.1)
reaches name next b a r (Goes bytes m0 _ read (Goes said m1 _ env (Goes u m2 _ short (Goes manifest m3 _ man rest)))) =
    inr (reached name next b a (Says r) bytes said manifest m0 m1 m2 m3 read env short man rest)

-- a fault comes at the file, or behind the manifest
pub reaches_fault : (name : List ℕ) (next : List ℕ → EnvelopeSays → Manifest → Answers) (object : Object) (b a : Outside) → in_manifest name next b a (FaultOf object) → at_host (MayAsk name) object b a ⊎ Reached name next b a (FaultOf object)
reaches_fault name next objects.Host b a (Faults _ f) = inl f.asks
reaches_fault name next objects.Flash b a (Faults _ f) = absurd f
reaches_fault name next object b a (Goes bytes m0 _ read (Faults _ f)) = absurd f
reaches_fault name next object b a (Goes bytes m0 _ read (Goes said m1 _ env (Faults _ f))) = absurd f
reaches_fault name next object b a (Goes bytes m0 _ read (Goes said m1 _ env (Goes u m2 _ short (Faults _ f)))) = absurd f
reaches_fault name next object b a (Goes bytes m0 _ read (Goes said m1 _ env (Goes u m2 _ short (Goes manifest m3 _ man rest)))) =
    inr (reached name next b a (FaultOf object) bytes said manifest m0 m1 m2 m3 read env short man rest)

pub no_manifest_declines : (name : List ℕ) (b : Outside) (r : Reply) → NoManifest name b r → Declining r.outcome
no_manifest_declines name b r (AtFile u) = unread_declines _ _ _ r u
no_manifest_declines name b r (AtEnvelope bytes read all bad) = declining r _ _ bad.says tt
no_manifest_declines name b r (AtLength said has long) = declining r _ _ long.says tt
no_manifest_declines name b r (AtManifest said has short bad) = declining r _ _ bad.says tt

-- the stages up to the manifest, as the start has them, and what is behind them
abbrev pub InManifest : List ℕ → Outside → (List ℕ → EnvelopeSays → Manifest → Reply → Type 0) → Reply → Type 0
InManifest name b next =
    Behind (IsRead longest_file name b) (IsUnread longest_file name b) (λ bytes.
    Behind (λ (said : EnvelopeSays). AreBytes bytes × EnvelopeOf bytes said) (λ r. AreBytes bytes × IsRefused (RefusesBytes bytes) r) (λ said.
    Behind (λ (u : Unit {0}). IsShort longest_shown said) (IsLong longest_shown said) (λ u.
    Behind (ManifestOf said) (IsRefused (RefusesItsManifest said)) (next bytes said))))

module _ (name : List ℕ) (b : Outside) (next : List ℕ → EnvelopeSays → Manifest → Reply → Type 0) (r : Reply) where
  pub stops_before : NoManifest name b r → InManifest name b next r
  stops_before (AtFile u) = Stops u
  stops_before (AtEnvelope bytes read all bad) = Passes bytes read (Stops (all, bad))
  stops_before (AtLength said e long) = Passes e.bytes e.read (Passes said (e.are_bytes, e.envelope) (Stops long))
  stops_before (AtManifest said e short bad) = Passes e.bytes e.read (Passes said (e.are_bytes, e.envelope) (Passes tt short (Stops bad)))

  pub has_passed : (said : EnvelopeSays) (manifest : Manifest) (has : HasManifest name b said manifest) → next has.in_envelope.bytes said manifest r → InManifest name b next r
  has_passed said manifest has rest =
      let e = has.in_envelope in
      Passes e.bytes e.read (Passes said (e.are_bytes, e.envelope) (Passes tt has.is_short (Passes manifest has.says rest)))

module _ (envelopes : EnvelopeLaws) (manifests : ManifestLaws) (name : List ℕ) (b : Outside) (told : IsTrue b.told) where
  -- a manifest is passed
  pub manifest_passed : (next : List ℕ → EnvelopeSays → Manifest → Reply → Type 0) (said : EnvelopeSays) (manifest : Manifest) (has : HasManifest name b said manifest) (q : Reply)
      → InManifest name b next q → next has.in_envelope.bytes said manifest q
  manifest_passed next said manifest has q answer =
      let e = has.in_envelope in
      let s0 = passes _ _ _ (one_file longest_file name b told) e.bytes q e.read answer in
      let s1 = passes _ _ _ (one_envelope envelopes e.bytes) said q (e.are_bytes, e.envelope) s0 in
      let s2 = passes _ _ _ (one_short longest_shown said) tt q has.is_short s1 in
      passes _ _ _ (one_manifest envelopes manifests e.bytes said e.envelope) manifest q has.says s2

  -- two replies are the same where they are behind the manifest
  pub one_in_manifest : (first second : List ℕ → EnvelopeSays → Manifest → Reply → Type 0) (Same : Reply → Reply → Type 0) → ((r q : Reply) → q ≡ r → Same r q)
      → ((bytes : List ℕ) (said : EnvelopeSays) (manifest : Manifest) → EnvelopeOf bytes said → (r q : Reply) → first bytes said manifest r → second bytes said manifest q → Same r q)
      → (r q : Reply) → InManifest name b first r → InManifest name b second q → Same r q
  one_in_manifest first second Same more rest =
      one_way _ _ _ _ (one_file longest_file name b told) Same more (λ bytes read. one_way _ _ _ _ (one_envelope envelopes bytes) Same more (λ said e. one_way _ _ _ _ (one_short longest_shown said) Same more
      (λ u short. one_way _ _ _ _ (one_manifest envelopes manifests bytes said e.1) Same more (λ manifest says. rest bytes said manifest e.1))))

  -- what stops before it has the last word
  pub no_manifest_stands : (next : List ℕ → EnvelopeSays → Manifest → Reply → Type 0) (r q : Reply) → NoManifest name b r → InManifest name b next q → q ≡ r
  no_manifest_stands next r q none answer =
      one_in_manifest (λ bytes said manifest s. ⊥) next (λ x y. y ≡ x) (λ x y same. same) (λ bytes said manifest is x y never. absurd never) r q
      (stops_before name b (λ bytes said manifest s. ⊥) r none) answer

-- ---- an answer of `check`

judges_says : (name : List ℕ) (b m a : Outside) (r : Reply) (said : EnvelopeSays) (manifest : Manifest) → HasManifest name b said manifest → judges_manifest said manifest m a (Says r)
    → CheckSays name b r
judges_says name b m a r said manifest has (Declines _ d) = AtMembers said manifest has d.1
judges_says name b m a r said manifest has (Goes members m0 _ mem (Declines _ d)) = AtUpdateWidth said manifest members has mem.1 d.1
judges_says name b m a r said manifest has (Goes members m0 _ mem (Goes v m1 _ first (Declines _ d))) = AtInvocationWidth said manifest members has mem.1 first.1 d.1
judges_says name b m a r said manifest has (Goes members m0 _ mem (Goes v m1 _ first (Goes w m2 _ second (Ends _ same judged)))) =
    AtPaths (update_tree manifest members) (invocation_tree manifest)
    (record {
      said = said;
      manifest = manifest;
      members = members;
      has_manifest = has;
      has_members = mem.1;
      update_is = refl;
      invocation_is = refl;
      update_narrow = first.1;
      invocation_narrow = second.1;
    }) judged

pub check_says : (name : List ℕ) (b a : Outside) (r : Reply) → checks name b a (Says r) → CheckSays name b r
check_says name b a r answer = of_reached (reaches name (λ bytes. judges_manifest) b a r answer) where
  of_reached : NoManifest name b r ⊎ Reached name (λ bytes. judges_manifest) b a (Says r) → CheckSays name b r
  of_reached (inl none) = BeforeMembers none
  of_reached (inr at) = judges_says name b at.there a r at.said at.manifest at.has at.on

-- judging leaves the outside as it is
judges_still : (said : EnvelopeSays) (manifest : Manifest) (m a : Outside) (r : Reply) → judges_manifest said manifest m a (Says r) → a ≡ m
judges_still said manifest m a r (Declines _ d) = d.0
judges_still said manifest m a r (Goes members m0 _ mem (Declines _ d)) = d.0 ∙ mem.0
judges_still said manifest m a r (Goes members m0 _ mem (Goes v m1 _ first (Declines _ d))) = d.0 ∙ first.0 ∙ mem.0
judges_still said manifest m a r (Goes members m0 _ mem (Goes v m1 _ first (Goes w m2 _ second (Ends _ same judged)))) = same ∙ second.0 ∙ first.0 ∙ mem.0

judges_never_fault : (said : EnvelopeSays) (manifest : Manifest) (object : Object) (m a : Outside) → judges_manifest said manifest m a (FaultOf object) → ⊥
judges_never_fault said manifest object m a (Faults _ f) = f
judges_never_fault said manifest object m a (Goes members m0 _ mem (Faults _ f)) = f
judges_never_fault said manifest object m a (Goes members m0 _ mem (Goes v m1 _ first (Faults _ f))) = f
judges_never_fault said manifest object m a (Goes members m0 _ mem (Goes v m1 _ first (Goes _ middle _ _ last))) = elim last [ ]

-- of a command that judges what is in its file and no more
module _ (name : List ℕ) (next : List ℕ → EnvelopeSays → Manifest → Answers) (b a : Outside) where
  pub file_faults : ((bytes : List ℕ) (said : EnvelopeSays) (manifest : Manifest) (object : Object) (m : Outside) → next bytes said manifest m a (FaultOf object) → ⊥)
      → (object : Object) → in_manifest name next b a (FaultOf object) → at_host (MayAsk name) object b a
  file_faults never object answer = of_reached (reaches_fault name next object b a answer) where
    of_reached : at_host (MayAsk name) object b a ⊎ Reached name next b a (FaultOf object) → at_host (MayAsk name) object b a
    of_reached (inl asks) = asks
    of_reached (inr at) = absurd (never at.has.in_envelope.bytes at.said at.manifest object at.there at.on)

  pub file_asks : (r : Reply) → ((bytes : List ℕ) (said : EnvelopeSays) (manifest : Manifest) (m : Outside) → next bytes said manifest m a (Says r) → a ≡ m)
      → in_manifest name next b a (Says r) → Asks (name ∷ []) b a
  file_asks r still (Declines _ d) = d.0.asks
  file_asks r still (Goes bytes m0 _ read (Declines _ d)) = subst (λ (o : Outside). Asks (name ∷ []) b o) (sym d.0) read.0.asks
  file_asks r still (Goes bytes m0 _ read (Goes said m1 _ env (Declines _ d))) = subst (λ (o : Outside). Asks (name ∷ []) b o) (sym (d.0 ∙ env.0)) read.0.asks
  file_asks r still (Goes bytes m0 _ read (Goes said m1 _ env (Goes u m2 _ short (Declines _ d)))) =
      subst (λ (o : Outside). Asks (name ∷ []) b o) (sym (d.0 ∙ short.0 ∙ env.0)) read.0.asks
  file_asks r still (Goes bytes m0 _ read (Goes said m1 _ env (Goes u m2 _ short (Goes manifest m3 _ man rest)))) =
      subst (λ (o : Outside). Asks (name ∷ []) b o) (sym (still bytes said manifest m3 rest ∙ man.0 ∙ short.0 ∙ env.0)) read.0.asks

pub check_faults : (name : List ℕ) (object : Object) (b a : Outside) → checks name b a (FaultOf object) → at_host (MayAsk name) object b a
check_faults name object b a answer =
    file_faults name (λ bytes. judges_manifest) b a (λ bytes said manifest o m f. judges_never_fault said manifest o m a f) object answer

pub check_asks : (name : List ℕ) (b a : Outside) (r : Reply) → checks name b a (Says r) → Asks (name ∷ []) b a
check_asks name b a r answer = file_asks name (λ bytes. judges_manifest) b a r (λ bytes said manifest m on. judges_still said manifest m a r on) answer

-- it declines, or judges both procedures
pub record IsJudged (name : List ℕ) (before : Outside) (reply : Reply) : Type 0 where
  pub update : PlanTree
  pub invocation : PlanTree
  pub has : HasProcedures name before update invocation
  pub judged : AreJudged update invocation reply

pub checked : (name : List ℕ) (b a : Outside) (r : Reply) → checks name b a (Says r) → Declining r.outcome ⊎ IsJudged name b r
checked name b a r answer = of_says (check_says name b a r answer) where
  of_says : CheckSays name b r → Declining r.outcome ⊎ IsJudged name b r
  of_says (BeforeMembers none) = inl (no_manifest_declines name b r none)
  of_says (AtMembers said manifest has lack) = inl (lack_told r lack.fault lack.says)
  of_says (AtUpdateWidth said manifest members has mem wide) = inl (declining r _ _ wide.says tt)
  of_says (AtInvocationWidth said manifest members has mem narrow_is wide) = inl (declining r _ _ wide.says tt)
  of_says (AtPaths update invocation has judged) = inr (record { update = update; invocation = invocation; has = has; judged = judged })

-- ---- the causes of `check`

-- the stages behind the manifest
abbrev Judges : List ℕ → EnvelopeSays → Manifest → Reply → Type 0
Judges bytes said manifest =
    Behind (HasMembers said manifest) (IsLack said manifest) (λ members.
    Behind (λ (u : Unit {0}). IsNarrow (update_tree manifest members)) (IsWide (update_tree manifest members)) (λ u.
    Behind (λ (v : Unit {0}). IsNarrow (invocation_tree manifest)) (IsWide (invocation_tree manifest)) (λ v. AreJudged (update_tree manifest members) (invocation_tree manifest))))

procedures_passed : (name : List ℕ) (b : Outside) (r : Reply) (update invocation : PlanTree) → HasProcedures name b update invocation → AreJudged update invocation r → InManifest name b Judges r
procedures_passed name b r update invocation has judged =
    has_passed name b Judges r has.said has.manifest has.has_manifest (Passes has.members has.has_members
    (Passes tt (subst IsNarrow has.update_is has.update_narrow) (Passes tt (subst IsNarrow has.invocation_is has.invocation_narrow)
    (subst (λ (p : PlanTree). AreJudged p (invocation_tree has.manifest) r) has.update_is (subst (λ (p : PlanTree). AreJudged update p r) has.invocation_is judged)))))

check_stages : (name : List ℕ) (b : Outside) (r : Reply) → CheckSays name b r → InManifest name b Judges r
check_stages name b r (BeforeMembers none) = stops_before name b Judges r none
check_stages name b r (AtMembers said manifest has lack) = has_passed name b Judges r said manifest has (Stops lack)
check_stages name b r (AtUpdateWidth said manifest members has mem wide) = has_passed name b Judges r said manifest has (Passes members mem (Stops wide))
check_stages name b r (AtInvocationWidth said manifest members has mem small wide) = has_passed name b Judges r said manifest has (Passes members mem (Passes tt small (Stops wide)))
check_stages name b r (AtPaths update invocation has judged) = procedures_passed name b r update invocation has judged

one_judged : (u i : PlanTree) (r q : Reply) → AreJudged u i r → AreJudged u i q → SameButPath r q
one_judged u i r q (JudgedSafe safe says) (JudgedSafe safe' says') = inl (one_reply r q _ _ says says')
one_judged u i r q (JudgedUnsafe is unsafe) (JudgedUnsafe is' unsafe') = inr (is, is')
one_judged u i r q (JudgedSafe safe says) (JudgedUnsafe is unsafe) = absurd (unsafe_refuted u i q.text unsafe safe)
one_judged u i r q (JudgedUnsafe is unsafe) (JudgedSafe safe says) = absurd (unsafe_refuted u i r.text unsafe safe)

module _ (envelopes : EnvelopeLaws) (manifests : ManifestLaws) (members : MembersLaws) (name : List ℕ) (b a : Outside) (told : IsTrue b.told) (q : Reply) (answer : checks name b a (Says q)) where
  -- where the file has such procedures, they are judged
  pub judged_when : (update invocation : PlanTree) → HasProcedures name b update invocation → AreJudged update invocation q
  judged_when update invocation has =
      let e = has.has_manifest.in_envelope in
      let s3 = manifest_passed envelopes manifests name b told Judges has.said has.manifest has.has_manifest q (check_stages name b q (check_says name b a q answer)) in
      let s4 = passes _ _ _ (one_members members e.bytes has.said has.manifest e.envelope) has.members q has.has_members s3 in
      let s5 = passes _ _ _ (one_narrow (update_tree has.manifest has.members)) tt q (subst IsNarrow has.update_is has.update_narrow) s4 in
      let s6 = passes _ _ _ (one_narrow (invocation_tree has.manifest)) tt q (subst IsNarrow has.invocation_is has.invocation_narrow) s5 in
      subst (λ (p : PlanTree). AreJudged p invocation q) (sym has.update_is)
      (subst (λ (p : PlanTree). AreJudged (update_tree has.manifest has.members) p q) (sym has.invocation_is) s6)

  one_behind : (bytes : List ℕ) (said : EnvelopeSays) (manifest : Manifest) → EnvelopeOf bytes said → (r s : Reply) → Judges bytes said manifest r → Judges bytes said manifest s → SameButPath r s
  one_behind bytes said manifest is =
      one_way _ _ _ _ (one_members members bytes said manifest is) SameButPath (λ x y same. inl same) (λ taken mem.
      one_way _ _ _ _ (one_narrow (update_tree manifest taken)) SameButPath (λ x y same. inl same) (λ u first.
      one_way _ _ _ _ (one_narrow (invocation_tree manifest)) SameButPath (λ x y same. inl same) (λ v second. one_judged (update_tree manifest taken) (invocation_tree manifest))))

  pub check_always : (r : Reply) → CheckSays name b r → SameButPath r q
  check_always r says =
      one_in_manifest envelopes manifests name b told Judges Judges SameButPath (λ x y same. inl same) one_behind r q (check_stages name b r says) (check_stages name b q (check_says name b a q answer))

-- ---- an answer of `show`

pub record IsShownOf (reply : Reply) : Type 0 where
  pub said : EnvelopeSays
  pub manifest : Manifest
  pub key : List ℕ
  pub shown : IsShown said manifest key reply

pub showed : (name key_name : List ℕ) (b a : Outside) (r : Reply) → shows name key_name b a (Says r) → Declining r.outcome ⊎ IsShownOf r
showed name key_name b a r answer = of_reached (reaches name (λ bytes. shows_manifest key_name) b a r answer) where
  of_rest : (said : EnvelopeSays) (manifest : Manifest) (m : Outside) → shows_manifest key_name said manifest m a (Says r) → Declining r.outcome ⊎ IsShownOf r
  of_rest said manifest m (Declines _ d) = inl (no_key_declines _ _ r d.1)
  of_rest said manifest m (Goes key m0 _ k (Ends _ same shown)) = inr (record { said = said; manifest = manifest; key = key; shown = shown })

  of_reached : NoManifest name b r ⊎ Reached name (λ bytes. shows_manifest key_name) b a (Says r) → Declining r.outcome ⊎ IsShownOf r
  of_reached (inl none) = inl (no_manifest_declines name b r none)
  of_reached (inr at) = of_rest at.said at.manifest at.there at.on

-- ---- an answer of `run init`, `run status` or `run migrate`

-- it declines, or is done
abbrev pub Plain : Outcome → Type 0
Plain outcome = Declining outcome ⊎ (outcome ≡ outcomes.Done)

pub no_device_declines : (size : ℕ) (bytes : List ℕ) (r : Reply) → IsNoDevice size bytes r → Declining r.outcome
no_device_declines size bytes r (IsNoJson none says) = declining r _ _ says tt
no_device_declines size bytes r (IsNoLayout value fault utf8 reads refuses tells) = subst Declining (sym tells.outcome_is) tt

inited_as : (size : ℕ) (device key_name : List ℕ) (b a : Outside) (r : Reply) → inits_as size device key_name b a (Says r) → Plain r.outcome
inited_as size device key_name b a r (Declines _ d) = inl (unread_declines _ _ _ r d.1)
inited_as size device key_name b a r (Goes bytes m0 _ read (Declines _ d)) = inl (no_device_declines _ _ r d.1)
inited_as size device key_name b a r (Goes bytes m0 _ read (Goes described m1 _ lay (Declines _ d))) = inl (no_key_declines _ _ r d.1)
inited_as size device key_name b a r (Goes bytes m0 _ read (Goes described m1 _ lay (Goes key m2 _ k (Declines _ d)))) = inl (declining r _ _ d.1.says tt)
inited_as size device key_name b a r (Goes bytes m0 _ read (Goes described m1 _ lay (Goes key m2 _ k (Goes u m3 _ f (IsSaid _ same says))))) = inr says.outcome_is

pub inited : (device key_name : List ℕ) (b a : Outside) (r : Reply) → inits device key_name b a (Says r) → Plain r.outcome
inited device key_name b a r (Declines _ d) = inl (declining r _ _ d.1.says tt)
inited device key_name b a r (Goes size m _ g rest) = inited_as size device key_name m a r rest

pub holds_none_declines : (flash : Flashed) (r : Reply) → HoldsNone flash r → Declining r.outcome
holds_none_declines flash r (IsBlank blank says) = declining r _ _ says tt
holds_none_declines flash r (IsBad bad says) = declining r _ _ says tt

pub begun : (b a : Outside) (r : Reply) → begins_boot b a (Says r) → Plain r.outcome
begun b a r (Declines _ d) = inl (holds_none_declines _ r d.1)
begun b a r (Goes config m0 _ g (Ends _ same says)) = absurd says

pub stated : (b a : Outside) (r : Reply) → tells_status b a (Says r) → Plain r.outcome
stated b a r (Declines _ d) = inl (holds_none_declines _ r d.1)
stated b a r (Goes config m0 _ g (Declines _ d)) = inl (declining r _ _ d.1.says tt)
stated b a r (Goes config m0 _ g (Goes installed m1 _ h (Declines _ d))) = absurd d.1
stated b a r (Goes config m0 _ g (Goes installed m1 _ h (Goes lines m2 _ l (Ends _ same says)))) = inr says.outcome_is

pub left_declines : (base : ℕ) (flash : Flashed) (r : Reply) → IsLeft base flash r → Declining r.outcome
left_declines base flash r (AtNoConfig none) = holds_none_declines flash r none
left_declines base flash r (AtVersion second) = declining r _ _ second.says tt
left_declines base flash r (AtBase none) = subst Declining (sym none.tells.outcome_is) tt

pub migrated : (base : ℕ) (b a : Outside) (r : Reply) → migrates base b a (Says r) → Plain r.outcome
migrated base b a r (Declines _ d) = inl (left_declines base b.flash r d.1)
migrated base b a r (Goes u m _ g (IsSaid _ same says)) = inr says.outcome_is

pub plain_not : (o p : Outcome) → Plain o → o ≡ p → (Declining p → ⊥) → (p ≡ outcomes.Done → ⊥) → ⊥
plain_not o p (inl d) is never done = never (subst Declining is d)
plain_not o p (inr d) is never done = done (sym is ∙ d)

pub drilled : (number : ℕ) (b a : Outside) (r : Reply) → drills number b a (Says r) → Plain r.outcome
drilled number b a r (Ends _ same says) = inr says.says.outcome_is

-- of `show` with a key
pub shown_plain : (r : Reply) → Declining r.outcome ⊎ IsShownOf r → Plain r.outcome
shown_plain r (inl d) = inl d
shown_plain r (inr s) = subst Plain (sym s.shown.outcome_is) (of_answer s.shown.answer) where
  of_answer : (answer : Authenticity) → Plain (authenticity_outcome answer)
  of_answer authenticities.Yes = inr refl
  of_answer (authenticities.DigestDiffers stated found) = inl tt
  of_answer authenticities.NoMac = inl tt
  of_answer (authenticities.MacDiffers expected found) = inl tt

-- ---- outcomes by their statuses

-- the outcome of a status below 3
abbrev outcome_at : ℕ → Outcome
outcome_at zero = outcomes.Done
outcome_at (suc zero) = outcomes.Unsafe
outcome_at (suc (suc n)) = outcomes.Usage

low_outcome : (o : Outcome) → status_of o < 3 → outcome_at (status_of o) ≡ o
low_outcome outcomes.Done low = refl
low_outcome outcomes.Unsafe low = refl
low_outcome outcomes.Usage low = refl
low_outcome _ low = absurd (omega (arith, low))

outcome_is : (o : Outcome) (n : ℕ) → status_of o ≡ n → n < 3 → o ≡ outcome_at n
outcome_is o n e low = sym (low_outcome o (omega (arith, e, low))) ∙ ap outcome_at e

pub status_done : (o : Outcome) → status_of o ≡ 0 → o ≡ outcomes.Done
status_done o e = outcome_is o 0 e (omega arith)

pub status_unsafe : (o : Outcome) → status_of o ≡ 1 → o ≡ outcomes.Unsafe
status_unsafe o e = outcome_is o 1 e (omega arith)

pub status_usage : (o : Outcome) → status_of o ≡ 2 → o ≡ outcomes.Usage
status_usage o e = outcome_is o 2 e (omega arith)

-- no reply has the status of a fault, or of want of memory
reply_status : (o : Outcome) → (status_of o < 7) ⊎ (11 < status_of o)
reply_status outcomes.Done = inl (omega arith)
reply_status outcomes.Unsafe = inl (omega arith)
reply_status outcomes.Usage = inl (omega arith)
reply_status outcomes.Refused = inl (omega arith)
reply_status outcomes.NotAuthentic = inl (omega arith)
reply_status _ = inr (omega arith)

no_reply_has : (o : Outcome) (n : ℕ) → status_of o ≡ n → 7 ≤ n → n ≤ 11 → ⊥
no_reply_has o n e from to = of_status (reply_status o) where
  of_status : (status_of o < 7) ⊎ (11 < status_of o) → ⊥
  of_status (inl below) = omega (arith, below, e, from)
  of_status (inr above) = omega (arith, above, e, to)

pub not_seven : (o : Outcome) → status_of o ≡ 7 → ⊥
not_seven o e = no_reply_has o 7 e (omega arith) (omega arith)

pub not_eight : (o : Outcome) → status_of o ≡ 8 → ⊥
not_eight o e = no_reply_has o 8 e (omega arith) (omega arith)

not_nine : (o : Outcome) → status_of o ≡ 9 → ⊥
not_nine o e = no_reply_has o 9 e (omega arith) (omega arith)

pub not_ten_of : (o : Outcome) → status_of o ≡ 10 → ⊥
not_ten_of o e = no_reply_has o 10 e (omega arith) (omega arith)

pub not_eleven : (o : Outcome) → status_of o ≡ 11 → ⊥
not_eleven o e = no_reply_has o 11 e (omega arith) (omega arith)

pub not_nine_ending : (e : Ending) → ending_status e ≡ 9 → ⊥
not_nine_ending (Says r) is = not_nine r.outcome is
not_nine_ending (FaultOf objects.Host) is = omega arith
not_nine_ending (FaultOf objects.Flash) is = omega arith
not_nine_ending NoMemory is = omega arith
