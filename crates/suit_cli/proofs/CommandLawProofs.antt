-- Where each command stops.
use Rattle.std.proofs.Common.{◌≡◌, ℕ, List, [], ◌∷◌, ◌++◌, ◌⊎◌, inl, inr, refl, sym, ap, subst, ◌∙◌}
use Rattle.std.specs.Prelude.{IsTrue}
use Rattle.std.proofs.lemmas.List.{append_assoc}
use Rattle.suit_envelope.specs.Envelopes.{EnvelopeSays}
use Rattle.suit_envelope.specs.EnvelopeLaws.{EnvelopeLaws}
use Rattle.suit_envelope.specs.Authentic.{IsAuthentic}
use Rattle.suit_envelope.specs.declared.authenticity.Authenticity.{Authenticity}
use Rattle.suit_envelope.specs.declared.authenticity.Authenticity.TheVariants as authenticities
use Rattle.suit_manifest.specs.declared.manifest.Manifest.{Manifest}
use Rattle.suit_manifest.specs.ManifestLaws.{ManifestLaws}
use Rattle.suit_manifest.specs.MembersLaws.{MembersLaws}
use Rattle.suit_cli.specs.declared.reply.Reply.{Reply}
use Rattle.suit_cli.specs.declared.reply.Outcome.TheVariants as outcomes
use Rattle.suit_cli.specs.Outside.{Outside, Asks, MayAsk}
use Rattle.suit_cli.specs.declared.reply.Object.{Object}
use Rattle.suit_cli.specs.declared.reply.Object.TheVariants as objects
use Rattle.suit_cli.specs.Stages.{Says, FaultOf, at_host, Goes, Declines, Faults, Ends}
use Rattle.suit_cli.specs.Inputs.{IsKey, IsNoKey}
use Rattle.suit_cli.specs.Holding.{HasManifest}
use Rattle.suit_cli.specs.Shown.{IsShown, authenticity_outcome}
use Rattle.suit_cli.specs.Commands.{shows_manifest, shows}
use Rattle.suit_cli.specs.CommandCauses.{NoManifest}
use Rattle.suit_cli.specs.CommandLaws.{CheckLaws, ShowSays, BeforeKey, AtKey, AtLines, ShowsUnder, AskBoth, ShowFaults, FaultsAtFile, FaultsAtKey, ShowLaws}
use Rattle.suit_cli.proofs.SameFiles.{no_key_here, key_here}
use Rattle.suit_cli.proofs.OneCause.{Behind, Stops, Passes, passes, stands}
use Rattle.suit_cli.proofs.OneStage.{one_key}
use Rattle.suit_cli.proofs.Running.{InManifest, Reached, reaches, reaches_fault, check_asks, check_faults, has_passed, manifest_passed, no_manifest_stands, stops_before, check_says, check_always}

pub check_laws : EnvelopeLaws → ManifestLaws → MembersLaws → CheckLaws
check_laws envelopes manifests members = record {
  only = λ name b a r answer. check_says name b a r answer;
  always = λ name b a r q told says answer. check_always envelopes manifests members name b a told q answer r says;
  asks = λ name b a r answer. check_asks name b a r answer;
  faults = λ name b a object answer. check_faults name object b a answer;
}

-- ---- `show`

show_says : (name key_name : List ℕ) (b a : Outside) (r : Reply) → shows name key_name b a (Says r) → ShowSays name key_name b r
show_says name key_name b a r answer = of_reached (reaches name (λ bytes. shows_manifest key_name) b a r answer) where
  of_rest : (said : EnvelopeSays) (manifest : Manifest) (m : Outside) → HasManifest name b said manifest → m.told ≡ b.told → (IsTrue b.told → m.files ≡ b.files)
      → shows_manifest key_name said manifest m a (Says r) → ShowSays name key_name b r
  of_rest said manifest m has told files (Declines _ d) = AtKey said manifest has (no_key_here m b told files key_name r d.1)
  of_rest said manifest m has told files (Goes key n _ k (Ends _ same shown)) = AtLines said manifest key has (key_here m b told files key_name key k.1) shown

  of_reached : NoManifest name b r ⊎ Reached name (λ bytes. shows_manifest key_name) b a (Says r) → ShowSays name key_name b r
  of_reached (inl none) = BeforeKey none
  of_reached (inr at) = of_rest at.said at.manifest at.there at.has at.quiet.told at.quiet.files at.on

-- a fault at the key, of the names that were asked for before it
key_fault : (name key_name : List ℕ) (b m a : Outside) → m.told ≡ b.told → Asks (name ∷ []) b m → MayAsk key_name m a → AskBoth name key_name b a
key_fault name key_name b m a told first last t = of_last (last (subst IsTrue (sym told) t)) where
  before : m.asked ≡ b.asked ++ name ∷ []
  before = first t

  of_last : (a.asked ≡ m.asked) ⊎ (a.asked ≡ m.asked ++ key_name ∷ []) → (a.asked ≡ b.asked ++ name ∷ []) ⊎ (a.asked ≡ b.asked ++ (name ∷ key_name ∷ []))
  of_last (inl is) = inl (is ∙ before)
  of_last (inr is) = inr (is ∙ ap (λ (l : List (List ℕ)). l ++ key_name ∷ []) before ∙ append_assoc b.asked (name ∷ []) (key_name ∷ []))

-- a reply behind the manifest
shown_asks : (name key_name : List ℕ) (b m a : Outside) (r : Reply) (said : EnvelopeSays) (manifest : Manifest) → IsTrue m.told → m.asked ≡ b.asked ++ name ∷ []
    → shows_manifest key_name said manifest m a (Says r) → a.asked ≡ b.asked ++ (name ∷ key_name ∷ [])
shown_asks name key_name b m a r said manifest told file (Declines _ d) =
    d.0.asks told ∙ ap (λ (l : List (List ℕ)). l ++ key_name ∷ []) file ∙ append_assoc b.asked (name ∷ []) (key_name ∷ [])
shown_asks name key_name b m a r said manifest told file (Goes key n _ k (Ends _ same shown)) =
    ap (λ (o : Outside). o.asked) same ∙ k.0.asks told ∙ ap (λ (l : List (List ℕ)). l ++ key_name ∷ []) file ∙ append_assoc b.asked (name ∷ []) (key_name ∷ [])

show_asks : (name key_name : List ℕ) (b a : Outside) (r : Reply) → shows name key_name b a (Says r) → AskBoth name key_name b a
show_asks name key_name b a r (Declines _ d) t = inl (d.0.asks t)
show_asks name key_name b a r (Goes bytes m0 _ read (Declines _ d)) t = inl (ap (λ (o : Outside). o.asked) d.0 ∙ read.0.asks t)
show_asks name key_name b a r (Goes bytes m0 _ read (Goes said m1 _ env (Declines _ d))) t = inl (ap (λ (o : Outside). o.asked) (d.0 ∙ env.0) ∙ read.0.asks t)
show_asks name key_name b a r (Goes bytes m0 _ read (Goes said m1 _ env (Goes u m2 _ short (Declines _ d)))) t =
    inl (ap (λ (o : Outside). o.asked) (d.0 ∙ short.0 ∙ env.0) ∙ read.0.asks t)
show_asks name key_name b a r (Goes bytes m0 _ read (Goes said m1 _ env (Goes u m2 _ short (Goes manifest m3 _ man rest)))) t =
    let same : m3 ≡ m0 = man.0 ∙ short.0 ∙ env.0 in
    let told : IsTrue m3.told = subst IsTrue (sym (ap (λ (o : Outside). o.told) same ∙ read.0.quiet.told)) t in
    inr (shown_asks name key_name b m3 a r said manifest told (ap (λ (o : Outside). o.asked) same ∙ read.0.asks t) rest)

show_faults : (name key_name : List ℕ) (object : Object) (b a : Outside) → shows name key_name b a (FaultOf object) → at_host (ShowFaults name key_name) object b a
show_faults name key_name object b a answer = of_reached object (reaches_fault name (λ bytes. shows_manifest key_name) object b a answer) where
  of_rest : (m : Outside) (said : EnvelopeSays) (manifest : Manifest) → HasManifest name b said manifest → m.told ≡ b.told → Asks (name ∷ []) b m → (o : Object)
      → shows_manifest key_name said manifest m a (FaultOf o) → at_host (ShowFaults name key_name) o b a
  of_rest m said manifest has told asks objects.Host (Faults _ f) = FaultsAtKey said manifest has (key_fault name key_name b m a told asks f.asks)
  of_rest m said manifest has told asks objects.Flash (Faults _ f) = absurd f
  of_rest m said manifest has told asks o (Goes _ middle _ _ last) = elim last [ ]

  of_reached : (o : Object) → at_host (MayAsk name) o b a ⊎ Reached name (λ bytes. shows_manifest key_name) b a (FaultOf o) → at_host (ShowFaults name key_name) o b a
  of_reached objects.Host (inl asks) = FaultsAtFile asks
  of_reached objects.Flash (inl asks) = absurd asks
  of_reached o (inr at) = of_rest at.there at.said at.manifest at.has at.quiet.told at.asks o at.on

-- the stages behind the manifest, as the start has them
abbrev Shows : List ℕ → Outside → List ℕ → EnvelopeSays → Manifest → Reply → Type 0
Shows key_name b bytes said manifest = Behind (IsKey key_name b) (IsNoKey key_name b) (IsShown said manifest)

show_stages : (name key_name : List ℕ) (b : Outside) (r : Reply) → ShowSays name key_name b r → InManifest name b (Shows key_name b) r
show_stages name key_name b r (BeforeKey none) = stops_before name b (Shows key_name b) r none
show_stages name key_name b r (AtKey said manifest has none) = has_passed name b (Shows key_name b) r said manifest has (Stops none)
show_stages name key_name b r (AtLines said manifest key has k shown) = has_passed name b (Shows key_name b) r said manifest has (Passes key k shown)

module _ (envelopes : EnvelopeLaws) (manifests : ManifestLaws) (name key_name : List ℕ) (b a : Outside) (told : IsTrue b.told) (q : Reply) (answer : shows name key_name b a (Says q)) where
  stages : InManifest name b (Shows key_name b) q
  stages = show_stages name key_name b q (show_says name key_name b a q answer)

  no_manifest : (r : Reply) → NoManifest name b r → q ≡ r
  no_manifest r none = no_manifest_stands envelopes manifests name b told (Shows key_name b) r q none stages

  behind_manifest : (said : EnvelopeSays) (manifest : Manifest) → HasManifest name b said manifest → Behind (IsKey key_name b) (IsNoKey key_name b) (IsShown said manifest) q
  behind_manifest said manifest has = manifest_passed envelopes manifests name b told (Shows key_name b) said manifest has q stages

  key_stands : (said : EnvelopeSays) (manifest : Manifest) (r : Reply) → HasManifest name b said manifest → IsNoKey key_name b r → q ≡ r
  key_stands said manifest r has none = stands _ _ _ (one_key key_name b told) r q none (behind_manifest said manifest has)

  is_shown : (said : EnvelopeSays) (manifest : Manifest) (key : List ℕ) → ShowsUnder name key_name b said manifest key → IsShown said manifest key q
  is_shown said manifest key under = passes _ _ _ (one_key key_name b told) key q under.has_key (behind_manifest said manifest under.has)

module _ (said : EnvelopeSays) (manifest : Manifest) (key : List ℕ) (r : Reply) (shown : IsShown said manifest key r) where
  is_authentic : IsAuthentic said.wrapper said.manifest key → r.outcome ≡ outcomes.Done
  is_authentic is = shown.outcome_is ∙ ap authenticity_outcome (shown.authenticity.every_yes is)

  is_not : (IsAuthentic said.wrapper said.manifest key → ⊥) → r.outcome ≡ outcomes.NotAuthentic
  is_not never = shown.outcome_is ∙ of_answer shown.answer refl where
    of_answer : (x : Authenticity) → shown.answer ≡ x → authenticity_outcome x ≡ outcomes.NotAuthentic
    of_answer authenticities.Yes e = absurd (never (shown.authenticity.yes e))
    of_answer (authenticities.DigestDiffers stated found) e = refl
    of_answer authenticities.NoMac e = refl
    of_answer (authenticities.MacDiffers expected found) e = refl

pub show_laws : EnvelopeLaws → ManifestLaws → ShowLaws
show_laws envelopes manifests = record {
  only = λ name key_name b a r answer. show_says name key_name b a r answer;
  no_manifest = λ name key_name b a r q told none answer. no_manifest envelopes manifests name key_name b a told q answer r none;
  no_key = λ name key_name b a said manifest r q told has none answer. key_stands envelopes manifests name key_name b a told q answer said manifest r has none;
  shown = λ name key_name b a said manifest key r told under answer. is_shown envelopes manifests name key_name b a told r answer said manifest key under;
  asks = λ name key_name b a r answer. show_asks name key_name b a r answer;
  faults = λ name key_name b a object answer. show_faults name key_name object b a answer;
  authentic = λ said manifest key r shown is. is_authentic said manifest key r shown is;
  not_authentic = λ said manifest key r shown never. is_not said manifest key r shown never;
}
