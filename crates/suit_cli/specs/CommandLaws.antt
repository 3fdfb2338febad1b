-- Where `check FILE` and `show FILE KEY` stop, and with which reply: what follows from their stages over a host that tells.
use Rattle.std.specs.Prelude.{◌≡◌, ◌⊎◌, ℕ, IsTrue, List, [], ◌∷◌, ◌++◌}
use Rattle.suit_envelope.specs.Envelopes.{EnvelopeSays}
use Rattle.suit_envelope.specs.Authentic.{IsAuthentic}
use Rattle.suit_manifest.specs.declared.manifest.Manifest.{Manifest}
use Rattle.suit_cli.specs.declared.reply.Reply.{Reply}
use Rattle.suit_cli.specs.declared.reply.Outcome.TheVariants as outcomes
use Rattle.suit_cli.specs.Outside.{Outside, Asks, MayAsk}
use Rattle.suit_cli.specs.declared.reply.Object.{Object}
use Rattle.suit_cli.specs.Stages.{Says, FaultOf, at_host}
use Rattle.suit_cli.specs.Inputs.{IsKey, IsNoKey}
use Rattle.suit_cli.specs.Holding.{HasManifest}
use Rattle.suit_cli.specs.Shown.{IsShown}
use Rattle.suit_cli.specs.Commands.{checks, shows}
use Rattle.suit_cli.specs.CommandCauses.{NoManifest, CheckSays, SameButPath}

pub record CheckLaws : Type 0 where
  -- each reply has its cause
  pub only : (name : List ℕ) (before after : Outside) (reply : Reply)
      → checks name before after (Says reply) → CheckSays name before reply
  -- and where a cause stands, each answer that is neither a fault nor running out of memory is its reply
  pub always : (name : List ℕ) (before after : Outside) (reply other : Reply) → IsTrue before.told
      → CheckSays name before reply → checks name before after (Says other)
      → SameButPath reply other
  -- the file alone is asked for; and only the host faults, at the file
  pub asks : (name : List ℕ) (before after : Outside) (reply : Reply)
      → checks name before after (Says reply) → Asks (name ∷ []) before after
  pub faults : (name : List ℕ) (before after : Outside) (object : Object)
      → checks name before after (FaultOf object) → at_host (MayAsk name) object before after

-- ---- `show FILE KEY`

pub data ShowSays (name key_name : List ℕ) (before : Outside) (reply : Reply) : Type 0 where
  BeforeKey : NoManifest name before reply → ShowSays name key_name before reply
  -- status 20, 21, or 3, `empty key`
  AtKey : (said : EnvelopeSays) (manifest : Manifest) → HasManifest name before said manifest
      → IsNoKey key_name before reply → ShowSays name key_name before reply
  -- status 0 or 4, and the lines
  AtLines : (said : EnvelopeSays) (manifest : Manifest) (key : List ℕ)
      → HasManifest name before said manifest → IsKey key_name before key
      → IsShown said manifest key reply
      → ShowSays name key_name before reply

-- the manifest of the file, and the key
pub record ShowsUnder (name key_name : List ℕ) (before : Outside) (said : EnvelopeSays)
    (manifest : Manifest) (key : List ℕ) : Type 0 where
  pub has : HasManifest name before said manifest
  pub has_key : IsKey key_name before key

-- the file was asked for, and then perhaps the key
abbrev pub AskBoth : List ℕ → List ℕ → Outside → Outside → Type 0
AskBoth name key_name before after =
    IsTrue before.told
    → (after.asked ≡ before.asked ++ name ∷ [])
    ⊎ (after.asked ≡ before.asked ++ (name ∷ key_name ∷ []))

-- A fault of the host comes at the file, or at the key; at the key only behind a manifest that is accepted.
pub data ShowFaults (name key_name : List ℕ) (before after : Outside) : Type 0 where
  FaultsAtFile : MayAsk name before after → ShowFaults name key_name before after
  FaultsAtKey : (said : EnvelopeSays) (manifest : Manifest) → HasManifest name before said manifest
      → AskBoth name key_name before after
      → ShowFaults name key_name before after

pub record ShowLaws : Type 0 where
  pub only : (name key_name : List ℕ) (before after : Outside) (reply : Reply)
      → shows name key_name before after (Says reply)
      → ShowSays name key_name before reply
  -- where there is no manifest, or no key, each answer is the reply that says so
  pub no_manifest : (name key_name : List ℕ) (before after : Outside) (reply other : Reply)
      → IsTrue before.told → NoManifest name before reply
      → shows name key_name before after (Says other) → other ≡ reply
  pub no_key : (name key_name : List ℕ) (before after : Outside) (said : EnvelopeSays)
      (manifest : Manifest) (reply other : Reply)
      → IsTrue before.told
      → HasManifest name before said manifest → IsNoKey key_name before reply
      → shows name key_name before after (Says other) → other ≡ reply
  -- where there are both, it shows them
  pub shown : (name key_name : List ℕ) (before after : Outside) (said : EnvelopeSays)
      (manifest : Manifest) (key : List ℕ) (reply : Reply)
      → IsTrue before.told
      → ShowsUnder name key_name before said manifest key
      → shows name key_name before after (Says reply) → IsShown said manifest key reply
  -- the file is asked for, then the key alone; and only the host faults, at one of them
  pub asks : (name key_name : List ℕ) (before after : Outside) (reply : Reply)
      → shows name key_name before after (Says reply) → AskBoth name key_name before after
  pub faults : (name key_name : List ℕ) (before after : Outside) (object : Object)
      → shows name key_name before after (FaultOf object)
      → at_host (ShowFaults name key_name) object before after
  -- status 0 exactly where the envelope is authentic under the key, and otherwise 4
  pub authentic : (said : EnvelopeSays) (manifest : Manifest) (key : List ℕ) (reply : Reply)
      → IsShown said manifest key reply
      → IsAuthentic said.wrapper said.manifest key → reply.outcome ≡ outcomes.Done
  pub not_authentic : (said : EnvelopeSays) (manifest : Manifest) (key : List ℕ) (reply : Reply)
      → IsShown said manifest key reply
      → (IsAuthentic said.wrapper said.manifest key → ⊥) → reply.outcome ≡ outcomes.NotAuthentic
