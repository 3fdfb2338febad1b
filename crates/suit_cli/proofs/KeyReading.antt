-- The result of reading a file for a key.
use Rattle.std.proofs.Common.{◌≡◌, ◌∙◌, ℕ, Bool, false, List, [], Result, Ok, Err, sym, subst}
use Rattle.std.proofs.lemmas.Bool.{false≢true}
use Rattle.std.specs.Prelude.{◌≢◌, IsTrue}
use Rattle.std.specs.Result.{IsErrAnd}
use Rattle.std.specs.declared.alloc.AllocError.{AllocError}
use Rattle.suit_cli.specs.declared.reply.Reply.{Reply}
use Rattle.suit_cli.specs.declared.reply.Outcome.TheVariants as outcomes
use Rattle.suit_cli.specs.declared.reply.Stop.{Stop}
use Rattle.suit_cli.specs.declared.reply.Stop.TheVariants as stops
use Rattle.suit_cli.specs.Outside.{Outside}
use Rattle.suit_cli.specs.Replies.{Makes, stop_of}
use Rattle.suit_cli.specs.Stages.{Does}
use Rattle.suit_cli.specs.Texts.{empty_key_line}
use Rattle.suit_cli.specs.Inputs.{longest_key, file, key_in, IsRead, IsUnreadKey, IsEmptyKey}

pub not_empty : (key : List ℕ) (empty : Bool) → (key ≡ [] → IsTrue empty) → empty ≡ false → key ≢ []
not_empty key empty is not_so none = false≢true (sym not_so ∙ is none)

module _ (name : List ℕ) (before after : Outside) where
  unread : (stop : Stop) → Does (file longest_key name) before after (Err stop) → Does (key_in name) before after (Err stop)
  unread (stops.Declined reply) does = (does.0, IsUnreadKey does.1)
  unread (stops.Fault object) does = does
  unread stops.NoMemory does = does

  -- there is no such file
  pub unread_there : (result : Result (List ℕ) Stop) (stop : Stop) → IsErrAnd result (λ e. e ≡ stop) → Does (file longest_key name) before after (Err stop)
      → Does (key_in name) before after result
  unread_there (Ok key) stop is does = absurd is
  unread_there (Err other) stop is does = subst (λ (s : Stop). Does (key_in name) before after (Err s)) (sym is) (unread stop does)

  -- it is empty, which was told unless memory ran out
  pub empty_there : (key : List ℕ) (made : Result Reply AllocError) (stop : Stop) → key ≡ [] → Does (file longest_key name) before after (Ok key)
      → Makes made outcomes.Refused empty_key_line → stop ≡ stop_of made → Does (key_in name) before after (Err stop)
  empty_there key made stop none does says is =
      subst (λ (s : Stop). Does (key_in name) before after (Err s)) (sym is) (of_made made says)
    where
      of_made : (m : Result Reply AllocError) → Makes m outcomes.Refused empty_key_line → Does (key_in name) before after (Err (stop_of m))
      of_made (Ok reply) told = (does.0, IsEmptyKey (subst (λ (k : List ℕ). IsRead longest_key name before k) none does.1) told)
      of_made (Err e) told = does.0

  -- it has bytes
  pub key_there : (key : List ℕ) → key ≢ [] → Does (file longest_key name) before after (Ok key) → Does (key_in name) before after (Ok key)
  key_there key some does = (does.0, record { read = does.1; some = some })
