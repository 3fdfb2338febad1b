-- Reading the same files at a later moment.
use Rattle.std.proofs.Common.{◌≡◌, ℕ, List, Option, sym, ap, subst, ◌∙◌}
use Rattle.std.specs.Prelude.{IsTrue}
use Rattle.suit_cli.specs.declared.reply.Reply.{Reply}
use Rattle.suit_cli.specs.Outside.{Outside}
use Rattle.suit_cli.specs.Inputs.{longest_key, IsRead, IsUnread, IsAbsent, IsTooLong, IsKey, IsNoKey, IsUnreadKey, IsEmptyKey}

module _ (m b : Outside) (same_told : m.told ≡ b.told) (same : IsTrue b.told → m.files ≡ b.files) where
  told_there : IsTrue b.told → IsTrue m.told
  told_there t = subst IsTrue (sym same_told) t

  file_there : (name : List ℕ) → IsTrue b.told → m.files name ≡ b.files name
  file_there name t = ap (λ (f : List ℕ → Option (List ℕ)). f name) (same t)

  pub read_here : (limit : ℕ) (name x : List ℕ) → IsRead limit name m x → IsRead limit name b x
  read_here limit name x read = record { holds = λ t. sym (file_there name t) ∙ read.holds (told_there t); fits = read.fits }

  pub unread_here : (limit : ℕ) (name : List ℕ) (r : Reply) → IsUnread limit name m r → IsUnread limit name b r
  unread_here limit name r (IsAbsent none says) = IsAbsent (λ t. sym (file_there name t) ∙ none (told_there t)) says
  unread_here limit name r (IsTooLong long says) = IsTooLong (λ t. let l = long (told_there t) in (l.0, sym (file_there name t) ∙ l.1, l.2)) says

  pub no_key_here : (name : List ℕ) (r : Reply) → IsNoKey name m r → IsNoKey name b r
  no_key_here name r (IsUnreadKey u) = IsUnreadKey (unread_here longest_key name r u)
  no_key_here name r (IsEmptyKey read says) = IsEmptyKey (read_here longest_key name _ read) says

  pub key_here : (name x : List ℕ) → IsKey name m x → IsKey name b x
  key_here name x key = record { read = read_here longest_key name x key.read; some = key.some }
