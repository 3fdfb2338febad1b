-- The files that `make` asks for.
use Rattle.std.proofs.Common.{◌≡◌, ◌∙◌, ℕ, List, [], ◌∷◌, ◌++◌, Option, Some, inl, inr, refl, sym, ap, subst}
use Rattle.std.specs.Prelude.{IsTrue}
use Rattle.std.specs.Option.{option_map_or}
use Rattle.std.proofs.lemmas.List.{append_assoc, append-nil}
use Rattle.serde_json.specs.Data.{Data}
use Rattle.author.specs.FileNames.{file_names}
use Rattle.suit_cli.specs.declared.reply.Object.{Object}
use Rattle.suit_cli.specs.declared.reply.Object.TheVariants as objects
use Rattle.suit_cli.specs.declared.reply.Outcome.TheVariants as outcomes
use Rattle.suit_cli.specs.declared.reply.Reply.{Reply}
use Rattle.suit_cli.specs.Authoring.{IsAuthored, IsEnvelopeOf, IsLongEnvelope, IsNotAuthored, IsNoDescription, IsNoText, description_in, files_after, files_in, longest_description, longest_named, made_in, makes_described, names_held, stores}
use Rattle.suit_cli.specs.Commands.{makes}
use Rattle.suit_cli.specs.Inputs.{IsKey, IsNoKey, IsRead, longest_key}
use Rattle.suit_cli.specs.MakeLaws.{names_asked}
use Rattle.suit_cli.specs.Outside.{Asks, AsksFirst, Outside}
use Rattle.suit_cli.specs.Stages.{Answers, Ending, FaultOf, NoMemory, Says, Goes, Declines, Faults, Lacks, IsSaid, ◌>>=◌}
use Rattle.suit_cli.proofs.AskedFirst.{First, judging_first, may, more, none, one, reading_first, reads_told, same_asked}
use Rattle.suit_cli.proofs.Authoring.{Files}
use Rattle.suit_cli.proofs.Running.{Declining, declining, no_key_declines, unread_declines}

-- ---- the named files, and then none

files_first : (names : List (List ℕ)) (read : Files) (next : Files → Answers) (m a : Outside) (e : Ending) → IsTrue m.told
    → ((fs : Files) (n : Outside) → IsTrue n.told → next fs n a e → a.asked ≡ n.asked) → (files_after read names >>= next) m a e → First names m a
files_first [] read next m a e told rest answer =
    judging_first (λ (fs : Files). fs ≡ read) (λ (r : Reply). ⊥) next [] m a e (λ fs is on. none [] m a (rest fs m told on)) answer
files_first (name ∷ names) read next m a e told rest (Goes fs n _ g on) =
    more names m a name g.middle (g.given.0.asks told)
    (files_first names (read ++ (name, g.value) ∷ []) next g.middle a e (reads_told _ name m g.middle g.given.0 told) rest (Goes fs n e g.later on))
files_first (name ∷ names) read next m a _ told rest (Declines _ (inl d)) = one names m a name (d.0.asks told)
files_first (name ∷ names) read next m a _ told rest (Declines r (inr d)) =
    more names m a name d.middle (d.given.0.asks told)
    (files_first names (read ++ (name, d.value) ∷ []) next d.middle a (Says r) (reads_told _ name m d.middle d.given.0 told) rest (Declines r d.later))
files_first (name ∷ names) read next m a _ told rest (Faults objects.Host (inl f)) = may names m a name (f.asks told)
files_first (name ∷ names) read next m a _ told rest (Faults objects.Flash (inl f)) = absurd f
files_first (name ∷ names) read next m a _ told rest (Faults o (inr f)) =
    more names m a name f.middle (f.given.0.asks told)
    (files_first names (read ++ (name, f.value) ∷ []) next f.middle a (FaultOf o) (reads_told _ name m f.middle f.given.0 told) rest (Faults o f.later))
files_first (name ∷ names) read next m a _ told rest (Lacks (inl same)) = none (name ∷ names) m a (same_asked m a same)
files_first (name ∷ names) read next m a _ told rest (Lacks (inr (inl l))) = one names m a name (l.asks told)
files_first (name ∷ names) read next m a _ told rest (Lacks (inr (inr l))) =
    more names m a name l.middle (l.given.0.asks told)
    (files_first names (read ++ (name, l.value) ∷ []) next l.middle a NoMemory (reads_told _ name m l.middle l.given.0 told) rest (Lacks l.later))

files_told : (names : List (List ℕ)) (read : Files) (m a : Outside) (fs : Files) → IsTrue m.told → (files_after read names).gives m a fs → IsTrue a.told
files_told [] read m a fs told given = subst (λ (o : Outside). IsTrue o.told) (sym given.0) told
files_told (name ∷ names) read m a fs told given =
    files_told names (read ++ (name, given.value) ∷ []) given.middle a fs (reads_told _ name m given.middle given.given.0 told) given.later

-- all of them
files_asked : (names : List (List ℕ)) (read : Files) (m a : Outside) (fs : Files) → IsTrue m.told → (files_after read names).gives m a fs → a.asked ≡ m.asked ++ names
files_asked [] read m a fs told given = same_asked m a given.0 ∙ sym (append-nil m.asked)
files_asked (name ∷ names) read m a fs told given =
    files_asked names (read ++ (name, given.value) ∷ []) given.middle a fs (reads_told _ name m given.middle given.given.0 told) given.later
    ∙ ap (λ (l : List (List ℕ)). l ++ names) (given.given.0.asks told) ∙ append_assoc m.asked (name ∷ []) names

files_declines : (names : List (List ℕ)) (read : Files) (m a : Outside) (r : Reply) → (files_after read names).declines m a r → Declining r.outcome
files_declines [] read m a r d = absurd d.1
files_declines (name ∷ names) read m a r (inl d) = unread_declines longest_named name m r d.1
files_declines (name ∷ names) read m a r (inr d) = files_declines names (read ++ (name, d.value) ∷ []) d.middle a r d.later

pub files_never_flash : (read : Files) (names : List (List ℕ)) (m a : Outside) → (files_after read names).faults objects.Flash m a → ⊥
files_never_flash read [] m a faults = faults
files_never_flash read (name ∷ names) m a (inl first) = first
files_never_flash read (name ∷ names) m a (inr rest) = files_never_flash (read ++ (name, rest.value) ∷ []) names rest.middle a rest.later

-- ---- the store

stores_asked : (out envelope : List ℕ) (m a : Outside) (e : Ending) → IsTrue m.told → stores out envelope m a e → a.asked ≡ m.asked
stores_asked out envelope m a _ told (Goes u n _ s (IsSaid _ same says)) = same_asked n a same ∙ s.beside.asked told
stores_asked out envelope m a _ told (Declines _ d) = absurd d
stores_asked out envelope m a _ told (Faults objects.Host f) = f.beside.asked told
stores_asked out envelope m a _ told (Faults objects.Flash f) = absurd f
stores_asked out envelope m a _ told (Lacks l) = same_asked m a l

made_asked : (value : Data) (files : Files) (key out : List ℕ) (m a : Outside) (e : Ending) → IsTrue m.told → (made_in value files key >>= λ envelope. stores out envelope) m a e → a.asked ≡ m.asked
made_asked value files key out m a e told (Goes envelope n _ made on) =
    stores_asked out envelope n a e (subst (λ (o : Outside). IsTrue o.told) (sym made.0) told) on ∙ same_asked m n made.0
made_asked value files key out m a _ told (Declines _ d) = same_asked m a d.0
made_asked value files key out m a _ told (Faults _ f) = absurd f
made_asked value files key out m a _ told (Lacks l) = same_asked m a l

pub not_authored_declines : (bytes : List ℕ) (r : Reply) → IsNotAuthored bytes r → Declining r.outcome
not_authored_declines bytes r (IsNoText none says) = declining r _ _ says tt
not_authored_declines bytes r (IsNoDescription value fault utf8 reads refuses tells) = subst Declining (sym tells.outcome_is) tt

-- ---- the command

module _ (description key_name out : List ℕ) (b a : Outside) where
  -- the names that a description has
  names_are : (bytes : List ℕ) (value : Data) → IsTrue b.told → IsRead longest_description description b bytes → IsAuthored bytes value → names_held (b.files description) ≡ file_names value
  names_are bytes value told read authored = ap names_held (read.holds told) ∙ ap (λ (d : Option Data). option_map_or file_names d []) authored.reads

  described_first : (value : Data) (m : Outside) (e : Ending) → IsTrue m.told → makes_described value key_name out m a e → First (key_name ∷ file_names value) m a
  described_first value m e told answer =
      reading_first _ key_name (IsKey key_name) (IsNoKey key_name) (λ key. files_in (file_names value) >>= λ files. made_in value files key >>= λ envelope. stores out envelope) (file_names value) m a e told
      (λ key n there good on. files_first (file_names value) [] (λ files. made_in value files key >>= λ envelope. stores out envelope) n a e there (λ files o here made. made_asked value files key out o a e here made) on) answer

  pub make_asks : (e : Ending) → makes description key_name out b a e → AsksFirst (names_asked description key_name b) b a
  make_asks e answer told =
      reading_first _ description (IsRead longest_description description) _ (λ bytes. description_in bytes >>= λ value. makes_described value key_name out) (key_name ∷ names_held (b.files description)) b a e told
      (λ bytes n there read on. judging_first (IsAuthored bytes) (IsNotAuthored bytes) (λ value. makes_described value key_name out) (key_name ∷ names_held (b.files description)) n a e
      (λ value authored next. subst (λ (l : List (List ℕ)). First (key_name ∷ l) n a) (sym (names_are bytes value told read authored)) (described_first value n e there next)) on) answer

  described_faults : (value : Data) (m : Outside) (o : Object) → makes_described value key_name out m a (FaultOf o) → o ≡ objects.Host
  described_faults value m objects.Host answer = refl
  described_faults value m objects.Flash (Faults _ f) = absurd f
  described_faults value m objects.Flash (Goes key m1 _ k (Faults _ f)) = absurd (files_never_flash [] (file_names value) m1 a f)
  described_faults value m objects.Flash (Goes key m1 _ k (Goes files m2 _ f (Faults _ made))) = absurd made
  described_faults value m objects.Flash (Goes key m1 _ k (Goes files m2 _ f (Goes envelope m3 _ made (Faults _ s)))) = absurd s
  described_faults value m objects.Flash (Goes key m1 _ k (Goes files m2 _ f (Goes envelope m3 _ made (Goes u m4 _ s rest)))) = elim rest [ ]

  pub make_faults : (o : Object) → makes description key_name out b a (FaultOf o) → o ≡ objects.Host
  make_faults objects.Host answer = refl
  make_faults objects.Flash (Faults _ f) = absurd f
  make_faults objects.Flash (Goes bytes m0 _ read (Faults _ f)) = absurd f
  make_faults objects.Flash (Goes bytes m0 _ read (Goes value m1 _ v rest)) = described_faults value m1 objects.Flash rest

  module _ (r : Reply) (done : r.outcome ≡ outcomes.Done) where
    never : Declining r.outcome → ⊥
    never declines = subst Declining done declines

    described_all : (value : Data) (m : Outside) → IsTrue m.told → makes_described value key_name out m a (Says r) → a.asked ≡ m.asked ++ key_name ∷ file_names value
    described_all value m told (Declines _ d) = absurd (never (no_key_declines key_name m r d.1))
    described_all value m told (Goes key n _ k (Declines _ d)) = absurd (never (files_declines (file_names value) [] n a r d))
    described_all value m told (Goes key n _ k (Goes files o _ f rest)) =
        let there = reads_told _ key_name m n k.0 told in
        made_asked value files key out o a (Says r) (files_told (file_names value) [] n o files there f) rest ∙ files_asked (file_names value) [] n o files there f
        ∙ ap (λ (l : List (List ℕ)). l ++ file_names value) (k.0.asks told) ∙ append_assoc m.asked (key_name ∷ []) (file_names value)

    pub make_asks_all : makes description key_name out b a (Says r) → Asks (names_asked description key_name b) b a
    make_asks_all (Declines _ d) told = absurd (never (unread_declines longest_description description b r d.1))
    make_asks_all (Goes bytes m _ read (Declines _ d)) told = absurd (never (not_authored_declines bytes r d.1))
    make_asks_all (Goes bytes m _ read (Goes value n _ v rest)) told =
        let there = subst (λ (o : Outside). IsTrue o.told) (sym v.0) (reads_told _ description b m read.0 told) in
        described_all value n there rest
        ∙ ap (λ (l : List (List ℕ)). l ++ key_name ∷ file_names value) (same_asked m n v.0 ∙ read.0.asks told) ∙ append_assoc b.asked (description ∷ []) (key_name ∷ file_names value)
        ∙ ap (λ (l : List (List ℕ)). b.asked ++ description ∷ key_name ∷ l) (sym (names_are bytes value told read.1 v.1))
