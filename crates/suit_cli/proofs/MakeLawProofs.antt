-- Where `make` stops, and what it stores.
use Rattle.std.proofs.Common.{◌≡◌, ◌∙◌, ℕ, List, [], ◌∷◌, ◌++◌, length, arith, Option, Some, None, Result, Ok, Err, ◌⊎◌, inl, inr, refl, sym, ap, subst}
use Rattle.std.specs.Prelude.{◌≢◌, IsTrue}
use Rattle.std.proofs.lemmas.List.{append_assoc, append-nil}
use Rattle.std.proofs.lemmas.Option.{same_Some}
use Rattle.serde_json.specs.Data.{Data}
use Rattle.author.specs.declared.fault.DescriptionFault.{DescriptionFault}
use Rattle.author.specs.declared.fault.DescriptionFault.TheVariants as faults
use Rattle.author.specs.Faults.{IsDescription, RefusesDescription, IsFaultOf}
use Rattle.author.specs.FileNames.{file_names}
use Rattle.author.specs.MadeEnvelopes.{made_parts, made_bytes, IsShort, ExceedsLimit, Trimmed, Whole}
use Rattle.author.specs.Severances.{parted}
use Rattle.author.proofs.OneFault.{refused_for}
use Rattle.suit_cli.specs.declared.reply.Reply.{Reply}
use Rattle.suit_cli.specs.declared.reply.Outcome.TheVariants as outcomes
use Rattle.suit_cli.specs.declared.reply.Object.TheVariants as objects
use Rattle.suit_cli.specs.Replies.{IsReply}
use Rattle.suit_cli.specs.Outside.{Outside, Reads, Stores}
use Rattle.suit_cli.specs.Stages.{Ending, Says, NoMemory, Goes, Declines, Faults, Lacks, IsSaid, ◌>>=◌}
use Rattle.suit_cli.specs.Inputs.{IsRead, IsUnread, IsKey, IsNoKey}
use Rattle.suit_cli.specs.Authoring.{longest_description, longest_named, IsAuthored, IsNotAuthored, IsNoText, IsNoDescription, IsDescriptionLine, TellsDescription, IsEnvelopeOf, IsLongEnvelope, files_after, files_in, made_in, stores, made_line, makes_described}
use Rattle.suit_cli.specs.Commands.{makes}
use Rattle.suit_cli.specs.MakeLaws.{HoldsDescription, AreRead, NoFile, FileThen, OneIsUnread, AtName, LaterName, MakeSays, AtDescription, AtFields, AtKey, AtNamed, AtLength, AtStore, IsStored, MakeLaws}
use Rattle.suit_cli.proofs.OneCause.{Behind, Stops, Passes, HasOne, just_one}
use Rattle.suit_cli.proofs.OneStage.{one_reply, one_read, read_not_unread, one_unread, one_file, one_key}
use Rattle.suit_cli.proofs.Running.{Declining, declining, unread_declines, no_key_declines, Plain}
use Rattle.suit_cli.proofs.SameFiles.{read_here, unread_here, no_key_here, key_here}
use Rattle.suit_cli.proofs.Authoring.{Files}
use Rattle.suit_cli.proofs.MakeAsks.{files_never_flash, make_asks, make_asks_all, make_faults, not_authored_declines}

-- ---- the same files

record IsNear (b m : Outside) : Type 0 where
  pub told : m.told ≡ b.told
  pub files : IsTrue b.told → m.files ≡ b.files

near_reads : (most : ℕ) (name : List ℕ) (b m : Outside) → Reads most name b m → IsNear b m
near_reads most name b m reads = record { told = reads.quiet.told; files = reads.quiet.files }

near_same : (b m : Outside) → m ≡ b → IsNear b m
near_same b m same = subst (λ (o : Outside). IsNear b o) (sym same) (record { told = refl; files = λ t. refl })

near_then : (b m n : Outside) → IsNear b m → IsNear m n → IsNear b n
near_then b m n first second = record {
  told = second.told ∙ first.told;
  files = λ t. second.files (subst IsTrue (sym first.told) t) ∙ first.files t;
}

-- ---- the named files, of the moment before

near_files : (read : Files) (names : List (List ℕ)) (m a : Outside) (files : Files) → (files_after read names).gives m a files → IsNear m a
near_files read [] m a files given = near_same m a given.0
near_files read (name ∷ names) m a files given =
    near_then m given.middle a (near_reads _ name m given.middle given.given.0) (near_files (read ++ (name, given.value) ∷ []) names given.middle a files given.later)

declines_near : (read : Files) (names : List (List ℕ)) (m a : Outside) (r : Reply) → (files_after read names).declines m a r → IsNear m a
declines_near read [] m a r declines = absurd declines.1
declines_near read (name ∷ names) m a r (inl first) = near_reads _ name m a first.0
declines_near read (name ∷ names) m a r (inr rest) =
    near_then m rest.middle a (near_reads _ name m rest.middle rest.given.0) (declines_near (read ++ (name, rest.value) ∷ []) names rest.middle a r rest.later)

lacks_near : (read : Files) (names : List (List ℕ)) (m a : Outside) → (files_after read names).lacks m a → IsNear m a
lacks_near read [] m a lacks = near_same m a lacks
lacks_near read (name ∷ names) m a (inl same) = near_same m a same
lacks_near read (name ∷ names) m a (inr (inl first)) = near_reads _ name m a first
lacks_near read (name ∷ names) m a (inr (inr rest)) =
    near_then m rest.middle a (near_reads _ name m rest.middle rest.given.0) (lacks_near (read ++ (name, rest.value) ∷ []) names rest.middle a rest.later)

faults_near : (read : Files) (names : List (List ℕ)) (m a : Outside) → (files_after read names).faults objects.Host m a → IsNear m a
faults_near read [] m a faults = absurd faults
faults_near read (name ∷ names) m a (inl first) = record { told = first.quiet.told; files = first.quiet.files }
faults_near read (name ∷ names) m a (inr rest) =
    near_then m rest.middle a (near_reads _ name m rest.middle rest.given.0) (faults_near (read ++ (name, rest.value) ∷ []) names rest.middle a rest.later)

module _ (b : Outside) where
  -- the files read stand behind those read before
  files_said : (read : Files) (names : List (List ℕ)) (m a : Outside) (files : Files) → IsNear b m → (files_after read names).gives m a files
      → (rest : Files) × (files ≡ read ++ rest) × AreRead b names rest
  files_said read [] m a files near given = ([], given.1 ∙ sym (append-nil read), NoFile)
  files_said read (name ∷ names) m a files near given =
      let later = near_then b m given.middle near (near_reads _ name m given.middle given.given.0) in
      let rest = files_said (read ++ (name, given.value) ∷ []) names given.middle a files later given.later in (
        (name, given.value) ∷ rest.0,
        rest.1 ∙ append_assoc read ((name, given.value) ∷ []) rest.0,
        FileThen name given.value names rest.0 (read_here m b near.told near.files longest_named name given.value given.given.1) rest.2,
      )

  files_read : (names : List (List ℕ)) (m a : Outside) (files : Files) → IsNear b m → (files_in names).gives m a files → AreRead b names files
  files_read names m a files near given =
      let rest = files_said [] names m a files near given in
      subst (λ (fs : Files). AreRead b names fs) (sym rest.1) rest.2

  files_unread : (read : Files) (names : List (List ℕ)) (m a : Outside) (r : Reply) → IsNear b m → (files_after read names).declines m a r → OneIsUnread b r names
  files_unread read [] m a r near declines = absurd declines.1
  files_unread read (name ∷ names) m a r near (inl first) = AtName name names (unread_here m b near.told near.files longest_named name r first.1)
  files_unread read (name ∷ names) m a r near (inr rest) =
      let later = near_then b m rest.middle near (near_reads _ name m rest.middle rest.given.0) in
      LaterName name rest.value names (read_here m b near.told near.files longest_named name rest.value rest.given.1)
      (files_unread (read ++ (name, rest.value) ∷ []) names rest.middle a r later rest.later)

-- ---- each reply has its cause

module _ (description key_name out : List ℕ) (b : Outside) (r : Reply) where
  described_says : (value : Data) (m a : Outside) → IsNear b m → HoldsDescription description b value → makes_described value key_name out m a (Says r) → MakeSays description key_name b r
  described_says value m a near holds (Declines _ d) = AtKey value holds (no_key_here m b near.told near.files key_name r d.1)
  described_says value m a near holds (Goes key m1 _ k (Declines _ d)) =
      let there = near_then b m m1 near (near_reads _ _ m m1 k.0) in
      AtNamed value key holds (key_here m b near.told near.files key_name key k.1) (files_unread b [] (file_names value) m1 a r there d)
  described_says value m a near holds (Goes key m1 _ k (Goes files m2 _ f (Declines _ d))) =
      let there = near_then b m m1 near (near_reads _ _ m m1 k.0) in
      AtLength value key files
      (record { described = holds; has_key = key_here m b near.told near.files key_name key k.1; are_read = files_read b (file_names value) m1 m2 files there f }) d.1
  described_says value m a near holds (Goes key m1 _ k (Goes files m2 _ f (Goes envelope m3 _ e (Declines _ d)))) = absurd d
  described_says value m a near holds (Goes key m1 _ k (Goes files m2 _ f (Goes envelope m3 _ e (Goes u m4 _ s (IsSaid _ same says))))) =
      let there = near_then b m m1 near (near_reads _ _ m m1 k.0) in
      AtStore value key files envelope
      (record { described = holds; has_key = key_here m b near.told near.files key_name key k.1; are_read = files_read b (file_names value) m1 m2 files there f }) e.1 says

  pub make_says : (a : Outside) → makes description key_name out b a (Says r) → MakeSays description key_name b r
  make_says a (Declines _ d) = AtDescription d.1
  make_says a (Goes bytes m0 _ read (Declines _ d)) = AtFields bytes read.1 d.1
  make_says a (Goes bytes m0 _ read (Goes value m1 _ v rest)) =
      described_says value m1 a (near_then b m0 m1 (near_reads _ _ b m0 read.0) (near_same m0 m1 v.0)) (record { bytes = bytes; read = read.1; authored = v.1 }) rest

-- ---- a description has one fault at most

module _ (d : Data) where
  -- one that is told
  is_fault : (f : DescriptionFault) (r : Reply) → RefusesDescription d f → TellsDescription f r → IsFaultOf d f
  is_fault (faults.BadField pointer) r refuses tells = refuses
  is_fault (faults.BadHex pointer) r refuses tells = refuses
  is_fault (faults.BadUuid pointer) r refuses tells = refuses
  is_fault (faults.TwoAlike i j) r refuses tells = refuses
  is_fault (faults.TooMany n) r refuses tells = refuses
  is_fault faults.NoMemory r refuses tells = absurd tells.line

  no_memory_told : (f : DescriptionFault) (r : Reply) → f ≡ faults.NoMemory → TellsDescription f r → ⊥
  no_memory_told f r is tells = subst (λ (g : DescriptionFault). IsDescriptionLine g r.text) is tells.line

  one_fault : (f g : DescriptionFault) (r q : Reply) → RefusesDescription d f → TellsDescription f r → RefusesDescription d g → TellsDescription g q → g ≡ f
  one_fault f g r q refuses tells refuses' tells' = of_cases (refused_for {A = Unit {0}} d f (Err g) tt (is_fault g q refuses' tells') refuses) where
    of_cases : (g ≡ f) ⊎ (g ≡ faults.NoMemory) → g ≡ f
    of_cases (inl same) = same
    of_cases (inr none) = absurd (no_memory_told g q none tells')

  described_not_refused : (f : DescriptionFault) → IsDescription d → RefusesDescription d f → ⊥
  described_not_refused f is refuses = refused_for {A = Unit {0}} d f (Ok tt) is tt refuses

one_line : (f : DescriptionFault) (s t : List ℕ) → IsDescriptionLine f s → IsDescriptionLine f t → t ≡ s
one_line (faults.BadField pointer) s t one two = two ∙ sym one
one_line (faults.BadHex pointer) s t one two = two ∙ sym one
one_line (faults.BadUuid pointer) s t one two = two ∙ sym one
one_line (faults.TwoAlike i j) s t one two = two ∙ sym one
one_line (faults.TooMany n) s t one two = two ∙ sym one
one_line faults.NoMemory s t one two = absurd one

one_told : (f : DescriptionFault) (r q : Reply) → TellsDescription f r → TellsDescription f q → q ≡ r
one_told f r q first second =
    one_reply r q outcomes.Refused r.text (record { outcome_is = first.outcome_is; text_is = refl })
    (record { outcome_is = second.outcome_is; text_is = one_line f r.text q.text first.line second.line })

module _ (bytes : List ℕ) where
  one_value : (x y : Data) → IsAuthored bytes x → IsAuthored bytes y → y ≡ x
  one_value x y first second = same_Some y x (sym second.reads ∙ first.reads)

  authored_not_both : (x : Data) (r : Reply) → IsAuthored bytes x → IsNotAuthored bytes r → ⊥
  authored_not_both x r authored (IsNoText none says) = let never : None ≡ Some x = sym (none authored.utf8) ∙ authored.reads in absurd cc
  authored_not_both x r authored (IsNoDescription value fault utf8 reads refuses tells) =
      let same : value ≡ x = same_Some value x (sym reads ∙ authored.reads) in
      described_not_refused x fault authored.describes (subst (λ (v : Data). RefusesDescription v fault) same refuses)

  one_not_authored : (r q : Reply) → IsNotAuthored bytes r → IsNotAuthored bytes q → q ≡ r
  one_not_authored r q (IsNoText none says) (IsNoText none' says') = one_reply r q _ _ says says'
  one_not_authored r q (IsNoText none says) (IsNoDescription value fault utf8 reads refuses tells) = let never : None ≡ Some value = sym (none utf8) ∙ reads in absurd cc
  one_not_authored r q (IsNoDescription value fault utf8 reads refuses tells) (IsNoText none says) = let never : None ≡ Some value = sym (none utf8) ∙ reads in absurd cc
  one_not_authored r q (IsNoDescription value fault utf8 reads refuses tells) (IsNoDescription value' fault' utf8' reads' refuses' tells') =
      let same : value' ≡ value = same_Some value' value (sym reads' ∙ reads) in
      let is : fault' ≡ fault = one_fault value fault fault' r q refuses tells (subst (λ (v : Data). RefusesDescription v fault') same refuses') tells' in
      one_told fault r q tells (subst (λ (f : DescriptionFault). TellsDescription f q) is tells')

-- ---- an envelope is made once, or too long

abbrev said_or : {A E : Type 0} → A → Result A E → A
said_or other (Ok p) = p
said_or other (Err f) = other

one_envelope : (value : Data) (files : Files) (key x y : List ℕ) → IsEnvelopeOf value files key x → IsEnvelopeOf value files key y → y ≡ x
one_envelope value files key x y first second =
    let same : second.made.said ≡ first.made.said = ap (said_or first.made.said) (sym second.made.reads ∙ first.made.reads) in
    second.made.is ∙ ap (λ p. made_bytes (made_parts key (parted p))) same ∙ sym first.made.is

passes_not_short : (parts : _) (limit : ℕ) → IsShort parts → ExceedsLimit parts limit → ⊥
passes_not_short parts limit short (Trimmed above) = let within = short.0 in omega (arith, above, within)
passes_not_short parts limit short (Whole small above) = let within = short.1 in omega (arith, above, within)

made_not_long : (value : Data) (files : Files) (key x : List ℕ) (r : Reply) → IsEnvelopeOf value files key x → IsLongEnvelope value files key r → ⊥
made_not_long value files key x r made long =
    let same : long.passes.said ≡ made.made.said = ap (said_or made.made.said) (sym long.passes.reads ∙ made.made.reads) in
    passes_not_short (made_parts key (parted made.made.said)) long.limit made.made.short
    (subst (λ p. ExceedsLimit (made_parts key (parted p)) long.limit) same long.passes.passes)

-- ---- each reply has one cause

module _ (b : Outside) (told : IsTrue b.told) where
  same_files : (names : List (List ℕ)) (x y : Files) → AreRead b names x → AreRead b names y → y ≡ x
  same_files _ _ _ NoFile NoFile = refl
  same_files _ _ _ (FileThen name bytes names files read rest) (FileThen _ bytes' _ files' read' rest') =
      ap (λ (l : List ℕ). (name, l) ∷ files') (one_read longest_named name b told bytes bytes' read read') ∙ ap (λ (l : Files). (name, bytes) ∷ l) (same_files names files files' rest rest')

  files_or : (names : List (List ℕ)) (x : Files) (r : Reply) → AreRead b names x → OneIsUnread b r names → ⊥
  files_or _ _ r NoFile x = elim x [ ]
  files_or _ _ r (FileThen name bytes names files read rest) (AtName _ _ unread) = read_not_unread longest_named name b told bytes r read unread
  files_or _ _ r (FileThen name bytes names files read rest) (LaterName _ bytes' _ read' later) = files_or names files r rest later

  same_unread_file : (r q : Reply) (names : List (List ℕ)) → OneIsUnread b r names → OneIsUnread b q names → q ≡ r
  same_unread_file r q _ (AtName name names unread) (AtName _ _ unread') = one_unread longest_named name b told r q unread unread'
  same_unread_file r q _ (AtName name names unread) (LaterName _ bytes _ read later) = absurd (read_not_unread longest_named name b told bytes r read unread)
  same_unread_file r q _ (LaterName name bytes names read later) (AtName _ _ unread) = absurd (read_not_unread longest_named name b told bytes q read unread)
  same_unread_file r q _ (LaterName name bytes names read later) (LaterName _ bytes' _ read' later') = same_unread_file r q names later later'

  one_list : (names : List (List ℕ)) → HasOne (AreRead b names) (λ r. OneIsUnread b r names)
  one_list names = record { value = same_files names; refusal = λ r q g h. same_unread_file r q names g h; never = files_or names }

  one_authored : (bytes : List ℕ) → HasOne (IsAuthored bytes) (IsNotAuthored bytes)
  one_authored bytes = record { value = one_value bytes; refusal = one_not_authored bytes; never = authored_not_both bytes }

  one_made : (value : Data) (files : Files) (key : List ℕ) → HasOne (IsEnvelopeOf value files key) (IsLongEnvelope value files key)
  one_made value files key = record {
    value = one_envelope value files key;
    refusal = λ r q g h. one_reply r q _ _ g.says h.says;
    never = made_not_long value files key;
  }

  module _ (description key_name : List ℕ) where
    -- the stages, as the start has them
    abbrev Makes : Reply → Type 0
    Makes =
        Behind (IsRead longest_description description b) (IsUnread longest_description description b) (λ bytes.
        Behind (IsAuthored bytes) (IsNotAuthored bytes) (λ value.
        Behind (IsKey key_name b) (IsNoKey key_name b) (λ key.
        Behind (AreRead b (file_names value)) (λ r. OneIsUnread b r (file_names value)) (λ files.
        Behind (IsEnvelopeOf value files key) (IsLongEnvelope value files key) (λ envelope r. IsReply r outcomes.Done (made_line (length envelope)))))))

    described : (r : Reply) (value : Data) (holds : HoldsDescription description b value)
        → Behind (IsKey key_name b) (IsNoKey key_name b) (λ key.
        Behind (AreRead b (file_names value)) (λ q. OneIsUnread b q (file_names value)) (λ files.
        Behind (IsEnvelopeOf value files key) (IsLongEnvelope value files key) (λ envelope q. IsReply q outcomes.Done (made_line (length envelope))))) r
        → Makes r
    described r value holds rest = Passes holds.bytes holds.read (Passes value holds.authored rest)

    make_stages : (r : Reply) → MakeSays description key_name b r → Makes r
    make_stages r (AtDescription u) = Stops u
    make_stages r (AtFields bytes read n) = Passes bytes read (Stops n)
    make_stages r (AtKey value holds n) = described r value holds (Stops n)
    make_stages r (AtNamed value key holds k u) = described r value holds (Passes key k (Stops u))
    make_stages r (AtLength value key files parts long) = described r value parts.described (Passes key parts.has_key (Passes files parts.are_read (Stops long)))
    make_stages r (AtStore value key files envelope parts is says) =
        described r value parts.described (Passes key parts.has_key (Passes files parts.are_read (Passes envelope is says)))

    one_make : (r q : Reply) → MakeSays description key_name b r → MakeSays description key_name b q → q ≡ r
    one_make r q first second =
        just_one _ _ _ (one_file longest_description description b told) (λ bytes read. just_one _ _ _ (one_authored bytes) (λ value authored.
        just_one _ _ _ (one_key key_name b told) (λ key k. just_one _ _ _ (one_list (file_names value)) (λ files f. just_one _ _ _ (one_made value files key)
        (λ envelope e x y says says'. one_reply x y _ _ says says')))))
        r q (make_stages r first) (make_stages q second)

-- ---- the files that are left

unread_file_declines : (b : Outside) (r : Reply) (names : List (List ℕ)) → OneIsUnread b r names → Declining r.outcome
unread_file_declines b r _ (AtName name names unread) = unread_declines longest_named name b r unread
unread_file_declines b r _ (LaterName name bytes names read later) = unread_file_declines b r names later

-- each reply declines, or is done
pub made_as : (description key_name out : List ℕ) (b a : Outside) (r : Reply) → makes description key_name out b a (Says r) → Plain r.outcome
made_as description key_name out b a r answer = of_says (make_says description key_name out b r a answer) where
  of_says : MakeSays description key_name b r → Plain r.outcome
  of_says (AtDescription u) = inl (unread_declines _ _ b r u)
  of_says (AtFields bytes read n) = inl (not_authored_declines bytes r n)
  of_says (AtKey value holds n) = inl (no_key_declines _ b r n)
  of_says (AtNamed value key holds k u) = inl (unread_file_declines b r (file_names value) u)
  of_says (AtLength value key files parts long) = inl (declining r _ _ long.says tt)
  of_says (AtStore value key files envelope parts is says) = inr says.outcome_is

module _ (description key_name out : List ℕ) (b a : Outside) (told : IsTrue b.told) where
  near_told : (m : Outside) → IsNear b m → IsTrue m.told
  near_told m near = subst IsTrue (sym near.told) told

  same_at : (m : Outside) → IsNear b m → (other : List ℕ) → m.files other ≡ b.files other
  same_at m near other = ap (λ (f : List ℕ → Option (List ℕ)). f other) (near.files told)

  stored_others : (envelope : List ℕ) (m n : Outside) → IsNear b m → Stores out envelope m n → a ≡ n → (other : List ℕ) → other ≢ out → a.files other ≡ b.files other
  stored_others envelope m n near s same other never =
      ap (λ (o : Outside). o.files other) same ∙ s.beside.others (near_told m near) other never ∙ same_at m near other

  -- a reply of what follows the description
  described_ends : (r : Reply) (value : Data) (m : Outside) → IsNear b m → HoldsDescription description b value → makes_described value key_name out m a (Says r)
      → (Declining r.outcome × (a.files ≡ b.files)) ⊎ IsStored description key_name out b a r
  described_ends r value m near holds (Declines _ d) = inl (no_key_declines _ _ r d.1, (near_then b m a near (near_reads _ _ m a d.0)).files told)
  described_ends r value m near holds (Goes key m1 _ k (Declines _ d)) =
      let there = near_then b m m1 near (near_reads _ _ m m1 k.0) in
      inl (
        unread_file_declines b r (file_names value) (files_unread b [] (file_names value) m1 a r there d),
        (near_then b m1 a there (declines_near [] (file_names value) m1 a r d)).files told,
      )
  described_ends r value m near holds (Goes key m1 _ k (Goes files m2 _ f (Declines _ d))) =
      let there = near_then b m m1 near (near_reads _ _ m m1 k.0) in
      let later = near_then b m1 m2 there (near_files [] (file_names value) m1 m2 files f) in
      inl (declining r _ _ d.1.says tt, (near_then b m2 a later (near_same m2 a d.0)).files told)
  described_ends r value m near holds (Goes key m1 _ k (Goes files m2 _ f (Goes envelope m3 _ e (Declines _ d)))) = absurd d
  described_ends r value m near holds (Goes key m1 _ k (Goes files m2 _ f (Goes envelope m3 _ e (Goes u m4 _ s (IsSaid _ same says))))) =
      let there = near_then b m m1 near (near_reads _ _ m m1 k.0) in
      let later = near_then b m1 m3 there (near_then m1 m2 m3 (near_files [] (file_names value) m1 m2 files f) (near_same m2 m3 e.0)) in
      inr (record {
        value = value;
        key = key;
        files = files;
        envelope = envelope;
        parts = record { described = holds; has_key = key_here m b near.told near.files key_name key k.1; are_read = files_read b (file_names value) m1 m2 files there f };
        is = e.1;
        stands = ap (λ (o : Outside). o.files out) same ∙ s.file (near_told m3 later);
        others = stored_others envelope m3 m4 later s same;
        says = says;
      })

  make_ends : (r : Reply) → makes description key_name out b a (Says r) → (Declining r.outcome × (a.files ≡ b.files)) ⊎ IsStored description key_name out b a r
  make_ends r (Declines _ d) = inl (unread_declines _ _ b r d.1, (near_reads _ _ b a d.0).files told)
  make_ends r (Goes bytes m0 _ read (Declines _ d)) = inl (not_authored_declines bytes r d.1, (near_then b m0 a (near_reads _ _ b m0 read.0) (near_same m0 a d.0)).files told)
  make_ends r (Goes bytes m0 _ read (Goes value m1 _ v rest)) =
      described_ends r value m1 (near_then b m0 m1 (near_reads _ _ b m0 read.0) (near_same m0 m1 v.0)) (record { bytes = bytes; read = read.1; authored = v.1 }) rest

  -- where it is done, and where it is not
  is_stored : (r : Reply) → makes description key_name out b a (Says r) → r.outcome ≡ outcomes.Done → IsStored description key_name out b a r
  is_stored r answer done = of_ends (make_ends r answer) where
    of_ends : (Declining r.outcome × (a.files ≡ b.files)) ⊎ IsStored description key_name out b a r → IsStored description key_name out b a r
    of_ends (inl d) = absurd (subst Declining done d.0)
    of_ends (inr stored) = stored

  is_still : (r : Reply) → makes description key_name out b a (Says r) → (r.outcome ≡ outcomes.Done → ⊥) → a.files ≡ b.files
  is_still r answer never = of_ends (make_ends r answer) where
    of_ends : (Declining r.outcome × (a.files ≡ b.files)) ⊎ IsStored description key_name out b a r → a.files ≡ b.files
    of_ends (inl d) = d.1
    of_ends (inr stored) = absurd (never stored.says.outcome_is)

  described_starves : (value : Data) (m : Outside) → IsNear b m → makes_described value key_name out m a NoMemory → IsNear b a
  described_starves value m near (Lacks l) = near_then b m a near (near_reads _ _ m a l)
  described_starves value m near (Goes key m1 _ k (Lacks l)) =
      near_then b m1 a (near_then b m m1 near (near_reads _ _ m m1 k.0)) (lacks_near [] (file_names value) m1 a l)
  described_starves value m near (Goes key m1 _ k (Goes files m2 _ f (Lacks l))) =
      near_then b m1 a (near_then b m m1 near (near_reads _ _ m m1 k.0)) (near_then m1 m2 a (near_files [] (file_names value) m1 m2 files f) (near_same m2 a l))
  described_starves value m near (Goes key m1 _ k (Goes files m2 _ f (Goes envelope m3 _ e (Lacks l)))) =
      near_then b m1 a (near_then b m m1 near (near_reads _ _ m m1 k.0))
      (near_then m1 m2 a (near_files [] (file_names value) m1 m2 files f) (near_then m2 m3 a (near_same m2 m3 e.0) (near_same m3 a l)))
  described_starves value m near (Goes key m1 _ k (Goes files m2 _ f (Goes envelope m3 _ e (Goes u m4 _ s rest)))) = elim rest [ ]

  is_starved : makes description key_name out b a NoMemory → a.files ≡ b.files
  is_starved (Lacks l) = (near_reads _ _ b a l).files told
  is_starved (Goes bytes m0 _ read (Lacks l)) = (near_then b m0 a (near_reads _ _ b m0 read.0) (near_same m0 a l)).files told
  is_starved (Goes bytes m0 _ read (Goes value m1 _ v rest)) =
      (described_starves value m1 (near_then b m0 m1 (near_reads _ _ b m0 read.0) (near_same m0 m1 v.0)) rest).files told

  module _ (other : List ℕ) (never : other ≢ out) where
    near_other : (m : Outside) → IsNear b m → IsNear m a → a.files other ≡ b.files other
    near_other m near last = same_at a (near_then b m a near last) other

    store_others : (e : Ending) (envelope : List ℕ) (m : Outside) → IsNear b m → stores out envelope m a e → a.files other ≡ b.files other
    store_others _ envelope m near (Declines _ d) = absurd d
    store_others _ envelope m near (Faults objects.Host f) = f.beside.others (near_told m near) other never ∙ same_at m near other
    store_others _ envelope m near (Faults objects.Flash f) = absurd f
    store_others _ envelope m near (Lacks l) = near_other m near (near_same m a l)
    store_others _ envelope m near (Goes u n _ s (IsSaid _ same says)) = stored_others envelope m n near s same other never

    made_others : (e : Ending) (value : Data) (files : Files) (key : List ℕ) (m : Outside) → IsNear b m → (made_in value files key >>= λ envelope. stores out envelope) m a e
        → a.files other ≡ b.files other
    made_others _ value files key m near (Declines _ d) = near_other m near (near_same m a d.0)
    made_others _ value files key m near (Faults _ f) = absurd f
    made_others _ value files key m near (Lacks l) = near_other m near (near_same m a l)
    made_others e value files key m near (Goes envelope n _ made rest) = store_others e envelope n (near_then b m n near (near_same m n made.0)) rest

    described_others : (e : Ending) (value : Data) (m : Outside) → IsNear b m → makes_described value key_name out m a e → a.files other ≡ b.files other
    described_others _ value m near (Declines _ d) = near_other m near (near_reads _ _ m a d.0)
    described_others _ value m near (Faults objects.Host f) = near_other m near (record { told = f.quiet.told; files = f.quiet.files })
    described_others _ value m near (Faults objects.Flash f) = absurd f
    described_others _ value m near (Lacks l) = near_other m near (near_reads _ _ m a l)
    described_others _ value m near (Goes key m1 _ k (Declines r d)) =
        near_other m1 (near_then b m m1 near (near_reads _ _ m m1 k.0)) (declines_near [] (file_names value) m1 a r d)
    described_others _ value m near (Goes key m1 _ k (Faults objects.Host f)) =
        near_other m1 (near_then b m m1 near (near_reads _ _ m m1 k.0)) (faults_near [] (file_names value) m1 a f)
    described_others _ value m near (Goes key m1 _ k (Faults objects.Flash f)) = absurd (files_never_flash [] (file_names value) m1 a f)
    described_others _ value m near (Goes key m1 _ k (Lacks l)) =
        near_other m1 (near_then b m m1 near (near_reads _ _ m m1 k.0)) (lacks_near [] (file_names value) m1 a l)
    described_others e value m near (Goes key m1 _ k (Goes files m2 _ f rest)) =
        made_others e value files key m2
        (near_then b m1 m2 (near_then b m m1 near (near_reads _ _ m m1 k.0)) (near_files [] (file_names value) m1 m2 files f)) rest

    make_others : (e : Ending) → makes description key_name out b a e → a.files other ≡ b.files other
    make_others _ (Declines _ d) = same_at a (near_reads _ _ b a d.0) other
    make_others _ (Faults objects.Host f) = same_at a (record { told = f.quiet.told; files = f.quiet.files }) other
    make_others _ (Faults objects.Flash f) = absurd f
    make_others _ (Lacks l) = same_at a (near_reads _ _ b a l) other
    make_others _ (Goes bytes m0 _ read (Declines _ d)) = near_other m0 (near_reads _ _ b m0 read.0) (near_same m0 a d.0)
    make_others _ (Goes bytes m0 _ read (Faults _ f)) = absurd f
    make_others _ (Goes bytes m0 _ read (Lacks l)) = near_other m0 (near_reads _ _ b m0 read.0) (near_same m0 a l)
    make_others e (Goes bytes m0 _ read (Goes value m1 _ v rest)) =
        described_others e value m1 (near_then b m0 m1 (near_reads _ _ b m0 read.0) (near_same m0 m1 v.0)) rest

pub make_laws : MakeLaws
make_laws = record {
  only = λ description key_name out b a r answer. make_says description key_name out b r a answer;
  always = λ description key_name out b a r q told says answer. one_make b told description key_name r q says (make_says description key_name out b q a answer);
  stored = λ description key_name out b a r told answer done. is_stored description key_name out b a told r answer done;
  still = λ description key_name out b a r told answer never. is_still description key_name out b a told r answer never;
  starved = λ description key_name out b a told answer. is_starved description key_name out b a told answer;
  others = λ description key_name out b a e told answer other never. make_others description key_name out b a told other never e answer;
  asks = λ description key_name out b a e answer. make_asks description key_name out b a e answer;
  asks_all = λ description key_name out b a r answer done. make_asks_all description key_name out b a r done answer;
  faults = λ description key_name out b a object answer. make_faults description key_name out b a object answer;
}
