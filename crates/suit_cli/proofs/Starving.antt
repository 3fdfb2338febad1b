-- The files and the flash where memory ran out.
use Rattle.std.proofs.Common.{◌≡◌, ⊎_elim, ℕ, List, [], ◌∷◌, ◌++◌, Option, sym, ap, subst, ◌∙◌, arith}
use Rattle.std.specs.Prelude.{IsTrue}
use Rattle.suit_params.specs.declared.digest.Digest.{Digest}
use Rattle.suit_envelope.specs.WrapperParts.{WrapperSays}
use Rattle.path_model.specs.declared.cause.Cause.{Cause}
use Rattle.path_model.specs.declared.cause.Cause.TheVariants as causes
use Rattle.flash_layout.specs.declared.frame.Frame.{Frame}
use Rattle.flash_layout.specs.declared.key.Key.{Key}
use Rattle.flash_layout.specs.declared.layout.Entry.{Entry}
use Rattle.flash_layout.specs.declared.slot.Record.{Record}
use Rattle.flash_layout.specs.Frames.{head_of}
use Rattle.rollback_record.specs.HeadRecord.{RecordOf}
use Rattle.rollback_record.specs.RecordLaws.{SomeAnswer}
use Rattle.invoke_proc.specs.declared.boot_end.BootEnd.{BootEnd}
use Rattle.invoke_proc.specs.declared.boot_end.BootEnd.TheVariants as boot_ends
use Rattle.invoke_proc.proofs.Booted.{payloads_in}
use Rattle.update_proc.specs.declared.update_end.UpdateEnd.{UpdateEnd}
use Rattle.update_proc.specs.declared.update_end.UpdateEnd.TheVariants as update_ends
use Rattle.suit_cli.specs.Surroundings.{seen}
use Rattle.suit_cli.specs.declared.reply.Object.TheVariants as objects
use Rattle.suit_cli.specs.declared.reply.Reply.{Reply}
use Rattle.suit_cli.specs.Words.{Task, Make, Describe, Show, Check, RunInit, RunUpdate, RunBoot, RunStatus, RunMigrate, Drill, Diagnose}
use Rattle.suit_cli.specs.Outside.{Outside, Flashed}
use Rattle.suit_cli.specs.Stages.{Ending, Says, FaultOf, NoMemory, Answers, Stage, judging, reading, looking, writing, in_turn, ◌>>=◌, Then, Goes, Lacks, Last, EndsWithout, Said}
use Rattle.suit_cli.specs.Statuses.{ending_status}
use Rattle.suit_cli.specs.Authoring.{files_after, stores}
use Rattle.suit_cli.specs.Acceptance.{accepts}
use Rattle.suit_cli.specs.Commands.{does}
use Rattle.suit_cli.specs.Launching.{Launching, cause_status}
use Rattle.suit_cli.specs.Booting.{boot_status}
use Rattle.suit_cli.specs.Updating.{Updates, update_status}
use Rattle.suit_cli.specs.Program.{AsFound, answers}
use Rattle.suit_cli.proofs.AcceptedFacts.{facts}
use Rattle.suit_cli.proofs.FlashLawProofs.{IsNear, near_looks, near_reads, near_same, near_then}
use Rattle.suit_cli.proofs.Running.{not_eleven}
use Rattle.suit_cli.proofs.UpdateEnds.{update_files}

-- ---- stages that leave files and flash as they were, except after the last point where memory may run out

record Nears {A : Type 0} (stage : Stage A) : Type 0 where
  pub gives : (b a : Outside) (x : A) → stage.gives b a x → IsNear b a
  pub lacks : (b a : Outside) → stage.lacks b a → IsNear b a

abbrev Starves : Answers → Type 0
Starves answers = (b a : Outside) → answers b a NoMemory → IsNear b a

judging_nears : {A : Type 0} (good : A → Type 0) (bad : Reply → Type 0) → Nears (judging good bad)
judging_nears good bad = record { gives = λ b a x g. near_same b a g.0; lacks = λ b a same. near_same b a same }

reading_nears : {A : Type 0} (most : ℕ) (name : List ℕ) (good : Outside → A → Type 0) (bad : Outside → Reply → Type 0) → Nears (reading most name good bad)
reading_nears most name good bad = record { gives = λ b a x g. near_reads most name b a g.0; lacks = λ b a l. near_reads most name b a l }

looking_nears : {A : Type 0} (good : Flashed → A → Type 0) (bad : Flashed → Reply → Type 0) → Nears (looking good bad)
looking_nears good bad = record { gives = λ b a x g. near_looks b a g.0; lacks = λ b a l. near_looks b a l }

module _ {A B : Type 0} (first : Stage A) (next : A → Stage B) (one : Nears first) (two : (x : A) → Nears (next x)) where
  turn_nears : Nears (in_turn first next)
  turn_nears = record {
    gives = λ b a y g. near_then b g.middle a (one.gives b g.middle g.value g.given) ((two g.value).gives g.middle a y g.later);
    lacks = λ b a l. ⊎_elim (λ same. near_same b a same) (λ rest. ⊎_elim (λ here. one.lacks b a here)
        (λ behind. near_then b behind.middle a (one.gives b behind.middle behind.value behind.given) ((two behind.value).lacks behind.middle a behind.later)) rest) l;
  }

module _ {A : Type 0} (stage : Stage A) (next : A → Answers) (one : Nears stage) (later : (x : A) → Starves (next x)) where
  then_starves : Starves (Then stage next)
  then_starves b a (Goes x c _ g rest) = near_then b c a (one.gives b c x g) (later x c a rest)
  then_starves b a (Lacks l) = one.lacks b a l

last_starves : (says : Reply → Type 0) → Starves (Last says)
last_starves says b a (EndsWithout same) = near_same b a same

-- ---- the commands

files_nears : (taken : List (List ℕ × List ℕ)) (names : List (List ℕ)) → Nears (files_after taken names)
files_nears taken [] = judging_nears _ _
files_nears taken (name ∷ names) = turn_nears _ _ (reading_nears _ _ _ _) (λ bytes. files_nears (taken ++ (name, bytes) ∷ []) names)

stores_starves : (out envelope : List ℕ) → Starves (stores out envelope)
stores_starves out envelope b a (Lacks l) = near_same b a l
stores_starves out envelope b a (Goes u m _ s rest) = elim rest [ ]

writing_starves : (Written : Flashed → Flashed → Type 0) (K : ℕ → Type 0) (bad : Flashed → Reply → Type 0) (says : Reply → Type 0)
    → Starves (writing Written K bad >>= λ _. Said says)
writing_starves Written K bad says b a (Lacks l) = near_looks b a l
writing_starves Written K bad says b a (Goes u m _ g rest) = elim rest [ ]

accepts_nears : (frame : Frame) (layout : List Entry) (key : Key) (bytes : List ℕ) → Nears (accepts frame layout key bytes)
accepts_nears frame layout key bytes = judging_nears _ _

does_starves : (task : Task) → Starves (does task)
does_starves (Make description key_name out) =
    then_starves _ _ (reading_nears _ _ _ _) (λ bytes. then_starves _ _ (judging_nears _ _) (λ value. then_starves _ _ (reading_nears _ _ _ _) (λ key.
    then_starves _ _ (files_nears [] _) (λ files. then_starves _ _ (judging_nears _ _) (λ envelope. stores_starves out envelope)))))
does_starves (Describe name) =
    then_starves _ _ (reading_nears _ _ _ _) (λ bytes. then_starves _ _ (judging_nears _ _) (λ said. then_starves _ _ (judging_nears _ _) (λ u.
    then_starves _ _ (judging_nears _ _) (λ manifest. then_starves _ _ (judging_nears _ _) (λ members. then_starves _ _ (judging_nears _ _) (λ v. last_starves _))))))
does_starves (Show name key_name) =
    then_starves _ _ (reading_nears _ _ _ _) (λ bytes. then_starves _ _ (judging_nears _ _) (λ said. then_starves _ _ (judging_nears _ _) (λ u.
    then_starves _ _ (judging_nears _ _) (λ manifest. then_starves _ _ (reading_nears _ _ _ _) (λ key. last_starves _)))))
does_starves (Check name) =
    then_starves _ _ (reading_nears _ _ _ _) (λ bytes. then_starves _ _ (judging_nears _ _) (λ said. then_starves _ _ (judging_nears _ _) (λ u.
    then_starves _ _ (judging_nears _ _) (λ manifest. then_starves _ _ (judging_nears _ _) (λ members. then_starves _ _ (judging_nears _ _) (λ v.
    then_starves _ _ (judging_nears _ _) (λ w. last_starves _)))))))
does_starves (RunInit device key_name) =
    then_starves _ _ (looking_nears _ _) (λ size. then_starves _ _ (reading_nears _ _ _ _) (λ bytes. then_starves _ _ (judging_nears _ _) (λ described.
    then_starves _ _ (reading_nears _ _ _ _) (λ key. writing_starves _ _ _ _))))
does_starves (RunUpdate name uris) =
    then_starves _ _ (looking_nears _ _) (λ config. then_starves _ _ (reading_nears _ _ _ _) (λ bytes.
    then_starves _ _ (accepts_nears config.2 config.0 config.1 bytes) (λ accepted. last_starves _)))
does_starves RunBoot = then_starves _ _ (looking_nears _ _) (λ config. last_starves _)
does_starves RunStatus = then_starves _ _ (looking_nears _ _) (λ config. then_starves _ _ (looking_nears _ _) (λ installed. then_starves _ _ (looking_nears _ _) (λ lines. last_starves _)))
does_starves (RunMigrate base) = writing_starves _ _ _ _
does_starves (Drill number) = last_starves _
does_starves (Diagnose name) = then_starves _ _ (reading_nears _ _ _ _) (λ bytes. then_starves _ _ (judging_nears _ _) (λ x. last_starves _))

answers_starves : (words : List (List ℕ)) → Starves (answers words)
answers_starves words b a (Goes task c _ g rest) = near_then b c a (near_same b c g.0) (does_starves task c a rest)
answers_starves words b a (Lacks l) = near_same b a l

-- ---- status 11

pub starved_near : (words : List (List ℕ)) (b a : Outside) (e : Ending) → ending_status e ≡ 11 → answers words b a e → IsNear b a
starved_near words b a (Says r) eleven answer = absurd (not_eleven r.outcome eleven)
starved_near words b a (FaultOf objects.Host) eleven answer = absurd (omega (arith, eleven))
starved_near words b a (FaultOf objects.Flash) eleven answer = absurd (omega (arith, eleven))
starved_near words b a NoMemory eleven answer = answers_starves words b a answer

cause_not_eleven : (cause : Cause) → cause_status cause ≡ 11 → ⊥
cause_not_eleven causes.HostFault e = omega (arith, e)
cause_not_eleven _ e = omega (arith, e)

-- ---- a boot, which takes all its memory before

pub boot_not_eleven : (end : BootEnd) → boot_status end ≡ 11 → ⊥
boot_not_eleven (boot_ends.Stopped place cause) eleven = cause_not_eleven cause eleven
boot_not_eleven _ eleven = omega (arith, eleven)

-- ---- an update

module _ (name : List ℕ) (uris : List (List ℕ × List ℕ)) (l m : Launching) (b a : Outside) where
  update_found : (lines : List ℕ) (u : Updates name uris (seen b l) (seen a m) update_ends.NoMemory lines)
      → (IsTrue b.flash.told → (held : Option Record) × RecordOf u.o.frame (head_of u.o.frame b.flash.reads) held) → AsFound (seen b l) (seen a m)
  update_found lines u recorded =
      let f = facts u.o.frame u.o.layout u.o.key u.o.bytes u.o.accepted u.is_accepted in
      let digest : Digest = f.authentic.digest in
      let states : WrapperSays u.o.accepted.said.wrapper digest f.authentic.blocks = f.authentic.says in
      let payloads = payloads_in u.o.bytes u.o.accepted.said f.envelope in
      let same_told = u.read.0.quiet.told ∙ ap (λ (o : Outside). o.told) u.held.0.beside in
      let flash_told = ap (λ (x : Flashed). x.told) u.read.0.flash ∙ u.held.0.still.told in
      let reads : IsTrue b.flash.told → u.middle.flash.reads ≡ b.flash.reads = λ t. ap (λ (x : Flashed). x.reads) u.read.0.flash ∙ u.held.0.still.reads t in
      let there : (t : IsTrue b.flash.told) → RecordOf u.o.frame (head_of u.o.frame u.middle.flash.reads) (recorded t).0 =
      λ t. subst (λ (x : List ℕ). RecordOf u.o.frame (head_of u.o.frame x) (recorded t).0) (sym (reads t)) (recorded t).1 in
      record {
        files = λ t. update_files name uris l m b a update_ends.NoMemory lines u t;
        reads = λ t. u.update.left (subst IsTrue (sym flash_told) t) (recorded t).0 digest f.authentic.blocks (there t) states ∙ reads t;
        launches = λ flash launcher. u.update.plays (subst IsTrue (sym flash_told) flash) launcher
            (recorded flash).0 digest f.authentic.blocks (there flash) states payloads.0 payloads.1;
      }

  pub update_starved : SomeAnswer → (end : UpdateEnd) (lines : List ℕ) → Updates name uris (seen b l) (seen a m) end lines → update_status end ≡ 11 → AsFound (seen b l) (seen a m)
  update_starved records update_ends.NoMemory lines u eleven = update_found lines u (λ t. records u.o.frame (head_of u.o.frame b.flash.reads))
  update_starved records (update_ends.Stopped place cause) lines u eleven = absurd (cause_not_eleven cause eleven)
  update_starved records _ lines u eleven = absurd (omega (arith, eleven))
