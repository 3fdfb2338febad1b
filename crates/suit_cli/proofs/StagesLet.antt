-- How an answer keeps the files, and counts faults.
use Rattle.std.proofs.Common.{◌≡◌, ◌∙◌, ℕ, ◌+◌, List, [], ◌∷◌, ◌++◌, Option, Some, None, inl, inr, refl, sym, ap, subst, arith}
use Rattle.std.specs.Prelude.{IsTrue}
use Rattle.std.specs.Option.{option_map_or}
use Rattle.serde_json.specs.Data.{Data}
use Rattle.author.specs.FileNames.{file_names}
use Rattle.suit_cli.specs.declared.reply.Reply.{Reply}
use Rattle.suit_cli.specs.declared.reply.Object.{Object}
use Rattle.suit_cli.specs.declared.reply.Object.TheVariants as objects
use Rattle.suit_cli.specs.Words.{Task, Make, Describe, Show, Check, RunInit, RunUpdate, RunBoot, RunStatus, RunMigrate, Drill, Diagnose, task_of}
use Rattle.suit_cli.specs.Outside.{Outside, Files, Quiet, LeavesOthers, FilesStay, Leaves}
use Rattle.suit_cli.specs.Stages.{Ending, Says, FaultOf, NoMemory, Answers, Stage, in_turn, Then, Goes, Declines, Faults, Lacks, IsSaid}
use Rattle.suit_cli.specs.Inputs.{longest_key, file}
use Rattle.suit_cli.specs.Authoring.{longest_description, files_after, names_held, most_named, stores, makes_described}
use Rattle.flash_layout.specs.declared.frame.Frame.{Frame}
use Rattle.flash_layout.specs.declared.key.Key.{Key}
use Rattle.flash_layout.specs.declared.layout.Entry.{Entry}
use Rattle.suit_cli.specs.Acceptance.{accepts}
use Rattle.suit_cli.specs.Commands.{begins_update, makes, does}
use Rattle.suit_cli.specs.Program.{answers, most_pulled, stored_by}
use Rattle.suit_cli.proofs.StagesKeep.{Counts, KeptBy, Calm, Faulty, StageKeeps, host_fault, quiet_more, quiet_then, counts_then, same_quiet, same_counts, judging_keeps, last_keeps, looking_keeps, reading_keeps, describes_keeps, shows_keeps, checks_keeps, inits_keeps, begins_keeps, tells_keeps, migrates_keeps, drills_keeps, diagnoses_keeps}

-- ---- one stage and then another

calm_more : (n m : ℕ) (b a : Outside) → Calm n b a → Calm (n + m) b a
calm_more n m b a calm = record { quiet = quiet_more n m b a calm.quiet; unfaulted = calm.unfaulted }

calm_then : (n m : ℕ) (b c a : Outside) → Calm n b c → Calm m c a → Calm (n + m) b a
calm_then n m b c a first second = record {
  quiet = quiet_then n m b c a first.quiet second.quiet;
  unfaulted = record { host = second.unfaulted.host ∙ first.unfaulted.host; flash = second.unfaulted.flash ∙ first.unfaulted.flash };
}

module _ {A B : Type 0} (n m : ℕ) (first : Stage A) (next : A → Stage B) (keeps : StageKeeps n first) (later : (x : A) → StageKeeps m (next x)) where
  turn_gives : (b a : Outside) (y : B) → (in_turn first next).gives b a y → Calm (n + m) b a
  turn_gives b a y g = calm_then n m b g.middle a (keeps.gives b g.middle g.value g.given) ((later g.value).gives g.middle a y g.later)

  turn_declines : (b a : Outside) (r : Reply) → (in_turn first next).declines b a r → Calm (n + m) b a
  turn_declines b a r (inl d) = calm_more n m b a (keeps.declines b a r d)
  turn_declines b a r (inr d) = calm_then n m b d.middle a (keeps.gives b d.middle d.value d.given) ((later d.value).declines d.middle a r d.later)

  turn_faults : (object : Object) (b a : Outside) → (in_turn first next).faults object b a → Faulty (n + m) object b a
  turn_faults object b a (inl f) = let faulty = keeps.faults object b a f in record { quiet = quiet_more n m b a faulty.quiet; faulted = faulty.faulted }
  turn_faults object b a (inr f) =
      let calm = keeps.gives b f.middle f.value f.given in
      let faulty = (later f.value).faults object f.middle a f.later in
      record { quiet = quiet_then n m b f.middle a calm.quiet faulty.quiet; faulted = counts_then (FaultOf object) b f.middle a calm.unfaulted faulty.faulted }

  turn_lacks : (b a : Outside) → (in_turn first next).lacks b a → Calm (n + m) b a
  turn_lacks b a (inl same) = record { quiet = same_quiet (n + m) b a same; unfaulted = same_counts b a same }
  turn_lacks b a (inr (inl l)) = calm_more n m b a (keeps.lacks b a l)
  turn_lacks b a (inr (inr l)) = calm_then n m b l.middle a (keeps.gives b l.middle l.value l.given) ((later l.value).lacks l.middle a l.later)

  in_turn_keeps : StageKeeps (n + m) (in_turn first next)
  in_turn_keeps = record { gives = turn_gives; declines = turn_declines; faults = turn_faults; lacks = turn_lacks }

files_keeps : (read : List (List ℕ × List ℕ)) (names : List (List ℕ)) → StageKeeps (most_named names) (files_after read names)
files_keeps read [] = judging_keeps _ _
files_keeps read (name ∷ names) = in_turn_keeps 4194305 (most_named names) _ _ (reading_keeps _ _ _ _) (λ bytes. files_keeps (read ++ (name, bytes) ∷ []) names)

-- ---- the effect of an answer

pub record LeftBy (most : ℕ) (stored : Option (List ℕ)) (e : Ending) (b a : Outside) : Type 0 where
  pub leaves : Leaves most stored b a
  pub counts : Counts e b a

abbrev Lets : ℕ → Option (List ℕ) → Answers → Type 0
Lets most stored answers = (b a : Outside) (e : Ending) → answers b a e → LeftBy most stored e b a

stay_then : (stored : Option (List ℕ)) (f g h : Files) → g ≡ f → FilesStay stored g h → FilesStay stored f h
stay_then None f g h first second = second ∙ first
stay_then (Some name) f g h first second = λ other never. second other never ∙ ap (λ (x : Files). x other) first

stay_same : (stored : Option (List ℕ)) (f g : Files) → g ≡ f → FilesStay stored f g
stay_same None f g same = same
stay_same (Some name) f g same = λ other never. ap (λ (x : Files). x other) same

quiet_leaves : (n m : ℕ) (stored : Option (List ℕ)) (b a : Outside) → Quiet n b a → Leaves (n + m) stored b a
quiet_leaves n m stored b a quiet =
    record { told = quiet.told; files = λ t. stay_same stored b.files a.files (quiet.files t); pulled = λ t. let h = quiet.pulled t in omega (arith, h) }

leaves_then : (n m : ℕ) (stored : Option (List ℕ)) (b c a : Outside) → Quiet n b c → Leaves m stored c a → Leaves (n + m) stored b a
leaves_then n m stored b c a first second =
    let later : IsTrue b.told → IsTrue c.told = λ t. subst IsTrue (sym first.told) t in
    record {
      told = second.told ∙ first.told;
      files = λ t. stay_then stored b.files c.files a.files (first.files t) (second.files (later t));
      pulled = λ t. let h = first.pulled t in let k = second.pulled (later t) in omega (arith, h, k);
    }

same_leaves : (most : ℕ) (stored : Option (List ℕ)) (b a : Outside) → a ≡ b → Leaves most stored b a
same_leaves most stored b a same =
    subst (λ (o : Outside). Leaves most stored b o) (sym same) (record { told = refl; files = λ t. stay_same stored b.files b.files refl; pulled = λ t. omega arith })

kept_left : (most : ℕ) (e : Ending) (b a : Outside) → KeptBy most e b a → LeftBy most None e b a
kept_left most e b a kept = record { leaves = record { told = kept.quiet.told; files = kept.quiet.files; pulled = kept.quiet.pulled }; counts = kept.counts }

module _ {A : Type 0} (n m : ℕ) (stored : Option (List ℕ)) (stage : Stage A) (next : A → Answers) (keeps : StageKeeps n stage) (later : (x : A) → Lets m stored (next x)) where
  then_lets : Lets (n + m) stored (Then stage next)
  then_lets b a _ (Goes x c e g rest) =
      let first = keeps.gives b c x g in
      let second = later x c a e rest in
      record { leaves = leaves_then n m stored b c a first.quiet second.leaves; counts = counts_then e b c a first.unfaulted second.counts }
  then_lets b a _ (Declines r d) = let calm = keeps.declines b a r d in record { leaves = quiet_leaves n m stored b a calm.quiet; counts = calm.unfaulted }
  then_lets b a _ (Faults object f) = let faulty = keeps.faults object b a f in record { leaves = quiet_leaves n m stored b a faulty.quiet; counts = faulty.faulted }
  then_lets b a _ (Lacks l) = let calm = keeps.lacks b a l in record { leaves = quiet_leaves n m stored b a calm.quiet; counts = calm.unfaulted }

-- ---- `make`

beside_leaves : (out : List ℕ) (b a : Outside) → LeavesOthers out b a → Leaves 0 (Some out) b a
beside_leaves out b a beside = record { told = beside.told; files = λ t. beside.others t; pulled = λ t. let h = beside.pulled t in omega (arith, h) }

stores_lets : (out envelope : List ℕ) → Lets 0 (Some out) (stores out envelope)
stores_lets out envelope b a _ (Declines r d) = absurd d
stores_lets out envelope b a _ (Faults objects.Host f) = record { leaves = beside_leaves out b a f.beside; counts = host_fault b a f.faulted f.beside.flash }
stores_lets out envelope b a _ (Faults objects.Flash f) = absurd f
stores_lets out envelope b a _ (Lacks l) = record { leaves = quiet_leaves 0 0 (Some out) b a (same_quiet 0 b a l); counts = same_counts b a l }
stores_lets out envelope b a _ (Goes u c _ s (IsSaid r same says)) =
    subst (λ (o : Outside). LeftBy 0 (Some out) (Says r) b o) (sym same)
    (record { leaves = beside_leaves out b c s.beside; counts = record { host = s.faults; flash = ap (λ (f : _). f.faults) s.beside.flash } })

described_lets : (value : Data) (key_name out : List ℕ) → Lets (65 + (most_named (file_names value) + 0)) (Some out) (makes_described value key_name out)
described_lets value key_name out =
    then_lets 65 (most_named (file_names value) + 0) (Some out) _ _ (reading_keeps _ _ _ _) (λ key.
    then_lets (most_named (file_names value)) 0 (Some out) _ _ (files_keeps [] (file_names value)) (λ files.
    then_lets 0 0 (Some out) _ _ (judging_keeps _ _) (λ envelope. stores_lets out envelope)))

module _ (description key_name out : List ℕ) (b a : Outside) where
  abbrev behind : ℕ
  behind = (longest_key + 1) + most_named (names_held (b.files description))

  first_file : StageKeeps 65537 (file longest_description description)
  first_file = reading_keeps _ _ _ _

  -- the description alone was read
  read_alone : (e : Ending) (m : Outside) → Calm 65537 b m → Counts e m a → a ≡ m → LeftBy (65537 + behind) (Some out) e b a
  read_alone e m calm counts same = record {
    leaves = subst (λ (o : Outside). Leaves (65537 + behind) (Some out) b o) (sym same) (quiet_leaves 65537 behind (Some out) b m calm.quiet);
    counts = counts_then e b m a calm.unfaulted counts;
  }

  makes_lets : (e : Ending) → makes description key_name out b a e → LeftBy (65537 + behind) (Some out) e b a
  makes_lets _ (Declines r d) = let calm = first_file.declines b a r d in record { leaves = quiet_leaves 65537 behind (Some out) b a calm.quiet; counts = calm.unfaulted }
  makes_lets _ (Faults object f) = let faulty = first_file.faults object b a f in record { leaves = quiet_leaves 65537 behind (Some out) b a faulty.quiet; counts = faulty.faulted }
  makes_lets _ (Lacks l) = let calm = first_file.lacks b a l in record { leaves = quiet_leaves 65537 behind (Some out) b a calm.quiet; counts = calm.unfaulted }
  makes_lets _ (Goes bytes m _ read (Declines r d)) = read_alone (Says r) m (first_file.gives b m bytes read) (same_counts m a d.0) d.0
  makes_lets _ (Goes bytes m _ read (Faults object f)) = absurd f
  makes_lets _ (Goes bytes m _ read (Lacks l)) = read_alone NoMemory m (first_file.gives b m bytes read) (same_counts m a l) l
  makes_lets e (Goes bytes m _ read (Goes value n _ v rest)) =
      let calm = first_file.gives b m bytes read in
      let left = subst (λ (o : Outside). LeftBy (65 + (most_named (file_names value) + 0)) (Some out) e o a) v.0 (described_lets value key_name out n a e rest) in
      let joined = leaves_then 65537 (65 + (most_named (file_names value) + 0)) (Some out) b m a calm.quiet left.leaves in
      record {
        leaves = record {
          told = joined.told;
          files = joined.files;
          pulled = λ t.
              let same : most_named (names_held (b.files description)) ≡ most_named (file_names value) =
              ap (λ (f : Option (List ℕ)). most_named (names_held f)) (read.1.holds t) ∙ ap (λ (d : Option Data). most_named (option_map_or file_names d [])) v.1.reads in
              let h = joined.pulled t in
              omega (arith, h, same);
        };
        counts = counts_then e b m a calm.unfaulted left.counts;
      }

-- ---- `run update`, before it begins

accepts_keeps : (frame : Frame) (layout : List Entry) (key : Key) (bytes : List ℕ) → StageKeeps 0 (accepts frame layout key bytes)
accepts_keeps frame layout key bytes = judging_keeps _ _

pub updates_lets : (name : List ℕ) → Lets 1048577 None (begins_update name)
updates_lets name =
    then_lets 0 1048577 None _ _ (looking_keeps _ _) (λ config. then_lets 1048577 0 None _ _ (reading_keeps _ _ _ _) (λ bytes.
    then_lets 0 0 None _ _ (accepts_keeps config.2 config.0 config.1 bytes) (λ accepted b a e last. kept_left 0 e b a (last_keeps _ b a e last))))

-- ---- the commands

does_lets : (task : Task) (b a : Outside) (e : Ending) → does task b a e → LeftBy (most_pulled (Some task) b.files) (stored_by (Some task)) e b a
does_lets (Make description key_name out) b a e answer = makes_lets description key_name out b a e answer
does_lets (Describe name) b a e answer = kept_left _ e b a (describes_keeps name b a e answer)
does_lets (Show name key_name) b a e answer = kept_left _ e b a (shows_keeps name key_name b a e answer)
does_lets (Check name) b a e answer = kept_left _ e b a (checks_keeps name b a e answer)
does_lets (RunInit device key_name) b a e answer = kept_left _ e b a (inits_keeps device key_name b a e answer)
does_lets (RunUpdate name uris) b a e answer = updates_lets name b a e answer
does_lets RunBoot b a e answer = kept_left _ e b a (begins_keeps b a e answer)
does_lets RunStatus b a e answer = kept_left _ e b a (tells_keeps b a e answer)
does_lets (RunMigrate base) b a e answer = kept_left _ e b a (migrates_keeps base b a e answer)
does_lets (Drill number) b a e answer = kept_left _ e b a (drills_keeps number b a e answer)
does_lets (Diagnose name) b a e answer = kept_left _ e b a (diagnoses_keeps name b a e answer)

pub answers_lets : (words : List (List ℕ)) (b a : Outside) (e : Ending) → answers words b a e → LeftBy (most_pulled (task_of words) b.files) (stored_by (task_of words)) e b a
answers_lets words b a _ (Goes task c e g rest) =
    let left : LeftBy (most_pulled (Some task) b.files) (stored_by (Some task)) e b a =
    subst (λ (o : Outside). LeftBy (most_pulled (Some task) o.files) (stored_by (Some task)) e o a) g.0 (does_lets task c a e rest) in
    subst (λ (t : Option Task). LeftBy (most_pulled t b.files) (stored_by t) e b a) (sym g.1) left
answers_lets words b a _ (Declines r d) = record { leaves = same_leaves (most_pulled (task_of words) b.files) (stored_by (task_of words)) b a d.0; counts = same_counts b a d.0 }
answers_lets words b a _ (Faults object f) = absurd f
answers_lets words b a _ (Lacks l) = record { leaves = same_leaves (most_pulled (task_of words) b.files) (stored_by (task_of words)) b a l; counts = same_counts b a l }
