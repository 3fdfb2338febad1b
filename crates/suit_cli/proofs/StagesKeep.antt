-- How an answer's stages keep the outside, and count faults.
use Rattle.std.proofs.Common.{◌≡◌, ℕ, List, refl, sym, ap, subst, ◌∙◌, ◌+◌, arith}
use Rattle.std.specs.Prelude.{IsTrue}
use Rattle.suit_edge.specs.Faults.{Faulted}
use Rattle.suit_cli.specs.declared.reply.Reply.{Reply}
use Rattle.suit_cli.specs.declared.reply.Object.{Object}
use Rattle.suit_cli.specs.declared.reply.Object.TheVariants as objects
use Rattle.suit_cli.specs.Outside.{Outside, Flashed, Quiet, Reads, ReadsInVain, Looks, LooksInVain, with_flash}
use Rattle.suit_cli.specs.Stages.{Ending, Says, FaultOf, NoMemory, Answers, Stage, judging, reading, looking, writing, at_host, at_flash, Then, Goes, Declines, Faults, Lacks, Last, Ends, EndsWithout, Said, IsSaid}
use Rattle.suit_cli.specs.Migrating.{migrates}
use Rattle.suit_cli.specs.Inputs.{longest_file, longest_device, longest_key}
use Rattle.suit_cli.specs.Commands.{describes, shows, checks, inits, inits_as, begins_boot, tells_status, drills, diagnoses}
use Rattle.suit_cli.specs.Program.{answers}

-- only an answer that is a fault counted one, of its object
pub record Unfaulted (b a : Outside) : Type 0 where
  pub host : a.faults ≡ b.faults
  pub flash : a.flash.faults ≡ b.flash.faults

pub record FaultedAt (object : Object) (b a : Outside) : Type 0 where
  pub host : object ≡ objects.Host → Faulted b.faults a.faults
  pub only_host : (object ≡ objects.Host → ⊥) → a.faults ≡ b.faults
  pub flash : object ≡ objects.Flash → Faulted b.flash.faults a.flash.faults
  pub only_flash : (object ≡ objects.Flash → ⊥) → a.flash.faults ≡ b.flash.faults

abbrev pub Counts : Ending → Outside → Outside → Type 0
Counts (Says r) b a = Unfaulted b a
Counts (FaultOf object) b a = FaultedAt object b a
Counts NoMemory b a = Unfaulted b a

pub record KeptBy (most : ℕ) (e : Ending) (b a : Outside) : Type 0 where
  pub quiet : Quiet most b a
  pub counts : Counts e b a

abbrev pub Keeps : ℕ → Answers → Type 0
Keeps most answers = (b a : Outside) (e : Ending) → answers b a e → KeptBy most e b a

-- no fault was counted, or one was
pub record Calm (most : ℕ) (b a : Outside) : Type 0 where
  pub quiet : Quiet most b a
  pub unfaulted : Unfaulted b a

pub record Faulty (most : ℕ) (object : Object) (b a : Outside) : Type 0 where
  pub quiet : Quiet most b a
  pub faulted : FaultedAt object b a

pub record StageKeeps {A : Type 0} (most : ℕ) (stage : Stage A) : Type 0 where
  pub gives : (b a : Outside) (x : A) → stage.gives b a x → Calm most b a
  pub declines : (b a : Outside) (r : Reply) → stage.declines b a r → Calm most b a
  pub faults : (object : Object) (b a : Outside) → stage.faults object b a → Faulty most object b a
  pub lacks : (b a : Outside) → stage.lacks b a → Calm most b a

not_flash : objects.Host ≡ objects.Flash → ⊥
not_flash is = cc

not_host : objects.Flash ≡ objects.Host → ⊥
not_host is = cc

pub host_fault : (b a : Outside) → Faulted b.faults a.faults → a.flash ≡ b.flash → FaultedAt objects.Host b a
host_fault b a faulted same = record {
  host = λ is. faulted;
  only_host = λ never. absurd (never refl);
  flash = λ is. absurd (not_flash is);
  only_flash = λ never. ap (λ (f : Flashed). f.faults) same;
}

flash_fault : (b a : Outside) → Faulted b.flash.faults a.flash.faults → a ≡ with_flash b a.flash → FaultedAt objects.Flash b a
flash_fault b a faulted beside = record {
  host = λ is. absurd (not_host is);
  only_host = λ never. ap (λ (o : Outside). o.faults) beside;
  flash = λ is. faulted;
  only_flash = λ never. absurd (never refl);
}

-- ---- joining

pub same_quiet : (most : ℕ) (b a : Outside) → a ≡ b → Quiet most b a
same_quiet most b a same = subst (λ (o : Outside). Quiet most b o) (sym same) (record { told = refl; files = λ t. refl; pulled = λ t. omega arith })

pub same_counts : (b a : Outside) → a ≡ b → Unfaulted b a
same_counts b a same = record { host = ap (λ (o : Outside). o.faults) same; flash = ap (λ (o : Outside). o.flash.faults) same }

same_calm : (most : ℕ) (b a : Outside) → a ≡ b → Calm most b a
same_calm most b a same = record { quiet = same_quiet most b a same; unfaulted = same_counts b a same }

-- only the flash is another one
beside_quiet : (most : ℕ) (b a : Outside) → a ≡ with_flash b a.flash → Quiet most b a
beside_quiet most b a beside =
    subst (λ (o : Outside). Quiet most b o) (sym beside) (record { told = refl; files = λ t. refl; pulled = λ t. omega arith })

beside_calm : (most : ℕ) (b a : Outside) → a ≡ with_flash b a.flash → a.flash.faults ≡ b.flash.faults → Calm most b a
beside_calm most b a beside faults =
    record { quiet = beside_quiet most b a beside; unfaulted = record { host = ap (λ (o : Outside). o.faults) beside; flash = faults } }

looks_calm : (b a : Outside) → Looks b a → Calm 0 b a
looks_calm b a looks = beside_calm 0 b a looks.beside looks.faults

pub quiet_more : (n m : ℕ) (b a : Outside) → Quiet n b a → Quiet (n + m) b a
quiet_more n m b a q = record { told = q.told; files = q.files; pulled = λ t. let h = q.pulled t in omega (arith, h) }

pub quiet_then : (n m : ℕ) (b c a : Outside) → Quiet n b c → Quiet m c a → Quiet (n + m) b a
quiet_then n m b c a first second =
    let later : IsTrue b.told → IsTrue c.told = λ t. subst IsTrue (sym first.told) t in
    record {
      told = second.told ∙ first.told;
      files = λ t. second.files (later t) ∙ first.files t;
      pulled = λ t. let h = first.pulled t in let k = second.pulled (later t) in omega (arith, h, k);
    }

pub counts_then : (e : Ending) (b c a : Outside) → Unfaulted b c → Counts e c a → Counts e b a
counts_then (Says r) b c a first second = record { host = second.host ∙ first.host; flash = second.flash ∙ first.flash }
counts_then NoMemory b c a first second = record { host = second.host ∙ first.host; flash = second.flash ∙ first.flash }
counts_then (FaultOf object) b c a first second = record {
  host = λ is. subst (λ (n : ℕ). Faulted n a.faults) first.host (second.host is);
  only_host = λ never. second.only_host never ∙ first.host;
  flash = λ is. subst (λ (n : ℕ). Faulted n a.flash.faults) first.flash (second.flash is);
  only_flash = λ never. second.only_flash never ∙ first.flash;
}

module _ {A : Type 0} (n m : ℕ) (stage : Stage A) (next : A → Answers) (keeps : StageKeeps n stage) (later : (x : A) → Keeps m (next x)) where
  pub then_keeps : Keeps (n + m) (Then stage next)
  then_keeps b a _ (Goes x c e g rest) =
      let first = keeps.gives b c x g in
      let second = later x c a e rest in
      record { quiet = quiet_then n m b c a first.quiet second.quiet; counts = counts_then e b c a first.unfaulted second.counts }
  then_keeps b a _ (Declines r d) = let calm = keeps.declines b a r d in record { quiet = quiet_more n m b a calm.quiet; counts = calm.unfaulted }
  then_keeps b a _ (Faults object f) = let fails = keeps.faults object b a f in record { quiet = quiet_more n m b a fails.quiet; counts = fails.faulted }
  then_keeps b a _ (Lacks l) = let calm = keeps.lacks b a l in record { quiet = quiet_more n m b a calm.quiet; counts = calm.unfaulted }

pub judging_keeps : {A : Type 0} (good : A → Type 0) (bad : Reply → Type 0) → StageKeeps 0 (judging good bad)
judging_keeps good bad = record {
  gives = λ b a x g. same_calm 0 b a g.0;
  declines = λ b a r d. same_calm 0 b a d.0;
  faults = λ object b a f. absurd f;
  lacks = λ b a l. same_calm 0 b a l;
}

reads_calm : (most : ℕ) (name : List ℕ) (b a : Outside) → Reads most name b a → Calm most b a
reads_calm most name b a reads = record { quiet = reads.quiet; unfaulted = record { host = reads.faults; flash = ap (λ (f : Flashed). f.faults) reads.flash } }

pub reading_keeps : {A : Type 0} (most : ℕ) (name : List ℕ) (good : Outside → A → Type 0) (bad : Outside → Reply → Type 0) → StageKeeps most (reading most name good bad)
reading_keeps most name good bad = record {
  gives = λ b a x g. reads_calm most name b a g.0;
  declines = λ b a r d. reads_calm most name b a d.0;
  faults = λ object b a f. at_fault object b a f;
  lacks = λ b a l. reads_calm most name b a l;
} where
  at_fault : (object : Object) (b a : Outside) → at_host (ReadsInVain most name) object b a → Faulty most object b a
  at_fault objects.Host b a f = record { quiet = f.quiet; faulted = host_fault b a f.faulted f.flash }
  at_fault objects.Flash b a f = absurd f

pub looking_keeps : {A : Type 0} (good : Flashed → A → Type 0) (bad : Flashed → Reply → Type 0) → StageKeeps 0 (looking good bad)
looking_keeps good bad = record {
  gives = λ b a x g. looks_calm b a g.0;
  declines = λ b a r d. looks_calm b a d.0;
  faults = λ object b a f. at_fault object b a f;
  lacks = λ b a l. looks_calm b a l;
} where
  at_fault : (object : Object) (b a : Outside) → at_flash LooksInVain object b a → Faulty 0 object b a
  at_fault objects.Host b a f = absurd f
  at_fault objects.Flash b a f = record { quiet = beside_quiet 0 b a f.beside; faulted = flash_fault b a f.faulted f.beside }

writing_keeps : (Written : Flashed → Flashed → Type 0) (K : ℕ → Type 0) (bad : Flashed → Reply → Type 0) → StageKeeps 0 (writing Written K bad)
writing_keeps Written K bad = record {
  gives = λ b a x g. beside_calm 0 b a g.beside g.counts;
  declines = λ b a r d. looks_calm b a d.0;
  faults = λ object b a f. at_fault object b a f;
  lacks = λ b a l. looks_calm b a l;
} where
  at_fault : (object : Object) (b a : Outside) → (writing Written K bad).faults object b a → Faulty 0 object b a
  at_fault objects.Host b a f = absurd f
  at_fault objects.Flash b a f = record { quiet = beside_quiet 0 b a f.beside; faulted = flash_fault b a f.counts f.beside }

said_keeps : (says : Reply → Type 0) → Keeps 0 (Said says)
said_keeps says b a _ (IsSaid r same is) = record { quiet = same_quiet 0 b a same; counts = same_counts b a same }

pub last_keeps : (says : Reply → Type 0) → Keeps 0 (Last says)
last_keeps says b a _ (Ends r same is) = record { quiet = same_quiet 0 b a same; counts = same_counts b a same }
last_keeps says b a _ (EndsWithout same) = record { quiet = same_quiet 0 b a same; counts = same_counts b a same }

-- ---- the commands

pub checks_keeps : (name : List ℕ) → Keeps (longest_file + 1) (checks name)
checks_keeps name =
    then_keeps 1048577 0 _ _ (reading_keeps _ _ _ _) (λ bytes. then_keeps 0 0 _ _ (judging_keeps _ _) (λ said. then_keeps 0 0 _ _ (judging_keeps _ _) (λ u.
    then_keeps 0 0 _ _ (judging_keeps _ _) (λ manifest. then_keeps 0 0 _ _ (judging_keeps _ _) (λ members. then_keeps 0 0 _ _ (judging_keeps _ _) (λ v.
    then_keeps 0 0 _ _ (judging_keeps _ _) (λ w. last_keeps _)))))))

pub describes_keeps : (name : List ℕ) → Keeps (longest_file + 1) (describes name)
describes_keeps name =
    then_keeps 1048577 0 _ _ (reading_keeps _ _ _ _) (λ bytes. then_keeps 0 0 _ _ (judging_keeps _ _) (λ said. then_keeps 0 0 _ _ (judging_keeps _ _) (λ u.
    then_keeps 0 0 _ _ (judging_keeps _ _) (λ manifest. then_keeps 0 0 _ _ (judging_keeps _ _) (λ members. then_keeps 0 0 _ _ (judging_keeps _ _) (λ v. last_keeps _))))))

pub shows_keeps : (name key_name : List ℕ) → Keeps ((longest_file + 1) + (longest_key + 1)) (shows name key_name)
shows_keeps name key_name =
    then_keeps 1048577 65 _ _ (reading_keeps _ _ _ _) (λ bytes. then_keeps 0 65 _ _ (judging_keeps _ _) (λ said. then_keeps 0 65 _ _ (judging_keeps _ _) (λ u.
    then_keeps 0 65 _ _ (judging_keeps _ _) (λ manifest. then_keeps 65 0 _ _ (reading_keeps _ _ _ _) (λ key. last_keeps _)))))

inits_as_keeps : (size : ℕ) (device key_name : List ℕ) → Keeps ((longest_device + 1) + (longest_key + 1)) (inits_as size device key_name)
inits_as_keeps size device key_name =
    then_keeps 65537 65 _ _ (reading_keeps _ _ _ _) (λ bytes. then_keeps 0 65 _ _ (judging_keeps _ _) (λ described. then_keeps 65 0 _ _ (reading_keeps _ _ _ _) (λ key.
    then_keeps 0 0 _ _ (writing_keeps _ _ _) (λ u. said_keeps _))))

pub inits_keeps : (device key_name : List ℕ) → Keeps ((longest_device + 1) + (longest_key + 1)) (inits device key_name)
inits_keeps device key_name = then_keeps 0 65602 _ _ (looking_keeps _ _) (λ size. inits_as_keeps size device key_name)

pub begins_keeps : Keeps 0 begins_boot
begins_keeps = then_keeps 0 0 _ _ (looking_keeps _ _) (λ config. last_keeps _)

pub tells_keeps : Keeps 0 tells_status
tells_keeps = then_keeps 0 0 _ _ (looking_keeps _ _) (λ config. then_keeps 0 0 _ _ (looking_keeps _ _) (λ installed. then_keeps 0 0 _ _ (looking_keeps _ _) (λ lines. last_keeps _)))

pub migrates_keeps : (base : ℕ) → Keeps 0 (migrates base)
migrates_keeps base = then_keeps 0 0 _ _ (writing_keeps _ _ _) (λ u. said_keeps _)

pub diagnoses_keeps : (name : List ℕ) → Keeps (longest_file + 1) (diagnoses name)
diagnoses_keeps name = then_keeps 1048577 0 _ _ (reading_keeps _ _ _ _) (λ bytes. then_keeps 0 0 _ _ (judging_keeps _ _) (λ x. last_keeps _))

pub drills_keeps : (number : ℕ) → Keeps 0 (drills number)
drills_keeps number = last_keeps _
