-- The files that `run update` asks for.
use Rattle.std.proofs.Common.{◌≡◌, ℕ, ◌+◌, ◌*◌, ◌≤◌, max, List, [], ◌∷◌, ◌++◌, Some, length, take, get_or, ⊎_elim, refl, sym, ap, subst, ◌∙◌, append_assoc, arith}
use Rattle.std.specs.Prelude.{IsTrue}
use Rattle.std.specs.List.{AllByRecursion}
use Rattle.std.proofs.lemmas.List.{length-take-le}
use Rattle.std.proofs.lemmas.Option.{same_Some}
use Rattle.flash_layout.specs.declared.frame.Frame.{Frame}
use Rattle.flash_layout.specs.declared.key.Key.{Key}
use Rattle.flash_layout.specs.declared.layout.Entry.{Entry}
use Rattle.flash_layout.specs.declared.layout.Memory.{Memory}
use Rattle.flash_layout.specs.declared.layout.Memory.TheVariants as memory
use Rattle.flash_layout.specs.Configs.{IsAllowed}
use Rattle.flash_layout.specs.Layouts.{IsOfMemory, IsTypedEntry, slot_starts, starts_in}
use Rattle.step_machine.specs.Fetching.{IsFileOf}
use Rattle.step_machine.specs.Worlds.{HaveAtMost}
use Rattle.update_proc.specs.declared.update_end.UpdateEnd.{UpdateEnd}
use Rattle.suit_cli.specs.Surroundings.{seen}
use Rattle.suit_cli.specs.declared.reply.Object.{Object}
use Rattle.suit_cli.specs.declared.reply.Object.TheVariants as objects
use Rattle.suit_cli.specs.declared.reply.Reply.{Reply}
use Rattle.suit_cli.specs.Words.{Named, Task, RunUpdate, pairs_of, task_of}
use Rattle.suit_cli.specs.Outside.{Outside, Flashed, Reads, ReadsInVain, with_flash}
use Rattle.suit_cli.specs.Stages.{Ending, Stage, judging, Then, Goes, Declines, Faults, Lacks, Last, Ends, EndsWithout}
use Rattle.suit_cli.specs.Acceptance.{accepts}
use Rattle.suit_cli.specs.Inputs.{longest_file, file}
use Rattle.suit_cli.specs.Commands.{begins_update, does}
use Rattle.suit_cli.specs.Launching.{Launching}
use Rattle.suit_commands.specs.Tree.{PlanTree}
use Rattle.suit_cli.specs.Updating.{Updates, most_room, tree_of}
use Rattle.suit_cli.specs.Program.{AsksForUpdate, AsksNothing, AsksFile, IsNamed, answers}

-- ---- rooms

module _ (frame : Frame) (size : ℕ) (e : Entry) (typed : IsTypedEntry e) where
  of_memory : (kind : Memory) → e.memory ≡ kind → IsOfMemory frame size e kind → e.capacity ≤ max size 1048576
  of_memory memory.Flash flash held =
      let all : slot_starts e ≡ take e.slots e.starts = ap (λ (k : Memory). starts_in k (take e.slots e.starts)) flash in
      let long : length (take e.slots e.starts) ≡ e.slots = length-take-le e.slots e.starts (omega (arith, typed.starts, held.1)) in
      let same : length (slot_starts e) ≡ length (take e.slots e.starts) = ap length all in
      let first = held.4 0 0 (omega (arith, long, same, held.0)) in
      omega (arith, first.1)
  of_memory memory.Ram ram held = omega (arith, held.3)

pub rooms_fit : (frame : Frame) (size : ℕ) (layout : List Entry) (key : Key) → IsAllowed frame size layout key → HaveAtMost layout (most_room size)
rooms_fit frame size layout key allowed i e lt =
    of_memory frame size (get_or layout i e) (allowed.typed.entries i e lt) (get_or layout i e).memory refl (allowed.layout_is.each i e lt).held

-- ---- stages that ask for nothing

record Unasked (b a : Outside) : Type 0 where
  told : a.told ≡ b.told
  asked : a.asked ≡ b.asked
  pulled : a.pulled ≡ b.pulled

unasked_same : (b a : Outside) → a ≡ b → Unasked b a
unasked_same b a same = record { told = ap (λ (o : Outside). o.told) same; asked = ap (λ (o : Outside). o.asked) same; pulled = ap (λ (o : Outside). o.pulled) same }

unasked_beside : (b a : Outside) → a ≡ with_flash b a.flash → Unasked b a
unasked_beside b a same = record { told = ap (λ (o : Outside). o.told) same; asked = ap (λ (o : Outside). o.asked) same; pulled = ap (λ (o : Outside). o.pulled) same }

unasked_then : (b c a : Outside) → Unasked b c → Unasked c a → Unasked b a
unasked_then b c a one other = record { told = other.told ∙ one.told; asked = other.asked ∙ one.asked; pulled = other.pulled ∙ one.pulled }

record AsksNone {A : Type 0} (stage : Stage A) : Type 0 where
  gives : (b a : Outside) (x : A) → stage.gives b a x → Unasked b a
  declines : (b a : Outside) (r : Reply) → stage.declines b a r → Unasked b a
  faults : (object : Object) (b a : Outside) → stage.faults object b a → Unasked b a
  lacks : (b a : Outside) → stage.lacks b a → Unasked b a

judging_none : {A : Type 0} (good : A → Type 0) (bad : Reply → Type 0) → AsksNone (judging good bad)
judging_none good bad = record {
  gives = λ b a x g. unasked_same b a g.0;
  declines = λ b a r d. unasked_same b a d.0;
  faults = λ object b a f. absurd f;
  lacks = λ b a l. unasked_same b a l;
}

accepts_none : (frame : Frame) (layout : List Entry) (key : Key) (bytes : List ℕ) → AsksNone (accepts frame layout key bytes)
accepts_none frame layout key bytes = judging_none _ _

-- ---- an update that was not begun

module _ (name : List ℕ) (uris : List (List ℕ × List ℕ)) (b : Outside) where
  nothing_asked : (a : Outside) → Unasked b a → AsksForUpdate name uris b a
  nothing_asked a u = AsksNothing u.asked (omega (arith, u.pulled))

  file_asked : (c a : Outside) → Unasked b c → a.asked ≡ c.asked ++ name ∷ [] → a.pulled ≤ c.pulled + 1048577 → AsksForUpdate name uris b a
  file_asked c a u asked pulled =
      let none : 0 * (most_room b.flash.size + 1) ≡ 0 = omega arith in
      AsksFile [] (asked ∙ ap (λ (l : List (List ℕ)). l ++ name ∷ []) u.asked) tt (omega (arith, none, pulled, u.pulled))

  module _ (c : Outside) (u : Unasked b c) (told : IsTrue c.told) where
    file_read : (d a : Outside) → Reads 1048577 name c d → Unasked d a → AsksForUpdate name uris b a
    file_read d a read later =
        let pulled = read.quiet.pulled told in
        file_asked c a u (later.asked ∙ read.asks told) (omega (arith, pulled, later.pulled))

    file_failed : (a : Outside) → ReadsInVain 1048577 name c a → AsksForUpdate name uris b a
    file_failed a vain =
        let pulled = vain.quiet.pulled told in
        ⊎_elim (λ same. AsksNothing (same ∙ u.asked) (omega (arith, pulled, u.pulled))) (λ asked. file_asked c a u asked pulled) (vain.asks told)

    reads_itself : (a : Outside) → Reads 1048577 name c a → AsksForUpdate name uris b a
    reads_itself a read = file_read a a read (unasked_same a a refl)

    of_accepts : (frame : Frame) (layout : List Entry) (key : Key) (bytes : List ℕ) (d a : Outside) (e : Ending) → Reads 1048577 name c d → Then (accepts frame layout key bytes) (λ accepted. Last (λ reply. ⊥)) d a e → AsksForUpdate name uris b a
    of_accepts frame layout key bytes d a _ read (Goes accepted f _ g (EndsWithout same)) =
        file_read d a read (unasked_then d f a ((accepts_none frame layout key bytes).gives d f accepted g) (unasked_same f a same))
    of_accepts frame layout key bytes d a _ read (Goes accepted f _ g (Ends r same says)) = absurd says
    of_accepts frame layout key bytes d a _ read (Declines r declines) = file_read d a read ((accepts_none frame layout key bytes).declines d a r declines)
    of_accepts frame layout key bytes d a _ read (Faults object f) = file_read d a read ((accepts_none frame layout key bytes).faults object d a f)
    of_accepts frame layout key bytes d a _ read (Lacks l) = file_read d a read ((accepts_none frame layout key bytes).lacks d a l)

    of_file : (frame : Frame) (layout : List Entry) (key : Key) (a : Outside) (e : Ending)
        → Then (file longest_file name) (λ bytes. Then (accepts frame layout key bytes) (λ accepted. Last (λ reply. ⊥))) c a e → AsksForUpdate name uris b a
    of_file frame layout key a e (Goes bytes d _ read rest) = of_accepts frame layout key bytes d a e read.0 rest
    of_file frame layout key a _ (Declines r declines) = reads_itself a declines.0
    of_file frame layout key a _ (Faults objects.Host f) = file_failed a f
    of_file frame layout key a _ (Faults objects.Flash f) = absurd f
    of_file frame layout key a _ (Lacks l) = reads_itself a l

  begun_asks : (a : Outside) (e : Ending) → begins_update name b a e → IsTrue b.told → AsksForUpdate name uris b a
  begun_asks a e (Goes config c _ held rest) told =
      let u = unasked_beside b c held.0.beside in
      of_file c u (subst IsTrue (sym u.told) told) config.2 config.0 config.1 a e rest
  begun_asks a _ (Declines r d) told = nothing_asked a (unasked_beside b a d.0.beside)
  begun_asks a _ (Faults objects.Host f) told = absurd f
  begun_asks a _ (Faults objects.Flash f) told = nothing_asked a (unasked_beside b a f.beside)
  begun_asks a _ (Lacks l) told = nothing_asked a (unasked_beside b a l.beside)

pub stages_ask : (words : List (List ℕ)) (name : List ℕ) (uris : List Named) → task_of words ≡ Some (RunUpdate name uris) → (b a : Outside) (e : Ending) → answers words b a e → IsTrue b.told
    → AsksForUpdate name (pairs_of uris) b a
stages_ask words name uris word b a e (Goes task c _ g rest) told =
    let here = subst (λ (t : Task). does t c a e) (same_Some task (RunUpdate name uris) (sym g.1 ∙ word)) rest in
    begun_asks name (pairs_of uris) b a e (subst (λ (o : Outside). begins_update name o a e) g.0 here) told
stages_ask words name uris word b a _ (Declines r d) told = nothing_asked name (pairs_of uris) b a (unasked_same b a d.0)
stages_ask words name uris word b a _ (Faults object f) told = absurd f
stages_ask words name uris word b a _ (Lacks l) told = nothing_asked name (pairs_of uris) b a (unasked_same b a l)

-- ---- an update

named : (plan : PlanTree) (uris : List (List ℕ × List ℕ)) (names : List (List ℕ)) → AllByRecursion (IsFileOf plan uris) names → AllByRecursion (IsNamed uris) names
named plan uris [] all = tt
named plan uris (name ∷ names) all = ((all.0.0, all.0.2), named plan uris names all.1)

pub update_asks : (name : List ℕ) (uris : List (List ℕ × List ℕ)) (l m : Launching) (b a : Outside) (end : UpdateEnd) (lines : List ℕ) → Updates name uris (seen b l) (seen a m) end lines → IsTrue b.told → AsksForUpdate name uris b a
update_asks name uris l m b a end lines u told =
    let before = unasked_beside b u.configured u.held.0.beside in
    let configured_told : IsTrue u.configured.told = subst IsTrue (sym before.told) told in
    let middle_told : IsTrue u.middle.told = subst IsTrue (sym u.read.0.quiet.told) configured_told in
    let fetched = u.update.asks middle_told in
    let pulled = u.read.0.quiet.pulled configured_told in
    let file : u.middle.asked ≡ b.asked ++ name ∷ [] = u.read.0.asks configured_told ∙ ap (λ (x : List (List ℕ)). x ++ name ∷ []) before.asked in
    let size : u.middle.flash.size ≡ b.flash.size = ap (λ (f : Flashed). f.size) u.read.0.flash ∙ u.held.0.still.size in
    let most : length fetched.more * (most_room u.middle.flash.size + 1) ≡ length fetched.more * (most_room b.flash.size + 1) =
    ap (λ (n : ℕ). length fetched.more * (most_room n + 1)) size in
    AsksFile fetched.more (fetched.names ∙ ap (λ (x : List (List ℕ)). x ++ fetched.more) file ∙ append_assoc b.asked (name ∷ []) fetched.more) (named (tree_of u.o.accepted) uris fetched.more fetched.among)
    (omega (arith, fetched.pulled, most, pulled, before.pulled))
