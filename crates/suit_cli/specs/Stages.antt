-- An answer is made in stages, one after another.
use Rattle.std.specs.Prelude.{◌≡◌, ◌⊎◌, ℕ, IsTrue, List, Result, Ok, Err}
use Rattle.suit_edge.specs.Faults.{Faulted}
use Rattle.suit_edge.specs.Ranges.{SameOn}
use Rattle.suit_cli.specs.declared.reply.Object.{Object}
use Rattle.suit_cli.specs.declared.reply.Object.TheVariants as objects
use Rattle.suit_cli.specs.declared.reply.Reply.{Reply}
use Rattle.suit_cli.specs.declared.reply.Stop.{Stop}
use Rattle.suit_cli.specs.declared.reply.Stop.TheVariants as stops
use Rattle.suit_cli.specs.Outside.{Outside, Flashed, Reads, ReadsInVain, Looks, LooksInVain, Writes}

-- the ending of an answer
pub data Ending : Type 0 where
  Says : Reply → Ending
  FaultOf : Object → Ending
  NoMemory : Ending

-- how an answer can end, by the outside before and after
abbrev pub Answers : Type 1
Answers = Outside → Outside → Ending → Type 0

-- A stage gives a value, or declines with a reply, or an object faults in it, or memory runs out.
pub record Stage (A : Type 0) : Type 1 where
  pub gives : Outside → Outside → A → Type 0
  pub declines : Outside → Outside → Reply → Type 0
  pub faults : Object → Outside → Outside → Type 0
  pub lacks : Outside → Outside → Type 0

-- ---- the kinds of stages

abbrev pub at_host : (Outside → Outside → Type 0) → Object → Outside → Outside → Type 0
at_host In objects.Host = In
at_host In objects.Flash = λ before after. ⊥

abbrev pub at_flash : (Outside → Outside → Type 0) → Object → Outside → Outside → Type 0
at_flash In objects.Host = λ before after. ⊥
at_flash In objects.Flash = In

-- A judgement of values. It changes nothing outside, and nothing outside can fail in it.
abbrev pub judging : {A : Type 0} → (A → Type 0) → (Reply → Type 0) → Stage A
judging good bad = record {
  gives = λ before after a. (after ≡ before) × good a;
  declines = λ before after reply. (after ≡ before) × bad reply;
  faults = λ object before after. ⊥;
  lacks = λ before after. after ≡ before;
}

-- A file is read: at most so many bytes are pulled of it, and none of another. Then what was found is judged.
abbrev pub reading : {A : Type 0} → ℕ → List ℕ → (Outside → A → Type 0) → (Outside → Reply → Type 0)
    → Stage A
reading most name good bad = record {
  gives = λ before after a. Reads most name before after × good before a;
  declines = λ before after reply. Reads most name before after × bad before reply;
  faults = at_host (ReadsInVain most name);
  lacks = Reads most name;
}

-- The flash is looked at, which changes nothing, and what was found is judged.
abbrev pub looking : {A : Type 0} → (Flashed → A → Type 0) → (Flashed → Reply → Type 0) → Stage A
looking good bad = record {
  gives = λ before after a. Looks before after × good before.flash a;
  declines = λ before after reply. Looks before after × bad before.flash reply;
  faults = at_flash LooksInVain;
  lacks = Looks;
}

-- The flash is written, and nothing else changes. Where it counted a fault it keeps the places of K; where the stage declines,
-- nothing was written.
abbrev pub writing : (Flashed → Flashed → Type 0) → (ℕ → Type 0) → (Flashed → Reply → Type 0)
    → Stage (Unit {0})
writing Written K bad = record {
  gives = λ before after _. Writes (λ faults now. now ≡ faults) Written before after;
  declines = λ before after reply. Looks before after × bad before.flash reply;
  faults =
      at_flash (Writes Faulted (λ old new. IsTrue old.told → SameOn K old.reads new.reads));
  lacks = Looks;
}

-- ---- two stages as one

-- the first stage gives a value, and then this holds of that value
pub record After {A : Type 0} (first : Stage A) (says : A → Outside → Outside → Type 0)
    (before after : Outside) : Type 0 where
  pub value : A
  pub middle : Outside
  pub given : first.gives before middle value
  pub later : says value middle after

-- one stage and then another, as one; memory may run out before both
abbrev pub in_turn : {A B : Type 0} → Stage A → (A → Stage B) → Stage B
in_turn first next = record {
  gives = λ before after b. After first (λ a m n. (next a).gives m n b) before after;
  declines =
      λ before after reply. first.declines before after reply
      ⊎ After first (λ a m n. (next a).declines m n reply) before after;
  faults =
      λ object before after. first.faults object before after
      ⊎ After first (λ a m n. (next a).faults object m n) before after;
  lacks =
      λ before after. (after ≡ before)
      ⊎ (first.lacks before after ⊎ After first (λ a m n. (next a).lacks m n) before after);
}

-- ---- one stage after another

-- the stage gives a value and the answer goes on with it; or the answer ends in this stage
pub data Then {A : Type 0} (stage : Stage A) (next : A → Answers) (before after : Outside)
    : Ending → Type 0 where
  Goes : (a : A) (middle : Outside) (ending : Ending) → stage.gives before middle a
      → next a middle after ending → Then stage next before after ending
  Declines : (reply : Reply) → stage.declines before after reply
      → Then stage next before after (Says reply)
  Faults : (object : Object) → stage.faults object before after
      → Then stage next before after (FaultOf object)
  Lacks : stage.lacks before after → Then stage next before after NoMemory

infixr 10 ◌>>=◌
abbrev pub ◌>>=◌ : {A : Type 0} → Stage A → (A → Answers) → Answers
stage >>= next = Then stage next

-- the last stage: the reply, unless memory runs out
pub data Last (says : Reply → Type 0) (before after : Outside) : Ending → Type 0 where
  Ends : (reply : Reply) → after ≡ before → says reply → Last says before after (Says reply)
  EndsWithout : after ≡ before → Last says before after NoMemory

-- the last stage, where the reply was made before: memory cannot run out
pub data Said (says : Reply → Type 0) (before after : Outside) : Ending → Type 0 where
  IsSaid : (reply : Reply) → after ≡ before → says reply → Said says before after (Says reply)

-- ---- the code's answers

-- the code's result is what the stage gives, or why it gives nothing
abbrev pub Does : {A : Type 0} → Stage A → Outside → Outside → Result A Stop → Type 0
Does stage before after (Ok a) = stage.gives before after a
Does stage before after (Err (stops.Declined reply)) = stage.declines before after reply
Does stage before after (Err (stops.Fault object)) = stage.faults object before after
Does stage before after (Err stops.NoMemory) = stage.lacks before after

-- the same of a judgement, whatever the outside is
abbrev pub Finds : {A : Type 0} → Stage A → Result A Stop → Type 0
Finds stage result = (here : Outside) → Does stage here here result

abbrev pub ending_of : Result Reply Stop → Ending
ending_of (Ok reply) = Says reply
ending_of (Err (stops.Declined reply)) = Says reply
ending_of (Err (stops.Fault object)) = FaultOf object
ending_of (Err stops.NoMemory) = NoMemory

-- the code's answer, where all stages are judgements
abbrev pub Tells : Answers → Result Reply Stop → Type 0
Tells answers result = (here : Outside) → answers here here (ending_of result)
