-- A sequence has the commands that its array names.
use Rattle.std.proofs.Common.{◌≡◌, ℕ, suc, List, ◌∷◌, Bool, true, false, cond, Option, Some, None, Result, refl, ap, sym, ◌∙◌}
use Rattle.std.specs.Prelude.{codes, option_and_then, option_map}
use Rattle.std.specs.Str.{bytes_eq}
use Rattle.serde_json.specs.Data.{Data, array, Items, no_items, item}
use Rattle.serde_json.specs.Find.{at, as_str}
use Rattle.json_fields.specs.declared.flaw.Flaw.{Flaw}
use Rattle.json_fields.specs.declared.flaw.FlawKind.TheVariants.{Field}
use Rattle.json_fields.specs.Flaws.{found_or}
use Rattle.json_fields.specs.Pointers.{index_token}
use Rattle.suit_commands.specs.Kinds.{test_code, act_code}
use Rattle.suit_commands.specs.SequenceMaking.{code_of}
use Rattle.suit_commands.specs.Tree.{CommandTree, Test, Act, Index, Override, TryEach, RunSequence, SequenceTree, NoSteps, StepThen, BranchesTree}
use Rattle.author.specs.declared.command_name.CommandName.{CommandName}
use Rattle.author.specs.declared.command_name.CommandName.TheVariants as names
use Rattle.author.specs.CommandNames.{command_named, allowed, name_of}
use Rattle.author.specs.Commands.{command_said, sequence_of, steps_from, command_of, tries_of}
use Rattle.author.specs.GivenCommands.{code_named, codes_listed, HasCommandsOf}
use Rattle.author.specs.Scope.{Scope}
use Rattle.author.proofs.Keeps.{Holds, WasRead, WasFlawed, holds_bind, holds_then, holds_under, holds_weaker}

-- ---- names

abbrev name_code : CommandName → ℕ
name_code (names.Test kind) = test_code kind
name_code (names.Act kind) = act_code kind
name_code names.Index = 12
name_code names.Set = 20
name_code names.Try = 15
name_code names.Run = 32

map_choice : (b : Bool) (n : CommandName) (o : Option CommandName) (m : Option ℕ) → option_map name_code o ≡ m → option_map name_code (cond b (Some n) o) ≡ cond b (Some (name_code n)) m
map_choice true n o m e = refl
map_choice false n o m e = e

named_code : (name : List ℕ) → option_map name_code (command_named name) ≡ code_named name
named_code name =
    map_choice (bytes_eq name (codes "vendor")) _ _ _ (map_choice (bytes_eq name (codes "class")) _ _ _ (map_choice (bytes_eq name (codes "match")) _ _ _ (map_choice (bytes_eq name (codes "slot")) _ _ _ (
    map_choice (bytes_eq name (codes "content")) _ _ _ (map_choice (bytes_eq name (codes "abort")) _ _ _ (map_choice (bytes_eq name (codes "device")) _ _ _ (map_choice (bytes_eq name (codes "write")) _ _ _ (
    map_choice (bytes_eq name (codes "fetch")) _ _ _ (map_choice (bytes_eq name (codes "copy")) _ _ _ (map_choice (bytes_eq name (codes "invoke")) _ _ _ (map_choice (bytes_eq name (codes "swap")) _ _ _ (
    map_choice (bytes_eq name (codes "index")) _ _ _ (map_choice (bytes_eq name (codes "set")) _ _ _ (map_choice (bytes_eq name (codes "try")) _ _ _ (map_choice (bytes_eq name (codes "run")) _ _ _ refl)))))))))))))))

-- a value names a command with this code
abbrev Names : Data → ℕ → Type 0
Names d code = option_and_then code_named (as_str d) ≡ Some code

found_name : (o : Option CommandName) (m : Option ℕ) → option_map name_code o ≡ m → Holds (λ n. m ≡ Some (name_code n)) (found_or Field o)
found_name (Some n) m e = WasRead n (sym e)
found_name None m e = WasFlawed _

text_name : (o : Option (List ℕ)) → option_map name_code (option_and_then command_named o) ≡ option_and_then code_named o
text_name (Some name) = named_code name
text_name None = refl

act_allowed : (b : Bool) (d : Data) (n : CommandName) → Names d (name_code n) → Holds (λ m. Names d (name_code m)) (allowed b n)
act_allowed true d (names.Act kind) h = WasFlawed _
act_allowed false d (names.Act kind) h = WasRead _ h
act_allowed b d (names.Test kind) h = WasRead _ h
act_allowed b d names.Index h = WasRead _ h
act_allowed b d names.Set h = WasRead _ h
act_allowed b d names.Try h = WasRead _ h
act_allowed b d names.Run h = WasRead _ h

name_holds : (shared : Bool) (d : Data) → Holds (λ n. Names d (name_code n)) (name_of shared d)
name_holds shared d =
    holds_bind (λ n. Names d (name_code n)) (λ n. Names d (name_code n)) _ _ (found_name (option_and_then command_named (as_str d)) _ (text_name (as_str d))) (λ n h. act_allowed shared d n h)

-- ---- commands

said_holds : (scope : Scope) (n : CommandName) (d : Data) (s : Result SequenceTree Flaw) (bs : Result BranchesTree Flaw) → Holds (λ c. name_code n ≡ code_of c) (command_said scope n d s bs)
said_holds scope (names.Test kind) d s bs = holds_then (λ c. test_code kind ≡ code_of c) _ _ (λ report. WasRead (Test kind report) refl)
said_holds scope (names.Act kind) d s bs = holds_then (λ c. act_code kind ≡ code_of c) _ _ (λ report. WasRead (Act kind report) refl)
said_holds scope names.Index d s bs = holds_then (λ c. 12 ≡ code_of c) _ _ (λ selection. WasRead (Index selection) refl)
said_holds scope names.Set d s bs = holds_then (λ c. 20 ≡ code_of c) _ _ (λ list. WasRead (Override list) refl)
said_holds scope names.Try d s bs = holds_then (λ c. 15 ≡ code_of c) _ _ (λ branches. WasRead (TryEach branches) refl)
said_holds scope names.Run d s bs = holds_then (λ c. 32 ≡ code_of c) _ _ (λ inner. WasRead (RunSequence inner) refl)

-- the element names a command of this code
abbrev NamesFirst : Data → CommandTree → Type 0
NamesFirst d c = option_and_then code_named (option_and_then as_str (at 0 d)) ≡ Some (code_of c)

module _ (scope : Scope) where
  command_holds : (levels : ℕ) (d : Data) → Holds (NamesFirst d) (command_of scope levels d)
  command_holds levels (array (item name (item d no_items))) =
      holds_bind (λ n. Names name (name_code n)) (NamesFirst (array (item name (item d no_items)))) _ _ (holds_under (λ n. Names name (name_code n)) (index_token 0) (name_of scope.shared name) (name_holds scope.shared name)) (λ n h.
      holds_weaker (λ c. name_code n ≡ code_of c) (NamesFirst (array (item name (item d no_items)))) _ (said_holds scope n d (sequence_of scope levels d) (tries_of scope levels d)) (λ c e. h ∙ ap Some e))
  command_holds levels _ = WasFlawed _

  pub steps_hold : (levels i : ℕ) (ds : Items) → Holds (HasCommandsOf ds) (steps_from scope levels i ds)
  steps_hold levels i no_items = WasRead NoSteps refl
  steps_hold levels i (item d ds) =
      holds_bind (NamesFirst d) (HasCommandsOf (item d ds)) _ _ (holds_under (NamesFirst d) (index_token i) (command_of scope levels d) (command_holds levels d)) (λ c h.
      holds_bind (HasCommandsOf ds) (HasCommandsOf (item d ds)) _ _ (steps_hold levels (suc i) ds) (λ s hs. WasRead (StepThen 0 c s) (ap (λ o. o ∷ codes_listed ds) h ∙ ap (λ os. Some (code_of c) ∷ os) hs)))
