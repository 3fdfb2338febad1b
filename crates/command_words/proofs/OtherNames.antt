-- A word that is not the name of a command, or of one of the commands of `run`.
use Rattle.std.proofs.Common.{◌≡◌, ◌∙◌, ◌≤◌, ◌-◌, suc, ℕ, List, [], ◌∷◌, length, take, take_all, drop, slice_index_or, Bool, true, false, None, codes, refl, sym, ap, subst, Bor, arith, if◌then◌else◌}
use Rattle.std.specs.List.{list_all}
use Rattle.std.specs.Str.{bytes_eq}
use lib.Pointwise.{bytes_decides}
use Rattle.command_words.specs.Tasks.{Word, Words, texts}
use Rattle.command_words.specs.Words.{is_plain}
use Rattle.command_words.specs.Table.{migrate_of, run_of, task_in, task_of}

no_name : (name command : Word) → (name ≡ command → ⊥) → bytes_eq name command ≡ false
no_name name command never = of (bytes_eq name command) refl where
  of : (b : Bool) → bytes_eq name command ≡ b → bytes_eq name command ≡ false
  of true e = absurd (never ((bytes_decides name command).0 e))
  of false e = e

-- ---- after `run`

pub record IsNoRun (name : Word) : Type 0 where
  pub init : name ≡ codes "init" → ⊥
  pub update : name ≡ codes "update" → ⊥
  pub boot : name ≡ codes "boot" → ⊥
  pub status : name ≡ codes "status" → ⊥
  pub migrate : name ≡ codes "migrate" → ⊥

no_run : (run name : Word) (words : Words) → IsNoRun name → run_of (run ∷ name ∷ words) ≡ None
no_run run name words other =
    rw (no_name name (codes "init") other.init) (rw (no_name name (codes "update") other.update) (rw (no_name name (codes "boot") other.boot) (rw (no_name name (codes "status") other.status)
    (rw (no_name name (codes "migrate") other.migrate) refl))))

pub run_default : (words : List (Bor Word)) (none : Bor Word) → 2 ≤ length words → IsNoRun (slice_index_or (take (length words - 1) (drop 1 words)) 0 none).now → None ≡ run_of (texts words)
run_default [] none some other = absurd (omega arith)
run_default (run ∷ []) none some other = absurd (omega arith)
run_default (run ∷ name ∷ words) none some other =
    let one : length (run ∷ name ∷ words) - 1 ≡ suc (length words) = omega arith in
    sym (no_run run.now name.now (texts words) (subst (λ (n : ℕ). IsNoRun (slice_index_or (take n (name ∷ words)) 0 none).now) one other))

run_of_migrate : (run name : Word) (words : Words) → name ≡ codes "migrate" → run_of (run ∷ name ∷ words) ≡ migrate_of (name ∷ words)
run_of_migrate run name words is = subst (λ (n : Word). run_of (run ∷ n ∷ words) ≡ migrate_of (n ∷ words)) (sym is) refl

pub run_migrate : (words : List (Bor Word)) (none : Bor Word) → 2 ≤ length words → (slice_index_or (take (length words - 1) (drop 1 words)) 0 none).now ≡ codes "migrate"
    → run_of (texts words) ≡ migrate_of (texts (take (length words - 1) (drop 1 words)))
run_migrate [] none some is = absurd (omega arith)
run_migrate (run ∷ []) none some is = absurd (omega arith)
run_migrate (run ∷ name ∷ words) none some is =
    let behind = length (run ∷ name ∷ words) - 1 in
    let all : take behind (name ∷ words) ≡ name ∷ words = take_all behind (name ∷ words) (omega arith) in
    run_of_migrate run.now name.now (texts words) (subst (λ (l : List (Bor Word)). (slice_index_or l 0 none).now ≡ codes "migrate") all is)
    ∙ ap (λ (l : List (Bor Word)). migrate_of (texts l)) (sym all)

-- ---- as the first word

pub record IsNoCommand (name : Word) : Type 0 where
  pub make : name ≡ codes "make" → ⊥
  pub show : name ≡ codes "show" → ⊥
  pub check : name ≡ codes "check" → ⊥
  pub run : name ≡ codes "run" → ⊥
  pub drill : name ≡ codes "drill" → ⊥
  pub diag : name ≡ codes "diag" → ⊥

no_command : (name : Word) (words : Words) → IsNoCommand name → task_in (name ∷ words) ≡ None
no_command name words other =
    rw (no_name name (codes "make") other.make) (rw (no_name name (codes "show") other.show) (rw (no_name name (codes "check") other.check) (rw (no_name name (codes "run") other.run)
    (rw (no_name name (codes "drill") other.drill) (rw (no_name name (codes "diag") other.diag) refl)))))

pub default : (words : List (Bor Word)) (none : Bor Word) → 1 ≤ length words → list_all is_plain (texts words) ≡ true → IsNoCommand (slice_index_or words 0 none).now → None ≡ task_of (texts words)
default [] none some plain other = absurd (omega arith)
default (name ∷ words) none some plain other = sym (ap (λ (b : Bool). if b then task_in (texts (name ∷ words)) else None) plain ∙ no_command name.now (texts words) other)
