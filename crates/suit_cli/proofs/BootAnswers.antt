-- The answer to `run boot`.
use Rattle.std.proofs.Common.{◌≡◌, ℕ, List, Some, None, Result, Err, refl, sym, ap, subst, ◌∙◌}
use Rattle.flash_layout.specs.declared.frame.Frame.{Frame}
use Rattle.flash_layout.specs.declared.key.Key.{Key}
use Rattle.flash_layout.specs.declared.layout.Entry.{Entry}
use Rattle.std.specs.declared.alloc.AllocError.{AllocError}
use Rattle.command_words.specs.declared.command.Command.{Command}
use Rattle.command_words.specs.Said.{said}
use Rattle.suit_cli.specs.declared.reply.Reply.{Reply}
use Rattle.suit_cli.specs.declared.reply.Outcome.TheVariants as outcomes
use Rattle.suit_cli.specs.Texts.{usage_line}
use Rattle.suit_cli.specs.Replies.{Makes, stop_of}
use Rattle.suit_cli.specs.Program.{ComesTo}
use Rattle.suit_cli.specs.Words.{Task, RunBoot, task_of}
use Rattle.suit_cli.specs.Outside.{Outside}
use Rattle.suit_cli.specs.declared.reply.Stop.{Stop}
use Rattle.suit_cli.specs.Stages.{Ending, NoMemory, Goes, Lacks, Last, EndsWithout, Does, ending_of}
use Rattle.suit_cli.proofs.Chains.{stopped, does_command, answers_usage}
use Rattle.suit_cli.specs.Installed.{config_in}
use Rattle.suit_cli.specs.Commands.{does}
use Rattle.suit_cli.specs.Launching.{Launching}
use Rattle.suit_cli.specs.Coming.{BootsBy, Comes, ByStages, ByBoot, ByUpdate, Ended, Answered, Booted, Updated}

-- behind the configuration
pub comes_by : (config : List Entry × Key × Frame) (l m : Launching) (b middle a : Outside) → config_in.gives b middle config
    → (ended : Ended) → BootsBy config l m middle a ended → Comes (does RunBoot) (λ task. RunBoot ≡ task) l m b a ended
comes_by config l m b middle a held (Answered ending) by =
    ByStages ending (Goes config middle ending held (subst (λ (e : Ending). Last (λ (reply : Reply). ⊥) middle a e) (sym by.0) (EndsWithout by.1))) by.2
comes_by config l m b middle a held (Updated end lines) by = absurd by
comes_by config l m b middle a held (Booted end lines) by =
    ByBoot end lines refl (record { config = config; middle = middle; held = held; boot = by.0; lines_are = by.1 })

-- where there is none
pub unconfigured : (l : Launching) (b a : Outside) (stop : Stop) → Does config_in b a (Err stop)
    → Comes (does RunBoot) (λ task. RunBoot ≡ task) l l b a (Answered (ending_of (Err stop)))
unconfigured l b a stop found = ByStages _ (stopped config_in (λ config. Last (λ (reply : Reply). ⊥)) b a stop found) refl

-- ---- by a command

-- in stages
pub comes_command : (x y : Command) → x ≡ y → (l : Launching) (b a : Outside) (ending : Ending) → does (said y) b a ending
    → Comes (does (said x)) (λ task. said x ≡ task) l l b a (Answered ending)
comes_command x y same l b a ending answer = ByStages ending (does_command x y same b a ending answer) refl

-- or as it is
pub comes_same : (x y : Command) → x ≡ y → (l m : Launching) (b a : Outside) (ended : Ended) → Comes (does (said y)) (λ task. said y ≡ task) l m b a ended
    → Comes (does (said x)) (λ task. said x ≡ task) l m b a ended
comes_same x y same l m b a ended comes = subst (λ (c : Command). Comes (does (said c)) (λ task. said c ≡ task) l m b a ended) (sym same) comes

-- ---- by words

pub comes_starved : (words : List (List ℕ)) (l : Launching) (b : Outside) → ComesTo words l l b b (Answered NoMemory)
comes_starved words l b = ByStages NoMemory (Lacks refl) refl

pub comes_usage : (words : List (List ℕ)) (l : Launching) (here : Outside) (made : Result Reply AllocError) (stop : Stop) → task_of words ≡ None
    → Makes made outcomes.Usage usage_line → stop ≡ stop_of made → ComesTo words l l here here (Answered (ending_of (Err stop)))
comes_usage words l here made stop none says is = ByStages _ (answers_usage words here made stop none says is) refl

-- the words are those of a task
pub comes_task : (words : List (List ℕ)) (task : Task) → task_of words ≡ Some task → (l m : Launching) (b a : Outside) (ended : Ended)
    → Comes (does task) (λ other. task ≡ other) l m b a ended → ComesTo words l m b a ended
comes_task words task word l m b a _ (ByStages ending answer same) = ByStages ending (Goes task b ending (refl, word) answer) same
comes_task words task word l m b a _ (ByBoot end lines is boots) = ByBoot end lines (word ∙ ap (λ (t : Task). Some t) is) boots
comes_task words task word l m b a _ (ByUpdate name uris end lines is updates) = ByUpdate name uris end lines (word ∙ ap (λ (t : Task). Some t) is) updates
