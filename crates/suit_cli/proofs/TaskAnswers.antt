-- Answers to words, by what they ask for.
use Rattle.std.proofs.Common.{◌≡◌, ℕ, List, Some, None, ◌⊎◌, inl, inr, refl, sym, subst, ◌∙◌}
use Rattle.std.proofs.lemmas.Option.{same_Some}
use Rattle.suit_commands.specs.Tree.{PlanTree}
use Rattle.suit_cli.specs.declared.reply.Reply.{Reply}
use Rattle.suit_cli.specs.Words.{Task, Make, Describe, Show, Check, RunInit, RunUpdate, RunBoot, RunStatus, RunMigrate, Drill, Diagnose, task_of}
use Rattle.suit_cli.specs.Outside.{Outside}
use Rattle.suit_cli.specs.Stages.{Says, Goes, Declines}
use Rattle.suit_cli.specs.Commands.{does}
use Rattle.suit_cli.specs.Holding.{HasProcedures}
use Rattle.suit_cli.specs.Judgement.{AreJudged, JudgedSafe, JudgedUnsafe}
use Rattle.suit_cli.specs.Program.{Judges, answers}
use Rattle.suit_cli.proofs.Running.{Declining, IsJudged, Plain, checked, shown_plain, showed, inited, begun, stated, migrated, drilled}
use Rattle.suit_cli.proofs.AcceptedFacts.{IsUnsafeFile, began}
use Rattle.suit_cli.proofs.Describing.{described}
use Rattle.suit_cli.proofs.Diagnosing.{diagnosed}
use Rattle.suit_cli.proofs.MakeLawProofs.{made_as}

-- a reply to words that are those of a task
pub does_of : (words : List (List ℕ)) (b a : Outside) (r : Reply) (task : Task) → task_of words ≡ Some task → answers words b a (Says r) → does task b a (Says r)
does_of words b a r task word (Declines _ d) = let never : None ≡ Some task = sym d.1.0 ∙ word in absurd cc
does_of words b a r task word (Goes other m _ g rest) =
    let same : other ≡ task = same_Some other task (sym g.1 ∙ word) in
    subst (λ (o : Outside). does task o a (Says r)) g.0 (subst (λ (t : Task). does t m a (Says r)) same rest)

-- it judges a file whose procedures are not safe
pub record TellsUnsafe (task : Task) (b : Outside) (r : Reply) : Type 0 where
  pub name : List ℕ
  pub judges : Judges (Some task) name
  pub file : IsUnsafeFile name b r

-- each reply of a command declines, or is done, or tells of procedures that are not safe
pub reply_of : (task : Task) (m a : Outside) (r : Reply) → does task m a (Says r) → Plain r.outcome ⊎ TellsUnsafe task m r
reply_of (Make description key out) m a r rest = inl (made_as description key out m a r rest)
reply_of (Describe name) m a r rest = inl (described name m a r rest)
reply_of (Show name key) m a r rest = inl (shown_plain r (showed name key m a r rest))
reply_of (Check name) m a r rest = of_check (checked name m a r rest) where
  of_judged : (u i : PlanTree) → HasProcedures name m u i → AreJudged u i r → Plain r.outcome ⊎ TellsUnsafe (Check name) m r
  of_judged u i has (JudgedSafe safe says) = inl (inr says.outcome_is)
  of_judged u i has (JudgedUnsafe outcome shows) =
      inr (record { name = name; judges = refl; file = record { update = u; invocation = i; has = has; unsafe = record { outcome_is = outcome; shows_path = shows } } })

  of_check : Declining r.outcome ⊎ IsJudged name m r → Plain r.outcome ⊎ TellsUnsafe (Check name) m r
  of_check (inl d) = inl (inl d)
  of_check (inr j) = of_judged j.update j.invocation j.has j.judged
reply_of (RunInit device key) m a r rest = inl (inited device key m a r rest)
reply_of (RunUpdate name uris) m a r rest = of_way (began name m a r rest) where
  of_way : Declining r.outcome ⊎ IsUnsafeFile name m r → Plain r.outcome ⊎ TellsUnsafe (RunUpdate name uris) m r
  of_way (inl d) = inl (inl d)
  of_way (inr u) = inr (record { name = name; judges = refl; file = u })
reply_of RunBoot m a r rest = inl (begun m a r rest)
reply_of RunStatus m a r rest = inl (stated m a r rest)
reply_of (RunMigrate base) m a r rest = inl (migrated base m a r rest)
reply_of (Drill number) m a r rest = inl (drilled number m a r rest)
reply_of (Diagnose name) m a r rest = inl (diagnosed name m a r rest)
