-- The result of a run, clause by clause.
use Rattle.std.proofs.Common.{◌≡◌, ℕ, List, Option, Some, None, ◌⊎◌, inl, inr, refl, sym, ap, subst, ◌∙◌, ◌++◌, arith}
use Rattle.std.specs.Prelude.{IsTrue, ◌≢◌, ◌<◌}
use Rattle.std.proofs.lemmas.Option.{same_Some}
use Rattle.suit_edge.specs.Faults.{Faulted}
use Rattle.suit_commands.specs.Tree.{PlanTree}
use Rattle.suit_envelope.specs.EnvelopeLaws.{EnvelopeLaws}
use Rattle.suit_manifest.specs.ManifestLaws.{ManifestLaws}
use Rattle.suit_manifest.specs.MembersLaws.{MembersLaws}
use Rattle.suit_cli.specs.declared.reply.Reply.{Reply}
use Rattle.suit_cli.specs.declared.reply.Outcome.{Outcome}
use Rattle.suit_cli.specs.declared.reply.Outcome.TheVariants as outcomes
use Rattle.suit_cli.specs.Texts.{usage_line}
use Rattle.suit_cli.specs.declared.reply.Object.TheVariants as objects
use Rattle.suit_cli.specs.Words.{Task, Check, task_of}
use Rattle.suit_cli.specs.Commands.{does}
use Rattle.suit_cli.specs.Outside.{Outside, Sunk}
use Rattle.suit_cli.specs.Stages.{Ending, Says, FaultOf, NoMemory, Goes, Declines, Faults}
use Rattle.suit_cli.specs.Statuses.{status_of, ending_status, ending_text}
use Rattle.suit_cli.specs.Judgement.{AreSafe, AreJudged, JudgedSafe, JudgedUnsafe}
use Rattle.suit_cli.specs.Program.{answers, PutsText, IsPut, IsCut, EndsIn, IsExcuse, ChecksNone, ChecksProcedures, IsCheck, ChecksSafe, ChecksUnsafe, IsUsage, Judges}
use Rattle.suit_cli.proofs.Running.{Declining, IsJudged, Plain, check_faults, checked, judged_when, judged_safe, judged_unsafe, done_safe, status_done, status_unsafe, status_usage, not_seven, not_eight, not_ten_of, plain_not, unsafe_refuted}
use Rattle.suit_cli.proofs.TaskAnswers.{TellsUnsafe, does_of, reply_of}
use Rattle.suit_cli.proofs.StagesKeep.{Counts}
use Rattle.suit_cli.proofs.StagesLet.{answers_lets}

-- ---- an ending with a status

record IsSaid (e : Ending) (n : ℕ) : Type 0 where
  pub reply : Reply
  pub is : e ≡ Says reply
  pub status : status_of reply.outcome ≡ n

said_with : (e : Ending) (n : ℕ) → ending_status e ≡ n → n < 7 → IsSaid e n
said_with (Says r) n is low = record { reply = r; is = refl; status = is }
said_with (FaultOf objects.Host) n is low = absurd (omega (arith, is, low))
said_with (FaultOf objects.Flash) n is low = absurd (omega (arith, is, low))
said_with NoMemory n is low = absurd (omega (arith, is, low))

record IsPutAs (sb sa : Sunk) (e : Ending) (n : ℕ) : Type 0 where
  pub status : ending_status e ≡ n
  pub puts : IsTrue sb.told → sa.put ≡ sb.put ++ ending_text e

put_as : (sb sa : Sunk) (e : Ending) (result n : ℕ) → PutsText sb sa (ending_status e) (ending_text e) result → result ≡ n → (n ≡ 9 → ⊥) → IsPutAs sb sa e n
put_as sb sa e result n (IsPut is still puts) same never = record { status = sym is ∙ same; puts = puts }
put_as sb sa e result n (IsCut is faulted puts) same never = absurd (never (sym same ∙ is))

-- a reply of this outcome, which is neither that of a stage that declines nor that all was done
module _ (o : Outcome) (declines : Declining o → ⊥) (done : o ≡ outcomes.Done → ⊥) where
  unsafe_reply : (task : Task) (m a : Outside) (r : Reply) → does task m a (Says r) → r.outcome ≡ o → TellsUnsafe task m r
  unsafe_reply task m a r rest is = of_reply (reply_of task m a r rest) where
    of_reply : Plain r.outcome ⊎ TellsUnsafe task m r → TellsUnsafe task m r
    of_reply (inl plain) = absurd (plain_not r.outcome o plain is declines done)
    of_reply (inr u) = u

-- usage, by an answer
usage_of : (words : List (List ℕ)) (b a : Outside) (r : Reply) → answers words b a (Says r) → r.outcome ≡ outcomes.Usage → (task_of words ≡ None) × (r.text ≡ usage_line)
usage_of words b a r (Declines _ d) is = (d.1.0, d.1.1.text_is)
usage_of words b a r (Goes task m _ g rest) is =
    let u = unsafe_reply outcomes.Usage (λ d. d) (λ e. cc) task m a r rest is in
    let never : outcomes.Unsafe ≡ outcomes.Usage = sym u.file.unsafe.outcome_is ∙ is in
    absurd cc

no_task_usage : (words : List (List ℕ)) (b a : Outside) (r : Reply) → task_of words ≡ None → answers words b a (Says r) → status_of r.outcome ≡ 2
no_task_usage words b a r none (Declines _ d) = ap status_of d.1.1.outcome_is
no_task_usage words b a r none (Goes task m _ g rest) = let never : None ≡ Some task = sym none ∙ g.1 in absurd cc

checks_no_flash : (words : List (List ℕ)) → IsCheck words → (b a : Outside) → answers words b a (FaultOf objects.Flash) → ⊥
checks_no_flash words check b a (Goes task m _ g rest) =
    check_faults check.0 objects.Flash m a (subst (λ (t : Task). does t m a (FaultOf objects.Flash)) (same_Some task (Check check.0) (sym g.1 ∙ check.1)) rest)
checks_no_flash words check b a (Faults _ f) = f

usage_no_flash : (words : List (List ℕ)) → task_of words ≡ None → (b a : Outside) → answers words b a (FaultOf objects.Flash) → ⊥
usage_no_flash words none b a (Goes task m _ g rest) = let never : None ≡ Some task = sym none ∙ g.1 in absurd cc
usage_no_flash words none b a (Faults _ f) = f

-- ---- the clauses

-- an answer in stages, and what was put of it
pub record Staged (words : List (List ℕ)) (b a : Outside) (sb sa : Sunk) (result : ℕ) : Type 0 where
  pub ending : Ending
  pub answer : answers words b a ending
  pub puts : PutsText sb sa (ending_status ending) (ending_text ending) result

module _ (words : List (List ℕ)) (b a : Outside) (sb sa : Sunk) (result : ℕ) (runs : Staged words b a sb sa result) where
  -- every reply has this status, and the flash is not looked at
  ends_in : (n : ℕ) → ((r : Reply) → answers words b a (Says r) → status_of r.outcome ≡ n) → (answers words b a (FaultOf objects.Flash) → ⊥) → EndsIn n result
  ends_in n all never = of_puts runs.puts where
    of_ending : (e : Ending) → answers words b a e → result ≡ ending_status e → EndsIn n result
    of_ending (Says r) answer is = inl (is ∙ all r answer)
    of_ending (FaultOf objects.Host) answer is = inr (inl is)
    of_ending (FaultOf objects.Flash) answer is = absurd (never answer)
    of_ending NoMemory answer is = inr (inr (inr is))

    of_puts : PutsText sb sa (ending_status runs.ending) (ending_text runs.ending) result → EndsIn n result
    of_puts (IsPut is still puts) = of_ending runs.ending runs.answer is
    of_puts (IsCut is faulted puts) = inr (inr (inl is))

  pub yes : IsTrue b.told → IsCheck words → result ≡ 0 → ChecksSafe words b
  yes told check zero =
      let put = put_as sb sa runs.ending result 0 runs.puts zero (λ e. omega arith) in
      let said = said_with runs.ending 0 put.status (omega arith) in
      let answer = subst (answers words b a) said.is runs.answer in
      let done = status_done said.reply.outcome said.status in
      of_check said.reply done (checked check.0 b a said.reply (does_of words b a said.reply (Check check.0) check.1 answer))
    where
      of_check : (r : Reply) → r.outcome ≡ outcomes.Done → Declining r.outcome ⊎ IsJudged check.0 b r → ChecksSafe words b
      of_check r done (inl d) = absurd (subst Declining done d)
      of_check r done (inr j) = record {
        update = j.update;
        invocation = j.invocation;
        checks = record { told = told; name = check.0; word = check.1; has = j.has };
        are_safe = done_safe j.update j.invocation r j.judged done;
      }

  pub no_path : result ≡ 1 → ChecksUnsafe words b sb sa
  no_path one =
      let put = put_as sb sa runs.ending result 1 runs.puts one (λ e. omega arith) in
      let said = said_with runs.ending 1 put.status (omega arith) in
      let puts : IsTrue sb.told → sa.put ≡ sb.put ++ said.reply.text = λ t. put.puts t ∙ ap (λ (e : Ending). sb.put ++ ending_text e) said.is in
      of_answer said.reply (status_unsafe said.reply.outcome said.status) puts (subst (answers words b a) said.is runs.answer)
    where
      of_file : (task : Task) (r : Reply) → task_of words ≡ Some task → TellsUnsafe task b r → (IsTrue sb.told → sa.put ≡ sb.put ++ r.text) → ChecksUnsafe words b sb sa
      of_file task r word u puts = record {
        update = u.file.update;
        invocation = u.file.invocation;
        name = u.name;
        word = subst (λ (t : Option Task). Judges t u.name) (sym word) u.judges;
        has = u.file.has;
        not_safe = unsafe_refuted u.file.update u.file.invocation r.text u.file.unsafe.shows_path;
        text = r.text;
        shows_path = u.file.unsafe.shows_path;
        puts = puts;
      }

      of_answer : (r : Reply) → r.outcome ≡ outcomes.Unsafe → (IsTrue sb.told → sa.put ≡ sb.put ++ r.text) → answers words b a (Says r) → ChecksUnsafe words b sb sa
      of_answer r outcome puts (Declines _ d) = let never : outcomes.Usage ≡ outcomes.Unsafe = sym d.1.1.outcome_is ∙ outcome in absurd cc
      of_answer r outcome puts (Goes task m _ g rest) =
          let u = unsafe_reply outcomes.Unsafe (λ d. d) (λ e. cc) task m a r rest outcome in
          of_file task r g.1 (subst (λ (o : Outside). TellsUnsafe task o r) g.0 u) puts

  module _ (envelopes : EnvelopeLaws) (manifests : ManifestLaws) (members : MembersLaws) (u i : PlanTree) (checks_it : ChecksProcedures words b u i) where
    judged_reply : (r : Reply) → answers words b a (Says r) → AreJudged u i r
    judged_reply r answer =
        judged_when envelopes manifests members checks_it.name b a checks_it.told r (does_of words b a r (Check checks_it.name) checks_it.word answer) u i checks_it.has

    not_flash : answers words b a (FaultOf objects.Flash) → ⊥
    not_flash answer = checks_no_flash words (checks_it.name, checks_it.word) b a answer

    pub safe_is_yes : AreSafe u i → EndsIn 0 result
    safe_is_yes safe = ends_in 0 (λ r answer. ap status_of (judged_safe u i r (judged_reply r answer) safe)) not_flash

    pub unsafe_is_no : (AreSafe u i → ⊥) → EndsIn 1 result
    unsafe_is_no never = ends_in 1 (λ r answer. ap status_of (judged_unsafe u i r (judged_reply r answer) never)) not_flash

  -- an answer that is put is yes or no where there are such procedures
  pub no_answer : IsCheck words → EnvelopeLaws → ManifestLaws → MembersLaws → result ≢ 0 → result ≢ 1 → ChecksNone words b ⊎ IsExcuse result
  no_answer check envelopes manifests members not_yes not_no = of_puts runs.puts where
    of_judged : (u i : PlanTree) (r : Reply) → result ≡ status_of r.outcome → AreJudged u i r → ⊥
    of_judged u i r is (JudgedSafe safe says) = not_yes (is ∙ ap status_of says.outcome_is)
    of_judged u i r is (JudgedUnsafe outcome unsafe) = not_no (is ∙ ap status_of outcome)

    of_ending : (e : Ending) → answers words b a e → result ≡ ending_status e → ChecksNone words b ⊎ IsExcuse result
    of_ending (Says r) answer is = inl (λ u i checks_it. of_judged u i r is (judged_reply envelopes manifests members u i checks_it r answer))
    of_ending (FaultOf objects.Host) answer is = inr (inl is)
    of_ending (FaultOf objects.Flash) answer is = absurd (checks_no_flash words check b a answer)
    of_ending NoMemory answer is = inr (inr (inr is))

    of_puts : PutsText sb sa (ending_status runs.ending) (ending_text runs.ending) result → ChecksNone words b ⊎ IsExcuse result
    of_puts (IsPut is still puts) = of_ending runs.ending runs.answer is
    of_puts (IsCut is faulted puts) = inr (inr (inl is))

  -- `check` looks at no flash
  pub no_flash : IsCheck words → result ≢ 8
  no_flash check eight = of_puts runs.puts where
    of_ending : (e : Ending) → answers words b a e → ending_status e ≡ 8 → ⊥
    of_ending (Says r) answer is = not_eight r.outcome is
    of_ending (FaultOf objects.Host) answer is = omega (arith, is)
    of_ending (FaultOf objects.Flash) answer is = checks_no_flash words check b a answer
    of_ending NoMemory answer is = omega (arith, is)

    of_puts : PutsText sb sa (ending_status runs.ending) (ending_text runs.ending) result → ⊥
    of_puts (IsPut is still puts) = of_ending runs.ending runs.answer (sym is ∙ eight)
    of_puts (IsCut is faulted puts) = omega (arith, is, eight)

  pub usage : result ≡ 2 → IsUsage words sb sa
  usage two =
      let put = put_as sb sa runs.ending result 2 runs.puts two (λ e. omega arith) in
      let said = said_with runs.ending 2 put.status (omega arith) in
      let answer = subst (answers words b a) said.is runs.answer in
      let found = usage_of words b a said.reply answer (status_usage said.reply.outcome said.status) in
      record {
        no_task = found.0;
        puts = λ t. put.puts t ∙ ap (λ (e : Ending). sb.put ++ ending_text e) said.is ∙ ap (λ (l : List ℕ). sb.put ++ l) found.1;
      }

  pub no_command_is_usage : task_of words ≡ None → EndsIn 2 result
  no_command_is_usage none = ends_in 2 (λ r answer. no_task_usage words b a r none answer) (λ answer. usage_no_flash words none b a answer)

  pub kept : Counts runs.ending b a
  kept = (answers_lets words b a runs.ending runs.answer).counts

  -- of each object, by the status of an ending that was put
  pub host_counts : (e : Ending) → Counts e b a → (ending_status e ≡ 7 → Faulted b.faults a.faults) × (ending_status e ≢ 7 → a.faults ≡ b.faults)
  host_counts (Says r) c = (λ is. absurd (not_seven r.outcome is), λ never. c.host)
  host_counts (FaultOf objects.Host) c = (λ is. c.host refl, λ never. absurd (never refl))
  host_counts (FaultOf objects.Flash) c = (λ is. absurd (omega (arith, is)), λ never. c.only_host (λ e. cc))
  host_counts NoMemory c = (λ is. absurd (omega (arith, is)), λ never. c.host)

  pub flash_counts : (e : Ending) → Counts e b a → (ending_status e ≡ 8 → Faulted b.flash.faults a.flash.faults) × (ending_status e ≢ 8 → a.flash.faults ≡ b.flash.faults)
  flash_counts (Says r) c = (λ is. absurd (not_eight r.outcome is), λ never. c.flash)
  flash_counts (FaultOf objects.Host) c = (λ is. absurd (omega (arith, is)), λ never. c.only_flash (λ e. cc))
  flash_counts (FaultOf objects.Flash) c = (λ is. c.flash refl, λ never. absurd (never refl))
  flash_counts NoMemory c = (λ is. absurd (omega (arith, is)), λ never. c.flash)

-- no answer in stages is a fault of the launcher
pub not_ten : (e : Ending) → ending_status e ≡ 10 → ⊥
not_ten (Says r) is = not_ten_of r.outcome is
not_ten (FaultOf objects.Host) is = omega (arith, is)
not_ten (FaultOf objects.Flash) is = omega (arith, is)
not_ten NoMemory is = omega (arith, is)
