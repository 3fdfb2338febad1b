-- The rounds of a drill, one after another.
use Rattle.std.proofs.Common.{◌≡◌, ℕ, ◌+◌, List, ◌++◌, [], ◌∷◌, length, refl, sym, ap, subst, ◌<◌, ◌∙◌, arith, length-append}
use Rattle.suit_edge.specs.MemoryDisk.{DiskState, memory_flash}
use Rattle.suit_edge.specs.declared.launch.Launch.{Launch}
use Rattle.suit_cli.specs.declared.drill.tally.RoundEnd.{RoundEnd}
use Rattle.suit_cli.specs.declared.drill.tally.Tally.{Tally}
use Rattle.suit_cli.specs.declared.reply.Reply.{Reply}
use Rattle.suit_cli.specs.declared.reply.Outcome.TheVariants as outcomes
use Rattle.suit_cli.specs.DrillDevice.{IsFirst}
use Rattle.suit_cli.specs.DrillRounds.{IsAtRest, RoundRun, RunsRound}
use Rattle.suit_cli.specs.Drilling.{DrillsTo, IsDrilled, NoRound, RoundAfter, RunTo, counted_round, drill_line, launches_of, no_rounds, rounds_counted, tally_of, wrong_in}
use Rattle.suit_cli.proofs.DrillLawProofs.{adds_up, launches_then, tally_then}

-- the rounds before one
pub record Drilled (number state sequence : ℕ) (disk : DiskState) (tally : Tally) (launches : List Launch) : Type 0 where
  pub rounds : List RoundRun
  pub first : List ℕ
  pub formatted : IsFirst first
  pub run : RunTo number first rounds state sequence (memory_flash disk).reads
  pub many : length rounds + 1 ≡ sequence
  pub tally_is : tally ≡ tally_of no_rounds rounds
  pub launches_are : launches ≡ launches_of rounds
  pub ready : IsAtRest disk

pub drilled_none : (number : ℕ) (disk : DiskState) → IsFirst (memory_flash disk).reads → IsAtRest disk → (state : ℕ) → state ≡ number → (tally : Tally) → tally ≡ no_rounds
    → (launches : List Launch) → launches ≡ [] → Drilled number state 1 disk tally launches
drilled_none number disk formatted ready state state_is tally tally_is launches launches_are = record {
  rounds = [];
  first = (memory_flash disk).reads;
  formatted = formatted;
  run = subst (λ (n : ℕ). RunTo number (memory_flash disk).reads [] n 1 (memory_flash disk).reads) (sym state_is) NoRound;
  many = refl;
  tally_is = tally_is;
  launches_are = launches_are;
  ready = ready;
}

-- one round more
pub drilled_then : (number state sequence : ℕ) (disk : DiskState) (tally : Tally) (launches : List Launch) → Drilled number state sequence disk tally launches
    → (later : ℕ) (left : DiskState) (now : List Launch) (end : RoundEnd) → RunsRound sequence (record { draws = state; image = (memory_flash disk).reads; launches = launches }) (record { draws = later; image = (memory_flash left).reads; launches = now }) end
    → IsAtRest left
    → (more : Tally) → more ≡ counted_round tally end → Drilled number later (sequence + 1) left more now
drilled_then number state sequence disk tally launches d later left now end r ready more more_is = record {
  rounds = d.rounds ++ r.run ∷ [];
  first = d.first;
  formatted = d.formatted;
  run = subst (λ (n : ℕ). RunTo number d.first (d.rounds ++ r.run ∷ []) n (sequence + 1) (memory_flash left).reads) (sym r.draws_are)
      (subst (RunTo number d.first (d.rounds ++ r.run ∷ []) _ (sequence + 1)) r.after_is (RoundAfter d.rounds state sequence _ r.run d.run r.before_is r.is));
  many = let longer = length-append d.rounds (r.run ∷ []) in let before = d.many in omega (arith, longer, before);
  tally_is = more_is ∙ ap (λ (t : Tally). counted_round t end) d.tally_is ∙ ap (counted_round (tally_of no_rounds d.rounds)) (sym r.end_is) ∙ sym (tally_then d.rounds no_rounds r.run);
  launches_are = r.gained ∙ ap (λ (l : List Launch). l ++ r.run.launches) d.launches_are ∙ sym (launches_then d.rounds r.run);
  ready = ready;
}

pub drills_to : (number state sequence : ℕ) (disk : DiskState) (tally : Tally) (launches : List Launch) → Drilled number state sequence disk tally launches → sequence ≡ 201 → DrillsTo number tally launches
drills_to number state sequence disk tally launches d all = (
  d.rounds,
  record {
    first = d.first;
    formatted = d.formatted;
    many = let many = d.many in omega (arith, many, all);
    state = state;
    last = (memory_flash disk).reads;
    run = subst (λ (n : ℕ). RunTo number d.first d.rounds state n (memory_flash disk).reads) all d.run;
  },
  d.tally_is,
  d.launches_are,
)

-- another one can be counted
pub counts_more : (number state sequence : ℕ) (disk : DiskState) (tally : Tally) (launches : List Launch) → Drilled number state sequence disk tally launches → sequence < 201 → rounds_counted tally < 200
counts_more number state sequence disk tally launches d few =
    let same = ap rounds_counted d.tally_is in
    let sum = adds_up d.rounds no_rounds in
    let many = d.many in
    omega (arith, same, sum, many, few)

-- the line tells them
pub tells_drill : (number : ℕ) (tally : Tally) (launches : List Launch) → DrillsTo number tally launches → (many wrong : ℕ) → many ≡ length launches → wrong ≡ wrong_in launches
    → (reply : Reply) → reply.outcome ≡ outcomes.Done → reply.text ≡ drill_line number tally many wrong → IsDrilled number reply
tells_drill number tally launches d many wrong many_is wrong_is reply outcome_is text_is = record {
  rounds = d.0;
  drilled = d.1;
  says = record {
    outcome_is = outcome_is;
    text_is = text_is ∙ ap (λ (t : Tally). drill_line number t many wrong) d.2
        ∙ ap (λ (n : ℕ). drill_line number (tally_of no_rounds d.0) n wrong) (many_is ∙ ap (λ (l : List Launch). length l) d.3)
        ∙ ap (drill_line number (tally_of no_rounds d.0) (length (launches_of d.0))) (wrong_is ∙ ap wrong_in d.3);
  };
}
