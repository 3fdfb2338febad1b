-- `drill NUMBER`: 200 rounds, each an update whose envelope is drawn and a boot, on a flash in memory.
use Rattle.std.specs.Prelude.{◌≡◌, ℕ, ◌+◌, Bool, true, not, List, [], ◌∷◌, ◌++◌, length, count_by, Option, codes}
use Rattle.std.specs.Fmt.{decimal}
use Rattle.std.specs.List.{flat_map}
use Rattle.std.specs.Option.{option_and_then, option_map_or}
use Rattle.suit_params.specs.declared.digest.Digest.{Digest}
use Rattle.suit_params.specs.DigestBytes.{as_digest}
use Rattle.suit_params.specs.Hashes.{has_digest}
use Rattle.conformance.specs.Rounds.{round_of}
use Rattle.suit_edge.specs.declared.launch.Launch.{Launch}
use Rattle.suit_cli.specs.declared.drill.tally.RoundEnd.{RoundEnd}
use Rattle.suit_cli.specs.declared.drill.tally.RoundEnd.TheVariants.{Installed, Stopped, Cut}
use Rattle.suit_cli.specs.declared.drill.tally.Tally.{Tally}
use Rattle.suit_cli.specs.declared.reply.Reply.{Reply}
use Rattle.suit_cli.specs.declared.reply.Outcome.TheVariants as outcomes
use Rattle.suit_cli.specs.DrillDevice.{IsFirst}
use Rattle.suit_cli.specs.DrillRounds.{IsRound, RoundRun}
use Rattle.suit_cli.specs.Lines.{joined}
use Rattle.suit_cli.specs.Replies.{IsReply}

-- ---- what is counted

abbrev pub no_rounds : Tally
no_rounds = record { installed = 0; stopped = 0; cut = 0 }

abbrev pub counted_round : Tally → RoundEnd → Tally
counted_round t Installed = record t { installed = t.installed + 1 }
counted_round t Stopped = record t { stopped = t.stopped + 1 }
counted_round t Cut = record t { cut = t.cut + 1 }

abbrev pub rounds_counted : Tally → ℕ
rounds_counted t = t.installed + t.stopped + t.cut

-- a launch is wrong if it has no digest, or one that its bytes do not have
abbrev pub wrong_by : Option Digest → List ℕ → Bool
wrong_by digest bytes = option_map_or (λ (d : Digest). not (has_digest d bytes)) digest true

abbrev pub is_wrong : Launch → Bool
is_wrong launch = wrong_by (option_and_then as_digest launch.digest) launch.bytes

abbrev pub wrong_in : List Launch → ℕ
wrong_in launches = count_by is_wrong launches

abbrev pub rounds_text : Tally → List ℕ
rounds_text tally =
    joined
    (codes "rounds 200, installed " ∷ decimal tally.installed
    ∷ codes ", stopped " ∷ decimal tally.stopped ∷ codes ", cut " ∷ decimal tally.cut ∷ [])

abbrev pub tally_line : ℕ → List ℕ → ℕ → ℕ → List ℕ
tally_line number rounds launches wrong =
    joined
    (codes "drill " ∷ decimal number ∷ codes ": " ∷ rounds
    ∷ codes ", launches " ∷ decimal launches ∷ codes ", wrong " ∷ decimal wrong ∷ codes "\n" ∷ [])

abbrev pub drill_line : ℕ → Tally → ℕ → ℕ → List ℕ
drill_line number tally launches wrong = tally_line number (rounds_text tally) launches wrong

-- ---- the rounds

-- the counts after these rounds, from these counts on
abbrev pub tally_of : Tally → List RoundRun → Tally
tally_of t [] = t
tally_of t (r ∷ rs) = tally_of (counted_round t r.end) rs

abbrev pub launches_of : List RoundRun → List Launch
launches_of rounds = flat_map (λ (r : RoundRun). r.launches) rounds

-- These rounds lead from a formatted image to the last one. Each goes on from the image that the round before it leaves, with
-- the next draws and the next sequence number.
pub data RunTo (number : ℕ) (first : List ℕ) : List RoundRun → ℕ → ℕ → List ℕ → Type 0 where
  NoRound : RunTo number first [] number 1 first
  RoundAfter : (rs : List RoundRun) (state sequence : ℕ) (image : List ℕ) (r : RoundRun)
      → RunTo number first rs state sequence image → r.before ≡ image
      → IsRound (round_of state sequence).0 r
      → RunTo number first (rs ++ r ∷ []) (round_of state sequence).1 (sequence + 1) r.after

-- 200 rounds, from the image that `run init` leaves
pub record AreDrilled (number : ℕ) (rounds : List RoundRun) : Type 0 where
  pub first : List ℕ
  pub formatted : IsFirst first
  pub many : length rounds ≡ 200
  pub state : ℕ
  pub last : List ℕ
  pub run : RunTo number first rounds state 201 last

-- the reply is the line that counts the rounds and their launches
pub record IsDrilled (number : ℕ) (reply : Reply) : Type 0 where
  pub rounds : List RoundRun
  pub drilled : AreDrilled number rounds
  pub says :
      IsReply reply outcomes.Done
      (drill_line number (tally_of no_rounds rounds) (length (launches_of rounds))
      (wrong_in (launches_of rounds)))

-- ---- inside

-- these are the counts and the launches of 200 rounds
abbrev pub DrillsTo : ℕ → Tally → List Launch → Type 0
DrillsTo number tally launches =
    (rounds : List RoundRun) × AreDrilled number rounds × (tally ≡ tally_of no_rounds rounds)
    × (launches ≡ launches_of rounds)
