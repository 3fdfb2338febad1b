-- The laws of drills.
use Rattle.std.specs.Prelude.{◌≡◌, ◌⊎◌, ℕ, List, Option}
use Rattle.conformance.specs.Rounds.{RoundSaid}
use Rattle.suit_params.specs.declared.digest.Digest.{Digest}
use Rattle.flash_layout.specs.declared.slot.Record.{Record}
use Rattle.flash_layout.specs.Configs.{ConfigOf, Configured}
use Rattle.rollback_record.specs.SoundFlash.{HoldsSame}
use Rattle.update_proc.specs.Choices.{AreChosen, active_slots}
use Rattle.update_proc.specs.Moments.{IsNew, IsOld, KeepsContents}
use Rattle.suit_cli.specs.declared.drill.tally.RoundEnd.{RoundEnd}
use Rattle.suit_cli.specs.declared.drill.tally.Tally.{Tally}
use Rattle.suit_cli.specs.declared.reply.Reply.{Reply}
use Rattle.suit_cli.specs.declared.reply.Outcome.TheVariants as outcomes
use Rattle.suit_cli.specs.Acceptance.{IsAccepted}
use Rattle.suit_cli.specs.Drilling.{IsDrilled, drill_line, rounds_counted}
use Rattle.suit_cli.specs.DrillRounds.{EndsCut, UpdateComes, envelope_name, surroundings_of}
use Rattle.suit_cli.specs.Inputs.{IsRead, longest_file}
use Rattle.suit_cli.specs.Outside.{Files}
use Rattle.suit_cli.specs.Replies.{IsReply}
use Rattle.suit_cli.specs.Surroundings.{Surroundings}
use Rattle.suit_cli.specs.Updating.{HasOffer, IsDone, Offer, new_of, tree_of, placed_of}
use Rattle.suit_cli.specs.Words.{pairs_of}

-- ---- the image that a cut leaves

-- The image has the old record, and no content changed but those of slots that may be written; or it has the new record,
-- and the contents that the procedure made, which was done.
pub record HasOldOrNew (o : Offer) (uris : List (List ℕ × List ℕ)) (before after : Surroundings)
    (held : Option Record) (digest : Digest) (left : List ℕ)
    : Type 0 where
  pub numbers : List ℕ
  pub chosen :
      AreChosen o.layout o.accepted.places (tree_of o.accepted) (active_slots held) numbers
  pub made : List ℕ
  pub others :
      KeepsContents o.layout o.accepted.places (tree_of o.accepted) numbers before.flash.reads made
  pub stands :
      IsOld (placed_of o) numbers held before.flash.reads left
      ⊎
      (IsNew o.frame o.layout (new_of o.frame o.accepted held before.flash.reads digest numbers)
      made left
      × IsDone o uris before after held made)

-- the update of an accepted envelope left this image
pub record IsLeftByUpdate (uris : List (List ℕ × List ℕ)) (before after : Surroundings)
    (left : List ℕ) : Type 0 where
  pub o : Offer
  pub config :
      ConfigOf before.outside.flash.size before.flash.reads
      (Configured o.layout o.key o.frame)
  pub read : IsRead longest_file envelope_name before.outside o.bytes
  pub is_accepted : IsAccepted o.frame o.layout o.key o.bytes o.accepted
  pub offered : HasOffer o.frame before.flash.reads o.accepted.said.wrapper
  pub is_left : HasOldOrNew o uris before after offered.0 offered.1 left

-- the image that is left holds the same as before, or an update that had begun left it
abbrev pub IsLeftByCut : (said : RoundSaid) (files : Files) (image : List ℕ)
    → UpdateComes said files image → List ℕ → Type 0
IsLeftByCut said files image u left =
    HoldsSame image left
    ⊎ IsLeftByUpdate (pairs_of u.uris) (surroundings_of u.had) (surroundings_of u.has) left

-- ---- the line

-- its counts of rounds add up, and no launch is wrong
pub record TellsDrill (number : ℕ) (reply : Reply) : Type 0 where
  pub tally : Tally
  pub launches : ℕ
  pub adds_up : rounds_counted tally ≡ 200
  pub says : IsReply reply outcomes.Done (drill_line number tally launches 0)

pub record DrillLaws : Type 0 where
  pub tells : (number : ℕ) (reply : Reply) → IsDrilled number reply → TellsDrill number reply
  pub cut : (said : RoundSaid) (files : Files) (image left : List ℕ) (end : RoundEnd)
      (u : UpdateComes said files image)
      → EndsCut said files image u left end → IsLeftByCut said files image u left
