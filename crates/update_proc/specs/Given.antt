-- What is to be installed, and what was accepted of it, as contracts say it.
use Rattle.std.specs.Prelude.{ℕ, List, Option, option_map}
use Rattle.suit_commands.specs.Plans.{plan_tree}
use Rattle.suit_commands.specs.Tree.{PlanTree}
use Rattle.suit_envelope.specs.Trimmed.{trimmed}
use Rattle.suit_manifest.specs.Procedures.{update_tree}
use Rattle.suit_params.specs.declared.digest.Digest.{Digest}
use Rattle.flash_layout.specs.declared.frame.Frame.{Frame}
use Rattle.flash_layout.specs.declared.layout.Entry.{Entry}
use Rattle.flash_layout.specs.declared.place.Places.{Places}
use Rattle.flash_layout.specs.declared.slot.Record.{Record}
use Rattle.update_proc.specs.declared.judged.Update.{Update}
use Rattle.update_proc.specs.declared.starting.Accepted.{Accepted}
use Rattle.update_proc.specs.Moments.{Placed, placed_on}
use Rattle.update_proc.specs.Offered.{ForOffer}
use Rattle.update_proc.specs.Records.{new_record}

-- the update procedure
abbrev pub tree_of : Update → PlanTree
tree_of u = update_tree u.manifest.now u.members.now

-- the bytes that a bank will have
abbrev pub installed_by : Update → List ℕ
installed_by u = trimmed u.envelope.now.wrapper.now u.envelope.now.manifest.now

-- its procedure, on a flash with this frame and layout
abbrev pub placed_by : Frame → List Entry → Update → Placed
placed_by frame layout u = placed_on frame layout u.places.now (tree_of u)

-- the new record beside this image of the flash
abbrev pub new_by : Frame → Option Record → List ℕ → Update → Digest → List ℕ → Record
new_by frame held image u digest numbers =
    new_record frame held image (installed_by u) u.manifest.now.sequence digest numbers

-- P holds of the record of this image, and of the digest that the envelope states
abbrev pub ForUpdate : Frame → List ℕ → Update → (Option Record → Digest → Type 0) → Type 0
ForUpdate frame image u P = ForOffer frame image u.envelope.now.wrapper.now P

-- ---- what was accepted

-- the record before
abbrev pub held_by : Accepted → Option Record
held_by a = option_map (λ r. r.now) a.held

-- the procedure, on a flash with this layout
abbrev pub placed_as : List Entry → Places → Accepted → Placed
placed_as layout places a = placed_on a.frame layout places (plan_tree a.plan.now)

-- the new record beside this image of the flash
abbrev pub record_by : Accepted → List ℕ → List ℕ → Record
record_by a image numbers =
    new_record a.frame (held_by a) image a.bytes.now a.sequence a.digest numbers
