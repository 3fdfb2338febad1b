-- The contents and the launches of a play that completed.
use Rattle.std.proofs.Common.{◌≡◌, ◌<◌, ℕ, List, length, get_or, refl, sym, ◌∙◌, ap, subst, arith}
use Rattle.std.proofs.lemmas.List.{get_or_default}
use Rattle.suit_edge.specs.declared.launch.Launch.{Launch}
use Rattle.suit_commands.specs.Tree.{PlanTree}
use Rattle.path_model.specs.Behaviour.{Condition, Directive, Done}
use Rattle.path_model.specs.declared.cause.Cause.{Cause}
use Rattle.path_model.specs.DevicePlays.{Device, played}
use Rattle.path_model.specs.Plays.{Outcome}
use Rattle.path_model.specs.Settings.{Setting}
use Rattle.flash_layout.specs.declared.layout.Entry.{Entry}
use Rattle.flash_layout.specs.declared.layout.Memory.{Memory}
use Rattle.flash_layout.specs.declared.layout.Memory.TheVariants as memory
use Rattle.flash_layout.specs.declared.place.Places.{Places}
use Rattle.flash_slots.specs.RamContents.{Held}
use Rattle.step_machine.specs.declared.plan_end.PlanEnd.TheVariants as plays
use Rattle.step_machine.specs.declared.spot.Standing.{Standing}
use Rattle.step_machine.specs.declared.world.SlotChoice.{SlotChoice}
use Rattle.step_machine.specs.Devices.{contents_of}
use Rattle.step_machine.specs.Directives.{Stops}
use Rattle.step_machine.specs.PlanRuns.{PlaysPlan}
use Rattle.step_machine.specs.Spots.{content_of}
use Rattle.step_machine.specs.Worlds.{IsChoice, StandAs, spot_of}
use Rattle.step_machine.proofs.Lifting.{map_same}
use Rattle.update_proc.specs.Moments.{HasContentsOf}
use Rattle.suit_cli.specs.Coming.{Answered}
use Rattle.suit_cli.specs.Launching.{Launching}
use Rattle.suit_cli.specs.Outside.{Outside}
use Rattle.suit_cli.specs.Program.{answers}
use Rattle.suit_cli.specs.Stages.{NoMemory}
use Rattle.suit_cli.proofs.Starving.{starved_near}
use Rattle.completeness.specs.Outcomes.{AreTold, LeavesFlash}
use Rattle.completeness.specs.Plays.{Completes, LeavesPlay}
use Rattle.completeness.proofs.SamePlaces.{no_entry}

-- ---- contents that are the same on the flash

module _ (layout : List Entry) (made after : List ℕ) (ram : List Held) (left : HasContentsOf layout made after) (i n : ℕ) (inside : i < length layout)
    (fits : (e : Entry) → n < (get_or layout i e).slots) where
  abbrev At : Entry
  At = get_or layout i no_entry

  same_spot : (m : Memory) → At.memory ≡ m → content_of (spot_of m At i n) ram after ≡ content_of (spot_of m At i n) ram made
  same_spot memory.Ram is = refl
  same_spot memory.Flash is = left i n _ (record {
    inside = inside;
    flash = λ e. ap (λ (x : Entry). x.memory) (get_or_default layout i e no_entry inside) ∙ is;
    number = fits;
    is = λ e. ap (λ (x : Entry). Rattle.flash_layout.specs.Slots.slot_at x (get_or x.starts n 0)) (get_or_default layout i no_entry e inside);
  })

pub same_contents : (layout : List Entry) (places : Places) (slots : SlotChoice) (standings : List Standing) (made after : List ℕ) (ram : List Held)
    → ((k : ℕ) → k < places.count → get_or places.layout_index k 0 < length layout) → IsChoice layout slots → StandAs layout places slots standings
    → HasContentsOf layout made after → contents_of standings ram after ≡ contents_of standings ram made
same_contents layout places slots standings made after ram inside choice stand left =
    map_same (λ (s : Standing). content_of s.spot ram made) (λ (s : Standing). content_of s.spot ram after) standings (λ k d lt.
    let below : k < places.count = omega (arith, lt, stand.count) in
    let i = get_or places.layout_index k 0 in
    let n = get_or slots.number i 0 in
    subst (λ (s : Standing). content_of s.spot ram after ≡ content_of s.spot ram made) (sym (stand.each k d no_entry below))
    (same_spot layout made after ram left i n (inside k below) (λ e. choice.one i e (inside k below)) (get_or layout i no_entry).memory refl))

-- ---- a play that completed, and others

pub never_stops : (outcome : Outcome Device) (place : ℕ) (cause : Cause) (after : Device) → Completes outcome → Stops place cause after outcome → ⊥
never_stops outcome place cause after done s = let never : Done done.state ≡ Directive place = sym done.ending ∙ s.ending in cc

module _ (plan : PlanTree) (setting : Setting) (before after : List (List ℕ)) (launched now : List Launch) where
  pub completes : PlaysPlan plan setting plays.Done before after launched now → Completes (played plan setting before)
  completes p = record { state = p.ends.0; ending = p.ends.1 }

  pub leaves : (standings : List Standing) (ram : List Held) (image : List ℕ) → contents_of standings ram image ≡ after
      → PlaysPlan plan setting plays.Done before after launched now → LeavesPlay standings (played plan setting before) launched now image
  leaves standings ram image same p = record {
    gained = p.gained;
    added = p.added;
    launches = sym (ap (λ (d : Device). d.launches) p.ends.2);
    ram = ram;
    contents = same ∙ sym (ap (λ (d : Device). d.contents) p.ends.2);
  }

  pub never_condition : (place : ℕ) → Completes (played plan setting before) → PlaysPlan plan setting (plays.ConditionFailed place) before after launched now → ⊥
  never_condition place done p = let never : Done done.state ≡ Condition place p.ends.0 = sym done.ending ∙ p.ends.1 in cc

-- ---- an answer in stages that lacks memory

pub starved_leaves : (words : List (List ℕ)) (l n : Launching) (b a : Outside) → AreTold l b → answers words b a NoMemory → n ≡ l
    → LeavesFlash l n b a (Answered NoMemory)
starved_leaves words l n b a told answer same =
    let near = starved_near words b a NoMemory refl answer in
    record {
      lacks = record {
        status = refl;
        line = refl;
        launches = ap (λ (x : Launching). x.launches) same;
        files = near.files told.host;
      };
      reads = near.flash.reads told.flash;
    }
