use Rattle.std.proofs.Common.{◌≡◌, ◌≤◌, ◌+◌, ℕ, List, length, refl, sym, ap, subst, ◌∙◌, arith}
use Rattle.std.specs.List.{slice_range}
use Rattle.std.specs.Vec.{with_items}
use Rattle.std.proofs.lemmas.List.{with_items_is}
use Rattle.flash_layout.specs.FrameFacts.{bank_there, facts}
use Rattle.flash_layout.specs.Frames.{bank_place, bank_size}
use Rattle.rollback_record.proofs.moved.read_installed.Given as given
use Rattle.rollback_record.proofs.moved.read_installed.Goals as goal
use Rattle.rollback_record.proofs.moved.read_installed.Goals.{After-read_at}

module _ (g : given.Over) (c : After-read_at g) where
  -- as many bytes as the record tells
  long : length c.as_mut_slice.result.now ≡ c.args.held.length
  long = c.as_mut_slice.ensures.len ∙ c.in-Ok.ensures.len

  -- are what the envelope then has
  whole : (with_items c.in-Ok.envelope c.read_at.new.room).items ≡ c.read_at.new.room
  whole = with_items_is c.in-Ok.envelope c.read_at.new.room (c.read_at.auto.room ∙ c.as_mut_slice.ensures.len)

pub returns-in-Done-clause-room : goal.returns-in-Done-clause-room
returns-in-Done-clause-room g c =
    let at = (goal.at.returns-in-Done-clause-room g c).After-read_at in
    subst (λ (l : List ℕ). length l ≤ bank_size c.args.frame) (sym (whole g at)) (omega (arith, c.read_at.auto.room, long g at, c.requires.size))

pub returns-in-Done-clause-read : goal.returns-in-Done-clause-read
returns-in-Done-clause-read g c t =
    let size = g.D.Disk.extent c.args.disk.now in
    let a = (g.D.Disk.flash c.args.disk.now).reads in
    let r = c.args.held in
    let at = (goal.at.returns-in-Done-clause-read g c).After-read_at in
    record {
      is = refl;
      envelope = whole g at ∙ c.in-Done.ensures.bytes t ∙ ap (λ (p : ℕ). slice_range a p (p + length c.as_mut_slice.result.now)) c.bank.ensures
          ∙ ap (λ (n : ℕ). slice_range a (bank_place c.args.frame r.bank) (bank_place c.args.frame r.bank + n)) (long g at)
          ∙ sym (bank_there size c.args.frame (facts size c.args.frame c.requires.frame) a r.bank r.length c.requires.bank c.requires.size);
    }
