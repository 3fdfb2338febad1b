use Rattle.std.proofs.Common.{inl, Bor, Option, length, option_map}
use Rattle.suit_edge.specs.FlashLaws.{settled_firm}
use Rattle.flash_layout.specs.declared.slot.Record.{Record}
use Rattle.flash_layout.specs.FrameFacts.{facts}
use Rattle.flash_layout.specs.ToldFrames.{told_by}
use Rattle.rollback_record.specs.Committing.{InHead}
use Rattle.update_proc.proofs.Installs.{bank_and_commit, beside_bank, beside_commit, each_follows, each_sound, filling, frame_read, held_or_same, in_range, next_is, same_record, still_held, still_spare, told_same}
use Rattle.update_proc.proofs.installing.install.Goals as goal

abbrev held_of : Option (Bor Record) → Option Record
held_of held = option_map (λ r. r.now) held

-- ---- the bank is written

pub returns-in_err-bank-clause-any_moment : goal.returns-in_err-bank-clause-any_moment
returns-in_err-bank-clause-any_moment g c t =
    filling _ _ _ _ _ _ (c.write_bank.ensures.keeps t)

pub returns-in_err-bank-clause-sound : goal.returns-in_err-bank-clause-sound
returns-in_err-bank-clause-sound g c t firm sound may =
    let is = frame_read _ _ _ (g.met.D.Disk.obeys c.args.disk.now t) c.requires.frame in
    each_sound c.sound_laws.ensures c.args.frame (held_of c.args.held) c.args.bytes.now c.args.offer.now.sequence c.args.offer.now.digest c.args.offer.now.active (g.D.Disk.flash c.args.disk.now) is (c.requires.told t) c.requires.loadable c.requires.fits (c.requires.held t) sound firm (g.D.Disk.flash c.write_bank.new.disk) (c.requires.active t) (returns-in_err-bank-clause-any_moment g c t) may

pub returns-in_err-bank-clause-follows : goal.returns-in_err-bank-clause-follows
returns-in_err-bank-clause-follows g c t firm sound sure =
    let is = frame_read _ _ _ (g.met.D.Disk.obeys c.args.disk.now t) c.requires.frame in
    each_follows c.sound_laws.ensures c.args.frame (held_of c.args.held) c.args.bytes.now c.args.offer.now.sequence c.args.offer.now.digest c.args.offer.now.active (g.D.Disk.flash c.args.disk.now) is (c.requires.told t) c.requires.loadable c.requires.fits (c.requires.held t) sound firm (g.D.Disk.flash c.write_bank.new.disk) (returns-in_err-bank-clause-any_moment g c t) sure

pub returns-in_err-bank-clause-behind : goal.returns-in_err-bank-clause-behind
returns-in_err-bank-clause-behind g c t =
    beside_bank _ _ (facts _ _ c.requires.frame) (held_of c.args.held) c.args.bytes.now c.requires.fits _ _ (c.write_bank.ensures.keeps t).reads

pub returns-in_err-bank-clause-reads : goal.returns-in_err-bank-clause-reads
returns-in_err-bank-clause-reads g c t =
    let is = frame_read _ _ _ (g.met.D.Disk.obeys c.args.disk.now t) c.requires.frame in
    inl (still_held c.args.frame (held_of c.args.held) c.args.bytes.now (g.D.Disk.flash c.args.disk.now).reads (g.D.Disk.flash c.write_bank.new.disk).reads is (c.requires.told t) c.requires.loadable c.requires.fits (c.write_bank.ensures.keeps t).reads (c.requires.held t))

-- ---- what the commit needs

pub commit-requires-clause-held : goal.commit-requires-clause-held
commit-requires-clause-held g c t =
    let is = frame_read _ _ _ (g.met.D.Disk.obeys c.args.disk.now t) c.requires.frame in
    still_held c.args.frame (held_of c.args.held) c.args.bytes.now (g.D.Disk.flash c.args.disk.now).reads (g.D.Disk.flash c.write_bank.new.disk).reads is (c.requires.told t) c.requires.loadable c.requires.fits (c.write_bank.ensures.keeps t).reads (c.requires.held t)

pub commit-requires-clause-spare : goal.commit-requires-clause-spare
commit-requires-clause-spare g c t =
    let is = frame_read _ _ _ (g.met.D.Disk.obeys c.args.disk.now t) c.requires.frame in
    still_spare c.args.frame (held_of c.args.held) c.args.bytes.now (g.D.Disk.flash c.args.disk.now).reads (g.D.Disk.flash c.write_bank.new.disk).reads is (c.requires.told t) c.requires.loadable c.requires.fits (c.write_bank.ensures.keeps t).reads (c.requires.held t) c.args.spare c.requires.two (c.requires.spare t)

pub commit-requires-clause-told : goal.commit-requires-clause-told
commit-requires-clause-told g c t =
    let is = frame_read _ _ _ (g.met.D.Disk.obeys c.args.disk.now t) c.requires.frame in
    told_by _ (g.D.Disk.flash c.write_bank.new.disk).reads c.args.frame (told_same c.args.frame (held_of c.args.held) c.args.bytes.now (g.D.Disk.flash c.args.disk.now).reads (g.D.Disk.flash c.write_bank.new.disk).reads is (c.requires.told t) c.requires.loadable c.requires.fits (c.write_bank.ensures.keeps t).reads)

pub commit-requires-clause-next : goal.commit-requires-clause-next
commit-requires-clause-next g c =
    let new : Record = record { generation = c.generation_after.result; sequence = c.args.offer.now.sequence; bank = c.in_ok-bank.bank; length = length c.args.bytes.now; digest = c.args.offer.now.digest; active = c.args.offer.now.active } in
    next_is (held_of c.args.held) new c.generation_after.ensures

pub commit-requires-clause-fields : goal.commit-requires-clause-fields
commit-requires-clause-fields g c t =
    let is = frame_read _ _ _ (g.met.D.Disk.obeys c.args.disk.now t) c.requires.frame in
    let new : Record = record { generation = c.generation_after.result; sequence = c.args.offer.now.sequence; bank = c.in_ok-bank.bank; length = length c.args.bytes.now; digest = c.args.offer.now.digest; active = c.args.offer.now.active } in
    in_range c.args.frame (held_of c.args.held) c.args.bytes.now (g.D.Disk.flash c.args.disk.now).reads (g.D.Disk.flash c.write_bank.new.disk).reads is (c.write_bank.ensures.keeps t).reads new c.in_ok-bank.ensures.which c.requires.fits (c.requires.active t)

pub commit-requires-clause-firm : goal.commit-requires-clause-firm
commit-requires-clause-firm g c t =
    settled_firm (InHead c.args.frame) (g.D.Disk.flash c.write_bank.new.disk) (c.in_ok-bank.ensures.settled t)

-- ---- what it leaves

pub returns-clause-answer : goal.returns-clause-answer
returns-clause-answer g c t =
    same_record c.args.frame (held_of c.args.held) (g.D.Disk.flash c.args.disk.now).reads c.args.bytes.now c.args.offer.now.sequence c.args.offer.now.digest c.args.offer.now.active _ _ c.generation_after.ensures (c.in_ok-bank.ensures.chosen t)

pub returns-clause-recorded : goal.returns-clause-recorded
returns-clause-recorded g c t =
    c.in_ok-commit.ensures.ok t

pub returns-clause-settled : goal.returns-clause-settled
returns-clause-settled g c t =
    c.in_ok-commit.ensures.settled t

pub returns-clause-any_moment : goal.returns-clause-any_moment
returns-clause-any_moment g c t =
    bank_and_commit _ _ _ _ _ _ _ _ (same_record c.args.frame (held_of c.args.held) (g.D.Disk.flash c.args.disk.now).reads c.args.bytes.now c.args.offer.now.sequence c.args.offer.now.digest c.args.offer.now.active _ _ c.generation_after.ensures (c.in_ok-bank.ensures.chosen t)) (c.write_bank.ensures.keeps t) (c.in_ok-bank.ensures.holds t) (c.in_ok-bank.ensures.settled t) (c.commit.ensures.any_moment t) (c.commit.ensures.keeps t)

pub returns-clause-sound : goal.returns-clause-sound
returns-clause-sound g c t firm sound may =
    let is = frame_read _ _ _ (g.met.D.Disk.obeys c.args.disk.now t) c.requires.frame in
    each_sound c.sound_laws.ensures c.args.frame (held_of c.args.held) c.args.bytes.now c.args.offer.now.sequence c.args.offer.now.digest c.args.offer.now.active (g.D.Disk.flash c.args.disk.now) is (c.requires.told t) c.requires.loadable c.requires.fits (c.requires.held t) sound firm (g.D.Disk.flash c.commit.new.disk) (c.requires.active t) (returns-clause-any_moment g c t) may

pub returns-clause-follows : goal.returns-clause-follows
returns-clause-follows g c t firm sound sure =
    let is = frame_read _ _ _ (g.met.D.Disk.obeys c.args.disk.now t) c.requires.frame in
    each_follows c.sound_laws.ensures c.args.frame (held_of c.args.held) c.args.bytes.now c.args.offer.now.sequence c.args.offer.now.digest c.args.offer.now.active (g.D.Disk.flash c.args.disk.now) is (c.requires.told t) c.requires.loadable c.requires.fits (c.requires.held t) sound firm (g.D.Disk.flash c.commit.new.disk) (returns-clause-any_moment g c t) sure

pub returns-clause-behind : goal.returns-clause-behind
returns-clause-behind g c t =
    beside_commit _ _ (facts _ _ c.requires.frame) (held_of c.args.held) c.args.bytes.now c.requires.fits _ _ _ (c.write_bank.ensures.keeps t).reads (c.commit.ensures.keeps t)

pub returns-clause-reads : goal.returns-clause-reads
returns-clause-reads g c t =
    held_or_same c.args.frame (held_of c.args.held) _ _ (g.D.Disk.flash c.commit.new.disk).reads (same_record c.args.frame (held_of c.args.held) (g.D.Disk.flash c.args.disk.now).reads c.args.bytes.now c.args.offer.now.sequence c.args.offer.now.digest c.args.offer.now.active _ _ c.generation_after.ensures (c.in_ok-bank.ensures.chosen t)) (c.commit.ensures.reads t)

pub returns-in_err-commit-clause-any_moment : goal.returns-in_err-commit-clause-any_moment
returns-in_err-commit-clause-any_moment g c t =
    bank_and_commit _ _ _ _ _ _ _ _ (same_record c.args.frame (held_of c.args.held) (g.D.Disk.flash c.args.disk.now).reads c.args.bytes.now c.args.offer.now.sequence c.args.offer.now.digest c.args.offer.now.active _ _ c.generation_after.ensures (c.in_ok-bank.ensures.chosen t)) (c.write_bank.ensures.keeps t) (c.in_ok-bank.ensures.holds t) (c.in_ok-bank.ensures.settled t) (c.commit.ensures.any_moment t) (c.commit.ensures.keeps t)

pub returns-in_err-commit-clause-sound : goal.returns-in_err-commit-clause-sound
returns-in_err-commit-clause-sound g c t firm sound may =
    let is = frame_read _ _ _ (g.met.D.Disk.obeys c.args.disk.now t) c.requires.frame in
    each_sound c.sound_laws.ensures c.args.frame (held_of c.args.held) c.args.bytes.now c.args.offer.now.sequence c.args.offer.now.digest c.args.offer.now.active (g.D.Disk.flash c.args.disk.now) is (c.requires.told t) c.requires.loadable c.requires.fits (c.requires.held t) sound firm (g.D.Disk.flash c.commit.new.disk) (c.requires.active t) (returns-in_err-commit-clause-any_moment g c t) may

pub returns-in_err-commit-clause-follows : goal.returns-in_err-commit-clause-follows
returns-in_err-commit-clause-follows g c t firm sound sure =
    let is = frame_read _ _ _ (g.met.D.Disk.obeys c.args.disk.now t) c.requires.frame in
    each_follows c.sound_laws.ensures c.args.frame (held_of c.args.held) c.args.bytes.now c.args.offer.now.sequence c.args.offer.now.digest c.args.offer.now.active (g.D.Disk.flash c.args.disk.now) is (c.requires.told t) c.requires.loadable c.requires.fits (c.requires.held t) sound firm (g.D.Disk.flash c.commit.new.disk) (returns-in_err-commit-clause-any_moment g c t) sure

pub returns-in_err-commit-clause-behind : goal.returns-in_err-commit-clause-behind
returns-in_err-commit-clause-behind g c t =
    beside_commit _ _ (facts _ _ c.requires.frame) (held_of c.args.held) c.args.bytes.now c.requires.fits _ _ _ (c.write_bank.ensures.keeps t).reads (c.commit.ensures.keeps t)

pub returns-in_err-commit-clause-reads : goal.returns-in_err-commit-clause-reads
returns-in_err-commit-clause-reads g c t =
    held_or_same c.args.frame (held_of c.args.held) _ _ (g.D.Disk.flash c.commit.new.disk).reads (same_record c.args.frame (held_of c.args.held) (g.D.Disk.flash c.args.disk.now).reads c.args.bytes.now c.args.offer.now.sequence c.args.offer.now.digest c.args.offer.now.active _ _ c.generation_after.ensures (c.in_ok-bank.ensures.chosen t)) (c.commit.ensures.reads t)
