use Rattle.std.proofs.Common.{◌≡◌, ◌≤◌, ◌+◌, ◌++◌, [], length, take, refl, sym, ap, subst, ◌∙◌, arith}
use Rattle.std.proofs.lemmas.List.{length-take-le}
use Rattle.flash_layout.specs.declared.slot.Slot.{Slot}
use Rattle.flash_layout.specs.Slots.{slot_content}
use Rattle.flash_slots.specs.Contents.{IsEmptySlot, pieces_of}
use Rattle.suit_edge.specs.FlashLaws.{grows_start, grows_then, keeps_start, same_flash, starts}
use Rattle.step_machine.proofs.Ranging.{more_put_there}
use Rattle.step_machine.proofs.Replaced.{moment_more}
use Rattle.step_machine.proofs.TakenFiles.{none_put, piece_put, piece_taken}
use Rattle.step_machine.proofs.taking.append_file.Goals as goal

pub loop-count-init : goal.loop-count-init
loop-count-init g c = record {
  size = refl;
  host = refl;
  flash = refl;
  room = refl;
  slot = refl;
  all = omega (arith, c.requires.none);
  files = λ t. refl;
  asked = λ t. refl;
  pulled = λ t. omega (arith, c.requires.none);
  taken = λ t. omega (arith, c.requires.none);
  parts = λ t u. none_put c.args.writing.now.slot (g.D.Disk.flash c.args.disk.now).reads _ _ c.requires.none;
  empty = λ t e. e;
  still_empty = λ t empty. starts _ (IsEmptySlot c.args.writing.now.slot) empty;
  keeps = λ t. keeps_start _ _;
  grows = λ t. grows_start (g.D.Disk.flash c.args.disk.now);
}

pub returns-in-Err-FlashFault-clause-keeps : goal.returns-in-Err-FlashFault-clause-keeps
returns-in-Err-FlashFault-clause-keeps g c t =
    let own = c.args.writing.now.slot in
    let count = c.in_ok-count.count in
    let size : length (take count c.next_piece.new.room) ≡ count = length-take-le count c.next_piece.new.room (omega (arith, c.in_ok-count.ensures.fits, c.next_piece.auto.room)) in
    let inside : c.loop-count.writing.written + count ≤ own.capacity = omega (arith, c.requires.capacity, c.loop-count.invariant.all, c.in_ok-count.ensures.few) in
    more_put_there own c.loop-count.writing.slot _ _ _ _ _ _ c.loop-count.invariant.slot (omega (arith, size, inside)) (g.met.D.Disk.obeys c.loop-count.disk t) (c.loop-count.invariant.keeps t) (c.append.ensures.keeps t)

pub returns-in-Err-FlashFault-clause-still_empty :
    goal.returns-in-Err-FlashFault-clause-still_empty
returns-in-Err-FlashFault-clause-still_empty g c t none =
    moment_more c.args.writing.now.slot c.loop-count.writing.slot c.loop-count.invariant.slot _ _ _ _ _ _ (g.met.D.Disk.obeys c.loop-count.disk t) (g.met.D.Disk.obeys c.loop-count.disk t) (c.loop-count.invariant.still_empty t none) (same_flash (g.D.Disk.flash c.loop-count.disk)) (c.append.ensures.still_empty t)

pub loop-count-preserved : goal.loop-count-preserved
loop-count-preserved g c =
    let own = c.args.writing.now.slot in
    let room = c.next_piece.new.room in
    let count = c.in_ok-count.count in
    let taken = c.loop-count.writing.written in
    let reads = (g.D.Disk.flash c.loop-count.disk).reads in
    let new = (g.D.Disk.flash c.append.new.disk).reads in
    let rest = g.H.Host.rest c.loop-count.host in
    let later = g.H.Host.rest c.next_piece.new.host in
    let fits : count ≤ length room = omega (arith, c.in_ok-count.ensures.fits, c.next_piece.auto.room) in
    let size : length (take count room) ≡ count = length-take-le count room fits in
    let written : c.append.new.self.written ≡ taken + length (take count room) = c.in-Ok.ensures.written in
    let same : c.loop-count.writing.slot ≡ own = c.loop-count.invariant.slot in
    let inside : taken + count ≤ own.capacity = omega (arith, c.requires.capacity, c.loop-count.invariant.all, c.in_ok-count.ensures.few) in
    record {
      size = c.append.ensures.size ∙ c.loop-count.invariant.size;
      host = c.in_ok-count.ensures.counts ∙ c.loop-count.invariant.host;
      flash = c.in-Ok.ensures.counts ∙ c.loop-count.invariant.flash;
      room = omega (arith, c.next_piece.auto.room, c.loop-count.invariant.room);
      slot = c.append.ensures.slot ∙ same;
      all = omega (arith, size, written, c.in_ok-count.ensures.few, c.loop-count.invariant.all);
      files = λ t. c.next_piece.ensures.files t ∙ c.loop-count.invariant.files t;
      asked = λ t. c.next_piece.ensures.asked t ∙ c.loop-count.invariant.asked t;
      pulled = λ t. omega (arith, size, written, c.in_ok-count.ensures.pulled t, c.loop-count.invariant.pulled t);
      taken = λ t.
          let more = piece_taken (g.H.Host.rest c.args.host.now) rest later room [] count (c.in_ok-count.ensures.piece t) taken fits (c.loop-count.invariant.taken t) in
          omega (arith, more, size, written);
      parts = λ t u.
          piece_put (g.H.Host.rest c.args.host.now) rest later room (pieces_of own taken reads) count (c.in_ok-count.ensures.piece u) (pieces_of own c.append.new.self.written new) (c.loop-count.invariant.parts t u)
          (ap (λ (x : Slot). pieces_of x c.append.new.self.written new) (sym (c.append.ensures.slot ∙ same)) ∙ c.in-Ok.ensures.pieces t
          ∙ ap (λ (x : Slot). pieces_of x taken reads ++ take count room) same);
      empty = λ t e.
          subst (λ (x : Slot). slot_content x new ≡ []) same
          (c.append.ensures.empty t (subst (λ (x : Slot). slot_content x reads ≡ []) (sym same) (c.loop-count.invariant.empty t e)));
      still_empty = λ t none.
          moment_more own c.loop-count.writing.slot same _ _ _ _ _ _ (g.met.D.Disk.obeys c.loop-count.disk t) (g.met.D.Disk.obeys c.loop-count.disk t) (c.loop-count.invariant.still_empty t none) (same_flash (g.D.Disk.flash c.loop-count.disk)) (c.append.ensures.still_empty t);
      keeps = λ t. more_put_there own c.loop-count.writing.slot _ _ _ _ _ _ same (omega (arith, size, inside)) (g.met.D.Disk.obeys c.loop-count.disk t) (c.loop-count.invariant.keeps t) (c.append.ensures.keeps t);
      grows = λ t.
          grows_then (g.D.Disk.flash c.args.disk.now) (g.D.Disk.flash c.loop-count.disk) (g.D.Disk.flash c.append.new.disk) (c.loop-count.invariant.keeps t).images.later (c.loop-count.invariant.grows t) (c.append.ensures.grows t);
    }
