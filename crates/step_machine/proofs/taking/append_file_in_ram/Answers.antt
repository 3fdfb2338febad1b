use Rattle.std.proofs.Common.{◌≡◌, ◌+◌, ◌++◌, List, ℕ, length, take, sym, ap, ◌∙◌, arith}
use Rattle.std.proofs.lemmas.List.{length-append, length-take-le}
use Rattle.flash_slots.specs.RamContents.{Held, held_by, holding}
use Rattle.step_machine.proofs.Memory.{held_then, holding_twice, same_size}
use Rattle.step_machine.proofs.TakenFiles.{piece_put}
use Rattle.step_machine.proofs.taking.append_file_in_ram.Goals as goal

pub loop-count-preserved : goal.loop-count-preserved
loop-count-preserved g c =
    let at = c.args.component in
    let first = c.args.ram.now in
    let middle = c.loop-count.ram in
    let new = c.append.new.self in
    let held = held_by middle at in
    let room = c.next_piece.new.room in
    let count = c.in_ok-count.count in
    let more : List ℕ = held.content ++ take count room in
    let put : new ≡ holding middle at more = c.in-Ok.ensures.1 in
    let now : held_by new at ≡ record { capacity = held.capacity; content = more } = held_then middle new at more c.loop-count.invariant.inside put in
    let content : (held_by new at).content ≡ more = ap (λ (h : Held). h.content) now in
    let one : length (take count room) ≡ count = length-take-le count room (omega (arith, c.in_ok-count.ensures.fits, c.next_piece.auto.room)) in
    let both : length (held_by new at).content ≡ length held.content + length (take count room) = ap length content ∙ length-append held.content (take count room) in
    record {
      host = c.in_ok-count.ensures.counts ∙ c.loop-count.invariant.host;
      room = omega (arith, c.next_piece.auto.room, c.loop-count.invariant.room);
      inside = let size = same_size middle new at more put in omega (arith, size, c.loop-count.invariant.inside);
      capacity = ap (λ (h : Held). h.capacity) now ∙ c.loop-count.invariant.capacity;
      ram = holding_twice first middle new at held.content more c.requires.component c.loop-count.invariant.ram put ∙ ap (holding first at) (sym content);
      all = omega (arith, one, both, c.in_ok-count.ensures.few, c.loop-count.invariant.all);
      files = λ t. c.next_piece.ensures.files t ∙ c.loop-count.invariant.files t;
      asked = λ t. c.next_piece.ensures.asked t ∙ c.loop-count.invariant.asked t;
      pulled = λ t. omega (arith, one, both, c.in_ok-count.ensures.pulled t, c.loop-count.invariant.pulled t);
      parts = λ t.
          piece_put (g.H.Host.rest c.args.host.now) (g.H.Host.rest c.loop-count.host) (g.H.Host.rest c.next_piece.new.host) room held.content count (c.in_ok-count.ensures.piece t)
          (held_by new at).content (c.loop-count.invariant.parts t) content;
    }
