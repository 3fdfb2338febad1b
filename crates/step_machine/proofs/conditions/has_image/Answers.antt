use Rattle.std.proofs.Common.{◌≡◌, ◌∙◌, ℕ, Bool, List, length, take, true, false, refl, sym, ap, subst}
use Rattle.std.specs.Prelude.{◌&&◌}
use Rattle.std.specs.Str.{bytes_eq}
use Rattle.suit_params.specs.declared.digest.Digest.{Digest}
use Rattle.suit_params.specs.declared.digest_kind.DigestKind.{DigestKind}
use Rattle.suit_params.specs.DigestBytes.{digest_bytes}
use Rattle.suit_params.specs.Hashes.{hash, hash_like, has_digest}
use Rattle.path_model.specs.DevicePlays.{fits_size}
use Rattle.step_machine.specs.Areas.{area_at}
use Rattle.step_machine.specs.Spots.{IsSpot, content_of}
use Rattle.step_machine.proofs.Rooms.{content_front}
use Rattle.step_machine.proofs.conditions.has_image.Goals as goal

other_size : (a b : Bool) → b ≡ false → false ≡ (a && b)
other_size true b is = sym is
other_size false b is = refl

same_size : (a b : Bool) → b ≡ true → a ≡ (a && b)
same_size true b is = sym is
same_size false b is = refl

pub returns-then-not-has_size-clause-exact : goal.returns-then-not-has_size-clause-exact
returns-then-not-has_size-clause-exact g c t =
    let content = content_of c.args.spot c.args.ram.now (g.D.Disk.flash c.args.disk.now).reads in
    let fits : c.has_size.result ≡ fits_size c.args.size content = c.has_size.ensures content (c.in_ok-count.ensures.exact t) in
    other_size (has_digest c.args.digest content) (fits_size c.args.size content) cc

pub returns-clause-exact : goal.returns-clause-exact
returns-clause-exact g c t =
    let reads = (g.D.Disk.flash c.args.disk.now).reads in
    let content = content_of c.args.spot c.args.ram.now reads in
    let fits : c.has_size.result ≡ fits_size c.args.size content = c.has_size.ensures content (c.in_ok-count.ensures.exact t) in
    let inside : IsSpot (length reads) c.args.ram.now c.args.spot = subst (λ (n : ℕ). IsSpot n c.args.ram.now c.args.spot) (sym (g.met.D.Disk.obeys c.args.disk.now t).fits) c.requires.spot in
    let d = c.args.digest in
    let front : List ℕ → List ℕ = λ l. take c.in_ok-count.count (area_at c.args.spot c.args.ram.now l) in
    let is : c.in_ok-found.found ≡ hash_like d content =
    c.in_ok-found.ensures.exact t
    ∙ ap (λ (k : DigestKind). hash k (front (g.D.Disk.flash c.length_at.new.disk).reads)) c.kind.ensures
    ∙ ap (λ (l : List ℕ). hash_like d (front l)) (c.length_at.ensures.read.same t).reads
    ∙ ap (hash_like d) (sym (content_front c.args.spot c.args.ram.now reads c.in_ok-count.count inside (c.in_ok-count.ensures.exact t))) in
    c.is_digest.ensures ∙ ap (λ (found : Digest). bytes_eq (digest_bytes found) (digest_bytes d)) is
    ∙ same_size (has_digest d content) (fits_size c.args.size content) (sym fits ∙ cc)
