use Rattle.std.proofs.Common.{◌≡◌, ap, sym, ◌∙◌, Some, None, ◌++◌}
use Rattle.std.proofs.lemmas.Bool.Decides.{Decides-eqb}
use Rattle.std.proofs.lemmas.Slice.Eq.{strip_prefix_is}
use Rattle.det_cbor.specs.Position.{Position}
use Rattle.hmac_mac0.proofs.Layouts.{none_is}
use Rattle.hmac_mac0.proofs.Blocks.{front, parts_found, parts_front, parts_string, parts_tag}
use Rattle.hmac_mac0.proofs.block.split_block.Goals as goal

pub returns-in_err-rest-clause-none : goal.returns-in_err-rest-clause-none
returns-in_err-rest-clause-none c =
    let other = strip_prefix_is Decides-eqb c.args.block.now front None c.in_err-rest.ensures.cases in
    none_is c.from_residual.result c.from_residual.ensures (λ protected tag h. other _ (parts_front c.args.block.now protected tag h))

pub returns-in_err-protected-clause-none : goal.returns-in_err-protected-clause-none
returns-in_err-protected-clause-none c =
    let is = strip_prefix_is Decides-eqb c.args.block.now front (Some c.in_ok-rest.rest) c.in_ok-rest.ensures.cases in
    let left : c.new-cursor.result.left ≡ c.in_ok-rest.rest.now = ap (λ (p : Position). p.left) c.new-cursor.ensures in
    none_is c.from_residual-in_err-protected.result c.from_residual-in_err-protected.ensures (λ protected tag h.
    c.in_err-protected.ensures.none protected _ (parts_string c.args.block.now c.new-cursor.result.left protected tag h (is ∙ ap (λ r. front ++ r) (sym left))))

pub returns-in_err-tag-clause-none : goal.returns-in_err-tag-clause-none
returns-in_err-tag-clause-none c =
    let is = strip_prefix_is Decides-eqb c.args.block.now front (Some c.in_ok-rest.rest) c.in_ok-rest.ensures.cases in
    let left : c.new-cursor.result.left ≡ c.in_ok-rest.rest.now = ap (λ (p : Position). p.left) c.new-cursor.ensures in
    none_is c.from_residual-in_err-tag.result c.from_residual-in_err-tag.ensures (λ protected tag h.
    c.in_err-tag.ensures.none tag (parts_tag c.args.block.now c.new-cursor.result.left protected tag c.in_ok-protected.protected.now c.string.new.cursor.left h
    (is ∙ ap (λ r. front ++ r) (sym left)) c.in_ok-protected.ensures.some))

pub returns-clause-some : goal.returns-clause-some
returns-clause-some c =
    let is = strip_prefix_is Decides-eqb c.args.block.now front (Some c.in_ok-rest.rest) c.in_ok-rest.ensures.cases in
    let left : c.new-cursor.result.left ≡ c.in_ok-rest.rest.now = ap (λ (p : Position). p.left) c.new-cursor.ensures in
    parts_found c.args.block.now c.new-cursor.result.left c.string.new.cursor.left c.in_ok-protected.protected.now c.in_ok-tag.tag.now
    (is ∙ ap (λ r. front ++ r) (sym left)) c.in_ok-protected.ensures.some c.in_ok-tag.ensures.some
