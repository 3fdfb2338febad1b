use Rattle.std.proofs.Common.{◌≡◌, List, ℕ, ap, sym, ◌∙◌}
use Rattle.hmac_mac0.specs.Mac0.{tag_of}
use Rattle.hmac_mac0.specs.declared.mac_kind.MacKind.{MacKind}
use Rattle.hmac_mac0.proofs.Blocks.{one_mac0}
use Rattle.hmac_mac0.proofs.verdict.verify.Goals as goal

pub returns-in-None-clause-verified : goal.returns-in-None-clause-verified
returns-in-None-clause-verified c = (λ e. absurd cc, λ v. absurd (c.in-None.ensures.none v.kind v.protected v.tag v.is_block))

pub returns-else-are_equal-clause-verified : goal.returns-else-are_equal-clause-verified
returns-else-are_equal-clause-verified c = (
  λ e. absurd cc,
  λ v.
      let parts = c.in-Some.parts in
      let same = one_mac0 c.args.block.now v.kind parts.kind v.protected parts.protected.now v.tag parts.tag.now v.is_block c.in-Some.ensures.some in
      let is : parts.tag.now ≡ c.bytes.result.now =
      sym same.tag ∙ v.matches ∙ ap (λ (k : MacKind). tag_of k c.args.key.now v.protected c.args.payload.now) same.kind
      ∙ ap (λ (p : List ℕ). tag_of parts.kind c.args.key.now p c.args.payload.now) same.protected ∙ sym (c.bytes.ensures ∙ c.tag-expected.ensures) in
      let yes = c.are_equal.ensures.1 is in
      let no = c.if-are_equal.false in
      absurd cc,
)
