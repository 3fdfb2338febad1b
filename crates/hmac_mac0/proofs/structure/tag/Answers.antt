use Rattle.std.proofs.Common.{◌∙◌, ap, ◌++◌, length}
use Rattle.det_cbor.specs.Heads.{head_bytes}
use Rattle.hmac_mac0.specs.Algorithms.{mac_of}
use Rattle.hmac_mac0.specs.Mac0.{tag_of}
use Rattle.hmac_mac0.proofs.Structures.{fed}
use Rattle.hmac_mac0.proofs.structure.tag.Goals as goal

pub returns : goal.returns
unfolding tag_of
returns c =
    let protected = head_bytes 2 (length c.args.protected.now) ++ c.args.protected.now in
    let payload = head_bytes 2 (length c.args.payload.now) ++ c.args.payload.now in
    c.finish.ensures c.args.kind _ _ (c.add_string-2.ensures c.args.kind _ _ (c.add-2.ensures c.args.kind _ _ (c.add_string.ensures c.args.kind _ _ (c.add.ensures c.args.kind _ _ c.new-mac.ensures))))
    ∙ ap (mac_of c.args.kind c.args.key.now) (fed protected payload)
