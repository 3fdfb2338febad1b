use Rattle.std.proofs.Common.{[], ◌++◌}
use Rattle.det_cbor.specs.Heads.{head_bytes}
use Rattle.std.proofs.Common.{length}
use Rattle.suit_envelope.proofs.string_hash.string_digest.Goals as goal

pub returns : goal.returns
returns c =
    let head = head_bytes 2 (length c.args.content.now) in
    c.finish.ensures c.args.kind (head ++ c.args.content.now)
    (c.update.ensures c.args.kind head (c.add_head.ensures c.args.kind [] c.new-hasher.ensures))
