use Rattle.std.proofs.Common.{◌≡◌, List, ℕ, ap, ◌∙◌}
use Rattle.det_cbor.specs.DataItem.{MapOf, Spells, spell}
use Rattle.hmac_mac0.specs.Mac0.{made_item, kid_pairs, tag_of}
use Rattle.hmac_mac0.proofs.Made.{kid_of, written, made_spells, made_verifies, made_alone}
use Rattle.hmac_mac0.proofs.make.make_block.Goals as goal
use Rattle.hmac_mac0.proofs.make.make_block.Goals.{In_ok-push_string}

spells : (c : In_ok-push_string) → Spells (made_item c.args.mac c.args.key.now (kid_of c.args.kid) c.args.payload.now) c.push_string.new.out
spells c =
    let empty = c.new-block.ensures in
    let header = c.in_ok-push_header.ensures in
    let unprotected = c.in_ok-push_unprotected.ensures.ok in
    let null = c.in_ok-push_kind.ensures.ok in
    let tag = c.in_ok-push_string.ensures.ok in
    let all : c.push_string.new.out ≡ written c.args.mac (spell (MapOf (kid_pairs (kid_of c.args.kid)))) c.bytes.result.now = cc in
    made_spells c.args.mac c.args.key.now c.args.payload.now c.args.kid c.bytes.result.now c.push_string.new.out
    c.in_ok-push_unprotected.ensures.is_string c.in_ok-push_string.ensures.string (c.bytes.ensures ∙ c.tag.ensures ∙ ap (λ (p : List ℕ). tag_of c.args.mac c.args.key.now p c.args.payload.now) c.header.ensures) all

pub returns-clause-spells : goal.returns-clause-spells
returns-clause-spells c = spells c

pub returns-clause-verifies : goal.returns-clause-verifies
returns-clause-verifies c = made_verifies c.args.mac c.args.key.now c.args.payload.now (kid_of c.args.kid) c.push_string.new.out (spells c)

pub returns-clause-alone : goal.returns-clause-alone
returns-clause-alone c = made_alone c.args.mac c.args.key.now c.args.payload.now (kid_of c.args.kid) c.push_string.new.out (spells c)
