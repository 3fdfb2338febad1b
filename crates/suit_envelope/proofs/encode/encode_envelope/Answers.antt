use Rattle.std.proofs.Common.{◌<◌, ◌^◌, append_assoc, ◌∙◌, arith}
use Rattle.det_cbor.specs.DataItem.{pair_count}
use Rattle.suit_envelope.specs.Making.{payload_pairs, member_then, pairs_made}
use Rattle.suit_envelope.proofs.MadeValid.{made_valid}
use Rattle.suit_envelope.proofs.MadeSays.{made_says}
use Rattle.suit_envelope.proofs.encode.encode_envelope.Goals as goal

pub returns-clause-spelling : goal.returns-clause-spelling
returns-clause-spelling c =
    let parts = c.args.parts.now in
    let payloads = payload_pairs parts.payloads in
    let text = member_then 23 parts.text payloads in
    let install = member_then 20 parts.install text in
    c.in_ok-push_payloads.ensures.ok
    ∙ c.in_ok-push_member-3.ensures.ok payloads
    ∙ c.in_ok-push_member-2.ensures.ok text
    ∙ c.in_ok-push_member.ensures.ok install
    ∙ rw (c.in_ok-push_pair-2.ensures.ok, c.in_ok-push_pair.ensures.ok, c.in_ok-push_start.ensures, c.new-out.ensures, c.pairs.ensures, c.as_slice.ensures, c.as_slice-2.ensures)
    (simp append_assoc)

pub returns-clause-envelope : goal.returns-clause-envelope
returns-clause-envelope c =
    let parts = c.args.parts.now in
    let made = made_says parts c.requires.wrapper in
    let count : pair_count (pairs_made parts) < 2 ^ 64 = rw (← c.pairs.ensures) (omega (arith, c.pairs.type_inv)) in (
      made.said,
      (
        record {
          item = _;
          spells = record {
            valid = made_valid parts
                (record {
                  required = (rw (← c.as_slice.ensures) (c.push_pair.ensures.string), (rw (← c.as_slice-2.ensures) (c.push_pair-2.ensures.string), tt));
                  members = (c.push_member.ensures.string, (c.push_member-2.ensures.string, (c.push_member-3.ensures.string, tt)));
                  payloads = c.in_ok-push_payloads.ensures.payloads;
                  count = count;
                })
                c.requires.payloads;
            is = returns-clause-spelling c;
          };
          says_so = made.is;
        },
        made.says,
      ),
    )

pub returns-clause-payloads : goal.returns-clause-payloads
unfolding returns-clause-envelope
returns-clause-payloads c =
    let made = made_says c.args.parts.now c.requires.wrapper in
    record { said = made.said; envelope = (returns-clause-envelope c).1.0; are = made.payloads }
