use Rattle.std.proofs.Common.{ℕ, List, [], ◌++◌, ap, ◌∙◌}
use Rattle.det_cbor.specs.DataItem.{NoPairs}
use Rattle.det_cbor.specs.Heads.{head_bytes}
use Rattle.suit_manifest.specs.ManifestMaking.{pair_then, row_pairs, text_item, held_item, severed_item, text_member_item, manifest_rows}
use Rattle.suit_manifest.proofs.ManifestSpelled.{map_written}
use Rattle.suit_manifest.proofs.ManifestWritten.{is_written}
use Rattle.suit_manifest.proofs.encode.encode_manifest.Goals as goal

pub returns-clause-spelling : goal.returns-clause-spelling
returns-clause-spelling c =
    let m = c.args.manifest.now in
    let from_text = pair_then 23 (text_member_item m.text) NoPairs in
    let from_install = pair_then 20 (severed_item m.install) from_text in
    let from_fetch = pair_then 16 (severed_item m.payload_fetch) from_install in
    let from_invoke = pair_then 9 (held_item m.invoke) from_fetch in
    let from_load = pair_then 8 (held_item m.load) from_invoke in
    let from_validate = pair_then 7 (held_item m.validate) from_load in
    let from_reference = pair_then 4 (text_item m.reference) from_validate in
    map_written [] c.push_map.new.out c.push_text_member.new.out c.manifest_count.result (row_pairs (manifest_rows m)) c.manifest_count.ensures
    (c.in_ok-push_map.ensures ∙ ap (λ (k : List ℕ). k ++ head_bytes 5 c.manifest_count.result) c.new-out.ensures)
    (c.in_ok-push_text_member.ensures.ok NoPairs
    ∙ c.in_ok-push_severed-2.ensures.ok from_text
    ∙ c.in_ok-push_severed.ensures.ok from_install
    ∙ c.in_ok-push_held-3.ensures.ok from_fetch
    ∙ c.in_ok-push_held-2.ensures.ok from_invoke
    ∙ c.in_ok-push_held.ensures.ok from_load
    ∙ c.in_ok-push_reference.ensures.ok from_validate
    ∙ c.in_ok-push_start.ensures.ok from_reference)

pub returns-clause-written : goal.returns-clause-written
returns-clause-written c =
    is_written c.args.manifest.now c.push_text_member.new.out (returns-clause-spelling c) (record {
      sequence = c.in_ok-push_start.ensures.sequence;
      common = c.in_ok-push_start.ensures.fits;
      common_string = c.in_ok-push_start.ensures.string;
      reference = c.in_ok-push_reference.ensures.fits;
      validate = c.in_ok-push_held.ensures.fits;
      load = c.in_ok-push_held-2.ensures.fits;
      invoke = c.in_ok-push_held-3.ensures.fits;
      payload_fetch = c.in_ok-push_severed.ensures.fits;
      install = c.in_ok-push_severed-2.ensures.fits;
      text = c.in_ok-push_text_member.ensures.fits;
    })
