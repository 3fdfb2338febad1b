use Rattle.std.proofs.Common.{◌≡◌, ℕ, List, ap, subst, ◌∙◌, option_map, Option, Result, Ok, Err}
use Rattle.std.specs.Prelude.{IfOk}
use Rattle.det_cbor.specs.DataItem.{spell}
use Rattle.hmac_mac0.specs.Mac0.{made_item, IsMac0}
use Rattle.hmac_mac0.specs.declared.mac_kind.MacKind.{MacKind}
use Rattle.author.specs.MadeEnvelopes.{made_block, IsBlockBy}
use Rattle.author.proofs.MadeWrappers.{wrapper_says}
use Rattle.author.proofs.made_wrapper.made_wrapper.Goals as goal

pub returns-clause-says : goal.returns-clause-says
returns-clause-says c =
    let payload = c.as_slice.ensures ∙ c.in_ok-stated.ensures.spelling in
    wrapper_says c.args.digest.now c.as_slice-2.result.now c.as_slice-3.result.now _ c.both.result c.in_ok-stated.ensures.long c.in_ok-stated.ensures.valid
    (c.as_slice-2.ensures ∙ c.in_ok-stated.ensures.spelling)
    (c.as_slice-3.ensures ∙ c.in_ok-block.ensures.spells.is ∙ ap (λ (p : List ℕ). spell (made_item c.args.mac c.args.key.now (option_map (λ k. k.now) c.args.kid) p)) payload)
    c.both.ensures.is c.both.ensures.strings

whatever : {A E : Type 0} (r : Result A E) (P : Type 0) → P → IfOk r (λ _. P)
whatever (Ok a) P p = p
whatever (Err e) P p = tt

pub returns-clause-by_mac : goal.returns-clause-by_mac
returns-clause-by_mac c =
    let kid : Option (List ℕ) = option_map (λ k. k.now) c.args.kid in
    let payload = c.as_slice.ensures ∙ c.in_ok-stated.ensures.spelling in
    let is : c.in_ok-block.block ≡ made_block c.args.mac c.args.key.now kid c.args.digest.now =
    c.in_ok-block.ensures.spells.is ∙ ap (λ (p : List ℕ). spell (made_item c.args.mac c.args.key.now kid p)) payload in
    let v = c.in_ok-block.ensures.verifies in
    let same = c.in_ok-block.ensures.alone v.kind v.protected v.tag v.is_block in
    let block : IsBlockBy c.args.mac c.in_ok-block.block = record {
      protected = v.protected;
      tag = v.tag;
      is_block = subst (λ (k : MacKind). IsMac0 c.in_ok-block.block k v.protected v.tag) same.0 v.is_block;
    } in
    whatever c.both.result _ (subst (IsBlockBy c.args.mac) is block)
