use Rattle.std.proofs.Common.{◌<◌, ap, ◌∙◌, ◌++◌, List, ℕ, length, arith}
use Rattle.suit_params.specs.declared.digest.Digest.{Digest}
use Rattle.suit_envelope.specs.WrapperParts.{WrapperSays}
use Rattle.suit_cli.specs.Texts.{block_line}
use Rattle.suit_cli.proofs.BlockLoop.{walks_on, walk_finds, goes_on, goes_end}
use Rattle.suit_cli.proofs.show.push_blocks.Goals as goal

pub loop-number-preserved : goal.loop-number-preserved
loop-number-preserved c =
    let wrapper = c.args.envelope.now.wrapper.now in
    let within : (digest : Digest) (all : List (List ℕ)) → WrapperSays wrapper digest all → c.loop-number.number < length all =
    λ digest all says. omega (arith, c.blocks-number-end.ensures digest all says, c.loop-number-test.true) in
    let line = c.in_ok-push_str.ensures.ok ∙ ap (λ (l : List ℕ). c.loop-number.text ++ l) (c.as_str.ensures.value ∙ c.in_ok-line.ensures ∙ ap (block_line c.loop-number.number) c.kind_text.ensures) in (
      walks_on wrapper c.loop-number.number c.loop-number.rest c.next_block.new.self c.loop-number.invariant.0 c.in-Some.ensures.rest within,
      goes_on wrapper c.args.text.now c.loop-number.text c.push_str.new.self c.loop-number.number c.in-Some.block.now c.is_mac.result
          c.loop-number.invariant.1 (walk_finds wrapper c.loop-number.number c.loop-number.rest c.in-Some.block.now c.loop-number.invariant.0 c.in-Some.ensures.first within) c.is_mac.ensures line,
    )

pub returns : goal.returns
returns c =
    goes_end c.args.envelope.now.wrapper.now c.args.text.now c.loop-number.text c.loop-number.number c.loop-number.invariant.1
    (λ digest all says. omega (arith, c.blocks-number-end.ensures digest all says, c.loop-number-test.false))
