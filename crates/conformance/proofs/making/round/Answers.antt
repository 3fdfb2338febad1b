use Rattle.std.proofs.Common.{◌≡◌, if◌then◌else◌, Some, None, refl}
use Rattle.conformance.specs.Rounds.{payload_got, round_of}
use Rattle.conformance.proofs.FilesNamed.{named}
use Rattle.conformance.proofs.making.round.Goals as goal
use Rattle.conformance.proofs.making.round.Goals.{then-drawn, else-drawn}

pub returns-clause-says : goal.returns-clause-says
unfolding round_of
returns-clause-says c =
    let drawn = c.in_ok-drawn.drawn in
    let cut : c.if-drawn.cut ≡ (if drawn.wants_cut then Some drawn.passes else None) =
    elim c.if-drawn.branch [
      | then-drawn w ↦ rw (w.cut-is, w.if-drawn.true) refl
      | else-drawn w ↦ rw (w.cut-is, w.if-drawn.false) refl
    ] in
    rw (
      c.in_ok-describe.ensures,
      c.in_ok-files_of.ensures,
      c.in_ok-words.ensures,
      cut,
      c.in_ok-drawn.ensures.drawn,
      c.in_ok-drawn.ensures.state,
    )
    refl

pub returns-clause-files : goal.returns-clause-files
returns-clause-files c =
    let drawn = c.in_ok-drawn.drawn in
    rw (c.in_ok-files_of.ensures, c.in_ok-describe.ensures)
    (named drawn.shape c.args.sequence drawn.payload (payload_got drawn.wrong_payload drawn.payload))
