use Rattle.std.proofs.Common.{refl}
use Rattle.suit_cli.specs.Stages.{Goes, Ends}
use Rattle.suit_cli.proofs.Chains.{ends_there, lacks_last}
use Rattle.suit_cli.proofs.DescriptionTexts.{described_line}
use Rattle.suit_cli.proofs.show_description.describe_manifest.Goals as goal

pub returns-in_err-members : goal.returns-in_err-members
returns-in_err-members c here = ends_there _ _ here here c.from_residual.result c.in_err-members.field-0.0 c.from_residual.ensures.1 (c.in_err-members.ensures here)

pub returns-in_err-text_in : goal.returns-in_err-text_in
returns-in_err-text_in c here =
    Goes c.in_ok-members.members here _ (c.in_ok-members.ensures here)
    (ends_there _ _ here here c.from_residual-in_err-text_in.result c.in_err-text_in.field-0.0 c.from_residual-in_err-text_in.ensures.1 (c.in_err-text_in.ensures here))

pub returns-in_err-description : goal.returns-in_err-description
returns-in_err-description c here =
    Goes c.in_ok-members.members here _ (c.in_ok-members.ensures here) (Goes tt here _ (c.in_ok-text_in.ensures here)
    (lacks_last _ here c.from_residual-in_err-description.result c.from_residual-in_err-description.ensures.1))

pub returns-in_err-line : goal.returns-in_err-line
returns-in_err-line c here =
    Goes c.in_ok-members.members here _ (c.in_ok-members.ensures here) (Goes tt here _ (c.in_ok-text_in.ensures here)
    (lacks_last _ here c.from_residual-in_err-line.result c.from_residual-in_err-line.ensures.1))

pub returns : goal.returns
returns c here =
    Goes c.in_ok-members.members here _ (c.in_ok-members.ensures here) (Goes tt here _ (c.in_ok-text_in.ensures here)
    (Ends c.in_ok-line.field-0 refl (described_line _ _ _ _ _ _ c.in_ok-description.ensures c.in_ok-line.ensures)))
