use Rattle.std.proofs.Common.{refl, inr, subst}
use Rattle.suit_edge.specs.Flash.{IsFlash}
use Rattle.suit_edge.specs.FlashLaws.{weakens}
use Rattle.flash_layout.specs.declared.formatting.Formatted.TheVariants as formatted
use Rattle.suit_cli.specs.declared.reply.Object.TheVariants as objects
use Rattle.suit_cli.specs.declared.reply.Stop.TheVariants as stops
use Rattle.suit_cli.specs.Stages.{Goes, Faults, IsSaid}
use Rattle.suit_cli.proofs.Chains.{ends_there}
use Rattle.suit_cli.proofs.Leaving.{still, not_yet}
use Rattle.suit_cli.proofs.Initing.{looks_self, in_use_there}
use Rattle.suit_cli.proofs.Settling.{formats_settled, looked}
use Rattle.suit_cli.proofs.init.formats.Goals as goal

pub returns-in_err-ready-clause-formats : goal.returns-in_err-ready-clause-formats
returns-in_err-ready-clause-formats g c here = ends_there _ _ _ _ c.from_residual.result stops.NoMemory c.from_residual.ensures.1 (looks_self _)

pub returns-in_err-ready-clause-any_moment : goal.returns-in_err-ready-clause-any_moment
returns-in_err-ready-clause-any_moment g c t = not_yet _ _ _ (still _)

pub returns-in-Done-clause-formats : goal.returns-in-Done-clause-formats
returns-in-Done-clause-formats g c here =
    Goes tt _ _
    (record {
      beside = refl;
      told = refl;
      size = c.in-Done.ensures.size;
      counts = c.in-Done.ensures.counts;
      is = ((λ t. c.in-Done.ensures.not_blank t), (λ t. c.in-Done.ensures.formatted t));
    }) (IsSaid _ refl c.in_ok-ready.ensures)

pub returns-in-Done-clause-any_moment : goal.returns-in-Done-clause-any_moment
returns-in-Done-clause-any_moment g c t = weakens _ _ _ _ (λ image way. inr way) (c.in-Done.ensures.any_moment t)

pub returns-in-NotBlank-clause-formats : goal.returns-in-NotBlank-clause-formats
returns-in-NotBlank-clause-formats g c here =
    in_use_there _ _ _ _ _
    (record {
      beside = refl;
      still = record { told = refl; size = c.in-NotBlank.ensures.size; reads = λ t. (c.in-NotBlank.ensures.not_blank t).1.reads };
      faults = c.in-NotBlank.ensures.counts;
    }) (λ t. (c.in-NotBlank.ensures.not_blank t).0) c.fixed-in-NotBlank.result c.declined.result c.fixed-in-NotBlank.ensures c.declined.ensures

pub returns-in-NotBlank-clause-any_moment : goal.returns-in-NotBlank-clause-any_moment
returns-in-NotBlank-clause-any_moment g c t = weakens _ _ _ _ (λ image way. inr way) (c.in-NotBlank.ensures.any_moment t)

pub returns-in-FlashFault-clause-formats : goal.returns-in-FlashFault-clause-formats
returns-in-FlashFault-clause-formats g c here =
    Faults objects.Flash
    (record {
      beside = refl;
      told = refl;
      size = c.in-FlashFault.ensures.size;
      counts = c.in-FlashFault.ensures.counts;
      is = λ t. (c.in-FlashFault.ensures.keeps t).reads;
    })

pub returns-in-FlashFault-clause-any_moment : goal.returns-in-FlashFault-clause-any_moment
returns-in-FlashFault-clause-any_moment g c t = weakens _ _ _ _ (λ image way. inr way) (c.in-FlashFault.ensures.any_moment t)

pub returns-in_err-ready-clause-settled : goal.returns-in_err-ready-clause-settled
returns-in_err-ready-clause-settled g c t settled never = settled

pub returns-in-Done-clause-settled : goal.returns-in-Done-clause-settled
returns-in-Done-clause-settled g c t =
    formats_settled c.sound_laws.ensures _ c.args.frame c.args.layout.now c.args.key.now _ formatted.Done _ _ _ _
    (subst (IsFlash (g.D.Disk.flash c.format.new.disk)) c.in-Done.ensures.size (g.met.D.Disk.obeys c.format.new.disk t)) c.in-Done.ensures.counts
    (c.in-Done.ensures.not_blank t) (c.in-Done.ensures.formatted t) (c.in-Done.ensures.settled t)

pub returns-in-NotBlank-clause-settled : goal.returns-in-NotBlank-clause-settled
returns-in-NotBlank-clause-settled g c t = looked _ _ _ _ _ (g.met.D.Disk.obeys c.format.new.disk t) (c.in-NotBlank.ensures.not_blank t).1

pub returns-in-FlashFault-clause-settled : goal.returns-in-FlashFault-clause-settled
returns-in-FlashFault-clause-settled g c t settled never = absurd (never c.in-FlashFault.ensures.counts)
