use Rattle.std.proofs.Common.{refl}
use Rattle.suit_cli.specs.declared.reply.Object.TheVariants as objects
use Rattle.suit_cli.specs.declared.reply.Stop.TheVariants as stops
use Rattle.suit_cli.specs.Stages.{Goes, Faults, IsSaid}
use Rattle.suit_cli.proofs.Chains.{ends_there}
use Rattle.suit_cli.proofs.Authoring.{beside_by}
use Rattle.suit_cli.proofs.make.store.Goals as goal

pub returns-in_err-made : goal.returns-in_err-made
returns-in_err-made g c flash = ends_there _ _ _ _ c.from_residual.result stops.NoMemory c.from_residual.ensures.1 refl

pub returns-in-Done : goal.returns-in-Done
returns-in-Done g c flash =
    Goes tt _ _
    (record {
      beside = beside_by _ _ _ refl c.in-Done.ensures.others c.in-Done.ensures.pulled c.in-Done.ensures.asked refl;
      file = λ t. c.in-Done.ensures.stores t;
      faults = c.in-Done.ensures.counts;
    }) (IsSaid _ refl c.in_ok-made.ensures)

pub returns-in-Failed : goal.returns-in-Failed
returns-in-Failed g c flash =
    Faults objects.Host
    (record {
      beside = beside_by _ _ _ refl c.in-Failed.ensures.others c.in-Failed.ensures.pulled c.in-Failed.ensures.asked refl;
      faulted = c.in-Failed.ensures.counts;
    })
