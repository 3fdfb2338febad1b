use Rattle.flash_layout.specs.declared.layout_fault.LayoutFault.TheVariants as faults
use Rattle.suit_cli.proofs.Migrating.{declined_by, refused_for, told_as}
use Rattle.suit_cli.proofs.migrate.told.Goals as goal

pub returns-in-Blank : goal.returns-in-Blank
returns-in-Blank c =
    told_as c.args.migrated _ c.in-Blank.is c.args.done _
    (declined_by c.fixed.result c.declined.result _ _ c.fixed.ensures c.declined.ensures)

pub returns-in-BadConfig : goal.returns-in-BadConfig
returns-in-BadConfig c =
    told_as c.args.migrated _ c.in-BadConfig.is c.args.done _
    (declined_by c.fixed-in-BadConfig.result c.declined-in-BadConfig.result _ _ c.fixed-in-BadConfig.ensures c.declined-in-BadConfig.ensures)

pub returns-in-Already : goal.returns-in-Already
returns-in-Already c =
    told_as c.args.migrated _ c.in-Already.is c.args.done _
    (declined_by c.fixed-in-Already.result c.declined-in-Already.result _ _ c.fixed-in-Already.ensures c.declined-in-Already.ensures)

pub returns-in-BaseOutside : goal.returns-in-BaseOutside
returns-in-BaseOutside c =
    told_as c.args.migrated _ c.in-BaseOutside.is c.args.done _
    (refused_for faults.BaseOutside c.fault_line.result c.refused_by.result c.fault_line.ensures c.refused_by.ensures)

pub returns-in-BaseOverlap : goal.returns-in-BaseOverlap
returns-in-BaseOverlap c =
    told_as c.args.migrated _ c.in-BaseOverlap.is c.args.done _
    (refused_for (faults.BaseOverlap c.in-BaseOverlap.component) c.fault_line-in-BaseOverlap.result c.refused_by-in-BaseOverlap.result c.fault_line-in-BaseOverlap.ensures c.refused_by-in-BaseOverlap.ensures)
