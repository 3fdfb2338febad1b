use Rattle.std.proofs.Common.{inl, length, refl, subst}
use Rattle.boot_c.specs.BootAnswers.{HasNoConfig}
use Rattle.flash_layout.specs.Configs.{ConfigOf, Configured, IsAllowed}
use Rattle.flash_view.specs.ViewDisk.{ViewState}
use Rattle.boot_c.proofs.Configs.{no_config}
use Rattle.boot_c.proofs.Without.{told_answers}
use Rattle.boot_c.proofs.booting.boot_from.Goals as goal

pub returns-in-Blank-clause-answers : goal.returns-in-Blank-clause-answers
returns-in-Blank-clause-answers c =
    let none = no_config c.new-disk.result.bytes c.load_config.result c.in-Blank.is (c.load_config.ensures.exact refl) in
    told_answers _ _ c.without.ensures c.args.flash.now (inl (refl, subst (λ (d : ViewState). HasNoConfig d.bytes) c.new-disk.ensures none))

pub boot_by-requires-clause-allowed : goal.boot_by-requires-clause-allowed
boot_by-requires-clause-allowed c =
    subst (λ (d : ViewState). IsAllowed c.in-Config.frame (length d.bytes) c.in-Config.layout c.in-Config.key) c.new-disk.ensures c.in-Config.ensures.allowed

pub boot_by-requires-clause-held : goal.boot_by-requires-clause-held
boot_by-requires-clause-held c =
    subst (λ (d : ViewState). ConfigOf (length d.bytes) d.bytes (Configured c.in-Config.layout c.in-Config.key c.in-Config.frame)) c.new-disk.ensures (c.in-Config.ensures.exact refl)
