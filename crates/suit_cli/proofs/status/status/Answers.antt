use Rattle.std.proofs.Common.{ℕ, List, Ok, Err, refl, sym, subst, ◌∙◌}
use Rattle.std.specs.List.{All}
use Rattle.std.specs.Prelude.{◌≤◌, length}
use Rattle.suit_edge.specs.FlashLaws.{same_flash_then}
use Rattle.flash_layout.specs.declared.layout.Entry.{Entry}
use Rattle.flash_layout.specs.Layouts.{IsEntry}
use Rattle.step_machine.proofs.Fitting.{few_entries}
use Rattle.suit_cli.specs.Stages.{Goes, Ends}
use Rattle.suit_cli.specs.Installed.{TellsStatus}
use Rattle.suit_cli.proofs.Chains.{anywhere, ends_there, lacks_last}
use Rattle.suit_cli.proofs.Sounding.{allowed_after, held_after}
use Rattle.suit_cli.proofs.StatusLines.{lines_of, same_twice}
use Rattle.suit_cli.proofs.status.status.Goals as goal

pub returns-in_err-config-clause-answer : goal.returns-in_err-config-clause-answer
returns-in_err-config-clause-answer g c here =
    ends_there _ _ _ _ c.from_residual.result c.in_err-config.field-0.0 c.from_residual.ensures.1 (c.in_err-config.ensures.finds here)

pub returns-in_err-installed-clause-answer : goal.returns-in_err-installed-clause-answer
returns-in_err-installed-clause-answer g c here =
    Goes c.in_ok-config.config _ _ (c.in_ok-config.ensures.finds here)
    (ends_there _ _ _ _ c.from_residual-in_err-installed.result c.in_err-installed.field-0.0 c.from_residual-in_err-installed.ensures.1 (c.in_err-installed.ensures.finds here))

pub returns-in_err-installed-clause-same : goal.returns-in_err-installed-clause-same
returns-in_err-installed-clause-same g c t =
    same_flash_then _ _ _ _ (g.met.D.Disk.obeys c.config_in.new.flash t) (c.in_ok-config.ensures.same t) (c.in_err-installed.ensures.same t)

pub record_in-requires-clause-allowed : goal.record_in-requires-clause-allowed
record_in-requires-clause-allowed g c = allowed_after c.in_ok-config.config.0 c.in_ok-config.config.1 c.in_ok-config.config.2 _ _ c.in_ok-config.ensures.extent c.in_ok-config.ensures.allowed

pub record_in-requires-clause-held : goal.record_in-requires-clause-held
record_in-requires-clause-held g c told =
    held_after c.in_ok-config.config.0 c.in_ok-config.config.1 c.in_ok-config.config.2 _ _ _ _ c.in_ok-config.ensures.extent (c.in_ok-config.ensures.same told).reads ((c.in_ok-config.ensures.finds anywhere).1 told)

pub component_lines-requires-clause-few : goal.component_lines-requires-clause-few
component_lines-requires-clause-few g c =
    subst (λ (l : List Entry). length l ≤ 32) (sym c.as_slice.ensures) (few_entries c.in_ok-config.config.2 _ c.in_ok-config.config.0 c.in_ok-config.ensures.allowed.layout_is)

pub component_lines-requires-clause-each : goal.component_lines-requires-clause-each
component_lines-requires-clause-each g c =
    let frame = c.in_ok-config.config.2 in (
      frame,
      subst (λ (l : List Entry). All (IsEntry frame (g.D.Disk.extent c.record_in.new.flash)) l) (sym c.as_slice.ensures)
          (subst (λ (n : ℕ). All (IsEntry frame n) c.in_ok-config.config.0) (sym (c.in_ok-installed.ensures.extent ∙ c.in_ok-config.ensures.extent)) c.in_ok-config.ensures.allowed.layout_is.each),
    )

pub returns-in_err-lines-clause-answer : goal.returns-in_err-lines-clause-answer
returns-in_err-lines-clause-answer g c here =
    Goes c.in_ok-config.config _ _ (c.in_ok-config.ensures.finds here) (Goes c.in_ok-installed.installed _ _ (c.in_ok-installed.ensures.finds here)
    (ends_there _ _ _ _ c.from_residual-in_err-lines.result c.in_err-lines.field-0.0 c.from_residual-in_err-lines.ensures.1
    (lines_of _ _ c.as_slice.ensures c.in_ok-installed.installed (Err c.in_err-lines.field-0.0) _ _ (c.in_err-lines.ensures.finds here))))

pub returns-in_err-lines-clause-same : goal.returns-in_err-lines-clause-same
returns-in_err-lines-clause-same g c t =
    same_twice _ _ _ _ _ _ (g.met.D.Disk.obeys c.config_in.new.flash t) (g.met.D.Disk.obeys c.record_in.new.flash t) (c.in_ok-config.ensures.same t) (c.in_ok-installed.ensures.same t) (c.in_err-lines.ensures.same t)

pub returns-in_err-status_lines-clause-answer : goal.returns-in_err-status_lines-clause-answer
returns-in_err-status_lines-clause-answer g c here =
    Goes c.in_ok-config.config _ _ (c.in_ok-config.ensures.finds here) (Goes c.in_ok-installed.installed _ _ (c.in_ok-installed.ensures.finds here)
    (Goes c.in_ok-lines.lines _ _ (lines_of _ _ c.as_slice.ensures c.in_ok-installed.installed (Ok c.in_ok-lines.lines) _ _ (c.in_ok-lines.ensures.finds here))
    (lacks_last _ _ c.from_residual-in_err-status_lines.result c.from_residual-in_err-status_lines.ensures.1)))

pub returns-in_err-status_lines-clause-same : goal.returns-in_err-status_lines-clause-same
returns-in_err-status_lines-clause-same g c t =
    same_twice _ _ _ _ _ _ (g.met.D.Disk.obeys c.config_in.new.flash t) (g.met.D.Disk.obeys c.record_in.new.flash t) (c.in_ok-config.ensures.same t) (c.in_ok-installed.ensures.same t) (c.in_ok-lines.ensures.same t)

pub returns-clause-answer : goal.returns-clause-answer
returns-clause-answer g c here =
    Goes c.in_ok-config.config _ _ (c.in_ok-config.ensures.finds here) (Goes c.in_ok-installed.installed _ _ (c.in_ok-installed.ensures.finds here)
    (Goes c.in_ok-lines.lines _ _ (lines_of _ _ c.as_slice.ensures c.in_ok-installed.installed (Ok c.in_ok-lines.lines) _ _ (c.in_ok-lines.ensures.finds here))
    (Ends c.in_ok-status_lines.field-0 refl (subst (λ (l : List ℕ). TellsStatus c.in_ok-installed.installed l c.in_ok-status_lines.field-0) c.as_str.ensures c.in_ok-status_lines.ensures))))

pub returns-clause-same : goal.returns-clause-same
returns-clause-same g c t =
    same_twice _ _ _ _ _ _ (g.met.D.Disk.obeys c.config_in.new.flash t) (g.met.D.Disk.obeys c.record_in.new.flash t) (c.in_ok-config.ensures.same t) (c.in_ok-installed.ensures.same t) (c.in_ok-lines.ensures.same t)
