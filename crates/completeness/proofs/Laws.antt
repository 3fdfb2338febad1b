-- The laws of completeness.
use Rattle.std.proofs.Common.{ℕ, List, ap}
use Rattle.suit_envelope.specs.EnvelopeLaws.{EnvelopeLaws}
use Rattle.suit_manifest.specs.ManifestLaws.{ManifestLaws}
use Rattle.suit_manifest.specs.MembersLaws.{MembersLaws}
use Rattle.flash_layout.specs.declared.frame.Frame.{Frame}
use Rattle.flash_layout.specs.declared.key.Key.{Key}
use Rattle.flash_layout.specs.declared.layout.Entry.{Entry}
use Rattle.flash_layout.specs.ConfigLaws.{OneAnswer as OneConfigAnswer}
use Rattle.rollback_record.specs.RecordLaws.{OneAnswer, SomeAnswer}
use Rattle.invoke_proc.specs.BootLaws.{BootLaws}
use Rattle.suit_cli.specs.Acceptance.{Accepted, IsAccepted}
use Rattle.suit_cli.specs.Coming.{ended_status}
use Rattle.suit_cli.specs.LifeLaws.{SoundnessLaws}
use Rattle.suit_cli.specs.MigrateLaws.{MigrateLaws}
use Rattle.suit_cli.specs.UpdateLaws.{UpdateLaws}
use Rattle.suit_cli.proofs.AcceptedFacts.{facts}
use Rattle.completeness.specs.Boots.{BootsWhole}
use Rattle.completeness.specs.Migrations.{MigratesWhole}
use Rattle.completeness.specs.Updates.{Installs, Meets}
use Rattle.completeness.specs.CompletenessLaws.{CompletenessLaws}
use Rattle.completeness.proofs.BootProofs.{boot_completes, only_boot}
use Rattle.completeness.proofs.MigrateProofs.{migrate_completes, only_migrate}
use Rattle.completeness.proofs.Premises.{can_activate, can_set}
use Rattle.completeness.proofs.Runs.{ends_well, says_so}
use Rattle.completeness.proofs.UpdateProofs.{only_update, update_completes}

module _ (frame : Frame) (layout : List Entry) (key : Key) (bytes : List ℕ) (a : Accepted) where
  meets : IsAccepted frame layout key bytes a → Meets frame layout key bytes a
  meets = facts frame layout key bytes a

  accepted : Meets frame layout key bytes a → IsAccepted frame layout key bytes a
  accepted m = record {
    complete = record {
      offered = record {
        are_authentic = record { within = record { spell = record { are_bytes = m.are_bytes; envelope = m.envelope }; short = m.is_short }; authentic = m.authentic };
        says = m.says;
      };
      placed = m.placed;
      members = m.members;
    };
    safe = record {
      narrow = record { update_narrow = m.update_narrow; invocation_narrow = m.invocation_narrow };
      update_safe = m.are_safe.update_safe;
      invocation_safe = m.are_safe.invocation_safe;
    };
  }

pub completeness_laws : OneConfigAnswer → OneAnswer → SomeAnswer → EnvelopeLaws → ManifestLaws → MembersLaws → BootLaws → UpdateLaws → MigrateLaws → SoundnessLaws → CompletenessLaws
completeness_laws configs records some envelopes manifests members boots updates migrations soundness = record {
  accepts = λ frame layout key bytes a. (meets frame layout key bytes a, accepted frame layout key bytes a);
  can_set = can_set;
  can_activate = can_activate;
  update = λ words l n b a ended ready faultless comes. update_completes configs envelopes manifests members updates words l n b a ready ended faultless comes;
  update_ends = λ words l n b a sb sa result ready faultless runs. ends_well _ _ sb sa result runs.ended (λ done. ap ended_status done.ended_is) (λ starved. starved.lacks.status)
      (update_completes configs envelopes manifests members updates words l n b a ready runs.ended faultless runs.comes) runs.puts;
  only_update = λ words l n b a ended asks told comes zero.
      only_update configs envelopes manifests members updates some words l n b a told ended asks comes zero;
  update_says = λ words l n b a sb sa asks told runs.
      says_so (λ ready. Installs words l b ready n a) sb sa runs.ended
      (only_update configs envelopes manifests members updates some words l n b a told runs.ended asks runs.comes) runs.puts;
  boot = λ words l n b a ended ready faultless comes. boot_completes configs records boots words l n b a ready ended faultless comes;
  boot_ends = λ words l n b a sb sa result ready faultless runs. ends_well _ _ sb sa result runs.ended (λ done. ap ended_status done.ended_is) (λ starved. starved.lacks.status)
      (boot_completes configs records boots words l n b a ready runs.ended faultless runs.comes) runs.puts;
  only_boot = λ words l n b a ended of told comes zero. only_boot configs records boots soundness words l n b a told of.asks of.size of.sound ended comes zero;
  boot_says = λ words l n b a sb sa of told runs. says_so (λ ready. BootsWhole words l b ready n a) sb sa runs.ended
      (only_boot configs records boots soundness words l n b a told of.asks of.size of.sound runs.ended runs.comes) runs.puts;
  migrate = λ words l n b a ended ready faultless comes. migrate_completes migrations words l n b a ready faultless ended comes;
  migrate_ends = λ words l n b a sb sa result ready faultless runs. ends_well _ _ sb sa result runs.ended (λ done. done.status) (λ starved. starved.lacks.status)
      (migrate_completes migrations words l n b a ready faultless runs.ended runs.comes) runs.puts;
  only_migrate = λ words l n b a ended asks told comes zero. only_migrate migrations words l n b a asks.0 asks.1 told ended comes zero;
  migrate_says = λ words l n b a sb sa asks told runs. says_so (λ ready. MigratesWhole words l b ready n a) sb sa runs.ended
      (only_migrate migrations words l n b a asks.0 asks.1 told runs.ended runs.comes) runs.puts;
}
