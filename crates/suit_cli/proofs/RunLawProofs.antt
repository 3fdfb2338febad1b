-- The laws of a run.
use Rattle.suit_envelope.specs.EnvelopeLaws.{EnvelopeLaws}
use Rattle.suit_manifest.specs.ManifestLaws.{ManifestLaws}
use Rattle.suit_manifest.specs.MembersLaws.{MembersLaws}
use Rattle.rollback_record.specs.RecordLaws.{SomeAnswer}
use Rattle.suit_cli.specs.RunLaws.{RunLaws}
use Rattle.suit_cli.proofs.RunEnds as ends

pub run_laws : SomeAnswer → EnvelopeLaws → ManifestLaws → MembersLaws → RunLaws
run_laws records envelopes manifests members words before after sb sa result runs =
    let l = before.launcher in
    let m = after.launcher in
    let b = before.outside in
    let a = after.outside in record {
      yes = ends.yes words l m b a sb sa result runs;
      safe_is_yes = ends.safe_is_yes words l m b a sb sa result runs envelopes manifests members;
      no = ends.no_path words l m b a sb sa result runs;
      unsafe_is_no = ends.unsafe_is_no words l m b a sb sa result runs envelopes manifests members;
      stays = ends.stays words l m b a sb sa result runs;
      asks = ends.asks words l m b a sb sa result runs;
      counts = ends.counts words l m b a sb sa result runs;
      usage = ends.usage words l m b a sb sa result runs;
      no_command_is_usage = ends.no_command_is_usage words l m b a sb sa result runs;
      status = ends.is_status words l m b a sb sa result runs;
      cut_off = ends.cut_off words l m b a sb sa result runs;
      starved = ends.starved words l m b a sb sa result runs records;
      no_host = ends.no_host words l m b a sb sa result runs;
      only_launching = ends.only_launching words l m b a sb sa result runs;
    }
