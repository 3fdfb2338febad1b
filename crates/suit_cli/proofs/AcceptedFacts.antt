-- Facts about an envelope that was accepted, and where one is not.
use Rattle.std.proofs.Common.{◌≡◌, ◌⊎◌, ◌≤◌, inl, inr, ℕ, List, refl, subst, arith}
use Rattle.suit_commands.specs.Tree.{PlanTree}
use Rattle.suit_manifest.specs.Procedures.{update_tree, invocation_tree}
use Rattle.flash_layout.specs.declared.frame.Frame.{Frame}
use Rattle.flash_layout.specs.declared.key.Key.{Key}
use Rattle.flash_layout.specs.declared.layout.Entry.{Entry}
use Rattle.flash_layout.specs.Frames.{bank_size}
use Rattle.rollback_record.specs.SoundFlash.{key_bytes}
use Rattle.admission.specs.declared.refusal.NotAdmitted.{NotAdmitted}
use Rattle.admission.specs.declared.refusal.NotAdmitted.TheVariants as refusals
use Rattle.admission.specs.declared.refusal.Procedure.TheVariants as procedures
use Rattle.admission.specs.Admission.{Admission, IsComplete, IsNotAdmitted}
use Rattle.admission.specs.Judging.{AreNarrow}
use Rattle.suit_cli.specs.declared.reply.Outcome.TheVariants as outcomes
use Rattle.suit_cli.specs.declared.reply.Reply.{Reply}
use Rattle.suit_cli.specs.Outside.{Outside, with_flash}
use Rattle.suit_cli.specs.Stages.{Says, Goes, Declines, Ends}
use Rattle.suit_cli.specs.Inputs.{longest_file, IsAbsent, IsRead, IsTooLong, IsUnread}
use Rattle.suit_cli.specs.Holding.{HasProcedures}
use Rattle.suit_cli.specs.Refusals.{TellsRefusal}
use Rattle.suit_cli.specs.Judgement.{ShowUnsafe, UpdateUnsafe, InvocationUnsafe}
use Rattle.suit_cli.specs.Acceptance.{Accepted, IsAccepted, Meets}
use Rattle.suit_cli.specs.Commands.{begins_update}
use Rattle.suit_cli.proofs.Running.{Declining, declining, holds_none_declines, unread_declines}

-- ---- accepted

-- what a bank holds may be shown
bank_shown : (frame : Frame) → bank_size frame ≤ 65536
bank_shown frame = grind arith

pub facts : (frame : Frame) (layout : List Entry) (key : Key) (bytes : List ℕ) (a : Accepted) → IsAccepted frame layout key bytes a → Meets frame layout key bytes a
facts frame layout key bytes a is =
    let offered = is.complete.offered in
    let within = offered.are_authentic.within in
    record {
      are_bytes = within.spell.are_bytes;
      envelope = within.spell.envelope;
      is_short = within.short;
      authentic = offered.are_authentic.authentic;
      says = offered.says;
      placed = is.complete.placed;
      members = is.complete.members;
      update_narrow = is.safe.narrow.update_narrow;
      invocation_narrow = is.safe.narrow.invocation_narrow;
      are_safe = record { update_safe = is.safe.update_safe; invocation_safe = is.safe.invocation_safe };
    }

-- ---- a reply of `run update` before it begins

-- one procedure is not safe, and the lines show a path of the first one
pub record AreUnsafe (update invocation : PlanTree) (r : Reply) : Type 0 where
  pub outcome_is : r.outcome ≡ outcomes.Unsafe
  pub shows_path : ShowUnsafe update invocation r.text

-- the file has procedures that are not safe
pub record IsUnsafeFile (name : List ℕ) (before : Outside) (r : Reply) : Type 0 where
  pub update : PlanTree
  pub invocation : PlanTree
  pub has : HasProcedures name before update invocation
  pub unsafe : AreUnsafe update invocation r

module _ (name : List ℕ) (b m : Outside) (r : Reply) (same : m ≡ with_flash b m.flash) where
  pub read_before : (bytes : List ℕ) → IsRead longest_file name m bytes → IsRead longest_file name b bytes
  read_before bytes is =
      let there : IsRead longest_file name (with_flash b m.flash) bytes = subst (λ (o : Outside). IsRead longest_file name o bytes) same is in
      record { holds = there.holds; fits = there.fits }

  pub unread_before : IsUnread longest_file name m r → IsUnread longest_file name b r
  unread_before is = again (subst (λ (o : Outside). IsUnread longest_file name o r) same is) where
    again : IsUnread longest_file name (with_flash b m.flash) r → IsUnread longest_file name b r
    again (IsAbsent none says) = IsAbsent none says
    again (IsTooLong long says) = IsTooLong long says

  module _ (frame : Frame) (layout : List Entry) (key : Key) (bytes : List ℕ) (read : IsRead longest_file name m bytes) where
    unsafe_file : (x : Admission) → IsComplete (bank_size frame) layout (key_bytes key) bytes x → AreNarrow (update_tree x.manifest x.members) (invocation_tree x.manifest)
        → AreUnsafe (update_tree x.manifest x.members) (invocation_tree x.manifest) r → IsUnsafeFile name b r
    unsafe_file x is narrow unsafe =
        let within = is.offered.are_authentic.within in
        record {
          update = update_tree x.manifest x.members;
          invocation = invocation_tree x.manifest;
          has = record {
            said = x.said;
            manifest = x.manifest;
            members = x.members;
            has_manifest = record {
              in_envelope = record { bytes = bytes; read = read_before bytes read; are_bytes = within.spell.are_bytes; envelope = within.spell.envelope };
              is_short = omega (arith, within.short, bank_shown frame);
              says = is.offered.says;
            };
            has_members = is.members;
            update_is = refl;
            invocation_is = refl;
            update_narrow = narrow.update_narrow;
            invocation_narrow = narrow.invocation_narrow;
          };
          unsafe = unsafe;
        }

    of_refusal : (refusal : NotAdmitted) → IsNotAdmitted (bank_size frame) layout (key_bytes key) bytes refusal → TellsRefusal r refusal → Declining r.outcome ⊎ IsUnsafeFile name b r
    of_refusal (refusals.NoEnvelope x) is says = inl (declining r _ _ says tt)
    of_refusal (refusals.TooLong size) is says = inl (declining r _ _ says tt)
    of_refusal (refusals.NotAuthentic answer) is says = inl (declining r _ _ says tt)
    of_refusal (refusals.NoManifest x) is says = inl (declining r _ _ says tt)
    of_refusal (refusals.UnknownComponent component) is says = inl (declining r _ _ says tt)
    of_refusal (refusals.Severed member) is says = inl (declining r _ _ says tt)
    of_refusal (refusals.Differs member stated found) is says = inl (declining r _ _ says tt)
    of_refusal (refusals.NoSequence x) is says = inl (declining r _ _ says tt)
    of_refusal (refusals.TooWide procedure width) is says = inl (declining r _ _ says tt)
    of_refusal (refusals.Unsafe procedures.Update path) is says =
        inr (unsafe_file is.of is.complete is.refuses.0 (record { outcome_is = says.outcome_is; shows_path = UpdateUnsafe path is.refuses.1 says.text_is }))
    of_refusal (refusals.Unsafe procedures.Invocation path) is says =
        inr (unsafe_file is.of is.complete is.refuses.0 (record { outcome_is = says.outcome_is; shows_path = InvocationUnsafe path is.refuses.1 is.refuses.2 says.text_is }))
    of_refusal refusals.NoMemory is says = absurd is

pub began : (name : List ℕ) (b a : Outside) (r : Reply) → begins_update name b a (Says r) → Declining r.outcome ⊎ IsUnsafeFile name b r
began name b a r (Declines _ d) = inl (holds_none_declines _ r d.1)
began name b a r (Goes config m0 _ held (Declines _ d)) = inl (unread_declines _ _ _ r d.1)
began name b a r (Goes config m0 _ held (Goes bytes m1 _ read (Declines _ d))) =
    of_refusal name b m0 r held.0.beside config.2 config.0 config.1 bytes read.1 d.1.refusal d.1.refused d.1.says
began name b a r (Goes config m0 _ held (Goes bytes m1 _ read (Goes accepted m2 _ given (Ends _ same says)))) = absurd says
