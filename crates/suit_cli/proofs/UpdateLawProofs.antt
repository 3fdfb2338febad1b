-- The laws of `run update`, from its stages.
use Rattle.std.proofs.Common.{◌≡◌, inl, inr, ℕ, List, refl, sym, subst}
use Rattle.std.specs.Prelude.{IsTrue}
use Rattle.suit_envelope.specs.Authentic.{TellSame}
use Rattle.suit_envelope.specs.declared.authenticity.Authenticity.{Authenticity}
use Rattle.suit_envelope.specs.declared.authenticity.Authenticity.TheVariants as authenticities
use Rattle.flash_layout.specs.declared.frame.Frame.{Frame}
use Rattle.flash_layout.specs.declared.key.Key.{Key}
use Rattle.flash_layout.specs.declared.layout.Entry.{Entry}
use Rattle.flash_layout.specs.ConfigLaws.{OneAnswer}
use Rattle.flash_layout.specs.Frames.{bank_size}
use Rattle.rollback_record.specs.SoundFlash.{key_bytes}
use Rattle.admission.specs.declared.refusal.NotAdmitted.{NotAdmitted}
use Rattle.admission.specs.declared.refusal.NotAdmitted.TheVariants as refusals
use Rattle.admission.specs.AdmissionLaws.{AdmittingLaws, RefuseAlike}
use Rattle.suit_cli.specs.declared.reply.Reply.{Reply}
use Rattle.suit_cli.specs.declared.reply.Outcome.TheVariants as outcomes
use Rattle.suit_cli.specs.Replies.{IsReply}
use Rattle.suit_cli.specs.Texts.{authenticity_line}
use Rattle.suit_cli.specs.Refusals.{TellsRefusal}
use Rattle.suit_cli.specs.Outside.{Outside}
use Rattle.suit_cli.specs.Stages.{Declines, Ends, Goes, Says}
use Rattle.suit_cli.specs.Inputs.{IsRead, IsUnread, longest_file}
use Rattle.suit_cli.specs.Installed.{Holds, HoldsNone}
use Rattle.suit_cli.specs.Commands.{begins_update}
use Rattle.suit_cli.specs.Acceptance.{Accepted, IsAccepted, IsDeclined}
use Rattle.suit_cli.specs.CommandCauses.{SameButPath}
use Rattle.suit_cli.specs.UpdateCauses.{AtBytes, AtConfig, AtFile, UpdateSays}
use Rattle.suit_cli.specs.UpdateLaws.{UpdateLaws}
use Rattle.suit_cli.proofs.OneAnswers.{one_config}
use Rattle.suit_cli.proofs.OneCause.{Behind, Stops, Passes, HasOne, one_way, passes}
use Rattle.suit_cli.proofs.OneStage.{one_file, one_reply}
use Rattle.suit_cli.proofs.AcceptedFacts.{read_before, unread_before}

-- ---- refusals that are alike are told alike, but for the path

same_line : (a b : Authenticity) → TellSame a b → authenticity_line a ≡ authenticity_line b
same_line authenticities.Yes authenticities.Yes same = refl
same_line authenticities.NoMac authenticities.NoMac same = refl
same_line (authenticities.DigestDiffers s f) (authenticities.DigestDiffers t g) same = refl
same_line (authenticities.MacDiffers e f) (authenticities.MacDiffers d g) same = refl
same_line _ _ same = absurd same

module _ (r q : Reply) where
  same_told : (x y : NotAdmitted) → RefuseAlike x y → TellsRefusal r x → TellsRefusal q y → SameButPath r q
  same_told (refusals.NoEnvelope x) (refusals.NoEnvelope y) same first second =
      inl (one_reply r q _ _ first (subst (λ (z : _). TellsRefusal q (refusals.NoEnvelope z)) (sym same) second))
  same_told (refusals.TooLong m) (refusals.TooLong n) same first second = inl (one_reply r q _ _ first second)
  same_told (refusals.NotAuthentic a) (refusals.NotAuthentic b) same first second =
      inl (one_reply r q _ _ first (subst (λ (line : List ℕ). IsReply q outcomes.NotAuthentic line) (sym (same_line a b same)) second))
  same_told (refusals.NoManifest x) (refusals.NoManifest y) same first second =
      inl (one_reply r q _ _ first (subst (λ (z : _). TellsRefusal q (refusals.NoManifest z)) (sym same) second))
  same_told (refusals.UnknownComponent i) (refusals.UnknownComponent j) same first second =
      inl (one_reply r q _ _ first (subst (λ (z : ℕ). TellsRefusal q (refusals.UnknownComponent z)) (sym same) second))
  same_told (refusals.Severed n) (refusals.Severed o) same first second =
      inl (one_reply r q _ _ first (subst (λ (z : _). TellsRefusal q (refusals.Severed z)) (sym same) second))
  same_told (refusals.Differs n s f) (refusals.Differs o t g) same first second =
      inl (one_reply r q _ _ first (subst (λ (z : _). TellsRefusal q (refusals.Differs z t g)) (sym same.0) second))
  same_told (refusals.NoSequence x) (refusals.NoSequence y) same first second =
      inl (one_reply r q _ _ first (subst (λ (z : _). TellsRefusal q (refusals.NoSequence z)) (sym same) second))
  same_told (refusals.TooWide p w) (refusals.TooWide o v) same first second =
      inl (one_reply r q _ _ first (subst (λ (z : ℕ). TellsRefusal q (refusals.TooWide o z)) (sym same.1) second))
  same_told (refusals.Unsafe p x) (refusals.Unsafe o y) same first second = inr (first.outcome_is, second.outcome_is)
  same_told refusals.NoMemory refusals.NoMemory same first second = absurd first
  same_told _ _ same first second = absurd same

module _ (laws : AdmittingLaws) (frame : Frame) (layout : List Entry) (key : Key) (bytes : List ℕ) where
  -- one cause stands
  same_cause : (r q : Reply) → IsDeclined frame layout key bytes r → IsDeclined frame layout key bytes q → SameButPath r q
  same_cause r q x y = same_told r q x.refusal y.refusal (laws.one_refusal (bank_size frame) layout (key_bytes key) bytes x.refusal y.refusal x.refused y.refused) x.says y.says

  -- and none where the bytes are accepted
  accepted_not : (a : Accepted) (q : Reply) → IsAccepted frame layout key bytes a → IsDeclined frame layout key bytes q → ⊥
  accepted_not a q is not = laws.never_both (bank_size frame) layout (key_bytes key) bytes a not.refusal is not.refused

-- ---- the command

says_update : (name : List ℕ) (b a : Outside) (r : Reply) → begins_update name b a (Says r) → UpdateSays name b r
says_update name b a r (Declines _ d) = AtConfig d.1
says_update name b a r (Goes config m0 _ held (Declines _ d)) = AtFile config held.1 (unread_before name b m0 r held.0.beside d.1)
says_update name b a r (Goes config m0 _ held (Goes bytes m1 _ read (Declines _ d))) =
    AtBytes config bytes held.1 (read_before name b m0 r held.0.beside bytes read.1) d.1
says_update name b a r (Goes config m0 _ held (Goes bytes m1 _ read (Goes accepted m2 _ given (Ends _ same says)))) = absurd says

module _ (configs : OneAnswer) (laws : AdmittingLaws) (name : List ℕ) (b : Outside) (told : IsTrue b.told) (flash_told : IsTrue b.flash.told) where
  -- the stages, as the start has them
  abbrev Begins : Reply → Type 0
  Begins =
      Behind (Holds b.flash) (HoldsNone b.flash) (λ config.
      Behind (IsRead longest_file name b) (IsUnread longest_file name b) (λ bytes. IsDeclined config.2 config.0 config.1 bytes))

  stages_of : (r : Reply) → UpdateSays name b r → Begins r
  stages_of r (AtConfig none) = Stops none
  stages_of r (AtFile config held unread) = Passes config held (Stops unread)
  stages_of r (AtBytes config bytes held read cause) = Passes config held (Passes bytes read cause)

  one_held : HasOne (Holds b.flash) (HoldsNone b.flash)
  one_held = one_config configs b.flash flash_told

  one_bytes : HasOne (IsRead longest_file name b) (IsUnread longest_file name b)
  one_bytes = one_file longest_file name b told

  one_beginning : (r q : Reply) → UpdateSays name b r → UpdateSays name b q → SameButPath r q
  one_beginning r q first second =
      one_way _ _ _ _ one_held SameButPath (λ x y same. inl same) (λ config held. one_way _ _ _ _ one_bytes SameButPath (λ x y same. inl same) (λ bytes read. same_cause laws config.2 config.0 config.1 bytes))
      r q (stages_of r first) (stages_of q second)

  accepted_no_reply : (config : List Entry × Key × Frame) (bytes : List ℕ) (y : Accepted) (q : Reply) → Holds b.flash config → IsRead longest_file name b bytes → IsAccepted config.2 config.0 config.1 bytes y
      → UpdateSays name b q → ⊥
  accepted_no_reply config bytes y q held read accepted says =
      accepted_not laws config.2 config.0 config.1 bytes y q accepted (passes _ _ _ one_bytes bytes q read (passes _ _ _ one_held config q held (stages_of q says)))

pub update_laws : OneAnswer → AdmittingLaws → UpdateLaws
update_laws configs laws = record {
  only = λ name b a r answer. says_update name b a r answer;
  always = λ name b a r q told flash_told says answer. one_beginning configs laws name b told flash_told r q says (says_update name b a q answer);
  accepted = λ name b a config bytes y q told flash_told held read accepted answer.
      accepted_no_reply configs laws name b told flash_told config bytes y q held read accepted (says_update name b a q answer);
}
