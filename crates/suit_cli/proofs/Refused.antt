-- Refusals that are told end the stage that they stand at.
use Rattle.std.proofs.Common.{◌≡◌, ◌≢◌, ℕ, List, Err, refl, subst}
use Rattle.std.specs.Prelude.{codes}
use Rattle.suit_commands.specs.Tree.{PlanTree}
use Rattle.suit_envelope.specs.Envelopes.{EnvelopeSays}
use Rattle.suit_manifest.specs.declared.manifest.Manifest.{Manifest}
use Rattle.suit_manifest.specs.declared.manifest.Members.{Members}
use Rattle.suit_manifest.specs.MembersApart.{HasMembers}
use Rattle.suit_manifest.specs.Procedures.{update_tree, invocation_tree}
use Rattle.flash_layout.specs.declared.frame.Frame.{Frame}
use Rattle.flash_layout.specs.declared.key.Key.{Key}
use Rattle.flash_layout.specs.declared.layout.Entry.{Entry}
use Rattle.flash_layout.specs.Frames.{bank_size}
use Rattle.rollback_record.specs.SoundFlash.{key_bytes}
use Rattle.admission.specs.declared.refusal.NotAdmitted.{NotAdmitted}
use Rattle.admission.specs.declared.refusal.NotAdmitted.TheVariants as refusals
use Rattle.admission.specs.declared.refusal.NotOpened.{NotOpened}
use Rattle.admission.specs.declared.refusal.NotOpened.TheVariants as not_opened
use Rattle.admission.specs.declared.refusal.NotSafe.{NotSafe}
use Rattle.admission.specs.declared.refusal.NotSafe.TheVariants as not_safe
use Rattle.admission.specs.declared.refusal.Procedure.TheVariants as procedures
use Rattle.admission.specs.Admission.{IsNotAdmitted}
use Rattle.admission.specs.Judging as judging
use Rattle.admission.specs.Opening.{IsNotOpened}
use Rattle.admission.specs.Refusals.{of_opening, of_procedures}
use Rattle.suit_cli.specs.declared.reply.Reply.{Reply}
use Rattle.suit_cli.specs.declared.reply.Outcome.TheVariants as outcomes
use Rattle.suit_cli.specs.declared.reply.Stop.{Stop}
use Rattle.suit_cli.specs.declared.reply.Stop.TheVariants as stops
use Rattle.suit_cli.specs.Outside.{Outside}
use Rattle.suit_cli.specs.Replies.{IsReply}
use Rattle.suit_cli.specs.Refusals.{StopsAs, TellsRefusal}
use Rattle.suit_cli.specs.Stages.{Ending, Says, Goes, Declines, Lacks, Last, Ends, Does, ending_of, ◌>>=◌}
use Rattle.suit_cli.specs.Texts.{too_wide_line}
use Rattle.suit_cli.specs.Acceptance.{accepts}
use Rattle.suit_cli.specs.Judgement.{AreJudged, IsWide, InvocationUnsafe, JudgedSafe, JudgedUnsafe, UpdateUnsafe, narrow}
use Rattle.suit_cli.specs.Inputs.{longest_shown}
use Rattle.suit_cli.specs.Commands.{in_file, judges_manifest}
use Rattle.suit_cli.specs.Opening.{never}

-- ---- an update

is_refusal : (refusal : NotAdmitted) (reply : Reply) → TellsRefusal reply refusal → refusal ≢ refusals.NoMemory
is_refusal refusal reply says same = subst (λ (r : NotAdmitted). TellsRefusal reply r) same says

pub accepting_stops : (frame : Frame) (layout : List Entry) (key : Key) (limit : ℕ) (word bytes : List ℕ) (refusal : NotAdmitted) (stop : Stop) → limit ≡ bank_size frame → word ≡ key_bytes key
    → (refusal ≢ refusals.NoMemory → IsNotAdmitted limit layout word bytes refusal) → StopsAs refusal stop → (here : Outside) → Does (accepts frame layout key bytes) here here (Err stop)
accepting_stops frame layout key limit word bytes refusal (stops.Declined reply) room same is says here =
    let refused = subst (λ (k : List ℕ). IsNotAdmitted limit layout k bytes refusal) same (is (is_refusal refusal reply says)) in
    (refl, record { refusal = refusal; refused = subst (λ (n : ℕ). IsNotAdmitted n layout (key_bytes key) bytes refusal) room refused; says = says })
accepting_stops frame layout key limit word bytes refusal (stops.Fault object) room same is says here = absurd says
accepting_stops frame layout key limit word bytes refusal stops.NoMemory room same is says here = refl

-- ---- up to the manifest

pub opening_stops : (bytes : List ℕ) (refusal : NotOpened) (stop : Stop) → (refusal ≢ not_opened.NoMemory → IsNotOpened longest_shown bytes refusal) → StopsAs (of_opening refusal) stop
    → (here : Outside) → in_file bytes never here here (ending_of (Err stop))
opening_stops bytes refusal stops.NoMemory is says here = Lacks refl
opening_stops bytes refusal (stops.Fault object) is says here = absurd says
opening_stops bytes (not_opened.NoEnvelope r) (stops.Declined reply) is says here =
    let x = is (λ (same : not_opened.NoEnvelope r ≡ not_opened.NoMemory). absurd cc) in
    Declines reply (refl, (x.are_bytes, record { refusal = r; refuses = x.refuses; says = says }))
opening_stops bytes (not_opened.TooLong size) (stops.Declined reply) is says here =
    let x = is (λ (same : not_opened.TooLong size ≡ not_opened.NoMemory). absurd cc) in
    Goes x.said here (Says reply) (refl, (x.spell.are_bytes, x.spell.envelope)) (Declines reply (refl, record { long = x.long; says = says }))
opening_stops bytes (not_opened.NoManifest r) (stops.Declined reply) is says here =
    let x = is (λ (same : not_opened.NoManifest r ≡ not_opened.NoMemory). absurd cc) in
    Goes x.said here (Says reply) (refl, (x.within.spell.are_bytes, x.within.spell.envelope)) (Goes tt here (Says reply) (refl, x.within.short)
    (Declines reply (refl, record { refusal = r; refuses = x.refuses; says = says })))
opening_stops bytes not_opened.NoMemory (stops.Declined reply) is says here = absurd says

-- ---- both procedures

wide_told : (plan : PlanTree) (width : ℕ) (reply : Reply) → judging.IsWide plan width → IsReply reply outcomes.TooWide (too_wide_line width) → IsWide plan reply
wide_told plan width reply wide says =
    record { wide = wide.wide; says = subst (λ (n : ℕ). IsReply reply outcomes.TooWide (too_wide_line n)) wide.width_is says }

module _ (said : EnvelopeSays) (manifest : Manifest) (members : Members) (has : HasMembers said manifest members) (here : Outside) where
  abbrev u : PlanTree
  u = update_tree manifest members

  abbrev i : PlanTree
  i = invocation_tree manifest

  behind_members : (e : Ending) → (narrow u >>= λ _. narrow i >>= λ _. Last (AreJudged u i)) here here e → judges_manifest said manifest here here e
  behind_members e rest = Goes members here e (refl, has) rest

  behind_widths : judging.AreNarrow u i → (e : Ending) → Last (AreJudged u i) here here e → judges_manifest said manifest here here e
  behind_widths both e last = behind_members e (Goes tt here e (refl, both.update_narrow) (Goes tt here e (refl, both.invocation_narrow) last))

  pub judging_stops : (refusal : NotSafe) (stop : Stop) → (refusal ≢ not_safe.NoMemory → judging.IsNotSafe u i refusal) → StopsAs (of_procedures refusal) stop
      → judges_manifest said manifest here here (ending_of (Err stop))
  judging_stops refusal stops.NoMemory is says = Lacks refl
  judging_stops refusal (stops.Fault object) is says = absurd says
  judging_stops (not_safe.TooWide procedures.Update width) (stops.Declined reply) is says =
      let x = is (λ (same : not_safe.TooWide procedures.Update width ≡ not_safe.NoMemory). absurd cc) in
      behind_members (Says reply) (Declines reply (refl, wide_told u width reply x says))
  judging_stops (not_safe.TooWide procedures.Invocation width) (stops.Declined reply) is says =
      let x = is (λ (same : not_safe.TooWide procedures.Invocation width ≡ not_safe.NoMemory). absurd cc) in
      behind_members (Says reply) (Goes tt here (Says reply) (refl, x.0) (Declines reply (refl, wide_told i width reply x.1 says)))
  judging_stops (not_safe.Unsafe procedures.Update path) (stops.Declined reply) is says =
      let x = is (λ (same : not_safe.Unsafe procedures.Update path ≡ not_safe.NoMemory). absurd cc) in
      behind_widths x.0 (Says reply) (Ends reply refl (JudgedUnsafe says.outcome_is (UpdateUnsafe path x.1 says.text_is)))
  judging_stops (not_safe.Unsafe procedures.Invocation path) (stops.Declined reply) is says =
      let x = is (λ (same : not_safe.Unsafe procedures.Invocation path ≡ not_safe.NoMemory). absurd cc) in
      behind_widths x.0 (Says reply) (Ends reply refl (JudgedUnsafe says.outcome_is (InvocationUnsafe path x.1 x.2 says.text_is)))
  judging_stops not_safe.NoMemory (stops.Declined reply) is says = absurd says

  pub judges_safe : judging.AreSafe u i → (reply : Reply) → IsReply reply outcomes.Done (codes "update safe\ninvocation safe\n")
      → judges_manifest said manifest here here (Says reply)
  judges_safe safe reply says =
      behind_widths safe.narrow (Says reply) (Ends reply refl (JudgedSafe (record { update_safe = safe.update_safe; invocation_safe = safe.invocation_safe }) says))
