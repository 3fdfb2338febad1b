-- How the code's steps make a chain of stages.
use Rattle.std.proofs.Common.{◌≡◌, ℕ, Bool, List, [], None, false, Result, Ok, Err, refl, sym, subst}
use Rattle.std.specs.Result.{IsErrAnd}
use Rattle.std.specs.Prelude.{IfErr, IfOk, OnOk}
use Rattle.std.specs.declared.alloc.AllocError.{AllocError}
use Rattle.suit_envelope.specs.Envelopes.{EnvelopeSays}
use Rattle.suit_cli.specs.declared.reply.Outcome.TheVariants as outcomes
use Rattle.suit_manifest.specs.declared.manifest.Manifest.{Manifest}
use Rattle.suit_manifest.specs.declared.manifest.Members.{Members}
use Rattle.suit_manifest.specs.declared.members.MemberFault.{MemberFault}
use Rattle.suit_manifest.specs.declared.members.MemberFault.TheVariants as faults
use Rattle.suit_manifest.specs.MembersApart.{HasMembers, LacksMembers, IsLackBy}
use Rattle.suit_cli.specs.declared.reply.Reply.{Reply}
use Rattle.suit_cli.specs.declared.reply.Stop.{Stop}
use Rattle.suit_cli.specs.declared.reply.Stop.TheVariants as stops
use Rattle.suit_cli.specs.Outside.{Files, Flashed, Outside}
use Rattle.suit_cli.specs.Stages.{Ending, Answers, Stage, Then, Goes, Declines, Faults, Lacks, Last, EndsWithout, Does, Finds, ending_of}
use Rattle.suit_cli.specs.Replies.{Makes, stop_of}
use Rattle.suit_cli.specs.Texts.{usage_line}
use Rattle.suit_cli.specs.Words.{task_of}
use Rattle.command_words.specs.declared.command.Command.{Command}
use Rattle.command_words.specs.Said.{said}
use Rattle.suit_cli.specs.Program.{task_in, answers}
use Rattle.suit_cli.specs.Envelopes.{members_in}
use Rattle.admission.specs.Refusals.{of_members}
use Rattle.suit_cli.specs.Refusals.{StopsAs}
use Rattle.suit_cli.specs.Accepting.{IsTaken}
use Rattle.suit_cli.specs.Commands.{shows_file, does}

-- a judgement stands anywhere
pub anywhere : Outside
anywhere = record { told = false; files = λ name. None; pulled = 0; asked = []; faults = 0; flash = record { told = false; size = 0; reads = []; faults = 0 } }

-- the flash at a moment, by the parts that a disk tells
abbrev pub flash_at : Bool → ℕ → List ℕ → ℕ → Flashed
flash_at told size reads faults = record { told = told; size = size; reads = reads; faults = faults }

-- the outside at a moment, by the parts that a host tells, and a flash beside it
abbrev pub outside_at : Bool → Files → ℕ → List (List ℕ) → ℕ → Flashed → Outside
outside_at told files pulled asked faults flash =
    record { told = told; files = files; pulled = pulled; asked = asked; faults = faults; flash = flash }

-- a step ends as the stop tells
pub stops_with : {A : Type 0} (stage : Stage A) (b a : Outside) (result : Result A Stop) (stop : Stop) → IsErrAnd result (λ e. e ≡ stop) → Does stage b a (Err stop) → Does stage b a result
stops_with stage b a (Ok x) stop is does = absurd is
stops_with stage b a (Err other) stop is does = subst (λ (s : Stop). Does stage b a (Err s)) (sym is) does

module _ {A : Type 0} (stage : Stage A) (next : A → Answers) (before after : Outside) where
  pub stopped : (stop : Stop) → Does stage before after (Err stop) → Then stage next before after (ending_of (Err stop))
  stopped (stops.Declined reply) does = Declines reply does
  stopped (stops.Fault object) does = Faults object does
  stopped stops.NoMemory does = Lacks does

  -- the answer ends at a stage
  pub ends_there : (result : Result Reply Stop) (stop : Stop) → IsErrAnd result (λ e. e ≡ stop) → Does stage before after (Err stop) → Then stage next before after (ending_of result)
  ends_there (Ok reply) stop is does = absurd is
  ends_there (Err other) stop is does = subst (λ (s : Stop). Then stage next before after (ending_of (Err s))) (sym is) (stopped stop does)

-- the first stage goes on, and the answer ends at the second
pub ends_second : {A B : Type 0} (stage : Stage A) (behind : A → Stage B) (next : A → B → Answers) (before middle after : Outside) (a : A) → stage.gives before middle a
    → (result : Result Reply Stop) (stop : Stop) → IsErrAnd result (λ e. e ≡ stop) → Does (behind a) middle after (Err stop) → Then stage (λ x. Then (behind x) (next x)) before after (ending_of result)
ends_second stage behind next before middle after a gives result stop is does =
    Goes a middle (ending_of result) gives (ends_there (behind a) (next a) middle after result stop is does)

-- because memory ran out, at the last one
pub lacks_last : (says : Reply → Type 0) (here : Outside) (result : Result Reply Stop) → IsErrAnd result (λ e. e ≡ stops.NoMemory) → Last says here here (ending_of result)
lacks_last says here (Ok reply) is = absurd is
lacks_last says here (Err stop) is = subst (λ (s : Stop). Last says here here (ending_of (Err s))) (sym is) (EndsWithout refl)

-- a member that is not taken is told
member_told : (said : EnvelopeSays) (manifest : Manifest) (fault : MemberFault) (stop : Stop) → IsLackBy (LacksMembers said manifest) fault → StopsAs (of_members fault) stop
    → (here : Outside) → Does (members_in said manifest) here here (Err stop)
member_told said manifest (faults.Severed name) (stops.Declined reply) lacks tells here = (refl, record { fault = faults.Severed name; lacks = lacks; says = tells })
member_told said manifest (faults.Differs name stated found) (stops.Declined reply) lacks tells here = (refl, record { fault = faults.Differs name stated found; lacks = lacks; says = tells })
member_told said manifest (faults.Refused refusal) (stops.Declined reply) lacks tells here = (refl, record { fault = faults.Refused refusal; lacks = lacks; says = tells })
member_told said manifest faults.NoMemory (stops.Declined reply) lacks tells here = absurd tells
member_told said manifest fault (stops.Fault object) lacks tells here = absurd tells
member_told said manifest fault stops.NoMemory lacks tells here = refl

-- the members that were taken, or not
pub members_taken : (said : EnvelopeSays) (manifest : Manifest) (taken : Result Members MemberFault) (result : Result Members Stop) → IfOk taken (HasMembers said manifest)
    → IfErr taken (IsLackBy (LacksMembers said manifest)) → IsTaken taken result → Finds (members_in said manifest) result
members_taken said manifest (Ok members) (Ok given) has lacks is here = (refl, subst (λ (m : Members). HasMembers said manifest m) (sym is) has)
members_taken said manifest (Err fault) (Err stop) has lacks is here = member_told said manifest fault stop lacks is here
members_taken said manifest (Ok members) (Err stop) has lacks is here = absurd is
members_taken said manifest (Err fault) (Ok given) has lacks is here = absurd is

-- ---- the words

pub is_usage : (words : List (List ℕ)) (made : Result Reply AllocError) → task_of words ≡ None → Makes made outcomes.Usage usage_line
    → (here : Outside) → Does (task_in words) here here (Err (stop_of made))
is_usage words (Ok reply) none says here = (refl, (none, says))
is_usage words (Err e) none says here = refl

pub answers_usage : (words : List (List ℕ)) (here : Outside) (made : Result Reply AllocError) (stop : Stop) → task_of words ≡ None → Makes made outcomes.Usage usage_line → stop ≡ stop_of made
    → answers words here here (ending_of (Err stop))
answers_usage words here made stop none says is =
    subst (λ (s : Stop). answers words here here (ending_of (Err s))) (sym is) (stopped (task_in words) does here here (stop_of made) (is_usage words made none says here))

pub does_command : (x y : Command) → x ≡ y → (before after : Outside) (ending : Ending) → does (said y) before after ending → does (said x) before after ending
does_command x y same before after ending answer = subst (λ (c : Command). does (said c) before after ending) (sym same) answer

pub shows_bytes : (key_name : List ℕ) (before after : Outside) (ending : Ending) (x y : List ℕ) → x ≡ y → shows_file x key_name before after ending → shows_file y key_name before after ending
shows_bytes key_name before after ending x y same shown = subst (λ (b : List ℕ). shows_file b key_name before after ending) same shown

-- ---- results

pub on_ok : {A E : Type 0} (r : Result A E) (P Q : Type 0) → OnOk r P → (P → Q) → OnOk r Q
on_ok (Ok a) P Q p f = f p
on_ok (Err e) P Q p f = tt
