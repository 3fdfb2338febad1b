use Rattle.std.proofs.Common.{◌≡◌, ◌-◌, List, ℕ, [], length, take, drop, length-drop, sym, ◌∙◌, ap, subst, rules, arith}
use Rattle.std.proofs.lemmas.List.{take_all}
use Rattle.std.proofs.lemmas.Result.{IfOk-weaker}
use Rattle.suit_edge.specs.declared.step.Step.{Step}
use Rattle.suit_edge.specs.Calls.{CallCounts, uncalled}
use Rattle.suit_edge.specs.Flash.{Now}
use Rattle.suit_edge.specs.Ranges.{AreBytes}
use Rattle.suit_edge.specs.Moment.{kept, lost}
use Rattle.suit_edge.specs.MemoryLaws.{memory_obeys}
use Rattle.suit_edge.specs.MemoryDisk.{DiskState, moment_now, memory_flash, writes_of}
use Rattle.suit_edge.proofs.Moments.{lost-kept, lost_image}
use Rattle.suit_edge.proofs.MemoryImages.{now_to}
use Rattle.suit_edge.proofs.memory_disk.MemoryDisk.after_loss.Goals as goal
use Rattle.suit_edge.proofs.memory_disk.MemoryDisk.after_loss.Goals.{After-keep}

-- the bytes that were kept are those that the choice leaves
left_of : (c : After-keep) → c.keep.new.bytes.items ≡ lost c.args.choice (moment_now c.args.self.now)
left_of c =
    let begun : c.in_ok-bytes.bytes.items ≡ c.self.inside.settled.items = search rules in
    let since = c.self.inside.since in
    let steps = c.self.inside.steps.items in
    let whole : take (length c.deref-2.result.now - since) (drop since c.deref-2.result.now) ≡ drop since steps =
    take_all (length c.deref-2.result.now - since) (drop since c.deref-2.result.now) (omega (arith, length-drop since c.deref-2.result.now)) ∙ ap (drop since) c.deref-2.ensures.value in
    c.keep.ensures ∙ ap (λ (l : List Step). kept c.args.choice 0 c.in_ok-bytes.bytes.items (writes_of l)) whole ∙ ap (λ (l : List ℕ). kept c.args.choice 0 l (writes_of (drop since steps))) begun
    ∙ lost-kept c.args.choice _ _ _ _ _ c.self.invariant ∙ ap (λ (s : DiskState). lost c.args.choice (moment_now s)) c.self.view_is

pub returns-clause-left : goal.returns-clause-left
returns-clause-left c =
    let calls : c.in_ok-calls.calls ≡ uncalled [] = search rules in
    let left = left_of (goal.at.returns-clause-left c).After-keep in
    IfOk-weaker c.of.result _ _
    (λ disk is. is ∙ ap (λ (l : List ℕ). record { first = l; steps = []; calls = c.in_ok-calls.calls }) left ∙ ap (λ (k : CallCounts). record { first = lost c.args.choice (moment_now c.args.self.now); steps = []; calls = k }) calls)
    c.of.ensures.state

pub returns-clause-may : goal.returns-clause-may
returns-clause-may c =
    let s = c.args.self.now in
    let left = left_of (goal.at.returns-clause-may c).After-keep in
    let bytes : AreBytes (lost c.args.choice (moment_now s)) = subst AreBytes (c.as_slice.ensures.value ∙ left) c.are_bytes.ensures in
    IfOk-weaker c.of.result _ _
    (λ disk is. subst (λ (l : List ℕ). Now (memory_flash s) l) (sym (ap (λ (d : DiskState). d.first) is)) (now_to s.first s.steps (lost c.args.choice (moment_now s)) (lost_image c.args.choice s.first s.steps bytes)))
    (returns-clause-left c)

pub returns-clause-size : goal.returns-clause-size
returns-clause-size c =
    let s = c.args.self.now in
    IfOk-weaker c.of.result _ _ (λ disk now. (memory_obeys s).sized (length s.steps) disk.first (omega arith) now) (returns-clause-may c)
