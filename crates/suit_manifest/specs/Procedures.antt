-- The two procedures of a manifest (draft-ietf-suit-manifest-25, sections 6.3 and 6.4), as trees.
use Rattle.std.specs.Prelude.{Option, Some, None}
use Rattle.suit_commands.specs.Tree.{SequenceTree, NoSteps, PlanTree}
use Rattle.suit_manifest.specs.declared.manifest.Manifest.{Manifest}
use Rattle.suit_manifest.specs.declared.manifest.Member.{Member}
use Rattle.suit_manifest.specs.declared.manifest.Member.TheVariants.{Empty, Here, Apart}
use Rattle.suit_manifest.specs.declared.manifest.Members.{Members}
use Rattle.suit_manifest.specs.Manifests.{count_said}

-- an absent sequence counts as empty
abbrev pub tree_or_empty : Option SequenceTree → SequenceTree
tree_or_empty None = NoSteps
tree_or_empty (Some s) = s

-- the sequence of a severable member: the manifest's own, or else the severed one
abbrev pub member_tree : Member → Option SequenceTree → SequenceTree
member_tree Empty apart = NoSteps
member_tree (Here s) apart = s
member_tree (Apart digest) apart = tree_or_empty apart

-- three members, each after the manifest's shared sequence
abbrev pub behind_shared : Manifest → SequenceTree → SequenceTree → SequenceTree → PlanTree
behind_shared manifest first second third = record {
  shared = tree_or_empty manifest.shared;
  first = first;
  second = second;
  third = third;
  count = count_said manifest;
}

-- the update procedure: payload-fetch, install and validate
abbrev pub update_tree : Manifest → Members → PlanTree
update_tree manifest members =
    behind_shared manifest (member_tree manifest.payload_fetch members.payload_fetch)
    (member_tree manifest.install members.install) (tree_or_empty manifest.validate)

-- the invocation procedure: validate, load and invoke
abbrev pub invocation_tree : Manifest → PlanTree
invocation_tree manifest =
    behind_shared manifest (tree_or_empty manifest.validate) (tree_or_empty manifest.load)
    (tree_or_empty manifest.invoke)
