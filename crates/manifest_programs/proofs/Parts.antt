-- An absent sequence is an empty one, in a program as in a manifest.
use Rattle.std.proofs.Common.{◌≡◌, ◌∙◌, ℕ, List, Option, Some, None, Result, Ok, false, refl, sym, ap, subst}
use Rattle.std.specs.Result.{result_ok}
use Rattle.suit_params.specs.declared.digest.Digest.{Digest}
use Rattle.suit_params.specs.declared.refusal.Refusal.{Refusal}
use Rattle.suit_params.specs.Refusing.{SaysWhole}
use Rattle.suit_commands.specs.Allowed.{levels_allowed}
use Rattle.suit_commands.specs.Sequences.{SaysSequence}
use Rattle.suit_commands.specs.Tree.{SequenceTree, NoSteps, PlanTree}
use Rattle.suit_manifest.specs.declared.manifest.Member.TheVariants.{Apart}
use Rattle.suit_manifest.specs.MembersApart.{HasMember}
use Rattle.suit_manifest.specs.Procedures.{tree_or_empty}
use Rattle.step_machine.specs.Programs.{part_tree}

pub same_part : (part : Option SequenceTree) → part_tree part ≡ tree_or_empty part
same_part None = refl
same_part (Some steps) = refl

pub same_plan : (shared first second third x y z w : SequenceTree) (m n : ℕ) → shared ≡ x → first ≡ y → second ≡ z → third ≡ w → m ≡ n
    → ◌≡◌ {A = PlanTree} (record { shared = shared; first = first; second = second; third = third; count = m }) (record { shared = x; first = y; second = z; third = w; count = n })
same_plan shared first second third x y z w m n a b c d e = λ i. record { shared = a i; first = b i; second = c i; third = d i; count = e i }

-- ---- a member that stands apart

pub taken_apart : (count place : ℕ) (bytes : List ℕ) (stated : Digest) (apart part : Option SequenceTree) (r : Result SequenceTree Refusal) → HasMember count (Some bytes) place (Apart stated) apart
    → ((s : SequenceTree) → SaysWhole (SaysSequence false count levels_allowed) place bytes s → r ≡ Ok s) → part ≡ result_ok r → part_tree part ≡ tree_or_empty apart
taken_apart count place bytes stated (Some s) part r has every is =
    let there : ◌≡◌ {A = Option (List ℕ)} (Some bytes) (Some has.content) = has.there in
    let same : bytes ≡ has.content = cc in
    let known : r ≡ Ok s = every s (subst (λ (l : List ℕ). SaysWhole (SaysSequence false count levels_allowed) place l s) (sym same) has.says_so) in
    ap part_tree (is ∙ ap result_ok known)
taken_apart count place bytes stated None part r has every is = absurd has

pub none_apart : (count place : ℕ) (stated : Digest) (apart : Option SequenceTree) → HasMember count None place (Apart stated) apart → NoSteps ≡ tree_or_empty apart
none_apart count place stated (Some s) has = let there : ◌≡◌ {A = Option (List ℕ)} None (Some has.content) = has.there in absurd cc
none_apart count place stated None has = absurd has
