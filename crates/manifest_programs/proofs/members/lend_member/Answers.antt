use Rattle.std.proofs.Common.{◌∙◌, ℕ, List, Option, sym, ap, subst}
use Rattle.std.specs.Borrow.{Bor}
use Rattle.std.specs.Prelude.{option_map}
use Rattle.manifest_view.specs.declared.member.MemberView.{MemberView}
use Rattle.manifest_view.specs.Views.{member_of}
use Rattle.suit_manifest.specs.declared.manifest.Member.TheVariants.{Apart}
use Rattle.suit_manifest.specs.MembersApart.{HasMember}
use Rattle.suit_manifest.specs.Procedures.{member_tree}
use Rattle.manifest_programs.proofs.Parts.{taken_apart, none_apart}
use Rattle.manifest_programs.proofs.members.lend_member.Goals as goal

pub returns-in-Some : goal.returns-in-Some
returns-in-Some c apart has =
    let stated = c.in-Apart.field-0 in
    let here = subst (λ (x : MemberView). HasMember c.args.count (option_map (λ (s : Bor (List ℕ)). s.now) c.args.content) c.args.place (member_of x) apart) c.in-Apart.is has in
    let there = subst (λ (x : Option (Bor (List ℕ))). HasMember c.args.count (option_map (λ (s : Bor (List ℕ)). s.now) x) c.args.place (Apart stated) apart) c.in-Some.is here in
    taken_apart c.args.count c.args.place c.in-Some.bytes.now stated apart c.ok.result c.new.result there c.new.ensures.every_sequence c.ok.ensures.value
    ∙ ap (λ (x : MemberView). member_tree (member_of x) apart) (sym c.in-Apart.is)

pub returns-in-None : goal.returns-in-None
returns-in-None c apart has =
    let stated = c.in-Apart.field-0 in
    let here = subst (λ (x : MemberView). HasMember c.args.count (option_map (λ (s : Bor (List ℕ)). s.now) c.args.content) c.args.place (member_of x) apart) c.in-Apart.is has in
    let there = subst (λ (x : Option (Bor (List ℕ))). HasMember c.args.count (option_map (λ (s : Bor (List ℕ)). s.now) x) c.args.place (Apart stated) apart) c.in-None.is here in
    none_apart c.args.count c.args.place stated apart there ∙ ap (λ (x : MemberView). member_tree (member_of x) apart) (sym c.in-Apart.is)
