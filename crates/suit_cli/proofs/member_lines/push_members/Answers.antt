use Rattle.std.proofs.Common.{refl, ap, ◌∙◌, ◌++◌}
use Rattle.std.specs.Prelude.{codes}
use Rattle.suit_cli.specs.declared.member_lines.MemberState.{MemberState}
use Rattle.suit_cli.specs.Texts.{member_line}
use Rattle.suit_cli.proofs.Chains.{on_ok}
use Rattle.suit_cli.proofs.MemberTexts.{seven}
use Rattle.suit_cli.proofs.member_lines.push_members.Goals as goal

pub returns : goal.returns
returns c =
    let t0 = c.args.text.now in
    let t1 = c.push_member.new.text in
    let t2 = c.push_member-2.new.text in
    let t3 = c.push_member-3.new.text in
    let e1 = c.in_ok-push_member.ensures ∙ ap (λ (s : MemberState). t0 ++ member_line (codes "shared") s) c.state_of.ensures in
    let e2 = c.in_ok-push_member-2.ensures ∙ ap (λ (s : MemberState). t1 ++ member_line (codes "validate") s) c.state_of-2.ensures in
    let e3 = c.in_ok-push_member-3.ensures ∙ ap (λ (s : MemberState). t2 ++ member_line (codes "load") s) c.state_of-3.ensures in
    let e4 = c.in_ok-push_member-4.ensures ∙ ap (λ (s : MemberState). t3 ++ member_line (codes "invoke") s) c.state_of-4.ensures in
    on_ok c.push_member-7.result _ _ c.push_member-7.ensures
    (λ e7. (
      _,
      record {
        payload_fetch = c.severable-fetch.result;
        install = c.severable-install.result;
        text = c.text_state.result;
        has_payload_fetch = c.severable-fetch.ensures;
        has_install = c.severable-install.ensures;
        has_text = c.text_state.ensures;
        lines_are = refl;
      },
      seven t0 t1 t2 t3 c.push_member-4.new.text c.push_member-5.new.text c.push_member-6.new.text c.push_member-7.new.text _ _ _ _ _ _ _
          e1 e2 e3 e4 c.in_ok-push_member-5.ensures c.in_ok-push_member-6.ensures e7,
    ))
