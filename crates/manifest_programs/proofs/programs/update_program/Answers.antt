use Rattle.std.proofs.Common.{ℕ, sym, subst}
use Rattle.manifest_view.specs.Views.{member_of}
use Rattle.suit_envelope.specs.Said.{said_by}
use Rattle.suit_manifest.specs.MembersApart.{HasMember}
use Rattle.manifest_programs.proofs.Parts.{same_part, same_plan}
use Rattle.manifest_programs.proofs.programs.update_program.Goals as goal

pub returns : goal.returns
returns c members has =
    let said = said_by c.args.envelope.now in
    let fetch = subst (λ (n : ℕ). HasMember n said.payload_fetch said.payload_fetch_place (member_of c.args.view.payload_fetch) members.payload_fetch) (sym c.len-count.ensures) has.payload_fetch in
    let install = subst (λ (n : ℕ). HasMember n said.install said.install_place (member_of c.args.view.install) members.install) (sym c.len-count.ensures) has.install in
    same_plan _ _ _ _ _ _ _ _ _ _ (same_part c.args.view.shared) (c.lend_member-first.ensures members.payload_fetch fetch) (c.lend_member-second.ensures members.install install) (same_part c.args.view.validate) c.len-count.ensures
