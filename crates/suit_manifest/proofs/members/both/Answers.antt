use Rattle.std.proofs.Common.{ℕ, subst}
use Rattle.std.proofs.lemmas.Result.{err_from_is_err_and}
use Rattle.suit_envelope.specs.Said.{said_by}
use Rattle.suit_envelope.specs.declared.severed.MemberName.TheVariants as names
use Rattle.suit_manifest.specs.MembersApart.{HasMember, LacksMember, IsLackBy}
use Rattle.suit_manifest.proofs.BothMembers.{install_lacks}
use Rattle.suit_manifest.proofs.members.both.Goals as goal

pub returns-in_err-second-clause-refused : goal.returns-in_err-second-clause-refused
returns-in_err-second-clause-refused c =
    let said = said_by c.args.envelope.now in
    let manifest = c.args.manifest.now in
    let p = err_from_is_err_and c.from_residual-in_err-second.result c.from_residual-in_err-second.ensures.1 in
    rw (p.1, p.2) (install_lacks said manifest c.in_ok-first.first c.in_err-second.field-0.0
    (subst (λ (n : ℕ). HasMember n said.payload_fetch said.payload_fetch_place manifest.payload_fetch c.in_ok-first.first) c.component_count-count.ensures c.in_ok-first.ensures.ok)
    (subst (λ (n : ℕ). IsLackBy (LacksMember names.Install n said.install said.install_place manifest.install) c.in_err-second.field-0.0) c.component_count-count.ensures c.in_err-second.ensures.refused))
