use Rattle.std.proofs.Common.{◌≡◌, ◌∙◌, ◌≤◌, Result, Ok, Err, length, refl, sym, ap, subst, arith}
use Rattle.std.specs.Prelude.{IfOk, IsOk}
use Rattle.det_cbor.specs.HeadReading.{map_ok}
use Rattle.det_cbor.specs.ResultLaws.{same_ok}
use Rattle.suit_params.specs.declared.refusal.Refusal.{Refusal}
use Rattle.suit_envelope.specs.Said.{said_by}
use Rattle.suit_manifest.specs.declared.manifest.Manifest.{Manifest}
use Rattle.suit_manifest.specs.MembersApart.{HasMembers}
use Rattle.suit_manifest.specs.Procedures.{update_tree}
use Rattle.manifest_view.specs.Views.{manifest_of}
use Rattle.manifest_view.specs.declared.view.ManifestView.{ManifestView}
use Rattle.update_proc.proofs.program.program_of.Goals as goal

read_ok : (m : Manifest) (r : Result ManifestView Refusal) → map_ok manifest_of r ≡ Ok m → IsOk r
read_ok m (Ok view) reads = refl
read_ok m (Err e) reads = absurd cc

view_is : (view : ManifestView) (m : Manifest) (r : Result ManifestView Refusal) → map_ok manifest_of r ≡ Ok m → r ≡ Ok view → manifest_of view ≡ m
view_is view m r reads was = same_ok (manifest_of view) m (sym (ap (map_ok manifest_of) was) ∙ reads)

few_of : (view : ManifestView) (r : Result ManifestView Refusal) → r ≡ Ok view → IfOk r (λ (x : ManifestView). length x.components ≤ 8) → length view.components ≤ 8
few_of view r was few = subst (λ (x : Result ManifestView Refusal). IfOk x (λ (y : ManifestView). length y.components ≤ 8)) was few

pub read-requires : goal.read-requires
read-requires c = c.requires.ends.manifest

pub unwrap-view-requires : goal.unwrap-view-requires
unwrap-view-requires c = read_ok c.requires.manifest.0 c.read.result (c.read.ensures.every_manifest c.requires.manifest.0 c.requires.manifest.1)

pub update_program-requires-clause-few : goal.update_program-requires-clause-few
update_program-requires-clause-few c = let few = few_of c.unwrap-view.result c.read.result c.unwrap-view.ensures c.read.ensures.few in omega (arith, few)

pub update_program-requires-clause-ends : goal.update_program-requires-clause-ends
update_program-requires-clause-ends c = c.requires.ends.members

pub returns : goal.returns
returns c manifest members says has =
    let is = view_is c.unwrap-view.result manifest c.read.result (c.read.ensures.every_manifest manifest says) c.unwrap-view.ensures in
    c.update_program.ensures members (subst (λ (m : Manifest). HasMembers (said_by c.args.envelope.now) m members) (sym is) has)
    ∙ ap (λ (m : Manifest). update_tree m members) is
