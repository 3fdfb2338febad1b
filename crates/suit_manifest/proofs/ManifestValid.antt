-- The items of a written manifest are valid.
use Rattle.std.proofs.Common.{◌≡◌, ℕ, List, [], ◌∷◌, length, Option, Some, None, refl, arith}
use Rattle.std.specs.Prelude.{IfSome}
use Rattle.std.specs.List.{AllByRecursion}
use Rattle.det_cbor.specs.DataItem.{ArrayOf, item_count, IsString, IsValid, IsValidWithin, AreValidWithin}
use Rattle.suit_params.proofs.DigestSpelled.{digest_valid}
use Rattle.suit_commands.specs.Tree.{SequenceTree}
use Rattle.suit_manifest.specs.declared.manifest.Manifest.{Manifest}
use Rattle.suit_manifest.specs.declared.manifest.Member.{Member}
use Rattle.suit_manifest.specs.declared.manifest.Member.TheVariants as members
use Rattle.suit_manifest.specs.declared.manifest.TextMember.{TextMember}
use Rattle.suit_manifest.specs.declared.manifest.TextMember.TheVariants as texts
use Rattle.suit_manifest.specs.Components.{string_items, identifier_items}
use Rattle.suit_manifest.specs.ManifestMaking.{text_item, held_item, severed_item, text_member_item, common_rows, common_item, manifest_rows, manifest_item}
use Rattle.suit_manifest.specs.ManifestWriting.{IsUtf8String, IdentifierFits, ComponentsFit, HeldFits, SeveredFits, TextFits, CommonFits, ManifestFits}
use Rattle.suit_manifest.proofs.MapRows.{Ascend, map_valid}

-- ---- components

pub parts_counted : (id : List (List ℕ)) → length id ≡ item_count (string_items id)
parts_counted [] = refl
parts_counted (part ∷ parts) = omega (arith, parts_counted parts)

pub identifiers_counted : (ids : List (List (List ℕ))) → length ids ≡ item_count (identifier_items ids)
identifiers_counted [] = refl
identifiers_counted (id ∷ ids) = omega (arith, identifiers_counted ids)

parts_valid : (id : List (List ℕ)) → AllByRecursion IsString id → AreValidWithin 3 (string_items id)
parts_valid [] fit = tt
parts_valid (part ∷ parts) fit = (fit.0, parts_valid parts fit.1)

identifiers_valid : (ids : List (List (List ℕ))) → AllByRecursion IdentifierFits ids → AreValidWithin 2 (identifier_items ids)
identifiers_valid [] fit = tt
identifiers_valid (id ∷ ids) fit = ((omega arith, omega (arith, parts_counted id, fit.0.0), parts_valid id fit.0.1), identifiers_valid ids fit.1)

components_valid : (ids : List (List (List ℕ))) → ComponentsFit ids → IsValidWithin 1 (ArrayOf (identifier_items ids))
components_valid ids fit = (omega arith, omega (arith, identifiers_counted ids, fit.0), identifiers_valid ids fit.1)

-- ---- values

text_valid : (o : Option (List ℕ)) → IfSome o IsUtf8String → IfSome (text_item o) (IsValidWithin 1)
text_valid None fits = tt
text_valid (Some text) fits = fits

held_valid : (o : Option SequenceTree) → IfSome o HeldFits → IfSome (held_item o) (IsValidWithin 1)
held_valid None fits = tt
held_valid (Some s) fits = fits.0

severed_valid : (m : Member) → SeveredFits m → IfSome (severed_item m) (IsValidWithin 1)
severed_valid members.Empty fits = tt
severed_valid (members.Here s) fits = fits.0
severed_valid (members.Apart digest) fits = digest_valid 1 digest (omega arith) fits

text_member_valid : (t : TextMember) → TextFits t → IfSome (text_member_item t) (IsValidWithin 1)
text_member_valid texts.Empty fits = tt
text_member_valid (texts.Here content) fits = fits
text_member_valid (texts.Apart digest) fits = digest_valid 1 digest (omega arith) fits

-- ---- the maps

pub common_ascends : (m : Manifest) → Ascend 2 (common_rows m)
common_ascends m = (omega arith, (omega arith, tt))

pub manifest_ascends : (m : Manifest) → Ascend 1 (manifest_rows m)
manifest_ascends m = (omega arith, (omega arith, (omega arith, (omega arith, (omega arith, (omega arith, (omega arith, (omega arith, (omega arith, (omega arith, tt))))))))))

pub common_valid : (m : Manifest) → CommonFits m → IsValid (common_item m)
common_valid m fits = map_valid 2 (common_rows m) (omega arith) (common_ascends m) ((omega arith, components_valid m.components fits.components), ((omega arith, held_valid m.shared fits.shared), tt))

pub manifest_valid : (m : Manifest) → ManifestFits m → IsValid (manifest_item m)
manifest_valid m fits =
    let reference = text_valid m.reference fits.reference in
    let validate = held_valid m.validate fits.validate in
    let load = held_valid m.load fits.load in
    let invoke = held_valid m.invoke fits.invoke in
    let payload_fetch = severed_valid m.payload_fetch fits.payload_fetch in
    let install = severed_valid m.install fits.install in
    let text = text_member_valid m.text fits.text in
    map_valid 1 (manifest_rows m) (omega arith) (manifest_ascends m)
    ((omega arith, omega arith), ((omega arith, fits.sequence), ((omega arith, fits.common_string), ((omega arith, reference), ((omega arith, validate), ((omega arith, load), ((omega arith, invoke), ((omega arith, payload_fetch), ((omega arith, install), ((omega arith, text), tt))))))))))
