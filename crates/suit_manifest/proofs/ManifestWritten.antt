-- A written manifest says the manifest that was written, with its places.
use Rattle.std.proofs.Common.{◌≡◌, ℕ, List, Option, Some, None, refl, ap}
use Rattle.std.specs.Prelude.{IfSome}
use Rattle.det_cbor.specs.DataItem.{spell}
use Rattle.suit_commands.specs.Tree.{SequenceTree}
use Rattle.suit_commands.specs.SequenceMaking.{first_code}
use Rattle.suit_manifest.specs.declared.manifest.Manifest.{Manifest}
use Rattle.suit_manifest.specs.declared.manifest.Member.{Member}
use Rattle.suit_manifest.specs.declared.manifest.Member.TheVariants as members
use Rattle.suit_manifest.specs.ManifestMaking.{manifest_item, placed_held, placed_severed, unplaced_held, unplaced_severed, value_place, shared_place, placed_manifest, unplaced_manifest}
use Rattle.suit_manifest.specs.ManifestWriting.{HeldFits, SeveredFits, ManifestFits, IsWrittenManifest}
use Rattle.suit_manifest.proofs.ManifestValid.{manifest_valid}
use Rattle.suit_manifest.proofs.ManifestSays.{manifest_says}

-- apart from its places it is the same manifest

held_same : (place : ℕ) (o : Option SequenceTree) → IfSome o HeldFits → unplaced_held (placed_held place o) ≡ unplaced_held o
held_same place None fits = refl
held_same place (Some s) fits = ap Some (fits.1.same (first_code place s))

severed_same : (place : ℕ) (m : Member) → SeveredFits m → unplaced_severed (placed_severed place m) ≡ unplaced_severed m
severed_same place members.Empty fits = refl
severed_same place (members.Here s) fits = ap members.Here (fits.1.same (first_code place s))
severed_same place (members.Apart digest) fits = refl

manifest_same : (place : ℕ) (m : Manifest) → ManifestFits m → unplaced_manifest (placed_manifest place m) ≡ unplaced_manifest m
manifest_same place m fits =
    λ i. record m {
      shared = held_same (shared_place place m) m.shared fits.common.shared i;
      validate = held_same (value_place 7 place m) m.validate fits.validate i;
      load = held_same (value_place 8 place m) m.load fits.load i;
      invoke = held_same (value_place 9 place m) m.invoke fits.invoke i;
      payload_fetch = severed_same (value_place 16 place m) m.payload_fetch fits.payload_fetch i;
      install = severed_same (value_place 20 place m) m.install fits.install i;
    }

pub is_written : (m : Manifest) (bytes : List ℕ) → bytes ≡ spell (manifest_item m) → ManifestFits m → IsWrittenManifest m bytes
is_written m bytes spelled fits =
    record {
      says = λ place is. record {
        item = manifest_item m;
        spells = record { valid = manifest_valid m fits; is = spelled };
        says_so = manifest_says place m fits is;
      };
      same = λ place. manifest_same place m fits;
    }
