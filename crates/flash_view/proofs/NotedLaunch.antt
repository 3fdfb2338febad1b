-- The image that is noted is the one whose launch was asked for.
use Rattle.std.proofs.Common.{◌≡◌, ◌≤◌, ℕ, ◌+◌, Bool, IsTrue, List, [], ◌∷◌, ◌++◌, length, refl, sym, ◌∙◌, ap, arith}
use Rattle.std.specs.List.{slice_range}
use Rattle.std.specs.Option.{option_copied}
use Rattle.std.proofs.lemmas.List.Edits.{length-between}
use Rattle.suit_edge.specs.Launch.{IsLaunch}
use Rattle.suit_edge.specs.declared.launch.Launch.{Launch}
use Rattle.suit_edge.specs.declared.launcher.Image.{Image}
use Rattle.suit_edge.specs.declared.launcher.Image.TheVariants as image
use Rattle.suit_edge.specs.declared.launcher.Label.{Label}
use Rattle.flash_view.specs.Noting.{IsFirstNote, ViewLaunches, launches_in, launches_of, noted_bytes, noted_launch}
use Rattle.flash_view.specs.declared.noted_image.NotedImage.{NotedImage}

pub launch_noted : (what : Image) (label : Label) (l : ViewLaunches) (flash : List ℕ) (note : NotedImage) (bytes : List ℕ) (knows : Bool) (reads : List ℕ)
    → IsFirstNote what label l note
    → bytes ≡ noted_bytes flash note → note.place + note.length ≤ length flash
    → (IsTrue knows → slice_range reads note.place (note.place + length bytes) ≡ bytes)
    → (x : Launch) × (noted_launch flash note ∷ [] ≡ launches_of l ++ x ∷ [])
    × IsLaunch what knows reads label.component (option_copied label.digest) label.size (option_copied label.args) x
launch_noted (image.Ram held) label l flash note bytes knows reads first is fits same = absurd first
launch_noted (image.Flash place size) label l flash note bytes knows reads (none, noted, short) is fits same =
    let long : length (noted_bytes flash note) ≡ size =
    omega (arith, length-between flash note.place (note.place + note.length) fits, noted.length) in (
      noted_launch flash note,
      ap (λ o. launches_in l.flash o ++ noted_launch flash note ∷ []) (sym none),
      record {
        component = noted.component;
        bytes = (
          long,
          λ t.
              sym is ∙ sym (same t)
              ∙ ap (λ n. slice_range reads note.place (note.place + n)) (ap length is ∙ long)
              ∙ ap (λ p. slice_range reads p (p + size)) noted.place,
        );
        digest = noted.digest;
        size = noted.size;
        args = noted.args;
      },
    )
