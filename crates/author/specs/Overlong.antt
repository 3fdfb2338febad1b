-- Whether the files that are contents in a description leave room for its envelope.
use Rattle.std.specs.Prelude.{◌≡◌, ◌<◌, ◌≤◌, ℕ, List}
use Rattle.serde_json.specs.Data.{Data}
use Rattle.author.specs.declared.overlong.Contents.{Contents}
use Rattle.author.specs.declared.overlong.Contents.TheVariants as contents
use Rattle.author.specs.Outlines.{severed_in, manifest_contents, severed_contents}

abbrev pub ContentsFit : Data → List (List ℕ × List ℕ) → Type 0
ContentsFit d files =
    (manifest_contents files d ≤ 65536) × (severed_contents files d ≤ 1048576)

-- the contents in the manifest are judged first, and then those in the severed members
abbrev pub AreJudged : Data → List (List ℕ × List ℕ) → Contents → Type 0
AreJudged d files contents.Short = ContentsFit d files
AreJudged d files contents.LongManifest = 65536 < manifest_contents files d
AreJudged d files (contents.LongMembers severed) =
    (severed ≡ severed_in d) × (manifest_contents files d ≤ 65536)
    × (1048576 < severed_contents files d)
