-- Each command, as the list of its stages.
use Rattle.std.specs.Prelude.{ℕ, List}
use Rattle.suit_envelope.specs.Envelopes.{EnvelopeSays}
use Rattle.suit_manifest.specs.declared.manifest.Manifest.{Manifest}
use Rattle.suit_manifest.specs.Procedures.{update_tree, invocation_tree}
use Rattle.suit_cli.specs.Words.{Task, Make, Describe, Show, Check, RunInit, RunUpdate, RunBoot, RunStatus, RunMigrate, Drill, Diagnose}
use Rattle.suit_cli.specs.Stages.{Answers, ◌>>=◌, Last}
use Rattle.suit_cli.specs.Inputs.{longest_file, longest_shown, longest_device, file, key_in}
use Rattle.suit_cli.specs.Envelopes.{envelope_in, short, manifest_in, members_in}
use Rattle.suit_cli.specs.Judgement.{narrow, AreJudged}
use Rattle.suit_cli.specs.Shown.{IsShown}
use Rattle.suit_cli.specs.Describing.{there_in, text_in, IsDescribed}
use Rattle.suit_cli.specs.Authoring.{longest_description, description_in, makes_described}
use Rattle.suit_cli.specs.Devices.{device_in, key_of}
use Rattle.suit_cli.specs.Formatting.{unused, formats}
pub use Rattle.suit_cli.specs.Beginnings.{begins_boot, begins_update}
use Rattle.suit_cli.specs.Diagnosing.{item_in, IsNotated}
use Rattle.suit_cli.specs.Drilling.{IsDrilled}
use Rattle.suit_cli.specs.Installed.{config_in, record_in, lines_in, TellsStatus}
use Rattle.suit_cli.specs.Migrating.{migrates}

-- up to the manifest in a file, and then on
abbrev pub in_file : List ℕ → (EnvelopeSays → Manifest → Answers) → Answers
in_file bytes next =
    envelope_in bytes >>= λ said.
    short longest_shown said >>= λ _.
    manifest_in said >>= λ manifest.
    next said manifest

abbrev pub in_manifest : List ℕ → (List ℕ → EnvelopeSays → Manifest → Answers) → Answers
in_manifest name next = file longest_file name >>= λ bytes. in_file bytes (next bytes)

-- `check FILE`: the members, the widths of both procedures, and their paths
abbrev pub judges_manifest : EnvelopeSays → Manifest → Answers
judges_manifest said manifest =
    members_in said manifest >>= λ members.
    narrow (update_tree manifest members) >>= λ _.
    narrow (invocation_tree manifest) >>= λ _.
    Last (AreJudged (update_tree manifest members) (invocation_tree manifest))

abbrev pub judges_file : List ℕ → Answers
judges_file bytes = in_file bytes judges_manifest

abbrev pub checks : List ℕ → Answers
checks name = in_manifest name (λ bytes. judges_manifest)

-- `show FILE KEY`: the key, and then the lines
abbrev pub shows_manifest : List ℕ → EnvelopeSays → Manifest → Answers
shows_manifest key_name said manifest = key_in key_name >>= λ key. Last (IsShown said manifest key)

abbrev pub shows_file : List ℕ → List ℕ → Answers
shows_file bytes key_name = in_file bytes (shows_manifest key_name)

abbrev pub shows : List ℕ → List ℕ → Answers
shows name key_name = in_manifest name (λ bytes. shows_manifest key_name)

-- `show FILE`: the members that are there, the text, and then the description
abbrev pub describes_manifest : List ℕ → EnvelopeSays → Manifest → Answers
describes_manifest bytes said manifest =
    there_in said manifest >>= λ members.
    text_in said manifest >>= λ _.
    Last (IsDescribed bytes said manifest members)

abbrev pub describes_file : List ℕ → Answers
describes_file bytes = in_file bytes (describes_manifest bytes)

abbrev pub describes : List ℕ → Answers
describes name = in_manifest name describes_manifest

-- `make DESCRIPTION KEY OUT`: the description, the key, the named files, the envelope, and its store
abbrev pub makes : List ℕ → List ℕ → List ℕ → Answers
makes description key_name out =
    file longest_description description >>= λ bytes.
    description_in bytes >>= λ value.
    makes_described value key_name out

-- `run init DEVICE KEY`: the gates, the device's description, the key, and the format
abbrev pub inits_as : ℕ → List ℕ → List ℕ → Answers
inits_as size device key_name =
    file longest_device device >>= λ bytes.
    device_in size bytes >>= λ described.
    key_in key_name >>= λ key.
    formats described.1 described.0 (key_of key)

abbrev pub inits : List ℕ → List ℕ → Answers
inits device key_name = unused >>= λ size. inits_as size device key_name

-- `run status`: the configuration, the record, and the lengths of the contents
abbrev pub tells_status : Answers
tells_status =
    config_in >>= λ config.
    record_in config.2 >>= λ installed.
    lines_in config.0 installed >>= λ lines.
    Last (TellsStatus installed lines)

-- `drill NUMBER`: it reads no file, looks at no flash and has objects of its own
abbrev pub drills : ℕ → Answers
drills number = Last (IsDrilled number)

-- `diag FILE`: the one item in the file, and its notation
abbrev pub diagnoses_file : List ℕ → Answers
diagnoses_file bytes = item_in bytes >>= λ item. Last (IsNotated item)

abbrev pub diagnoses : List ℕ → Answers
diagnoses name = file longest_file name >>= diagnoses_file

abbrev pub does : Task → Answers
does (Make description key_name out) = makes description key_name out
does (Describe name) = describes name
does (Show name key_name) = shows name key_name
does (Check name) = checks name
does (RunInit device key_name) = inits device key_name
does (RunUpdate name uris) = begins_update name
does RunBoot = begins_boot
does RunStatus = tells_status
does (RunMigrate base) = migrates base
does (Drill number) = drills number
does (Diagnose name) = diagnoses name
