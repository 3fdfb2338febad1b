-- The JSON values that the texts of shapes spell, part by part.
use Rattle.std.proofs.Common.{◌≡◌, ℕ, true, List, [], ◌∷◌, refl}
use Rattle.std.specs.Prelude.{codes}
use Rattle.serde_json.specs.Data.{Data, boolean, number, string, array, object, unsigned, Members, no_members, member}
use Rattle.serde_json.specs.View.{items_of}
use Rattle.serde_json.proofs.OnLiterals.{serde_json_on_literals}
use Rattle.conformance.specs.declared.shape.Shape.TheVariants.{Fetched, Integrated, Loaded, FetchedIfOther}
use Rattle.conformance.specs.Shapes.{image_name, got_name, shape_data}

abbrev image_uri : List ℕ
image_uri = codes "img"

-- the key of an integrated payload
abbrev payload_uri : List ℕ
payload_uri = codes "#img"

-- ---- parts

abbrev list : List Data → Data
list elements = array (items_of elements)

abbrev text : List ℕ → Data
text bytes = string bytes

-- an object with one member
abbrev only : List ℕ → Data → Data
only key value = object (member key value no_members)

abbrev command : List ℕ → Data → Data
command name argument = list (text name ∷ argument ∷ [])

-- a command with all reports
abbrev reported : List ℕ → Data
reported name = command name (number (unsigned 15))

abbrev file_data : List ℕ → Data
file_data name = only (codes "file") (text name)

abbrev set_image : Data
set_image =
    command (codes "set")
    (object
    (member (codes "digest") (file_data image_name)
    (member (codes "size") (file_data image_name) no_members)))

abbrev set_uri : List ℕ → Data
set_uri uri = command (codes "set") (only (codes "uri") (text uri))

abbrev fetch : List ℕ → Data
fetch uri = list (set_uri uri ∷ reported (codes "fetch") ∷ [])

-- fetches the image unless it is there already
abbrev fetch_if_other : Data
fetch_if_other =
    list
    (set_uri image_uri
    ∷ command (codes "try")
    (list (list (reported (codes "match") ∷ []) ∷ list (reported (codes "fetch") ∷ []) ∷ [])) ∷ [])

abbrev identifier : List ℕ → Data
identifier part = list (text part ∷ [])

-- one component in the flash, or another one in working memory as well
abbrev flash_alone : Data
flash_alone = list (identifier (codes "00") ∷ [])

abbrev flash_and_ram : Data
flash_and_ram = list (identifier (codes "00") ∷ identifier (codes "01") ∷ [])

abbrev index_of_ram : Data
index_of_ram = command (codes "index") (number (unsigned 1))

-- copies the image to working memory, and matches it there
abbrev load : Data
load =
    list
    (index_of_ram ∷ command (codes "set") (only (codes "source") (number (unsigned 0)))
    ∷ reported (codes "copy") ∷ reported (codes "match") ∷ [])

-- sets the digest and the size of both components
abbrev set_both : Data
set_both = list (command (codes "index") (boolean true) ∷ set_image ∷ [])

-- invokes the image in working memory
abbrev invoke_copy : Data
invoke_copy = list (index_of_ram ∷ reported (codes "invoke") ∷ [])

-- ---- the values

-- one component: its install sequence, and the members between `invoke` and the sequence number
abbrev flash_members : Data → (Members → Members) → ℕ → Data
flash_members install between sequence =
    object
    (member (codes "components") flash_alone
    (member (codes "install") install
    (member (codes "invoke") (list (reported (codes "invoke") ∷ []))
    (between
    (member (codes "sequence") (number (unsigned sequence))
    (member (codes "shared") (list (set_image ∷ []))
    (member (codes "validate") (list (reported (codes "match") ∷ [])) no_members)))))))

-- the image is fetched
abbrev pub fetched : ℕ → Data
fetched sequence = flash_members (fetch image_uri) (λ members. members) sequence

-- the image is a payload of the envelope
abbrev pub integrated : ℕ → Data
integrated sequence =
    flash_members (fetch payload_uri)
    (member (codes "payloads") (only payload_uri (file_data got_name)))
    sequence

-- the image is fetched, and each boot copies it to working memory and invokes it there
abbrev pub loaded : ℕ → Data
loaded sequence =
    object
    (member (codes "components") flash_and_ram
    (member (codes "install") (fetch image_uri)
    (member (codes "invoke") invoke_copy
    (member (codes "load") load
    (member (codes "sequence") (number (unsigned sequence))
    (member (codes "shared") set_both
    (member (codes "validate") (list (reported (codes "match") ∷ [])) no_members)))))))

-- the image is fetched, unless it is there already
abbrev pub fetched_if_other : ℕ → Data
fetched_if_other sequence = flash_members fetch_if_other (λ members. members) sequence

-- ---- the texts spell them

pub fetched_is : (sequence : ℕ) → shape_data Fetched sequence ≡ fetched sequence
unfolding serde_json_on_literals
fetched_is sequence = refl

pub integrated_is : (sequence : ℕ) → shape_data Integrated sequence ≡ integrated sequence
unfolding serde_json_on_literals
integrated_is sequence = refl

pub loaded_is : (sequence : ℕ) → shape_data Loaded sequence ≡ loaded sequence
unfolding serde_json_on_literals
loaded_is sequence = refl

pub fetched_if_other_is : (sequence : ℕ) → shape_data FetchedIfOther sequence ≡ fetched_if_other sequence
unfolding serde_json_on_literals
fetched_if_other_is sequence = refl
