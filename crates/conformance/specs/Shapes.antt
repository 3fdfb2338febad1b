-- Shapes of envelopes: their descriptions, as texts of JSON (RFC 8259), and the words for the files of their URIs.
use Rattle.std.specs.Prelude.{ℕ, ◌%◌, ◌==◌, if◌then◌else◌, unwrap_or, List, [], ◌∷◌, ◌++◌, codes}
use Rattle.serde_json.specs.Data.{Data, null, number, object, unsigned, put}
use Rattle.serde_json.specs.Read.{read}
use Rattle.conformance.specs.declared.shape.Shape.{Shape}
use Rattle.conformance.specs.declared.shape.Shape.TheVariants.{Fetched, Integrated, Loaded, FetchedIfOther}

abbrev pub shape_of : ℕ → Shape
shape_of drawn =
    if drawn % 4 == 0 then Fetched
    else if drawn % 4 == 1 then Integrated
    else if drawn % 4 == 2 then Loaded
    else FetchedIfOther

-- ---- the names

-- the file with the payload as it is described
abbrev pub image_name : List ℕ
image_name = codes "img.bin"

-- the file with the payload as it is fetched
abbrev pub got_name : List ℕ
got_name = codes "got.bin"

-- a payload of the envelope needs no file for a URI
abbrev pub words_of : Shape → List (List ℕ)
words_of Integrated = []
words_of _ = codes "img=got.bin" ∷ []

-- ---- the descriptions

-- the command that sets the digest and the size of the image
abbrev pub set_image : List ℕ
set_image =
    codes "[\"set\", {\"digest\": {\"file\": \"img.bin\"}, \"size\": {\"file\": \"img.bin\"}}]"

-- The image is fetched; or it is a payload of the envelope; or it is fetched, and each boot copies it to working memory and
-- invokes it there; or it is fetched, unless it is there already. The sequence number is left out.
abbrev pub shape_text : Shape → List ℕ
shape_text Fetched =
    codes "{\"components\": [[\"00\"]], \"shared\": [" ++ set_image ++ codes "], "
    ++ codes "\"install\": [[\"set\", {\"uri\": \"img\"}], [\"fetch\", 15]], "
    ++ codes "\"validate\": [[\"match\", 15]], \"invoke\": [[\"invoke\", 15]]}"
shape_text Integrated =
    codes "{\"components\": [[\"00\"]], \"shared\": [" ++ set_image ++ codes "], "
    ++ codes "\"install\": [[\"set\", {\"uri\": \"#img\"}], [\"fetch\", 15]], "
    ++ codes "\"validate\": [[\"match\", 15]], \"invoke\": [[\"invoke\", 15]], "
    ++ codes "\"payloads\": {\"#img\": {\"file\": \"got.bin\"}}}"
shape_text Loaded =
    codes "{\"components\": [[\"00\"], [\"01\"]], \"shared\": [[\"index\", true], " ++ set_image
    ++ codes "], \"install\": [[\"set\", {\"uri\": \"img\"}], [\"fetch\", 15]], "
    ++ codes "\"validate\": [[\"match\", 15]], "
    ++ codes "\"load\": [[\"index\", 1], [\"set\", {\"source\": 0}], [\"copy\", 15], [\"match\", 15]], "
    ++ codes "\"invoke\": [[\"index\", 1], [\"invoke\", 15]]}"
shape_text FetchedIfOther =
    codes "{\"components\": [[\"00\"]], \"shared\": [" ++ set_image ++ codes "], "
    ++ codes "\"install\": [[\"set\", {\"uri\": \"img\"}], "
    ++ codes "[\"try\", [[[\"match\", 15]], [[\"fetch\", 15]]]]], "
    ++ codes "\"validate\": [[\"match\", 15]], \"invoke\": [[\"invoke\", 15]]}"

-- the object with this sequence number
abbrev pub with_sequence : ℕ → Data → Data
with_sequence sequence (object members) =
    object (put (codes "sequence") (number (unsigned sequence)) members)
with_sequence sequence value = value

-- the description of a shape with this sequence number
abbrev pub shape_data : Shape → ℕ → Data
shape_data shape sequence = with_sequence sequence (unwrap_or (read (shape_text shape)) null)
