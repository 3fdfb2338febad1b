-- Types of what is read of a description.
use Rattle.author.specs.Descriptions.{scope_of}
use Rattle.author.specs.Making.{made_manifest}

abbrev domain_of : {A B : Type 0} → (A → B) → Type 0
domain_of {A} f = A

-- the fields, so far
abbrev pub Fields : Type 0
Fields = domain_of scope_of

-- all of it
abbrev pub Described : Type 0
Described = domain_of made_manifest
