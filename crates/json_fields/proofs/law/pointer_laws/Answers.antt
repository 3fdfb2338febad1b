use Rattle.std.proofs.Common.{[], refl, ap, ◌∙◌, option_and_then, ne_eqb}
use Rattle.serde_json.specs.Data.{put}
use Rattle.serde_json.specs.Find.{pointer}
use Rattle.serde_json.proofs.Views.{get_member-put}
use Rattle.json_fields.proofs.FoundParts.{found_element, found_member}
use Rattle.json_fields.proofs.law.pointer_laws.Goals as goal

pub returns-clause-escapes : goal.returns-clause-escapes
returns-clause-escapes c = record {
  tilde = refl;
  slash = refl;
  others = λ b other apart. rw (ne_eqb b 126 other, ne_eqb b 47 apart) refl;
}

pub returns-clause-missing : goal.returns-clause-missing
returns-clause-missing c key d ms =
    found_member (returns-clause-escapes c) key [] (put key d ms) tt ∙ ap (option_and_then (pointer [])) (get_member-put key d ms)

pub returns-clause-places : goal.returns-clause-places
returns-clause-places c = record {
  itself = λ kind d. refl;
  member = λ key f ms is. found_member (returns-clause-escapes c) key f.pointer ms is;
  element = λ i f ds fits is. found_element i f.pointer ds fits is;
  missing = returns-clause-missing c;
  members_pointer = λ key f. refl;
  elements_pointer = λ i f. refl;
}
