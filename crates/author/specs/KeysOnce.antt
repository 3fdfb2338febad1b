-- JSON values in which no object has a key twice (RFC 8259, section 4).
use Rattle.std.specs.Prelude.{◌≡◌, None}
use Rattle.serde_json.specs.Data.{Data, array, object, Items, no_items, item, Members, no_members, member}
use Rattle.serde_json.specs.Find.{get_member}

abbrev mutual
  pub HasKeysOnce : Data → Type 0
  HasKeysOnce (array ds) = HaveKeysOnce ds
  HasKeysOnce (object ms) = AreKeysOnce ms
  HasKeysOnce _ = Unit {0}

  -- the elements of an array
  pub HaveKeysOnce : Items → Type 0
  HaveKeysOnce no_items = Unit {0}
  HaveKeysOnce (item d ds) = HasKeysOnce d × HaveKeysOnce ds

  -- the members of an object
  pub AreKeysOnce : Members → Type 0
  AreKeysOnce no_members = Unit {0}
  AreKeysOnce (member key d ms) = (get_member key ms ≡ None) × HasKeysOnce d × AreKeysOnce ms
