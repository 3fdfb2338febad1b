-- Identifiers have sixteen bytes, by their types.
use Rattle.std.specs.Prelude.{IfSome}
use Rattle.flash_layout.specs.declared.layout.Entry.{Entry}
use Rattle.path_model.specs.Path.{IsIdentifier}

-- each identifier of the component has sixteen bytes
pub record HasIdentifiers (e : Entry) : Type 0 where
  pub vendor : IfSome e.vendor IsIdentifier
  pub class : IfSome e.class IsIdentifier
  pub device : IfSome e.device IsIdentifier
