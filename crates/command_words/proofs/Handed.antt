-- The values of a command's arguments, given the rows that were found.
use Rattle.std.proofs.Common.{◌≡◌, ◌∙◌, List, [], Bool, true, false, ◌&&◌, Option, Some, drop, refl, sym, ap}
use Rattle.std.specs.Prelude.{is_some, unwrap_or}
use Rattle.clap.specs.Walk.{Row, first_of}
use Rattle.clap.specs.Simple.{App, app_of, matches_of}
use Rattle.clap.specs.Takes.{takes}
use Rattle.clap.specs.declared.builder.command.Command.{Command}
use Rattle.command_words.specs.Tasks.{Word, Words}

pub both : (a b : Bool) → (a && b) ≡ true → (a ≡ true) × (b ≡ true)
both true b h = (refl, h)
both false b h = let never : false ≡ true = h in cc

-- the value of an argument, in words whose first one is the name of the command
abbrev pub value_in : App → Word → Words → Option Word
value_in app id words = first_of id (matches_of app (drop 1 words))

module _ (app : App) (words : Words) where
  pub taken : (command : Command) → app_of command ≡ app → takes app words ≡ true → takes (app_of command) words ≡ true
  taken command is takes_them = ap (λ (a : App). takes a words) is ∙ takes_them

  module _ (rows : List Row) (are : rows ≡ matches_of app (drop 1 words)) where
    pub found_in : (id : Word) → first_of id rows ≡ value_in app id words
    found_in id = ap (first_of id) are

    pub is_there : (id value : Word) → value_in app id words ≡ Some value → is_some (first_of id rows) ≡ true
    is_there id value has = ap is_some (found_in id ∙ has)

    pub is_that : (id value got : Word) → value_in app id words ≡ Some value → first_of id rows ≡ Some got → value ≡ got
    is_that id value got has gives = ap (λ (o : Option Word). unwrap_or o []) (sym has ∙ sym (found_in id) ∙ gives)
