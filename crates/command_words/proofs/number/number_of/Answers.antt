use Rattle.std.proofs.Common.{◌≡◌, ◌∙◌, ◌≢◌, sym, get_or, arith, Bool, true, false}
use Rattle.std.specs.Prelude.{Decides}
use Rattle.std.proofs.lemmas.Str.Pattern.{starts_char}
use Rattle.command_words.specs.Tasks.{Word}
use Rattle.command_words.proofs.NumberTexts.{read_number, read_none}
use Rattle.command_words.proofs.number.number_of.Goals as goal

no_plus : (word : Word) (begins : Bool) → Decides begins (get_or word 0 0 ≡ 43) → begins ≡ false → get_or word 0 0 ≢ 43
no_plus word begins decides not plus = let never : true ≡ false = sym (decides.1 plus) ∙ not in cc

pub returns-in-Ok : goal.returns-in-Ok
returns-in-Ok c =
    let decides = starts_char 43 c.args.word.now c.starts_with.result c.starts_with.ensures.cases (omega arith) (omega arith) in
    read_number c.args.word.now c.in-Ok.number c.parse.result c.in-Ok.is c.parse.ensures.value.0 (no_plus c.args.word.now c.starts_with.result decides c.if-starts_with.false)
    (sym c.is_short.ensures ∙ c.if-not-is_short.false)

pub returns-in-Err : goal.returns-in-Err
returns-in-Err c =
    let decides = starts_char 43 c.args.word.now c.starts_with.result c.starts_with.ensures.cases (omega arith) (omega arith) in
    read_none c.args.word.now c.in-Err.field-0 c.parse.result c.in-Err.is c.parse.ensures.value.0 (no_plus c.args.word.now c.starts_with.result decides c.if-starts_with.false)
