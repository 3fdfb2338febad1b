-- Why a judgement ends early.
use Rattle.std.specs.Prelude.{List}
use Rattle.path_checker.specs.declared.judge_plan.halt.Halt.{Halt}
use Rattle.path_checker.specs.declared.judge_plan.halt.Halt.TheVariants as halts
use Rattle.path_checker.specs.Exploring.{Course, Kept, Uncovers}

-- memory ran out, or the state that is held ends in an uncovered invoke
abbrev pub Halts : Course → List Kept → Halt → Type 0
Halts course from halts.NoMemory = Unit {0}
Halts course from (halts.Uncovered k) = Uncovers course from k.facts k.events
