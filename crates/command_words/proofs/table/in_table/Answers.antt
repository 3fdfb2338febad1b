use Rattle.std.proofs.Common.{◌≡◌, ◌∙◌, ◌≤◌, ◌==◌, ℕ, [], sym, arith, length, Bool, false}
use Rattle.command_words.proofs.OtherNames.{default}
use Rattle.command_words.proofs.table.in_table.Goals as goal

there : (n : ℕ) (is_empty : Bool) → is_empty ≡ (n == 0) → is_empty ≡ false → 1 ≤ n
there n is_empty is not = grind arith

pub returns-in_default : goal.returns-in_default
returns-in_default c =
    default c.args.words.now (record { ref_ptr = (0, 0); now = [] }) (there (length c.args.words.now) c.is_empty.result c.is_empty.ensures c.if-is_empty.false)
    (sym c.are_plain.ensures ∙ c.if-not-are_plain.false)
    (record { make = c.in_default.not-make; show = c.in_default.not-show; check = c.in_default.not-check; run = c.in_default.not-run; drill = c.in_default.not-drill; diag = c.in_default.not-diag })
