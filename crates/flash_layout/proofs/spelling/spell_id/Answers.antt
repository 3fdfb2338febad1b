use Rattle.std.proofs.Common.{◌≤◌, ℕ, List, length, subst, Result, Ok, Err, arith}
use Rattle.std.specs.Prelude.{IfErr}
use Rattle.flash_layout.proofs.Spellings.{head_long, parts_long, parts_spelled}
use Rattle.flash_layout.proofs.spelling.spell_id.Goals as goal

whatever : {A E : Type 0} (r : Result A E) (P : Type 0) → P → IfErr r (λ _. P)
whatever (Ok a) P p = tt
whatever (Err e) P p = p

pub returns-in_err-put_head-clause-long : goal.returns-in_err-put_head-clause-long
returns-in_err-put_head-clause-long c = whatever c.from_residual.result _
    (head_long c.args.identifier.now c.as_slice-parts.result.now c.new-out.result.items c.new-out.ensures c.as_slice-parts.ensures c.in_err-put_head.ensures.err)

pub returns-in_err-put_strings-clause-long : goal.returns-in_err-put_strings-clause-long
returns-in_err-put_strings-clause-long c = whatever c.from_residual-in_err-put_strings.result _
    (parts_long c.args.identifier.now c.as_slice-parts.result.now c.new-out.result.items c.put_head.new.out.items c.new-out.ensures c.as_slice-parts.ensures c.in_ok-put_head.ensures.ok c.in_err-put_strings.ensures.err)

pub returns-clause-ok : goal.returns-clause-ok
returns-clause-ok c =
    parts_spelled c.args.identifier.now c.as_slice-parts.result.now c.new-out.result.items c.put_head.new.out.items c.put_strings.new.out.items c.new-out.ensures c.as_slice-parts.ensures c.in_ok-put_head.ensures.ok c.in_ok-put_strings.ensures.ok

pub returns-clause-short : goal.returns-clause-short
returns-clause-short c =
    let is = parts_spelled c.args.identifier.now c.as_slice-parts.result.now c.new-out.result.items c.put_head.new.out.items c.put_strings.new.out.items c.new-out.ensures c.as_slice-parts.ensures c.in_ok-put_head.ensures.ok c.in_ok-put_strings.ensures.ok in
    let fits : c.len-few.result ≤ 64 = c.len-few.ensures.fits in
    let few : length c.put_strings.new.out.items ≤ 64 = omega (arith, c.len-few.ensures.value, fits) in
    subst (λ (l : List ℕ). length l ≤ 64) is few
