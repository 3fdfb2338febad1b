-- The levels of a walk that enters a branch, or leaves one.
use Rattle.std.proofs.Common.{◌≡◌, ◌∙◌, ℕ, ◌+◌, ◌<◌, List, [], ◌∷◌, ◌++◌, map, length, Option, Some, refl, sym, ap, subst, arith, length-append}
use Rattle.std.proofs.lemmas.List.{map-append}
use lib.ListN.{length-map}
use Rattle.suit_commands.specs.Tree.{SequenceTree}
use Rattle.suit_cursor.specs.declared.level.Level.{Level as Entered}
use Rattle.suit_cursor.specs.declared.level.Within.TheVariants.{Nothing}
use Rattle.suit_cursor.specs.Walking.{Level, branch_at, at_first}
use Rattle.suit_cursor.specs.Within.{branches_in, level_of, IsLevel, AreLevels, Stands}
use Rattle.suit_cursor.proofs.Depths.{entered, one_more, one_less}

levels_with : (outer : List Entered) (around : Entered) → map level_of (outer ++ around ∷ []) ≡ map level_of outer ++ level_of around ∷ []
levels_with outer around = map-append level_of outer (around ∷ [])

-- ---- entering

pub room : (here : Entered) (outer : List Entered) (n : ℕ) (s : SequenceTree) → Some s ≡ branch_at (branches_in here.within) n → Stands here outer → length outer < 7
room here outer n s is was = (entered (length outer) n (level_of here) s (sym is) was.inmost).1

pub pushed : (here around inner : Entered) (outer items : List Entered) (n : ℕ) (s : SequenceTree) → around ≡ here → inner ≡ record { left = s; within = Nothing } → Some s ≡ branch_at (branches_in here.within) n
    → items ≡ outer ++ around ∷ [] → Stands here outer → Stands inner items
pushed here around inner outer items n s same inner-is is items-is was =
    let all = items-is ∙ ap (λ (l : Entered). outer ++ l ∷ []) same in
    let long : length outer + 1 ≡ length items = omega (arith, ap length all, length-append outer (here ∷ [])) in
    let inmost = (entered (length outer) n (level_of here) s (sym is) was.inmost).0 in
    let others = one_more 0 (map level_of outer) (level_of here) was.others (subst (λ (k : ℕ). IsLevel k (level_of here)) (omega (arith, length-map outer level_of)) was.inmost) in
    record {
      inmost = subst (λ (l : Level). IsLevel (length items) l) (ap level_of (sym inner-is)) (subst (λ (k : ℕ). IsLevel k (at_first s)) long inmost);
      others = subst (λ (ls : List Level). AreLevels 0 ls) (sym (ap (map level_of) all ∙ levels_with outer here)) others;
    }

-- ---- leaving

pub popped : (here outer : Entered) (before after : List Entered) → before ≡ after ++ outer ∷ [] → Stands here before → Stands outer after
popped here outer before after is was =
    let split = one_less 0 (map level_of after) (level_of outer) (subst (λ (ls : List Level). AreLevels 0 ls) (ap (map level_of) is ∙ levels_with after outer) was.others) in
    record {
      inmost = subst (λ (k : ℕ). IsLevel k (level_of outer)) (omega (arith, length-map after level_of)) split.1;
      others = split.0;
    }
