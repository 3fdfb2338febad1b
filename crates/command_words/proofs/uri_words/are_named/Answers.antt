use Rattle.std.proofs.Common.{rules, tests, ◌≡◌, ◌∙◌, sym, refl, ap, Bor, Bool, List, [], ◌∷◌, map, ◌||◌}
use Rattle.std.specs.List.{list_any}
use Rattle.std.proofs.lemmas.Iterator.{YieldsList-from_slice}
use Rattle.std.proofs.lemmas.Iterator.Search.{any_from_yields_List}
use Rattle.command_words.specs.Tasks.{Word}
use Rattle.command_words.specs.UriWords.{names}
use Rattle.command_words.proofs.uri_words.are_named.Goals as goal

any_map : {X Y : Type 0} (p : X → Bool) (f : Y → X) (ys : List Y) → list_any p (map f ys) ≡ list_any (λ y. p (f y)) ys
any_map p f [] = refl
any_map p f (y ∷ ys) = ap (λ b. p (f y) || b) (any_map p f ys)

pub returns : goal.returns
returns c =
    any_from_yields_List (λ (w : Bor Word). names c.args.uri.now w.now) _ _ c.any.result c.any.ensures.ran (YieldsList-from_slice c.args.words.now cc) (λ x b q k. search (rules, tests))
    ∙ sym (any_map (names c.args.uri.now) (λ (w : Bor Word). w.now) c.args.words.now)
