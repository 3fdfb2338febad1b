use Rattle.std.proofs.Common.{◌≡◌, ◌≤◌, ℕ, List, ◌++◌, length, take, drop, Some, refl, sym, ◌∙◌, ap, subst, arith}
use Rattle.std.proofs.lemmas.List.{take-append-drop}
use Rattle.suit_edge.proofs.Asked.{asked_one}
use Rattle.suit_edge.proofs.law.host_laws.Goals as goal

pub returns : goal.returns
returns c = record {
  one_answer = λ file rest other started absent. cc (sym started ∙ absent.0);
  one_rest = λ file rest other a b. cc (sym a ∙ b);
  none = λ n file rest now room filled absent gives.
      let within = subst (λ (l : List ℕ). n ≤ length l) absent.1 gives.within in
      let nothing : n ≡ 0 = omega (arith, within) in
      (nothing, gives.left ∙ ap (λ (k : ℕ). drop k rest) nothing ∙ absent.1);
  whole = λ n file rest now room filled started gives.
      started ∙ ap (λ (l : List ℕ). Some l) (sym (take-append-drop n rest) ∙ ap (λ (l : List ℕ). l ++ drop n rest) (sym gives.front) ∙ ap (λ (l : List ℕ). take n filled ++ l) (sym gives.left));
  end = λ before now room filled place gives. gives.end refl place;
  stored = λ file bytes rest stores started. cc (sym stores ∙ started);
  asked_done = λ name before now asks. asks;
  asked_absent = λ name before now asks. asks;
  asked_one = λ answer name other before now asks is. asked_one answer name other before now asks is;
  start_failed = λ before low f. omega (arith, f.rose low);
  start_done = λ before now is. is;
  start_absent = λ before now is. is;
  pull_failed = λ before low f. omega (arith, f.rose low);
  pull_got = λ n before now is. is;
}
