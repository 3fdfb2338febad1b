-- The files that are asked for, stage by stage.
use Rattle.std.proofs.Common.{◌≡◌, ◌∙◌, ◌⊎◌, inl, inr, ℕ, suc, List, [], ◌∷◌, ◌++◌, take, refl, sym, ap, subst}
use Rattle.std.specs.Prelude.{IsTrue}
use Rattle.std.proofs.lemmas.List.{append_assoc, append-nil}
use Rattle.suit_cli.specs.declared.reply.Object.TheVariants as objects
use Rattle.suit_cli.specs.declared.reply.Reply.{Reply}
use Rattle.suit_cli.specs.Outside.{Outside, MayAsk, Reads}
use Rattle.suit_cli.specs.Stages.{Answers, Ending, judging, reading, Goes, Declines, Faults, Lacks, ◌>>=◌}

-- the first ones of these, of a host that tells
abbrev pub First : List (List ℕ) → Outside → Outside → Type 0
First names m a = (n : ℕ) × (a.asked ≡ m.asked ++ take n names)

pub same_asked : (m n : Outside) → n ≡ m → n.asked ≡ m.asked
same_asked m n same = ap (λ (o : Outside). o.asked) same

pub reads_told : (most : ℕ) (name : List ℕ) (m n : Outside) → Reads most name m n → IsTrue m.told → IsTrue n.told
reads_told most name m n reads told = subst IsTrue (sym reads.quiet.told) told

module _ (names : List (List ℕ)) (m a : Outside) where
  pub none : a.asked ≡ m.asked → First names m a
  none same = (0, same ∙ sym (append-nil m.asked))

  pub on_from : (n : Outside) → n.asked ≡ m.asked → First names n a → First names m a
  on_from n same rest = (rest.0, rest.1 ∙ ap (λ (l : List (List ℕ)). l ++ take rest.0 names) same)

  module _ (name : List ℕ) where
    pub one : a.asked ≡ m.asked ++ name ∷ [] → First (name ∷ names) m a
    one is = (1, is)

    pub may : (a.asked ≡ m.asked) ⊎ (a.asked ≡ m.asked ++ name ∷ []) → First (name ∷ names) m a
    may (inl same) = (0, same ∙ sym (append-nil m.asked))
    may (inr is) = one is

    pub more : (n : Outside) → n.asked ≡ m.asked ++ name ∷ [] → First names n a → First (name ∷ names) m a
    more n is rest =
        (suc rest.0, rest.1 ∙ ap (λ (l : List (List ℕ)). l ++ take rest.0 names) is ∙ append_assoc m.asked (name ∷ []) (take rest.0 names))

-- a file is read, and then the next ones
pub reading_first : {A : Type 0} (most : ℕ) (name : List ℕ) (good : Outside → A → Type 0) (bad : Outside → Reply → Type 0) (next : A → Answers) (names : List (List ℕ)) (m a : Outside) (e : Ending)
    → IsTrue m.told → ((x : A) (n : Outside) → IsTrue n.told → good m x → next x n a e → First names n a) → (reading most name good bad >>= next) m a e → First (name ∷ names) m a
reading_first most name good bad next names m a e told rest (Goes x n _ g on) = more names m a name n (g.0.asks told) (rest x n (reads_told most name m n g.0 told) g.1 on)
reading_first most name good bad next names m a _ told rest (Declines _ d) = one names m a name (d.0.asks told)
reading_first most name good bad next names m a _ told rest (Faults objects.Host f) = may names m a name (f.asks told)
reading_first most name good bad next names m a _ told rest (Faults objects.Flash f) = absurd f
reading_first most name good bad next names m a _ told rest (Lacks l) = one names m a name (l.asks told)

-- a judgement asks for none
pub judging_first : {A : Type 0} (good : A → Type 0) (bad : Reply → Type 0) (next : A → Answers) (names : List (List ℕ)) (m a : Outside) (e : Ending)
    → ((x : A) → good x → next x m a e → First names m a) → (judging good bad >>= next) m a e → First names m a
judging_first good bad next names m a e rest (Goes x n _ g on) = rest x g.1 (subst (λ (o : Outside). next x o a e) g.0 on)
judging_first good bad next names m a _ rest (Declines _ d) = none names m a (same_asked m a d.0)
judging_first good bad next names m a _ rest (Faults _ f) = absurd f
judging_first good bad next names m a _ rest (Lacks l) = none names m a (same_asked m a l)
