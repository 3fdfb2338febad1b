-- Blocks that the disk does not depend on.
use Rattle.std.proofs.Common.{◌≡◌, ◌≢◌, ◌⊎◌, inl, inr, ⊎_elim, ◌<◌, ◌≤◌, ◌+◌, ◌*◌, ℕ, List, length, Option, Some, None, refl, sym, ◌∙◌, subst, arith}
use Rattle.nor_flash.specs.declared.phase.Phase.{Phase}
use Rattle.nor_flash.specs.declared.phase.Phase.TheVariants as phases
use Rattle.nor_flash.specs.Blocks.{IsErased, front, name_in, named, plain, with_block}
use Rattle.nor_flash.specs.NorDisks.{AreFirstNames, CanClear, IsQuiet, IsQuietAt}
use Rattle.nor_flash.proofs.BlockLemmas.{AreNames, names_of, none_unless, blank_name, blank_none, three_names, erased_name, block_is_over, plain_unnamed, plain_named, name_same, front_same, named_same, with_block_same}

module _ (m : ℕ) (a d : List ℕ) (fronts : front m d ≡ front m a) where
  -- a disk whose rewrite is given up is unchanged if each block that is named now was named before, with the
  -- same bytes
  given_up_by : (named_back : (c : ℕ) → named m d ≡ Some c → (named m a ≡ Some c) × (with_block m c d ≡ with_block m c a))
      → (o : Option ℕ) → named m d ≡ o → IsQuietAt m phases.GivenUp a d
  given_up_by named_back None is = record { shows = inl (plain_unnamed m d is ∙ fronts); sees = fronts; holds = tt }
  given_up_by named_back (Some c) is =
      let back = named_back c is in
      record { shows = inr (plain_named m c d is ∙ back.1 ∙ sym (plain_named m c a back.0)); sees = fronts; holds = tt }

  unnamed_by : (named_back : (c : ℕ) → named m d ≡ Some c → (named m a ≡ Some c) × (with_block m c d ≡ with_block m c a))
      → named m a ≡ None → IsQuietAt m phases.Unsettled a d
  unnamed_by named_back none =
      let unnamed : named m d ≡ None = none_unless (named m d) (λ c is. let back = named_back c is in absurd (cc (back.0, none))) in
      let plains : plain m d ≡ plain m a = plain_unnamed m d unnamed ∙ fronts ∙ sym (plain_unnamed m a none) in
      record { shows = inl plains; sees = plains; holds = tt }

  pub clear_at : (phase : Phase) → CanClear m phase a → ((c : ℕ) → named m d ≡ Some c → (named m a ≡ Some c) × (with_block m c d ≡ with_block m c a))
      → IsQuietAt m phase a d
  clear_at phase can named_back = ⊎_elim
      (λ given. subst (λ (p : Phase). IsQuietAt m p a d) (sym given) (given_up_by named_back (named m d) refl))
      (λ both. subst (λ (p : Phase). IsQuietAt m p a d) (sym both.0) (unnamed_by named_back both.1)) can

module _ (m : ℕ) (few : m ≤ blank_name) (a : List ℕ) (fits : length a ≡ 4096 * (m + 4)) (phase : Phase) where
  -- if the last two names differ, no block is named whatever becomes of the first one
  pub first_name_quiet : CanClear m phase a → name_in (m + 2) a ≢ name_in (m + 3) a → IsQuiet m phase a (m + 1)
  first_name_quiet can other d same =
      let two = name_same m a fits (m + 1) d same (m + 2) (λ e. absurd (omega (arith, e))) (omega arith) in
      let three = name_same m a fits (m + 1) d same (m + 3) (λ e. absurd (omega (arith, e))) (omega arith) in
      clear_at m a d (front_same m a fits (m + 1) d same (omega arith)) phase can
      (λ c is. let names = names_of m d c is in
      absurd (other (sym two ∙ names.second ∙ sym names.third ∙ three)))

  -- if they are equal, a block that is named whatever becomes of the second one was named before
  pub second_name_quiet : CanClear m phase a → name_in (m + 2) a ≡ name_in (m + 3) a → IsQuiet m phase a (m + 2)
  second_name_quiet can equal d same =
      let one = name_same m a fits (m + 2) d same (m + 1) (λ e. absurd (omega (arith, e))) (omega arith) in
      let three = name_same m a fits (m + 2) d same (m + 3) (λ e. absurd (omega (arith, e))) (omega arith) in
      clear_at m a d (front_same m a fits (m + 2) d same (omega arith)) phase can
      (λ c is. let names = names_of m d c is in
      let third : name_in (m + 3) a ≡ c = sym three ∙ names.third in (
        three_names m a c (record { first = sym one ∙ names.first; second = equal ∙ third; third = third; within = names.within }),
        with_block_same m a fits (m + 2) d same c (omega arith) (λ e. absurd (omega (arith, e))),
      ))

  -- if one name is blank, no block is named whatever becomes of another one
  pub other_name_quiet : (phase ≡ phases.GivenUp) ⊎ (phase ≡ phases.Unsettled) → (blank other : ℕ) → blank < 4 → other < 4 → 1 ≤ blank → 1 ≤ other → blank ≢ other
      → IsErased (m + blank) a → IsQuiet m phase a (m + other)
  other_name_quiet can blank other near_blank near_other some_blank some_other apart erased d same =
      let is : name_in (m + blank) a ≡ blank_name = erased_name m a fits (m + blank) (omega arith) erased in
      let still : name_in (m + blank) d ≡ blank_name = name_same m a fits (m + other) d same (m + blank) (λ e. apart (omega (arith, e))) (omega arith) ∙ is in
      let before : named m a ≡ None = blank_none m few a blank some_blank near_blank is in
      let behind : named m d ≡ None = blank_none m few d blank some_blank near_blank still in
      clear_at m a d (front_same m a fits (m + other) d same (omega arith)) phase
      (⊎_elim (λ given. inl given) (λ un. inr (un, before)) can)
      (λ c at. absurd (cc (at, behind)))

  -- the image block, as long as no block is named
  pub image_quiet : phase ≡ phases.GivenUp → named m a ≡ None → IsQuiet m phase a m
  image_quiet given none d same =
      let behind : named m d ≡ None = named_same m a fits m d same (omega arith) ∙ none in
      clear_at m a d (front_same m a fits m d same (omega arith)) phase (inl given) (λ c at. absurd (cc (at, behind)))

  -- the first name, once the named block equals the image block
  pub finished_quiet : (b : ℕ) → phase ≡ phases.Unsettled → named m a ≡ Some b → with_block m b a ≡ front m a → IsQuiet m phase a (m + 1)
  finished_quiet b un is copied d same =
      let two = name_same m a fits (m + 1) d same (m + 2) (λ e. absurd (omega (arith, e))) (omega arith) in
      let old = names_of m a b is in
      let fronts = front_same m a fits (m + 1) d same (omega arith) in
      let plain_a : plain m a ≡ front m a = plain_named m b a is ∙ copied in
      let plain_d : (o : Option ℕ) → named m d ≡ o → plain m d ≡ plain m a =
      λ o at. by_name o at two old fronts plain_a in
      let plains = plain_d (named m d) refl in
      subst (λ (p : Phase). IsQuietAt m p a d) (sym un) (record { shows = inl plains; sees = plains; holds = tt })
    where
      by_name : (o : Option ℕ) → named m d ≡ o → name_in (m + 2) d ≡ name_in (m + 2) a → AreNames m a b
          → front m d ≡ front m a → plain m a ≡ front m a → plain m d ≡ plain m a
      by_name None at two old fronts plain_a = plain_unnamed m d at ∙ fronts ∙ sym plain_a
      by_name (Some c) at two old fronts plain_a =
          let names = names_of m d c at in
          let is_b : c ≡ b = sym names.second ∙ two ∙ old.second in
          plain_named m c d at ∙ with_block_same m a fits (m + 1) d same c (omega arith) (λ e. absurd (omega (arith, e)))
          ∙ subst (λ (x : ℕ). with_block m x a ≡ front m a) (sym is_b) copied ∙ sym plain_a

  -- the named block
  pub rewriting_quiet : (b : ℕ) → b < m → phase ≡ phases.Rewriting b → named m a ≡ Some b → IsQuiet m phase a b
  rewriting_quiet b within rewriting is d same =
      let behind : named m d ≡ Some b = named_same m a fits b d same (omega arith) ∙ is in
      let plains : plain m d ≡ plain m a = plain_named m b d behind ∙ block_is_over m a fits b d same within ∙ sym (plain_named m b a is) in
      subst (λ (p : Phase). IsQuietAt m p a d) (sym rewriting) (record { shows = inl plains; sees = plains; holds = behind })

  -- if one of the first two names is blank: the other one, and the last one
  pub second_quiet : (phase ≡ phases.GivenUp) ⊎ (phase ≡ phases.Unsettled) → (first second : ℕ) → AreFirstNames first second → IsErased (m + first) a → IsQuiet m phase a (m + second)
  second_quiet can first second two erased = ⊎_elim
      (λ h. other_name_quiet can first second (omega (arith, h.0)) (omega (arith, h.1)) (omega (arith, h.0)) (omega (arith, h.1)) (λ e. absurd (omega (arith, e, h.0, h.1))) erased)
      (λ h. other_name_quiet can first second (omega (arith, h.0)) (omega (arith, h.1)) (omega (arith, h.0)) (omega (arith, h.1)) (λ e. absurd (omega (arith, e, h.0, h.1))) erased) two

  pub third_quiet : (phase ≡ phases.GivenUp) ⊎ (phase ≡ phases.Unsettled) → (first second : ℕ) → AreFirstNames first second → IsErased (m + first) a → IsQuiet m phase a (m + 3)
  third_quiet can first second two erased = ⊎_elim
      (λ h. other_name_quiet can first 3 (omega (arith, h.0)) (omega arith) (omega (arith, h.0)) (omega arith) (λ e. absurd (omega (arith, e, h.0))) erased)
      (λ h. other_name_quiet can first 3 (omega (arith, h.0)) (omega arith) (omega (arith, h.0)) (omega arith) (λ e. absurd (omega (arith, e, h.0))) erased) two
