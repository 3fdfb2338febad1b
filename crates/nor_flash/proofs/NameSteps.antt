-- The three names are erased one by one.
use Rattle.std.proofs.Common.{◌≡◌, ◌≢◌, ◌⊎◌, ⊎_elim, ◌+◌, ℕ, subst, arith}
use Rattle.suit_edge.specs.Flash.{Flash}
use Rattle.nor_flash.specs.declared.phase.Phase.{Phase}
use Rattle.nor_flash.specs.declared.phase.Phase.TheVariants as phases
use Rattle.nor_flash.specs.Blocks.{IsErased}
use Rattle.nor_flash.specs.NorDisks.{AreErased, AreFirstNames, IsQuiet, IsSteady, blocks_of}
use Rattle.nor_flash.proofs.Calm.{Changes, blank_stays, calm_fits}
use Rattle.nor_flash.proofs.Quiet.{second_quiet, third_quiet}
use Rattle.nor_flash.proofs.Steadiness.{quiet_step, steady_then}

apart : (m first second : ℕ) → AreFirstNames first second → m + second ≢ m + first
apart m first second names e = ⊎_elim (λ h. absurd (omega (arith, e, h.0, h.1))) (λ h. absurd (omega (arith, e, h.0, h.1))) names

-- the first two
module _ {size : ℕ} {a b c : Flash} (first second : ℕ) (names : AreFirstNames first second) (one : Changes size (blocks_of size + first) a b)
    (erased : IsErased (blocks_of size + first) b.reads) (two : Changes size (blocks_of size + second) b c) where
  abbrev m : ℕ
  m = blocks_of size

  first_stays : IsErased (m + first) c.reads
  first_stays = blank_stays two (m + first) (apart m first second names) erased

  pub two_names : (phase : Phase) → (phase ≡ phases.GivenUp) ⊎ (phase ≡ phases.Unsettled) → IsQuiet m phase a.reads (m + first) → IsSteady m phase a phase c
  two_names phase can quiet = steady_then one.to (quiet_step one quiet)
      (quiet_step two (second_quiet m one.sized.few b.reads (calm_fits one.sized one.to) phase can first second names erased))

  -- and the last one
  module _ {d : Flash} (three : Changes size (m + 3) c d) where
    pub three_names : (phase : Phase) → (phase ≡ phases.GivenUp) ⊎ (phase ≡ phases.Unsettled) → IsQuiet m phase a.reads (m + first) → IsSteady m phase a phase d
    three_names phase can quiet = steady_then two.to (two_names phase can quiet)
        (quiet_step three (third_quiet m one.sized.few c.reads (calm_fits one.sized two.to) phase can first second names first_stays))

    pub all_erased : IsErased (m + second) c.reads → IsErased (m + 3) d.reads → AreErased m d.reads
    all_erased erased_2 erased_3 =
        let one_left : IsErased (m + first) d.reads = blank_stays three (m + first) (λ e. ⊎_elim (λ h. absurd (omega (arith, e, h.0))) (λ h. absurd (omega (arith, e, h.0))) names) first_stays in
        let two_left : IsErased (m + second) d.reads = blank_stays three (m + second) (λ e. ⊎_elim (λ h. absurd (omega (arith, e, h.1))) (λ h. absurd (omega (arith, e, h.1))) names) erased_2 in
        ⊎_elim
        (λ h. (subst (λ (k : ℕ). IsErased (m + k) d.reads) h.0 one_left, subst (λ (k : ℕ). IsErased (m + k) d.reads) h.1 two_left, erased_3))
        (λ h. (subst (λ (k : ℕ). IsErased (m + k) d.reads) h.1 two_left, subst (λ (k : ℕ). IsErased (m + k) d.reads) h.0 one_left, erased_3)) names
