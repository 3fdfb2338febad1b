use Rattle.std.proofs.Common.{◌≡◌, ℕ, List, ◌∷◌, ◌++◌, [], Some, None, ap, ◌∙◌, sym, arith}
use Rattle.std.proofs.lemmas.Bool.Decides.{Decides-eqb}
use Rattle.std.proofs.lemmas.Slice.Eq.{strip_prefix_is}
use Rattle.hmac_mac0.proofs.Headers.{front_of_kid, kid_header, kid_alone, plain_header, header_plain}
use Rattle.hmac_mac0.proofs.header.is_header.Goals as goal

pub returns-in-Some : goal.returns-in-Some
returns-in-Some c =
    let front = 0xa2 ∷ 0x01 ∷ c.number.result ∷ 0x04 ∷ [] in
    let same : front ≡ front_of_kid c.args.kind = ap (λ (n : ℕ). 0xa2 ∷ 0x01 ∷ n ∷ 0x04 ∷ []) c.number.ensures in
    let parts = strip_prefix_is Decides-eqb c.args.protected.now front (Some c.in-Some.kid) c.in-Some.ensures.cases ∙ ap (λ (f : List ℕ). f ++ c.in-Some.kid.now) same in (
      λ h. let kid = c.is_string.ensures.0 h in kid_header c.args.kind c.args.protected.now c.in-Some.kid.now kid.0 (λ i. omega (arith, c.type_inv.protected i)) parts kid.1,
      λ h. c.is_string.ensures.1 (kid_alone c.args.kind c.args.protected.now c.in-Some.kid.now parts h),
    )

pub returns-in-None : goal.returns-in-None
returns-in-None c =
    let front = 0xa2 ∷ 0x01 ∷ c.number.result ∷ 0x04 ∷ [] in
    let same : front ≡ front_of_kid c.args.kind = ap (λ (n : ℕ). 0xa2 ∷ 0x01 ∷ n ∷ 0x04 ∷ []) c.number.ensures in
    let other = strip_prefix_is Decides-eqb c.args.protected.now front None c.in-None.ensures.cases in
    let header = header_plain c.args.kind c.args.protected.now (λ rest e. other rest (e ∙ ap (λ (f : List ℕ). f ++ rest) (sym same))) in (
      λ h. plain_header c.args.kind c.args.protected.now (c.are_equal.ensures.0 h ∙ c.header.ensures),
      λ h. c.are_equal.ensures.1 (header h ∙ sym c.header.ensures),
    )
