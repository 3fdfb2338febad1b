-- A value is a description or has one first fault, and never both.
use Rattle.std.proofs.Common.{◌≡◌, ◌<◌, ◌⊎◌, inl, inr, ⊎_elim, Bool, true, false, true≢false, ℕ, List, [], Result, Ok, Err, IfErr, IfOk, refl, sym, ap, ◌∙◌, subst, arith}
use Rattle.std.specs.Prelude.{MatchResult}
use Rattle.serde_json.specs.Data.{Data}
use Rattle.json_fields.specs.declared.flaw.Flaw.{Flaw}
use Rattle.json_fields.specs.declared.flaw.FlawKind.{FlawKind}
use Rattle.json_fields.specs.declared.flaw.FlawKind.TheVariants as kinds
use Rattle.json_fields.specs.declared.flaw.JsonFault.{JsonFault}
use Rattle.json_fields.specs.declared.flaw.JsonFault.TheVariants.{Flawed}
use Rattle.json_fields.specs.declared.flaw.JsonFault.TheVariants as faults
use Rattle.json_fields.specs.Answers.{Gives}
use Rattle.json_fields.specs.Telling.{by_kind}
use Rattle.suit_manifest.specs.Components.{AreAlike}
use Rattle.author.specs.declared.fields.Described.{Described}
use Rattle.author.specs.declared.fault.DescriptionFault.{DescriptionFault}
use Rattle.author.specs.declared.fault.DescriptionFault.TheVariants.{BadField, BadHex, BadUuid, TwoAlike, TooMany, NoMemory}
use Rattle.author.specs.Descriptions.{described}
use Rattle.author.specs.Faults.{fault_of, fault_told, AreFewAndApart, RefusesComponents, Many, Alike, IsDescription, RefusesDescription, BadValue, BadComponents, IsFaultOf, IsRefusedFor}

pub fault_of_components : (d : Data) (p : Described) (fault : DescriptionFault) → described [] d ≡ Ok p → RefusesComponents p.manifest.components fault → IsFaultOf d fault
fault_of_components d p (BadField t) e r = BadComponents p (BadField t) e r
fault_of_components d p (BadHex t) e r = BadComponents p (BadHex t) e r
fault_of_components d p (BadUuid t) e r = BadComponents p (BadUuid t) e r
fault_of_components d p (TwoAlike i j) e r = BadComponents p (TwoAlike i j) e r
fault_of_components d p (TooMany n) e r = BadComponents p (TooMany n) e r
fault_of_components d p NoMemory e r = tt

-- the fields are read, and then the components decide
pub by_components : {A : Type 0} (d : Data) (p : Described) (r : Result A DescriptionFault) → described [] d ≡ Ok p → MatchResult r (λ _. AreFewAndApart p.manifest.components) (RefusesComponents p.manifest.components)
    → MatchResult r (λ _. IsDescription d) (IsFaultOf d)
by_components d p (Ok x) e h = record { said = p; reads = e; components = h }
by_components d p (Err fault) e h = fault_of_components d p fault e h

is_fault : (d : Data) (kind : FlawKind) (pointer : List ℕ) → RefusesDescription d (by_kind BadField BadHex BadUuid kind pointer) → IsFaultOf d (by_kind BadField BadHex BadUuid kind pointer)
is_fault d kinds.Field pointer r = r
is_fault d kinds.Hex pointer r = r
is_fault d kinds.Uuid pointer r = r

pub fault_of_fields : (d : Data) (fault : JsonFault) → Gives {X = Described} (λ p. p) (Err fault) (described [] d) → IsFaultOf d (fault_told fault)
fault_of_fields d (Flawed f) e = is_fault d f.kind f.pointer (BadValue f e)
fault_of_fields d faults.NoMemory e = tt

abbrev flawed_as : Flaw → Result Described Flaw
flawed_as f = Err f

abbrev was_err : Result Described Flaw → Bool
was_err (Ok p) = false
was_err (Err f) = true

err_not_ok : (f : Flaw) (p : Described) → flawed_as f ≡ Ok p → ⊥
err_not_ok f p e = true≢false (ap was_err e)

not_few : (ids : List (List (List ℕ))) (f : DescriptionFault) → AreFewAndApart ids → RefusesComponents ids f → ⊥
not_few ids f few (Many h) = let small = few.few in omega arith
not_few ids f few (Alike i j h a) = few.apart i j a.below a.inside a.same

three : (m n : ℕ) → (m < n) ⊎ ((m ≡ n) ⊎ (n < m))
three m n = grind arith

-- ---- two that are alike are told once

alike_once : (ids : List (List (List ℕ))) (i j k l : ℕ) → AreAlike ids i j → AreAlike ids k l → (i ≡ k) × (j ≡ l)
alike_once ids i j k l a b =
    let same_second : j ≡ l = ⊎_elim (λ h. absurd (b.least_second i j a.below h a.same)) (⊎_elim (λ e. e) (λ h. absurd (a.least_second k l b.below h b.same))) (three j l) in
    (⊎_elim (λ h. absurd (b.least_first i h (rw (sym same_second) a.same))) (⊎_elim (λ e. e) (λ h. absurd (a.least_first k h (rw same_second b.same)))) (three i k), same_second)

components_once : (ids : List (List (List ℕ))) (f g : DescriptionFault) → RefusesComponents ids f → RefusesComponents ids g → f ≡ g
components_once ids f g (Many h) (Many h') = refl
components_once ids f g (Many h) (Alike i j few a) = absurd (omega arith)
components_once ids f g (Alike i j few a) (Many h) = absurd (omega arith)
components_once ids f g (Alike i j few a) (Alike k l few' b) = let e = alike_once ids i j k l a b in ap (λ n. TwoAlike n j) e.0 ∙ ap (TwoAlike k) e.1

abbrev said_or : Described → Result Described Flaw → Described
said_or other (Ok p) = p
said_or other (Err f) = other

abbrev flaw_or : Flaw → Result Described Flaw → Flaw
flaw_or other (Ok p) = other
flaw_or other (Err f) = f

once : (d : Data) (f g : DescriptionFault) → RefusesDescription d f → RefusesDescription d g → f ≡ g
once d _ _ (BadValue a e) (BadValue b e') = ap fault_of (ap (flaw_or a) (sym e ∙ e'))
once d _ _ (BadValue a e) (BadComponents q g e' r') = absurd (err_not_ok a q (sym e ∙ e'))
once d _ _ (BadComponents p f e r) (BadValue b e') = absurd (err_not_ok b p (sym e' ∙ e))
once d _ _ (BadComponents p f e r) (BadComponents q g e' r') =
    let same : q ≡ p = ap (said_or p) (sym e' ∙ e) in
    components_once p.manifest.components f g r (subst (λ x. RefusesComponents x.manifest.components g) same r')

never_both : (d : Data) (f : DescriptionFault) → IsDescription d → RefusesDescription d f → ⊥
never_both d _ p (BadValue a e) = err_not_ok a p.said (sym e ∙ p.reads)
never_both d _ p (BadComponents q f e r) =
    let same : q ≡ p.said = ap (said_or q) (sym e ∙ p.reads) in
    not_few p.said.manifest.components f p.components (subst (λ x. RefusesComponents x.manifest.components f) same r)

fault_cases : (d : Data) (f g : DescriptionFault) → IsFaultOf d g → RefusesDescription d f → (g ≡ f) ⊎ (g ≡ NoMemory)
fault_cases d f (BadField t) h r = inl (once d _ f h r)
fault_cases d f (BadHex t) h r = inl (once d _ f h r)
fault_cases d f (BadUuid t) h r = inl (once d _ f h r)
fault_cases d f (TwoAlike i j) h r = inl (once d _ f h r)
fault_cases d f (TooMany n) h r = inl (once d _ f h r)
fault_cases d f NoMemory h r = inr refl

pub refused_for : {A : Type 0} (d : Data) (f : DescriptionFault) (result : Result A DescriptionFault) → IfOk result (λ p. IsDescription d) → IfErr result (IsFaultOf d) → RefusesDescription d f → IsRefusedFor f result
refused_for d f (Ok p) ok bad r = never_both d f ok r
refused_for d f (Err g) ok bad r = fault_cases d f g bad r
