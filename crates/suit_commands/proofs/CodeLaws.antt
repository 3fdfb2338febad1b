-- Codes of commands and their numbers.
use Rattle.std.proofs.Common.{◌≡◌, ℕ, Bool, true, false, Option, Some, None, Ok, Err, refl, ap, subst, ◌∙◌, inl, inr}
use Rattle.det_cbor.specs.DataItem.{DataItem, UnsignedInteger, NegativeInteger}
use Rattle.det_cbor.specs.ResultLaws.{same_ok, same_err}
use Rattle.suit_params.specs.declared.refusal.Refusal.{Refusal}
use Rattle.suit_params.specs.declared.refusal.Why.TheVariants.{Unsupported}
use Rattle.suit_params.specs.Refusing.{refused}
use Rattle.suit_params.proofs.Numbered.{numbered_has}
use Rattle.suit_commands.specs.declared.kinds.TestKind.TheVariants as tests
use Rattle.suit_commands.specs.declared.kinds.ActKind.TheVariants as acts
use Rattle.suit_commands.specs.declared.command_code.CommandCode.{CommandCode}
use Rattle.suit_commands.specs.declared.command_code.CommandCode.TheVariants as codes
use Rattle.suit_commands.specs.CommandCodes.{code_number, all_codes, numbered}
use Rattle.suit_commands.specs.SequenceFaults.{IsCode}
use Rattle.suit_commands.specs.SequenceJudging.{known_code, judge_code}

-- ---- numbers

-- each command is found by its number
pub numbered_again : (code : CommandCode) → numbered (code_number code) ≡ Some code
numbered_again (codes.Test tests.Vendor) = refl
numbered_again (codes.Test _) = refl
numbered_again (codes.Act acts.Write) = refl
numbered_again (codes.Act _) = refl
numbered_again _ = refl

-- a command that was found has the number
pub numbered_ok : (n : ℕ) (code : CommandCode) → numbered n ≡ Some code → n ≡ code_number code
numbered_ok n code e = numbered_has code_number all_codes n code e

-- ---- which codes are allowed

abbrev pub Allows : Bool → CommandCode → Type 0
Allows shared (codes.Act kind) = shared ≡ false
Allows shared _ = Unit {0}

-- the number is that of an allowed command
abbrev pub Numbers : Bool → ℕ → Type 0
Numbers shared n = (code : CommandCode) × (n ≡ code_number code) × Allows shared code

pub code_is : (shared : Bool) (n : ℕ) (code : CommandCode) → n ≡ code_number code → Allows shared code → IsCode shared n
code_is shared n (codes.Test kind) is allowed = inl (inl (kind, is))
code_is shared n (codes.Act kind) is allowed = inl (inr (allowed, (kind, is)))
code_is shared n codes.Index is allowed = inr (inl is)
code_is shared n codes.TryEach is allowed = inr (inr (inl is))
code_is shared n codes.Override is allowed = inr (inr (inr (inl is)))
code_is shared n codes.Run is allowed = inr (inr (inr (inr is)))

pub is_code : (shared : Bool) (n : ℕ) → IsCode shared n → Numbers shared n
is_code shared n (inl (inl test)) = (codes.Test test.0, test.1, tt)
is_code shared n (inl (inr act)) = (codes.Act act.1.0, act.1.1, act.0)
is_code shared n (inr (inl is)) = (codes.Index, is, tt)
is_code shared n (inr (inr (inl is))) = (codes.TryEach, is, tt)
is_code shared n (inr (inr (inr (inl is)))) = (codes.Override, is, tt)
is_code shared n (inr (inr (inr (inr is)))) = (codes.Run, is, tt)

-- ---- facts about a number

abbrev Known : Bool → Option CommandCode → CommandCode → Type 0
Known shared o code = (o ≡ Some code) × Allows shared code

known_ok : (place : ℕ) (shared : Bool) (o : Option CommandCode) (code : CommandCode) → known_code place shared o ≡ Ok code → Known shared o code
known_ok place true (Some (codes.Act kind)) code e = absurd cc
known_ok place false (Some (codes.Act kind)) code e = subst (Known false (Some (codes.Act kind))) (same_ok _ code e) (refl, refl)
known_ok place shared (Some known) code e = subst (Known shared (Some known)) (same_ok _ code e) (refl, tt)
known_ok place shared None code e = absurd cc

known_again : (place : ℕ) (shared : Bool) (code : CommandCode) → Allows shared code → known_code place shared (Some code) ≡ Ok code
known_again place shared (codes.Act kind) allowed = rw allowed refl
known_again place shared _ allowed = refl

abbrev NoneKnown : Bool → Option CommandCode → Type 0
NoneKnown shared o = (code : CommandCode) → o ≡ Some code → Allows shared code → ⊥

not_shared : {A : Type 0} → true ≡ false → A
not_shared e = absurd cc

known_err : (place : ℕ) (shared : Bool) (o : Option CommandCode) (r : Refusal) → known_code place shared o ≡ Err r → NoneKnown shared o × (refused place Unsupported ≡ r)
known_err place true (Some (codes.Act kind)) r e = (λ code is allowed. not_shared (subst (Allows true) (the_same code is) allowed), same_err _ r e)
  where
    the_same : (code : CommandCode) → Some (codes.Act kind) ≡ Some code → code ≡ codes.Act kind
    the_same code is = cc
known_err place false (Some (codes.Act kind)) r e = absurd cc
known_err place shared (Some known) r e = absurd cc
known_err place shared None r e = (λ code is allowed. absurd cc, same_err _ r e)

known_refused : (place : ℕ) (shared : Bool) (o : Option CommandCode) → NoneKnown shared o → known_code place shared o ≡ Err (refused place Unsupported)
known_refused place true (Some (codes.Act kind)) none = refl
known_refused place false (Some (codes.Act kind)) none = absurd (none (codes.Act kind) refl refl)
known_refused place shared (Some known) none = absurd (none known refl tt)
known_refused place shared None none = refl

-- ---- the judgement of a code

pub code_ok : (shared : Bool) (place : ℕ) (x : DataItem) (code : CommandCode) → judge_code shared place x ≡ Ok code → (x ≡ UnsignedInteger (code_number code)) × Allows shared code
code_ok shared place (UnsignedInteger n) code e = let known = known_ok place shared (numbered n) code e in (ap UnsignedInteger (numbered_ok n code known.0), known.1)
code_ok shared place _ code e = absurd cc

pub code_again : (shared : Bool) (place : ℕ) (code : CommandCode) → Allows shared code → judge_code shared place (UnsignedInteger (code_number code)) ≡ Ok code
code_again shared place code allowed = ap (known_code place shared) (numbered_again code) ∙ known_again place shared code allowed

abbrev pub IsOtherCode : Bool → DataItem → Type 0
IsOtherCode shared x = (n : ℕ) → x ≡ UnsignedInteger n → IsCode shared n → ⊥

pub code_err : (shared : Bool) (place : ℕ) (x : DataItem) (r : Refusal) → judge_code shared place x ≡ Err r → IsOtherCode shared x × (refused place Unsupported ≡ r)
code_err shared place (UnsignedInteger m) r e =
    let unknown = known_err place shared (numbered m) r e in (
      λ n is known.
          let same : m ≡ n = cc in
          let code = is_code shared n known in
          unknown.0 code.0 (ap numbered (same ∙ code.1) ∙ numbered_again code.0) code.2,
      unknown.1,
    )
code_err shared place (NegativeInteger m) r e = (λ n is known. absurd cc, same_err _ r e)
code_err shared place x r e = (λ n is known. absurd cc, same_err _ r e)

pub code_refused : (shared : Bool) (place : ℕ) (x : DataItem) → IsOtherCode shared x → judge_code shared place x ≡ Err (refused place Unsupported)
code_refused shared place (UnsignedInteger n) other = known_refused place shared (numbered n) (λ code is allowed. other n refl (code_is shared n code (numbered_ok n code is) allowed))
code_refused shared place _ other = refl
