-- An answer of `diag FILE`.
use Rattle.std.proofs.Common.{◌≡◌, ◌∙◌, ℕ, List, [], ◌∷◌, length, take_all, Result, Ok, Err, inl, inr, refl, sym, ap, subst, arith}
use Rattle.std.specs.Prelude.{IsTrue}
use Rattle.std.specs.declared.alloc.AllocError.{AllocError}
use Rattle.det_cbor.specs.ArgumentLaws.{IsBytes, all_bytes}
use Rattle.det_cbor.specs.DataItem.{DataItem, Spells}
use Rattle.det_cbor.specs.HeadReading.{◌>>=◌}
use Rattle.det_cbor.specs.OneReading.{IsItem, StartsWithItem}
use Rattle.det_cbor.specs.Position.{Position}
use Rattle.det_cbor.specs.ResultLaws.{same_ok, same_err, not_both}
use Rattle.det_cbor.specs.declared.reason.CborFault.{CborFault}
use Rattle.det_cbor.specs.declared.reason.CborFault.TheVariants.{Refused, NoMemory}
use Rattle.det_cbor.specs.declared.reason.Reason.{Reason}
use Rattle.suit_params.specs.HeldLaws.{ReadsAs, whole_is}
use Rattle.suit_params.specs.JudgingLaws.{Judges, whole_ok, whole_err, whole_read, whole_refused}
use Rattle.suit_params.specs.Reading.{only_from, whole_judged}
use Rattle.suit_params.specs.Refusing.{Says as Form}
use Rattle.suit_params.specs.declared.refusal.Refusal.{Refusal}
use Rattle.suit_cli.specs.declared.reply.Object.{Object}
use Rattle.suit_cli.specs.declared.reply.Object.TheVariants as objects
use Rattle.suit_cli.specs.declared.reply.Outcome.TheVariants as outcomes
use Rattle.suit_cli.specs.declared.reply.Reply.{Reply}
use Rattle.suit_cli.specs.Outside.{Outside, Asks, MayAsk}
use Rattle.suit_cli.specs.Stages.{Says, FaultOf, Goes, Declines, Faults, Ends, Does, at_host}
use Rattle.suit_cli.specs.Replies.{Makes, stop_of}
use Rattle.suit_cli.specs.Texts.{refusal_line}
use Rattle.suit_cli.specs.Inputs.{longest_file, IsRead, IsUnread}
use Rattle.suit_cli.specs.Envelopes.{AreBytes, IsRefused}
use Rattle.suit_cli.specs.Diagnosing.{RefusesNone, RefusesItem, item_in, IsNotated}
use Rattle.suit_cli.specs.Commands.{diagnoses}
use Rattle.suit_cli.specs.DiagLaws.{DiagSays, BeforeItem, AtItem, AtNotation}
use Rattle.suit_cli.proofs.OneCause.{Behind, Stops, Passes, HasOne, just_one}
use Rattle.suit_cli.proofs.OneStage.{one_reply, one_file, refusal_reply}
use Rattle.suit_cli.proofs.Running.{Plain, declining, unread_declines}

-- ---- items of any form

-- each item is good, and says what this makes of it
abbrev any : {A : Type 0} → (DataItem → A) → ℕ → DataItem → Result A Refusal
any f place x = Ok (f x)

abbrev IsAny : {A : Type 0} → (DataItem → A) → Form A
IsAny f place x said = said ≡ f x

any_judges : {A : Type 0} (f : DataItem → A) → Judges (any f) (IsAny f) RefusesNone
any_judges {A} f = record {
  ok = λ levels place x a valid is. same_ok a (f x) (sym is);
  again = λ place x a is. ap (λ (y : A). Ok y) (sym is);
  err = λ levels place x r valid is. not_both (any f place x) (f x) r refl is;
  refuses = λ place x r never. absurd never;
}

-- ---- bytes that were judged as one item

abbrev nothing : DataItem → Unit {0}
nothing x = tt

abbrev read_nothing : Position → Result (Unit {0}) Refusal
read_nothing p = Ok tt

reads_nothing : ReadsAs read_nothing (any nothing)
reads_nothing levels place x valid = refl

abbrev at_start : List ℕ → Position
at_start bytes = record { left = bytes; place = 0 }

judged : (bytes : List ℕ) (r : Result Position Refusal) → IsBytes bytes → r ≡ only_from (at_start bytes) → whole_judged (any nothing) 0 bytes ≡ (r >>= read_nothing)
judged bytes r fits is =
    sym (whole_is read_nothing (any nothing) reads_nothing (at_start bytes) fits) ∙ ap (λ (a : Result Position Refusal). a >>= read_nothing) (sym is)

pub is_item : (bytes : List ℕ) (p : Position) → IsBytes bytes → Ok p ≡ only_from (at_start bytes) → IsItem bytes
is_item bytes p fits is =
    let whole = whole_ok (any nothing) (IsAny nothing) RefusesNone (any_judges nothing) 0 bytes tt fits (judged bytes (Ok p) fits is) in
    (whole.item, whole.spells)

is_no_item : (bytes : List ℕ) (r : Refusal) → IsBytes bytes → Err r ≡ only_from (at_start bytes) → RefusesItem bytes r
is_no_item bytes r fits is = whole_err (any nothing) (IsAny nothing) RefusesNone (any_judges nothing) 0 bytes r fits (judged bytes (Err r) fits is)

pub refused_item : (bytes : List ℕ) (r : Refusal) (made : Result Reply AllocError) → IsBytes bytes → Err r ≡ only_from (at_start bytes) → Makes made outcomes.Refused (refusal_line r)
    → (here : Outside) → Does (item_in bytes) here here (Err (stop_of made))
refused_item bytes r (Ok reply) fits is says here = (refl, (all_bytes bytes fits, record { refusal = r; refuses = is_no_item bytes r fits is; says = says }))
refused_item bytes r (Err e) fits is says here = refl

-- ---- such bytes decoded

starts : (bytes : List ℕ) (x : DataItem) → Spells x bytes → StartsWithItem bytes x (length bytes)
starts bytes x spells = record { spells = subst (λ (l : List ℕ). Spells x l) (sym (take_all (length bytes) bytes (omega arith))) spells; within = omega arith }

pub decoded_item : (bytes : List ℕ) (y : DataItem) (n : ℕ) → IsItem bytes → ((x : DataItem) (used : ℕ) → StartsWithItem bytes x used → (y ≡ x) × (n ≡ used)) → Spells y bytes
decoded_item bytes y n item every =
    let same = every item.0 (length bytes) (starts bytes item.0 item.1) in
    subst (λ (x : DataItem). Spells x bytes) (sym same.0) item.1

pub never_faulty : (bytes : List ℕ) (fault : CborFault) (place : ℕ) (reason : Reason) → IsItem bytes → fault ≡ Refused place reason
    → ((x : DataItem) (used : ℕ) → StartsWithItem bytes x used → fault ≡ NoMemory) → ⊥
never_faulty bytes fault place reason item is every =
    let never : Refused place reason ≡ NoMemory = sym is ∙ every item.0 (length bytes) (starts bytes item.0 item.1) in
    absurd cc

-- ---- bytes spell one item, or are refused once

abbrev itself : DataItem → DataItem
itself x = x

module _ (bytes : List ℕ) where
  is_read : (x : DataItem) → Spells x bytes → whole_judged (any itself) 0 bytes ≡ Ok x
  is_read x spells = whole_read (any itself) (IsAny itself) RefusesNone (any_judges itself) 0 bytes x (record { item = x; spells = spells; says_so = refl })

  is_refused : (r : Refusal) → RefusesItem bytes r → whole_judged (any itself) 0 bytes ≡ Err r
  is_refused r bad = whole_refused (any itself) (IsAny itself) RefusesNone (any_judges itself) 0 bytes r bad

  pub one_item : HasOne (λ (x : DataItem). Spells x bytes) (λ r. AreBytes bytes × IsRefused (RefusesItem bytes) r)
  one_item = record {
    value = λ x y g h. same_ok y x (sym (is_read y h) ∙ is_read x g);
    refusal = λ r q g h. refusal_reply _ r q g.1 h.1 (same_err h.1.refusal g.1.refusal (sym (is_refused _ h.1.refuses) ∙ is_refused _ g.1.refuses));
    never = λ x q g h. not_both (whole_judged (any itself) 0 bytes) x h.1.refusal (is_read x g) (is_refused _ h.1.refuses);
  }

-- ---- causes

pub diag_says : (name : List ℕ) (b a : Outside) (r : Reply) → diagnoses name b a (Says r) → DiagSays name b r
diag_says name b a r (Declines _ d) = BeforeItem d.1
diag_says name b a r (Goes bytes m0 _ read (Declines _ d)) = AtItem bytes read.1 d.1.0 d.1.1
diag_says name b a r (Goes bytes m0 _ read (Goes x m1 _ item (Ends _ same says))) = AtNotation bytes x read.1 item.1 says

-- the stages, as the start has them
abbrev Diagnoses : List ℕ → Outside → Reply → Type 0
Diagnoses name b =
    Behind (IsRead longest_file name b) (IsUnread longest_file name b) (λ bytes.
    Behind (λ (x : DataItem). Spells x bytes) (λ r. AreBytes bytes × IsRefused (RefusesItem bytes) r) (λ x. IsNotated x))

diag_stages : (name : List ℕ) (b : Outside) (r : Reply) → DiagSays name b r → Diagnoses name b r
diag_stages name b r (BeforeItem unread) = Stops unread
diag_stages name b r (AtItem bytes read all bad) = Passes bytes read (Stops (all, bad))
diag_stages name b r (AtNotation bytes x read item says) = Passes bytes read (Passes x item says)

pub one_diag : (name : List ℕ) (b : Outside) → IsTrue b.told → (r q : Reply) → DiagSays name b r → DiagSays name b q → q ≡ r
one_diag name b told r q first second =
    just_one _ _ _ (one_file longest_file name b told) (λ bytes read. just_one _ _ _ (one_item bytes) (λ x item s t g h. one_reply s t _ _ g h))
    r q (diag_stages name b r first) (diag_stages name b q second)

-- it declines, or is done
pub diagnosed : (name : List ℕ) (b a : Outside) (r : Reply) → diagnoses name b a (Says r) → Plain r.outcome
diagnosed name b a r answer = of_says (diag_says name b a r answer) where
  of_says : DiagSays name b r → Plain r.outcome
  of_says (BeforeItem unread) = inl (unread_declines _ _ _ r unread)
  of_says (AtItem bytes read all bad) = inl (declining r _ _ bad.says tt)
  of_says (AtNotation bytes x read item says) = inr says.outcome_is

-- ---- what it leaves

pub diag_asks : (name : List ℕ) (b a : Outside) (r : Reply) → diagnoses name b a (Says r) → Asks (name ∷ []) b a
diag_asks name b a r (Declines _ d) = d.0.asks
diag_asks name b a r (Goes bytes m0 _ read (Declines _ d)) = subst (λ (o : Outside). Asks (name ∷ []) b o) (sym d.0) read.0.asks
diag_asks name b a r (Goes bytes m0 _ read (Goes x m1 _ item (Ends _ same says))) = subst (λ (o : Outside). Asks (name ∷ []) b o) (sym (same ∙ item.0)) read.0.asks

pub diag_faults : (name : List ℕ) (object : Object) (b a : Outside) → diagnoses name b a (FaultOf object) → at_host (MayAsk name) object b a
diag_faults name objects.Host b a (Faults _ f) = f.asks
diag_faults name objects.Flash b a (Faults _ f) = absurd f
diag_faults name object b a (Goes bytes m0 _ read (Faults _ f)) = absurd f
diag_faults name object b a (Goes bytes m0 _ read (Goes x m1 _ item last)) = elim last [ ]
