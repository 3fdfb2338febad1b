-- A bad head is refused for its reason, at its place.
use Rattle.std.proofs.Common.{◌≡◌, ◌≢◌, ℕ, ◌+◌, ◌*◌, ◌/◌, ◌%◌, ◌^◌, ◌<◌, ◌≤◌, Bool, true, false, cond, ltb, eqb, List, ◌∷◌, ◌++◌, length, Result, Ok, Err, refl, sym, ap, ◌∙◌, arith, Bor}
use Rattle.std.specs.Prelude.{IfErr}
use Rattle.std.specs.Int.{Width, byte_len, to_be_bytes}
use Rattle.std.proofs.lemmas.Bool.{ne_eqb, le-ltb, lt-ltb}
use Rattle.std.proofs.lemmas.List.{take_at, drop_at, length-append}
use Rattle.det_cbor.specs.declared.head.Head.{Head}
use Rattle.det_cbor.specs.declared.reason.Reason.{Reason}
use Rattle.det_cbor.specs.declared.reason.Reason.TheVariants.{Truncated, Indefinite, Kind, NotShortest}
use Rattle.det_cbor.specs.HeadSpelling.{BeginsWith}
use Rattle.det_cbor.specs.HeadReading.{map_ok, number_at, argument_at, simple_value, head_at, place_in}
use Rattle.det_cbor.specs.Faults.{width_of, BadHead, NothingThere, LeftOpen, Reserved, OtherSimple, CutShort, NotTheShortest}
use Rattle.det_cbor.specs.ResultLaws.{ok_pair, same_err, not_both}
use Rattle.det_cbor.specs.ArgumentLaws.{IsBytes, IsWide}
use Rattle.det_cbor.proofs.Heads.{head_again}
use Rattle.det_cbor.proofs.Widths.{argument_code}
use Rattle.det_cbor.proofs.HeadFaults.{head_bad}

at_first : (major low : ℕ) (rest : List ℕ) (reason : Reason) → low < 32 → major < 7 → argument_at low rest ≡ Err reason → head_at ((32 * major + low) ∷ rest) ≡ Err reason
unfolding head_at
at_first major low rest reason small lt is =
    let high : (32 * major + low) / 32 ≡ major = omega arith in
    let lower : (32 * major + low) % 32 ≡ low = omega arith in
    let other : eqb major 7 ≡ false = ne_eqb major 7 (omega arith) in
    rw (high, lower, other, is) refl

either : {A : Type 0} (b : Bool) (x : A) → cond b x x ≡ x
either true x = refl
either false x = refl

-- heads that are refused alike for major type 7 and for the others
at_any : (major low : ℕ) (rest : List ℕ) (reason : Reason) → low < 32 → simple_value low ≡ Err reason → argument_at low rest ≡ Err reason → head_at ((32 * major + low) ∷ rest) ≡ Err reason
unfolding head_at
at_any major low rest reason small simple is =
    let high : (32 * major + low) / 32 ≡ major = omega arith in
    let lower : (32 * major + low) % 32 ≡ low = omega arith in
    rw (high, lower, simple, is) (either (eqb major 7) (Err reason))

argument_reserved : (low : ℕ) (bytes : List ℕ) → 28 ≤ low → low ≤ 30 → argument_at low bytes ≡ Err Kind
unfolding argument_at
argument_reserved low bytes ge le =
    let a : ltb low 24 ≡ false = le-ltb low 24 (omega arith) in
    let b : eqb low 24 ≡ false = ne_eqb low 24 (omega arith) in
    let c : eqb low 25 ≡ false = ne_eqb low 25 (omega arith) in
    let d : eqb low 26 ≡ false = ne_eqb low 26 (omega arith) in
    let f : eqb low 27 ≡ false = ne_eqb low 27 (omega arith) in
    let g : eqb low 31 ≡ false = ne_eqb low 31 (omega arith) in
    rw (a, b, c, d, f, g) refl

argument_open : (bytes : List ℕ) → argument_at 31 bytes ≡ Err Indefinite
unfolding argument_at
argument_open bytes = refl

simple_other : (low : ℕ) → low ≢ 20 → low ≢ 21 → low ≢ 22 → low ≢ 31 → simple_value low ≡ Err Kind
simple_other low not_20 not_21 not_22 not_31 =
    let a : eqb low 20 ≡ false = ne_eqb low 20 not_20 in
    let b : eqb low 21 ≡ false = ne_eqb low 21 not_21 in
    let c : eqb low 22 ≡ false = ne_eqb low 22 not_22 in
    let d : eqb low 31 ≡ false = ne_eqb low 31 not_31 in
    rw (a, b, c, d) refl

at_simple : (low : ℕ) (rest : List ℕ) (reason : Reason) → low < 32 → simple_value low ≡ Err reason → head_at ((32 * 7 + low) ∷ rest) ≡ Err reason
unfolding head_at
at_simple low rest reason small is =
    let high : (32 * 7 + low) / 32 ≡ 7 = omega arith in
    let lower : (32 * 7 + low) % 32 ≡ low = omega arith in
    rw (high, lower, is) refl

number_cut : (w : Width) (least : ℕ) (bytes : List ℕ) → length bytes < byte_len w → number_at w least bytes ≡ Err Truncated
number_cut w least bytes lt = let short : ltb (length bytes) (byte_len w) ≡ true = lt-ltb _ _ lt in rw short refl

number_long : (w : Width) (limit least : ℕ) (wide : IsWide w limit) (n : ℕ) (rest : List ℕ) → n < limit → n < least → number_at w least (to_be_bytes w n ++ rest) ≡ Err NotShortest
number_long w limit least wide n rest lt less =
    let len = wide.len n in
    let long : ltb (length (to_be_bytes w n ++ rest)) (byte_len w) ≡ false = le-ltb _ _ (omega (arith, length-append (to_be_bytes w n) rest)) in
    let low : ltb n least ≡ true = lt-ltb _ _ less in
    rw (long, take_at (to_be_bytes w n) rest (byte_len w) len, drop_at (to_be_bytes w n) rest (byte_len w) len, wide.again n lt, low) refl

-- the bytes are refused for this reason, at this place
pub record IsRefused (bytes : List ℕ) (at : ℕ) (reason : Reason) : Type 0 where
  pub read : head_at bytes ≡ Err reason
  pub place : at ≡ place_in bytes reason

pub bad_head : (bytes : List ℕ) (at : ℕ) (reason : Reason) → BadHead bytes at reason → IsRefused bytes at reason
unfolding head_at
bad_head bytes at reason NothingThere = record { read = refl; place = refl }
bad_head bytes at reason (LeftOpen major rest lt) = record { read = at_any major 31 rest Indefinite (omega arith) refl (argument_open rest); place = refl }
bad_head bytes at reason (Reserved major low rest lt ge le) = record { read = at_any major low rest Kind (omega arith) (simple_other low (omega arith) (omega arith) (omega arith) (omega arith)) (argument_reserved low rest ge le); place = refl }
bad_head bytes at reason (OtherSimple low rest lt not_20 not_21 not_22) = record { read = at_simple low rest Kind (omega arith) (simple_other low not_20 not_21 not_22 (omega arith)); place = refl }
bad_head bytes at reason (CutShort major low rest lt ge le short) =
    let code = argument_code low rest ge le in
    record { read = at_first major low rest Truncated (omega arith) lt (code.2 ∙ number_cut (width_of low) code.0 rest short); place = refl }
bad_head bytes at reason (NotTheShortest major low n rest lt ge le fits short) =
    let code = argument_code low (to_be_bytes (width_of low) n ++ rest) ge le in
    let c = code.1 in
    record { read = at_first major low (to_be_bytes (width_of low) n ++ rest) NotShortest (omega arith) lt (code.2 ∙ number_long (width_of low) (256 ^ byte_len (width_of low)) code.0 c.wide n rest fits (c.longer major n fits short)); place = refl }

-- ---- the answers of the reading function

pub refused_bad : (bytes : List ℕ) (r : Result (Head × Bor (List ℕ)) Reason) → IsBytes bytes → map_ok (λ f. (f.0, f.1.now)) r ≡ head_at bytes → IfErr r (λ reason. BadHead bytes (place_in bytes reason) reason)
refused_bad bytes (Ok f) fits e = tt
refused_bad bytes (Err reason) fits e = head_bad bytes reason fits (sym e)

pub begun : (bytes : List ℕ) (h : Head) (rest : List ℕ) → BeginsWith bytes h rest → head_at bytes ≡ Ok (h, rest)
begun bytes h rest begins = ap head_at begins.parts ∙ head_again h rest begins.value

pub found_head : (bytes : List ℕ) (r : Result (Head × Bor (List ℕ)) Reason) → map_ok (λ f. (f.0, f.1.now)) r ≡ head_at bytes → (h : Head) (rest : List ℕ) → BeginsWith bytes h rest → map_ok (λ f. f.0) r ≡ Ok h
found_head bytes (Ok f) e h rest begins = ap Ok (ok_pair f.0 h f.1.now rest (e ∙ begun bytes h rest begins)).0
found_head bytes (Err reason) e h rest begins = not_both (head_at bytes) (h, rest) reason (begun bytes h rest begins) (sym e)

pub found_bad : (bytes : List ℕ) (r : Result (Head × Bor (List ℕ)) Reason) → map_ok (λ f. (f.0, f.1.now)) r ≡ head_at bytes → (at : ℕ) (reason : Reason) → BadHead bytes at reason → (map_ok (λ f. f.0) r ≡ Err reason) × (at ≡ place_in bytes reason)
found_bad bytes (Ok f) e at reason bad = not_both (head_at bytes) (f.0, f.1.now) reason (sym e) (bad_head bytes at reason bad).read
found_bad bytes (Err r) e at reason bad = let refused = bad_head bytes at reason bad in (ap Err (same_err r reason (e ∙ refused.read)), refused.place)
