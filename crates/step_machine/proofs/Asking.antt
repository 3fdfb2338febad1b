-- The files that a procedure asks its host for.
use Rattle.std.proofs.Common.{◌≡◌, ◌≤◌, ◌+◌, ◌*◌, ℕ, List, [], ◌∷◌, ◌++◌, length, Bool, true, false, Option, Some, None, Err, ◌≢◌, ◌⊎◌, ⊎_elim, inl, inr, refl, sym, ap, subst, ◌∙◌, append_assoc, arith}
use Rattle.std.proofs.lemmas.List.{append-nil, length-append}
use Rattle.std.specs.Prelude.{IsTrue}
use Rattle.std.proofs.lemmas.Bool.{true≢false}
use Rattle.std.specs.List.{AllByRecursion}
use Rattle.std.specs.Option.{option_and_then}
use Rattle.std.proofs.Math.Nat.{add-mul}
use Rattle.suit_params.specs.declared.param.ParamKey.TheVariants as keys
use Rattle.suit_params.specs.InForce.{Parameters, bytes_of, in_force}
use Rattle.suit_commands.specs.Tree.{PlanTree}
use Rattle.path_model.specs.Settings.{found_under}
use Rattle.path_model.specs.declared.cause.Cause.TheVariants as causes
use Rattle.suit_edge.specs.Host.{AsksFor}
use Rattle.step_machine.specs.Fetching.{AreRequests, Asked, AsksAmong, AsksAtMost, IsFileOf, Request, TakesOf, file_named, request}
use Rattle.step_machine.specs.UrisSet.{SetsUri}

all_of_both : {A : Type 0} (P : A → Type 0) (l m : List A) → AllByRecursion P l → AllByRecursion P m → AllByRecursion P (l ++ m)
all_of_both P [] m first second = second
all_of_both P (x ∷ l) m first second = (first.0, all_of_both P l m first.1 second)

-- a URI that the procedure sets names the file that was found
file_of : (plan : PlanTree) (words : List (List ℕ × List ℕ)) (uri : Option (List ℕ)) (name : List ℕ) → ((x : List ℕ) → uri ≡ Some x → SetsUri plan x) → option_and_then (found_under words) uri ≡ Some name → IsFileOf plan words name
file_of plan words None name sets is = let never : None ≡ Some name = is in absurd cc
file_of plan words (Some uri) name sets is = (uri, sets uri refl, is)

module _ (plan : PlanTree) (words : List (List ℕ × List ℕ)) (room : ℕ) where
  pub asks_none : (a : Asked) → AsksAmong plan words room a a
  asks_none a =
      let none : 0 * (room + 1) ≡ 0 = omega arith in
      record { more = []; names = sym (append-nil a.names); among = tt; pulled = omega (arith, none) }

  pub asks_same : (a b : Asked) → b ≡ a → AsksAmong plan words room a b
  asks_same a b same = subst (AsksAmong plan words room a) (sym same) (asks_none a)

  pub asks_then : (a b c : Asked) → AsksAmong plan words room a b → AsksAmong plan words room b c → AsksAmong plan words room a c
  asks_then a b c first second =
      let all : length (first.more ++ second.more) * (room + 1) ≡ length first.more * (room + 1) + length second.more * (room + 1) =
      ap (λ (n : ℕ). n * (room + 1)) (length-append first.more second.more) ∙ add-mul (length first.more) (length second.more) (room + 1) in
      record {
        more = first.more ++ second.more;
        names = second.names ∙ ap (λ (l : List (List ℕ)). l ++ second.more) first.names ∙ append_assoc a.names first.more second.more;
        among = all_of_both (IsFileOf plan words) first.more second.more first.among second.among;
        pulled = omega (arith, all, first.pulled, second.pulled);
      }

  -- the file of one fetch
  pub asks_one : (component capacity : ℕ) (parameters : Parameters) (a b : Asked) → ((uri : List ℕ) → bytes_of (in_force parameters component keys.Uri) ≡ Some uri → SetsUri plan uri) → capacity ≤ room → AsksAtMost (file_named component parameters words) (capacity + 1) a b → AsksAmong plan words room a b
  asks_one component capacity parameters a b sets few (inl same) =
      let none : 0 * (room + 1) ≡ 0 = omega arith in
      record { more = []; names = same.0 ∙ sym (append-nil a.names); among = tt; pulled = omega (arith, none, same.1) }
  asks_one component capacity parameters a b sets few (inr named) =
      let one : 1 * (room + 1) ≡ room + 1 = omega arith in
      record { more = named.0 ∷ []; names = named.2; among = (file_of plan words (bytes_of (in_force parameters component keys.Uri)) named.0 sets named.1, tt); pulled = omega (arith, one, few, named.3) }

-- ---- requests

pub unrequested : (told : Bool) (words : List (List ℕ × List ℕ)) (files : List ℕ → Option (List ℕ)) (before now : List (List ℕ)) → now ≡ before → AreRequests told words files before now []
unrequested told words files before now same = record { asked = λ t. same ∙ sym (append-nil before); given = λ t. tt; none = λ none. refl }

-- the one of a file
pub one_requested : (told : Bool) (words : List (List ℕ × List ℕ)) (files : List ℕ → Option (List ℕ)) (before now : List (List ℕ)) (name : List ℕ) (given : Option (List ℕ)) → words ≢ []
    → (IsTrue told → AsksFor name before now) → (IsTrue told → given ≡ files name) → AreRequests told words files before now (request name given ∷ [])
one_requested told words files before now name given some asked is = record { asked = asked; given = λ t. (is t, tt); none = λ none. absurd (some none) }

-- what a request comes to: the requests, and what was taken in
abbrev pub Requested : Bool → (List ℕ → Option (List ℕ)) → List (List ℕ) → List (List ℕ) → (List Request → Type 0) → Type 0
Requested told files before now Takes =
    (requests : List Request) × ((words : List (List ℕ × List ℕ)) → words ≢ [] → AreRequests told words files before now requests) × Takes requests

-- a start that failed may have asked for the file
pub start_failed : (told : Bool) (files : List ℕ → Option (List ℕ)) (before now : List (List ℕ)) (name : List ℕ) (capacity : ℕ) (content : List ℕ) → (IsTrue told → (now ≡ before) ⊎ AsksFor name before now)
    → Requested told files before now (λ requests. TakesOf (Some name) requests (Err causes.HostFault) capacity content content)
start_failed false files before now name capacity content asks =
    ([], λ words some. record { asked = λ t. absurd (true≢false (sym t)); given = λ t. tt; none = λ none. refl }, inl (refl, refl, refl))
start_failed true files before now name capacity content asks =
    ⊎_elim
    (λ same. ([], λ words some. unrequested true words files before now same, inl (refl, refl, refl)))
    (λ asked. (request name (files name) ∷ [], λ words some. one_requested true words files before now name (files name) some (λ t. asked) (λ t. refl), inr (files name, refl, inl refl)))
    (asks refl)
