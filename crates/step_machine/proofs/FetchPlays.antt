-- A fetch, as plays have it.
use Rattle.std.proofs.Common.{◌≡◌, ◌≤◌, ◌<◌, ℕ, true, false, List, [], ◌∷◌, ◌++◌, Option, Some, None, Ok, Err, length, refl, sym, ap, subst, ◌∙◌, arith, inl, inr}
use Rattle.std.specs.Prelude.{◌==◌, Result, get_or, nat_le, option_to_list}
use Rattle.std.specs.Option.{option_and_then}
use Rattle.std.proofs.lemmas.List.{append-nil}
use Rattle.std.proofs.lemmas.Bool.{le-leb, lt-leb}
use Rattle.suit_params.specs.declared.param.ParamKey.TheVariants as keys
use Rattle.suit_params.specs.InForce.{Parameters, in_force, bytes_of}
use Rattle.suit_commands.specs.declared.kinds.ActKind.TheVariants as acts
use Rattle.path_model.specs.declared.event.Event.TheVariants.{Wrote}
use Rattle.path_model.specs.declared.cause.Cause.{Cause}
use Rattle.path_model.specs.declared.cause.Cause.TheVariants as causes
use Rattle.path_model.specs.Behaviour.{State}
use Rattle.path_model.specs.Settings.{Setting, asked_by, capacity_of, found_under, payload_of, NamesFile}
use Rattle.path_model.specs.Plays.{Outcome}
use Rattle.path_model.specs.DevicePlays.{Device, Made, Refused, content_at, with_content, asking, concluded, fetched, fetching, acted, ActIsCut, FetchLeaves, directive_play}
use Rattle.step_machine.specs.Fetching.{AreGiven, FetchesAs, Request, TakesIn, TakesNamed, TakesOf, fetch_of, names_of, payload_by, request, with_asked}
use Rattle.step_machine.proofs.Writing.{stopped, when_false, when_true, with_same}

-- no URI is answered where there are no names of files
pub none_under : (words : List (List ℕ × List ℕ)) (uri name : List ℕ) → words ≡ [] → Some name ≡ found_under words uri → ⊥
none_under words uri name none is =
    let e : Some name ≡ found_under [] uri = subst (λ (l : List (List ℕ × List ℕ)). Some name ≡ found_under l uri) none is in
    absurd cc

-- no name was asked for
asked_none : (w : Device) → with_asked w [] ≡ w
asked_none w = ap (λ (names : List (List ℕ)). record { contents = w.contents; launches = w.launches; asked = names }) (append-nil w.asked)

unchanged : (w : Device) (c : ℕ) (before : List ℕ) → content_at w c ≡ before → c < length w.contents → w ≡ with_content (with_asked w []) c before
unchanged w c before here inside = sym (ap (λ (v : Device). with_content v c before) (asked_none w) ∙ with_same w c before here inside)

module _ (c : ℕ) where
  uri_in : Parameters → Option (List ℕ)
  uri_in qs = bytes_of (in_force qs c keys.Uri)

  leaves : (setting : Setting) (p : ℕ) (s : State) (w left : Device) (uri : List ℕ) (cause : Cause) → uri_in s.parameters ≡ Some uri → FetchLeaves setting uri c cause w left
      → ActIsCut p (λ x. Wrote c ∷ []) (λ x. FetchLeaves setting x c) s w (concluded p (Wrote c ∷ []) s (Refused cause left)) (uri_in s.parameters)
  leaves setting p s w left uri cause is left_so =
      subst (λ (o : Option (List ℕ)). ActIsCut p (λ x. Wrote c ∷ []) (λ x. FetchLeaves setting x c) s w (concluded p (Wrote c ∷ []) s (Refused cause left)) o) (sym is)
      (cause, left, left_so, refl)

module _ (c cap : ℕ) (ps : Parameters) (payloads words : List (List ℕ × List ℕ)) where
  -- ---- nothing was asked for

  pub fetch_missing : (before : List ℕ) → bytes_of (in_force ps c keys.Uri) ≡ None → FetchesAs (fetch_of c cap ps payloads words) [] before before (Err causes.Missing)
  unfolding uri_in
  fetch_missing before none setting p s w same room e f given here inside =
      stopped p [] s causes.Missing w (with_content (with_asked w []) c before) ((directive_play setting acts.Fetch p c).comes s w)
      (ap (acted p (λ x. Wrote c ∷ []) (λ x. fetching setting c x) s w) (ap (uri_in c) same ∙ none))
      (unchanged w c before here inside)

  pub fetch_unasked : (uri before : List ℕ) → bytes_of (in_force ps c keys.Uri) ≡ Some uri → NamesFile words uri → FetchesAs (fetch_of c cap ps payloads words) [] before before (Err causes.HostFault)
  unfolding uri_in
  fetch_unasked uri before some named setting p s w same room e f given here inside =
      let outcome : Outcome Device = concluded p (Wrote c ∷ []) s (Refused causes.HostFault w) in
      record {
        outcome = outcome;
        cut = leaves c setting p s w w uri causes.HostFault (ap (uri_in c) same ∙ some) (subst (λ (x : List (List ℕ × List ℕ)). NamesFile x uri) (sym f) named, inl refl);
        stops = stopped p (Wrote c ∷ []) s causes.HostFault w (with_content (with_asked w []) c before) outcome refl (unchanged w c before here inside);
      }

  -- ---- these requests were made

  module _ (requests : List Request) (uri : List ℕ) (some : bytes_of (in_force ps c keys.Uri) ≡ Some uri) (names : asked_by words uri ≡ names_of requests) where
    asked_is : (setting : Setting) (w : Device) → setting.words ≡ words → asking setting uri w ≡ with_asked w (names_of requests)
    asked_is setting w f =
        ap (λ (x : List (List ℕ × List ℕ)). record { contents = w.contents; launches = w.launches; asked = w.asked ++ asked_by x uri }) f
        ∙ ap (λ (l : List (List ℕ)). record { contents = w.contents; launches = w.launches; asked = w.asked ++ l }) names

    -- what such requests find
    abbrev Finds : Option (List ℕ) → Type 0
    Finds named = (files : ℕ → List ℕ → Option (List ℕ)) (number : ℕ) → AreGiven files number requests → payload_by payloads words (files number) uri ≡ named

    payload_is : (setting : Setting) (number : ℕ) → setting.payloads ≡ payloads → setting.words ≡ words → payload_of setting number uri ≡ payload_by payloads words (setting.files number) uri
    payload_is setting number e f =
        ap (λ (x : List (List ℕ × List ℕ)). payload_by x setting.words (setting.files number) uri) e
        ∙ ap (λ (x : List (List ℕ × List ℕ)). payload_by payloads x (setting.files number) uri) f

    fetch_comes : (setting : Setting) (p : ℕ) (s : State) (w : Device) (named : Option (List ℕ)) → uri_in c s.parameters ≡ Some uri → setting.payloads ≡ payloads → setting.words ≡ words
        → AreGiven setting.files (length w.asked) requests → Finds named
        → (directive_play setting acts.Fetch p c).comes s w ≡ concluded p (Wrote c ∷ []) s (fetched setting c named (with_asked w (names_of requests)))
    unfolding uri_in
    fetch_comes setting p s w named is e f given finds =
        ap (acted p (λ x. Wrote c ∷ []) (λ x. fetching setting c x) s w) is
        ∙ ap (λ (o : Option (List ℕ)). concluded p (Wrote c ∷ []) s (fetched setting c o (asking setting uri w))) (payload_is setting (length w.asked) e f ∙ finds setting.files (length w.asked) given)
        ∙ ap (λ (v : Device). concluded p (Wrote c ∷ []) s (fetched setting c named v)) (asked_is setting w f)

    pub fetch_absent : (before : List ℕ) → Finds None → FetchesAs (fetch_of c cap ps payloads words) requests before before (Err causes.Absent)
    unfolding uri_in
    fetch_absent before finds setting p s w same room e f given here inside =
        let v : Device = with_asked w (names_of requests) in
        stopped p (Wrote c ∷ []) s causes.Absent v (with_content v c before) ((directive_play setting acts.Fetch p c).comes s w)
        (fetch_comes setting p s w None (ap (uri_in c) same ∙ some) e f given finds)
        (sym (with_same v c before here inside))

    pub fetch_done : (before after payload : List ℕ) (u : Unit {0}) → Finds (Some payload) → length payload ≤ cap → after ≡ payload
        → FetchesAs (fetch_of c cap ps payloads words) requests before after (Ok u)
    unfolding uri_in
    fetch_done before after payload u finds fits is setting p s w same room e f given here inside =
        let v : Device = with_asked w (names_of requests) in
        let le : length payload ≤ capacity_of setting c = omega (arith, fits, room) in
        let comes : (directive_play setting acts.Fetch p c).comes s w ≡ concluded p (Wrote c ∷ []) s (Made (with_content v c payload)) =
        fetch_comes setting p s w (Some payload) (ap (uri_in c) same ∙ some) e f given finds
        ∙ ap (concluded p (Wrote c ∷ []) s) (when_true (nat_le (length payload) (capacity_of setting c)) (Made (with_content v c payload)) (Refused causes.TooLarge (with_content v c [])) (le-leb (length payload) (capacity_of setting c) le)) in
        (ap (λ (o : Outcome Device). o.ending) comes, ap (λ (o : Outcome Device). o.world) comes ∙ ap (with_content v c) (sym is))

    pub fetch_large : (before after payload : List ℕ) → Finds (Some payload) → cap < length payload → after ≡ []
        → FetchesAs (fetch_of c cap ps payloads words) requests before after (Err causes.TooLarge)
    unfolding uri_in
    fetch_large before after payload finds large is setting p s w same room e f given here inside =
        let v : Device = with_asked w (names_of requests) in
        let lt : capacity_of setting c < length payload = omega (arith, large, room) in
        stopped p (Wrote c ∷ []) s causes.TooLarge (with_content v c []) (with_content v c after) ((directive_play setting acts.Fetch p c).comes s w)
        (fetch_comes setting p s w (Some payload) (ap (uri_in c) same ∙ some) e f given finds
        ∙ ap (concluded p (Wrote c ∷ []) s) (when_false (nat_le (length payload) (capacity_of setting c)) (Made (with_content v c payload)) (Refused causes.TooLarge (with_content v c [])) (lt-leb (length payload) (capacity_of setting c) lt)))
        (ap (with_content v c) (sym is))

    -- ---- cut by a fault

    -- before anything changed: a piece could not be pulled, or the file could not be started
    pub fetch_unstarted : (before : List ℕ) → NamesFile words uri → FetchesAs (fetch_of c cap ps payloads words) requests before before (Err causes.HostFault)
    unfolding uri_in
    fetch_unstarted before named setting p s w same room e f given here inside =
        let v : Device = with_asked w (names_of requests) in
        let outcome : Outcome Device = concluded p (Wrote c ∷ []) s (Refused causes.HostFault v) in
        record {
          outcome = outcome;
          cut = leaves c setting p s w v uri causes.HostFault (ap (uri_in c) same ∙ some) (subst (λ (x : List (List ℕ × List ℕ)). NamesFile x uri) (sym f) named, inr (inl (sym (asked_is setting w f))));
          stops = stopped p (Wrote c ∷ []) s causes.HostFault v (with_content v c before) outcome refl (sym (with_same v c before here inside));
        }

    -- after the content was emptied
    pub fetch_emptied : (before after : List ℕ) → NamesFile words uri → after ≡ [] → FetchesAs (fetch_of c cap ps payloads words) requests before after (Err causes.HostFault)
    unfolding uri_in
    fetch_emptied before after named is setting p s w same room e f given here inside =
        let v : Device = with_asked w (names_of requests) in
        let left : Device = with_content v c [] in
        let outcome : Outcome Device = concluded p (Wrote c ∷ []) s (Refused causes.HostFault left) in
        record {
          outcome = outcome;
          cut = leaves c setting p s w left uri causes.HostFault (ap (uri_in c) same ∙ some) (subst (λ (x : List (List ℕ × List ℕ)). NamesFile x uri) (sym f) named, inr (inr (ap (λ (u : Device). with_content u c []) (sym (asked_is setting w f)))));
          stops = stopped p (Wrote c ∷ []) s causes.HostFault left (with_content v c after) outcome refl (ap (with_content v c) (sym is));
        }

    pub fetch_unwritten : (before after : List ℕ) → length after ≤ cap → FetchesAs (fetch_of c cap ps payloads words) requests before after (Err causes.FlashFault)
    unfolding uri_in
    fetch_unwritten before after short setting p s w same room e f given here inside =
        let le : length after ≤ capacity_of setting c = omega (arith, short, room) in
        let left : Device = with_content (with_asked w (names_of requests)) c after in
        let outcome : Outcome Device = concluded p (Wrote c ∷ []) s (Refused causes.FlashFault left) in
        record {
          outcome = outcome;
          cut = leaves c setting p s w left uri causes.FlashFault (ap (uri_in c) same ∙ some) (after, le, ap (λ (u : Device). with_content u c after) (sym (asked_is setting w f)));
          stops = stopped p (Wrote c ∷ []) s causes.FlashFault left left outcome refl refl;
        }

    -- ---- a file that was started and then taken

    pub fetch_taken : (r : Result (Unit {0}) Cause) (before after file : List ℕ) → Finds (Some file) → (r ≡ Err causes.HostFault → NamesFile words uri) → TakesIn r cap file after
        → FetchesAs (fetch_of c cap ps payloads words) requests before after r
    fetch_taken (Ok u) before after file found host is = fetch_done before after file u found is.0 is.1
    fetch_taken (Err causes.TooLarge) before after file found host is = fetch_large before after file found is.0 is.1
    fetch_taken (Err causes.HostFault) before after file found host is = fetch_emptied before after (host refl) is
    fetch_taken (Err causes.FlashFault) before after file found host is = fetch_unwritten before after is
    fetch_taken (Err causes.Missing) before after file found host is = absurd is
    fetch_taken (Err causes.SelfCopy) before after file found host is = absurd is
    fetch_taken (Err causes.Absent) before after file found host is = absurd is
    fetch_taken (Err causes.LaunchFault) before after file found host is = absurd is

    -- ---- the payload that a URI names, where it was looked for

    pub fetch_named : (r : Result (Unit {0}) Cause) (named : Option (List ℕ)) (before after : List ℕ) → Finds named → (r ≡ Err causes.HostFault → NamesFile words uri) → TakesNamed r cap named before after
        → FetchesAs (fetch_of c cap ps payloads words) requests before after r
    fetch_named (Ok u) named before after finds host (file, some, takes) = fetch_taken (Ok u) before after file (λ files number given. finds files number given ∙ some) host takes
    fetch_named (Err causes.TooLarge) named before after finds host (file, some, takes) = fetch_taken (Err causes.TooLarge) before after file (λ files number given. finds files number given ∙ some) host takes
    fetch_named (Err causes.FlashFault) named before after finds host (file, some, takes) = fetch_unwritten before after takes
    fetch_named (Err causes.Absent) named before after finds host (none, same) =
        subst (λ (x : List ℕ). FetchesAs (fetch_of c cap ps payloads words) requests before x (Err causes.Absent)) (sym same) (fetch_absent before (λ files number given. finds files number given ∙ none))
    fetch_named (Err causes.HostFault) named before after finds host (inl same) =
        subst (λ (x : List ℕ). FetchesAs (fetch_of c cap ps payloads words) requests before x (Err causes.HostFault)) (sym same) (fetch_unstarted before (host refl))
    fetch_named (Err causes.HostFault) named before after finds host (inr empty) = fetch_emptied before after (host refl) empty
    fetch_named (Err causes.Missing) named before after finds host (file, some, takes) = absurd takes
    fetch_named (Err causes.SelfCopy) named before after finds host (file, some, takes) = absurd takes
    fetch_named (Err causes.LaunchFault) named before after finds host (file, some, takes) = absurd takes

  -- ---- each URI

  pub fetch_by_key : (uri : List ℕ) (r : Result (Unit {0}) Cause) (before after : List ℕ) → bytes_of (in_force ps c keys.Uri) ≡ Some uri → (get_or uri 0 0 == 35) ≡ true → (r ≡ Err causes.HostFault → ⊥)
      → TakesNamed r cap (found_under payloads uri) before after → FetchesAs (fetch_of c cap ps payloads words) [] before after r
  fetch_by_key uri r before after some key host takes =
      fetch_named [] uri some (when_true (get_or uri 0 0 == 35) [] (option_to_list (found_under words uri)) key) r (found_under payloads uri) before after
      (λ files number given. when_true (get_or uri 0 0 == 35) (found_under payloads uri) (option_and_then (files number) (found_under words uri)) key) (λ is. absurd (host is)) takes

  module _ (uri : List ℕ) (some : bytes_of (in_force ps c keys.Uri) ≡ Some uri) (other : (get_or uri 0 0 == 35) ≡ false) where
    names_by : (o : Option (List ℕ)) → found_under words uri ≡ o → asked_by words uri ≡ option_to_list o
    names_by o found = when_false (get_or uri 0 0 == 35) [] (option_to_list (found_under words uri)) other ∙ ap option_to_list found

    found_by : (o : Option (List ℕ)) → found_under words uri ≡ o → (files : List ℕ → Option (List ℕ)) → payload_by payloads words files uri ≡ option_and_then files o
    found_by o found files =
        when_false (get_or uri 0 0 == 35) (found_under payloads uri) (option_and_then files (found_under words uri)) other ∙ ap (option_and_then files) found

    -- any other URI, by the file that it names
    pub fetch_by_name : (o : Option (List ℕ)) (requests : List Request) (r : Result (Unit {0}) Cause) (before after : List ℕ) → found_under words uri ≡ o → (r ≡ Err causes.HostFault → NamesFile words uri)
        → TakesOf o requests r cap before after → FetchesAs (fetch_of c cap ps payloads words) requests before after r
    fetch_by_name None requests r before after found host (none, takes) =
        subst (λ (l : List Request). FetchesAs (fetch_of c cap ps payloads words) l before after r) (sym none)
        (fetch_named [] uri some (names_by None found) r None before after (λ files number given. found_by None found (files number)) host takes)
    fetch_by_name (Some name) requests r before after found host (inl (none, failed, same)) =
        subst (λ (l : List Request). FetchesAs (fetch_of c cap ps payloads words) l before after r) (sym none)
        (subst (λ (x : Result (Unit {0}) Cause). FetchesAs (fetch_of c cap ps payloads words) [] before after x) (sym failed)
        (subst (λ (x : List ℕ). FetchesAs (fetch_of c cap ps payloads words) [] before x (Err causes.HostFault)) (sym same) (fetch_unasked uri before some (host failed))))
    fetch_by_name (Some name) requests r before after found host (inr (given, one, takes)) =
        subst (λ (l : List Request). FetchesAs (fetch_of c cap ps payloads words) l before after r) (sym one)
        (fetch_named (request name given ∷ []) uri some (names_by (Some name) found) r given before after (λ files number are. found_by (Some name) found (files number) ∙ are.0) host takes)
