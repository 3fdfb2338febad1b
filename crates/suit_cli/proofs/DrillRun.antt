-- A whole round, by its parts.
use Rattle.std.proofs.Common.{◌≡◌, ℕ, List, [], ◌∷◌, refl, ap, subst, ◌∙◌}
use Rattle.author.specs.Files.{bytes_of}
use Rattle.author.specs.MadeEnvelopes.{IsMadeOf}
use Rattle.conformance.specs.Drawing.{drawn_from}
use Rattle.conformance.specs.Rounds.{RoundSaid, round_of}
use Rattle.conformance.specs.Shapes.{got_name}
use Rattle.suit_edge.specs.MemoryHost.{HostState, empty_host, file_in, with_file}
use Rattle.suit_edge.specs.declared.launch.Launch.{Launch}
use Rattle.suit_cli.specs.declared.drill.tally.RoundEnd.{RoundEnd}
use Rattle.suit_cli.specs.DrillDevice.{key_bytes}
use Rattle.suit_cli.specs.DrillRounds.{AreWords, BootComes, BootsRound, HostsRound, IsNextImage, IsRound, RoundRun, RunsRound, UpdatesRound, envelope_name, round_files}
use Rattle.suit_cli.specs.Outside.{Files}

-- the words of what was drawn are those of a shape
pub words_are : (state sequence : ℕ) (said : RoundSaid) (later : ℕ) → (said, later) ≡ round_of state sequence → AreWords said.words
unfolding round_of
words_are state sequence said later says = ((drawn_from state).shape, ap (λ (p : RoundSaid × ℕ). p.0.words) says)

-- the files of a host to which these two were added
pub hosts : (said : RoundSaid) (envelope : List ℕ) → IsMadeOf said.description said.files key_bytes envelope → (h h1 h2 : HostState) (given got : List ℕ) → h ≡ empty_host []
    → given ≡ envelope → h1 ≡ record h { files = with_file h.files envelope_name given } → got ≡ bytes_of said.files got_name
    → h2 ≡ record h1 { files = with_file h1.files got_name got } → HostsRound said h2
hosts said envelope made h h1 h2 given got empty given_is first got_is second =
    let none : h.files ≡ [] = ap (λ (x : HostState). x.files) empty in
    let one : h1.files ≡ (envelope_name, given) ∷ [] = ap (λ (x : HostState). x.files) first ∙ ap (λ (fs : List (List ℕ × List ℕ)). with_file fs envelope_name given) none in
    let two : h2.files ≡ (envelope_name, given) ∷ (got_name, got) ∷ [] = ap (λ (x : HostState). x.files) second ∙ ap (λ (fs : List (List ℕ × List ℕ)). with_file fs got_name got) one in
    record {
      envelope = envelope;
      made = made;
      files = two ∙ ap (λ (e : List ℕ). (envelope_name, e) ∷ (got_name, got) ∷ []) given_is ∙ ap (λ (g : List ℕ). (envelope_name, envelope) ∷ (got_name, g) ∷ []) got_is;
    }

module _ (sequence state later : ℕ) (said : RoundSaid) (says : (said, later) ≡ round_of state sequence) (host : HostState) (hosts : HostsRound said host) (files : Files) (same : files ≡ file_in host.files)
    (first second third : List ℕ) (end : RoundEnd) (launched now : List Launch) (updates : UpdatesRound said (file_in host.files) first second end) (lives : IsNextImage first second)
    (boots : BootsRound files second third launched now) (lives_on : IsNextImage second third) where
  named : file_in host.files ≡ round_files said hosts.envelope
  named = ap file_in hosts.files

  abbrev run : RoundRun
  run = record { before = first; updated = second; after = third; end = end; launches = boots.0 }

  is_round : IsRound said run
  is_round = record {
    envelope = hosts.envelope;
    made = hosts.made;
    update = subst (λ (fs : Files). UpdatesRound said fs first second end) named updates;
    boot = subst (λ (fs : Files). BootComes fs second third boots.0) (same ∙ named) boots.2;
    first = lives;
    second = lives_on;
  }

  pub runs_round : RunsRound sequence (record { draws = state; image = first; launches = launched }) (record { draws = later; image = third; launches = now }) end
  runs_round = record {
    run = run;
    is = subst (λ (s : RoundSaid). IsRound s run) (ap (λ (p : RoundSaid × ℕ). p.0) says) is_round;
    draws_are = ap (λ (p : RoundSaid × ℕ). p.1) says;
    before_is = refl;
    after_is = refl;
    end_is = refl;
    gained = boots.1;
  }
