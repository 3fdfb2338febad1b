-- A copy, as plays have it.
use Rattle.std.proofs.Common.{◌≡◌, ◌≢◌, ◌≤◌, ℕ, List, [], ◌∷◌, Option, Ok, Err, length, refl, sym, ap, subst, ◌∙◌, arith}
use Rattle.std.specs.Prelude.{◌==◌, nat_le}
use Rattle.std.proofs.lemmas.Bool.{le-leb, ne_eqb}
use Rattle.suit_commands.specs.declared.kinds.ActKind.TheVariants as acts
use Rattle.path_model.specs.declared.event.Event.TheVariants.{Wrote}
use Rattle.path_model.specs.declared.cause.Cause.TheVariants as causes
use Rattle.path_model.specs.Behaviour.{State}
use Rattle.path_model.specs.Settings.{Setting, capacity_of}
use Rattle.path_model.specs.Plays.{Outcome}
use Rattle.path_model.specs.DevicePlays.{Device, Made, Refused, content_at, with_content, concluded, filled, copied, acted, ActIsCut, WriteLeaves, directive_play}
use Rattle.step_machine.specs.Copying.{CopiesAs, NamesSource}
use Rattle.step_machine.proofs.Writing.{stopped, when_false, when_true}

module _ (c cap source : ℕ) (content before after : List ℕ) where
  comes : (setting : Setting) (p : ℕ) (s : State) (w : Device) → NamesSource s c source → (directive_play setting acts.Copy p c).comes s w ≡ concluded p (Wrote c ∷ []) s (copied setting c source w)
  comes setting p s w some = ap (acted p (λ x. Wrote c ∷ []) (λ x. copied setting c x) s w) some

  module _ (other : source ≢ c) where
    comes_other : (setting : Setting) (p : ℕ) (s : State) (w : Device) → NamesSource s c source → content_at w source ≡ content → (directive_play setting acts.Copy p c).comes s w ≡ concluded p (Wrote c ∷ []) s (filled setting c content w)
    comes_other setting p s w some there =
        comes setting p s w some
        ∙ ap (concluded p (Wrote c ∷ []) s) (when_false (source == c) (Refused causes.SelfCopy w) (filled setting c (content_at w source) w) (ne_eqb source c other) ∙ ap (λ (x : List ℕ). filled setting c x w) there)

    pub copy_done : (u : Unit {0}) → length content ≤ cap → after ≡ content → CopiesAs c cap source content before after (Ok u)
    copy_done u fits is setting p s w some room there here inside =
        let le : length content ≤ capacity_of setting c = omega (arith, fits, room) in
        let so : (directive_play setting acts.Copy p c).comes s w ≡ concluded p (Wrote c ∷ []) s (Made (with_content w c content)) =
        comes_other setting p s w some there
        ∙ ap (concluded p (Wrote c ∷ []) s) (when_true (nat_le (length content) (capacity_of setting c)) (Made (with_content w c content)) (Refused causes.TooLarge w) (le-leb (length content) (capacity_of setting c) le)) in
        (ap (λ (o : Outcome Device). o.ending) so, ap (λ (o : Outcome Device). o.world) so ∙ ap (with_content w c) (sym is))

    pub copy_cut : length after ≤ cap → CopiesAs c cap source content before after (Err causes.FlashFault)
    copy_cut short setting p s w some room there here inside =
        let le : length after ≤ capacity_of setting c = omega (arith, short, room) in
        let left : Device = with_content w c after in
        let outcome : Outcome Device = concluded p (Wrote c ∷ []) s (Refused causes.FlashFault left) in
        record {
          outcome = outcome;
          cut = subst (λ (o : Option ℕ). ActIsCut p (λ x. Wrote c ∷ []) (λ x. WriteLeaves setting c) s w outcome o) (sym some)
              (causes.FlashFault, left, (after, le, refl), refl);
          stops = stopped p (Wrote c ∷ []) s causes.FlashFault left left outcome refl refl;
        }
