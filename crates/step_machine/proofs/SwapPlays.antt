-- A swap, as plays have it.
use Rattle.std.proofs.Common.{◌≡◌, ◌≢◌, ◌≤◌, ◌<◌, ◌⊎◌, ℕ, Bool, true, false, List, [], ◌∷◌, Option, Ok, Err, length, refl, sym, ap, subst, ◌∙◌, arith, inl, inr, ⊎_elim}
use Rattle.std.specs.Prelude.{◌==◌, ◌&&◌, if◌then◌else◌}
use Rattle.std.proofs.lemmas.Bool.{le-leb, lt-leb, ne_eqb}
use Rattle.suit_commands.specs.declared.kinds.ActKind.TheVariants as acts
use Rattle.path_model.specs.declared.event.Event.{Event}
use Rattle.path_model.specs.declared.event.Event.TheVariants.{Wrote}
use Rattle.path_model.specs.declared.cause.Cause.TheVariants as causes
use Rattle.path_model.specs.Behaviour.{State}
use Rattle.path_model.specs.Settings.{Setting, capacity_of}
use Rattle.path_model.specs.Plays.{Outcome}
use Rattle.path_model.specs.DevicePlays.{Device, Change, Made, Refused, content_at, with_content, concluded, swapped, fits_into, acted, ActIsCut, SwapLeaves, directive_play}
use Rattle.step_machine.specs.Copying.{NamesSource, Side, SwapsAs}
use Rattle.step_machine.proofs.Writing.{stopped, when_false, when_true, with_same}

module _ (one other : Side) where
  -- with a source
  comes : (setting : Setting) (p : ℕ) (s : State) (w : Device) → NamesSource s one.component other.component
      → (directive_play setting acts.Swap p one.component).comes s w ≡ concluded p (Wrote one.component ∷ Wrote other.component ∷ []) s (swapped setting one.component other.component w)
  comes setting p s w some = ap (acted p (λ x. Wrote one.component ∷ Wrote x ∷ []) (λ x. swapped setting one.component x) s w) some

  -- nothing has changed
  stays : (w : Device) → one.after ≡ one.before → other.after ≡ other.before → content_at w one.component ≡ one.before → content_at w other.component ≡ other.before
      → one.component < length w.contents → other.component < length w.contents
      → w ≡ with_content (with_content w one.component one.after) other.component other.after
  stays w still other_still here there inside other_inside =
      let first : with_content w one.component one.after ≡ w = ap (with_content w one.component) still ∙ with_same w one.component one.before here inside in
      sym (ap (λ (v : Device). with_content v other.component other.after) first ∙ ap (with_content w other.component) other_still ∙ with_same w other.component other.before there other_inside)

  module _ (apart : other.component ≢ one.component) where
    comes_apart : (setting : Setting) (p : ℕ) (s : State) (w : Device) (change : Change) → NamesSource s one.component other.component
        → (if fits_into setting w other.component one.component && fits_into setting w one.component other.component
        then Made (with_content (with_content w one.component (content_at w other.component)) other.component (content_at w one.component))
        else Refused causes.TooLarge w) ≡ change
        → (directive_play setting acts.Swap p one.component).comes s w ≡ concluded p (Wrote one.component ∷ Wrote other.component ∷ []) s change
    comes_apart setting p s w change some is =
        comes setting p s w some
        ∙ ap (concluded p (Wrote one.component ∷ Wrote other.component ∷ []) s)
        (when_false (other.component == one.component) (Refused causes.SelfCopy w)
        (if fits_into setting w other.component one.component && fits_into setting w one.component other.component
        then Made (with_content (with_content w one.component (content_at w other.component)) other.component (content_at w one.component))
        else Refused causes.TooLarge w) (ne_eqb other.component one.component apart) ∙ is)

    fits : (setting : Setting) (w : Device) (x y cap : ℕ) (content : List ℕ) → content_at w x ≡ content → capacity_of setting y ≡ cap → length content ≤ cap → fits_into setting w x y ≡ true
    fits setting w x y cap content is room le =
        let long : length (content_at w x) ≡ length content = ap length is in
        le-leb (length (content_at w x)) (capacity_of setting y) (omega (arith, long, room, le))

    too_long : (setting : Setting) (w : Device) (x y cap : ℕ) (content : List ℕ) → content_at w x ≡ content → capacity_of setting y ≡ cap → cap < length content → fits_into setting w x y ≡ false
    too_long setting w x y cap content is room lt =
        let long : length (content_at w x) ≡ length content = ap length is in
        lt-leb (length (content_at w x)) (capacity_of setting y) (omega (arith, long, room, lt))

    pub swap_large : (one.capacity < length other.before) ⊎ (other.capacity < length one.before) → one.after ≡ one.before → other.after ≡ other.before → SwapsAs one other (Err causes.TooLarge)
    swap_large large still other_still setting p s w some room other_room here there inside other_inside =
        stopped p (Wrote one.component ∷ Wrote other.component ∷ []) s causes.TooLarge w (with_content (with_content w one.component one.after) other.component other.after) ((directive_play setting acts.Swap p one.component).comes s w)
        (comes_apart setting p s w (Refused causes.TooLarge w) some (when_false _ _ _ none))
        (stays w still other_still here there inside other_inside)
      where
        either : (a b : Bool) → (a ≡ false) ⊎ (b ≡ false) → (a && b) ≡ false
        either false b h = refl
        either true false h = refl
        either true true h = ⊎_elim (λ e. e) (λ e. e) h

        none : (fits_into setting w other.component one.component && fits_into setting w one.component other.component) ≡ false
        none = either (fits_into setting w other.component one.component) (fits_into setting w one.component other.component)
            (⊎_elim (λ l. inl (too_long setting w other.component one.component one.capacity other.before there room l))
            (λ l. inr (too_long setting w one.component other.component other.capacity one.before here other_room l)) large)

    pub swap_done : (u : Unit {0}) → length other.before ≤ one.capacity → length one.before ≤ other.capacity → one.after ≡ other.before → other.after ≡ one.before → SwapsAs one other (Ok u)
    swap_done u le other_le is other_is setting p s w some room other_room here there inside other_inside =
        let so = comes_apart setting p s w (Made (with_content (with_content w one.component (content_at w other.component)) other.component (content_at w one.component))) some (when_true _ _ _ all) in (
          ap (λ (o : Outcome Device). o.ending) so,
          ap (λ (o : Outcome Device). o.world) so
              ∙ ap (λ (x : List ℕ). with_content (with_content w one.component x) other.component (content_at w one.component)) (there ∙ sym is)
              ∙ ap (with_content (with_content w one.component one.after) other.component) (here ∙ sym other_is),
        )
      where
        all : (fits_into setting w other.component one.component && fits_into setting w one.component other.component) ≡ true
        all =
            ap (λ (b : Bool). b && fits_into setting w one.component other.component) (fits setting w other.component one.component one.capacity other.before there room le)
            ∙ fits setting w one.component other.component other.capacity one.before here other_room other_le

    pub swap_cut : length one.after ≤ one.capacity → length other.after ≤ other.capacity → SwapsAs one other (Err causes.FlashFault)
    swap_cut short other_short setting p s w some room other_room here there inside other_inside =
        let le : length one.after ≤ capacity_of setting one.component = omega (arith, short, room) in
        let other_le : length other.after ≤ capacity_of setting other.component = omega (arith, other_short, other_room) in
        let middle : Device = with_content w one.component one.after in
        let left : Device = with_content middle other.component other.after in
        let events : List Event = Wrote one.component ∷ Wrote other.component ∷ [] in
        let outcome : Outcome Device = concluded p events s (Refused causes.FlashFault left) in
        record {
          outcome = outcome;
          cut = subst (λ (o : Option ℕ). ActIsCut p (λ x. Wrote one.component ∷ Wrote x ∷ []) (λ x. SwapLeaves setting one.component x) s w outcome o) (sym some)
              (causes.FlashFault, left, (middle, (one.after, le, refl), (other.after, other_le, refl)), refl);
          stops = stopped p events s causes.FlashFault left left outcome refl refl;
        }
