-- Which failed conditions are among events. With these one path is known.
use Rattle.std.specs.Prelude.{ℕ, ◌+◌, ◌%◌, ◌^◌, Bool, true, false, List, [], ◌∷◌, ◌++◌}
use Rattle.path_model.specs.declared.event.Event.{Event}
use Rattle.path_model.specs.declared.event.Event.TheVariants as events

-- the event is a failed condition
abbrev pub is_miss : Event → Bool
is_miss (events.Tried component kind false) = true
is_miss (events.Missed component) = true
is_miss _ = false

-- one number more, if a condition failed there
abbrev pub misses_after : List ℕ → ℕ → Bool → List ℕ
misses_after misses number true = misses ++ number ∷ []
misses_after misses number false = misses

-- how many events there are, without those that set a parameter, and how many of these come before each failed condition
pub record Trail : Type 0 where
  pub events : ℕ
  pub misses : List ℕ

abbrev pub no_trail : Trail
no_trail = record { events = 0; misses = [] }

-- the trail after one event more
abbrev pub trail_after : Trail → Event → Trail
trail_after trail (events.Set component param) = trail
trail_after trail event =
    record {
      events = (trail.events + 1) % 2 ^ 64;
      misses = misses_after trail.misses trail.events (is_miss event);
    }

-- the trail after more events
abbrev pub trail_from : Trail → List Event → Trail
trail_from trail [] = trail
trail_from trail (event ∷ events) = trail_from (trail_after trail event) events
