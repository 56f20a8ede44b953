-- Networks of events and rules, and their schedules.
use Rattle.std.specs.Prelude.{◌≡◌, ℕ, ◌<◌, ◌≤◌, List, length, slice_index_or}
use Rattle.std.specs.List.{Contains}
use Rattle.bounds.specs.Sides.{Side, earliest, latest, Minute, minute, last_minute, Meets, source, target}
use Rattle.bounds.specs.declared.gap.Way.{Way}
use Rattle.network.specs.declared.tables.Event.{Event}
use Rattle.network.specs.declared.tables.Rule.{Rule}

-- what stands where no event has the number
abbrev pub no_event : Event
no_event = record { room = 0; window = record { earliest = 0; latest = 0 } }

-- events with their given windows, and rules between them
pub record Net : Type 0 where
  pub events : List Event
  pub rules : List Rule

abbrev pub count : Net → ℕ
count N = length N.events

-- event x; of a number that no event has, one in room 0 with a window of one minute
abbrev pub event : Net → ℕ → Event
event N x = slice_index_or N.events x no_event

-- a schedule gives every event a minute of its given window so that every rule holds
pub record Schedule (N : Net) (σ : ℕ → ℕ) : Type 0 where
  pub after : (x : ℕ) → x < count N → (event N x).window.earliest ≤ σ x
  pub before : (x : ℕ) → x < count N → σ x ≤ (event N x).window.latest
  pub met : (r : Rule) → Contains N.rules r → Meets r.gap (minute (σ r.from)) (minute (σ r.to))

-- there is no schedule
abbrev pub Hopeless : Net → Type 0
Hopeless N = (σ : ℕ → ℕ) → Schedule N σ → ⊥

-- some schedule gives event x the minute m
abbrev pub Usable : Net → ℕ → ℕ → Type 0
Usable N x m = (σ : ℕ → ℕ) × Schedule N σ × (σ x ≡ m)

-- given windows are not empty and end by the last minute; rules join two known events
pub record Sound (N : Net) : Type 0 where
  pub opened : (x : ℕ) → x < count N → (event N x).window.earliest ≤ (event N x).window.latest
  pub closed : (x : ℕ) → x < count N → (event N x).window.latest ≤ last_minute
  pub known : (r : Rule) → Contains N.rules r → (r.from < count N) × (r.to < count N)

-- the given end of a side
abbrev pub given : Side → Net → ℕ → Minute
given earliest N x = minute (event N x).window.earliest
given latest N x = minute (event N x).window.latest

-- the event that a rule leads out of on a way, and the one that it leads to
abbrev pub leaves : Rule → Way → ℕ
leaves r w = source w r.from r.to

abbrev pub enters : Rule → Way → ℕ
enters r w = target w r.from r.to
