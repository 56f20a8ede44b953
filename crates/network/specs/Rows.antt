-- What the rows of a draft keep to, each as a test.
use Rattle.std.specs.Prelude.{ℕ, ◌<◌, Bool, not, ◌&&◌, ◌||◌, List, length, get_or, pos, neg_ℤ, ◌==◌, int_le, nat_le, nat_lt}
use Rattle.std.specs.List.{AllPass, list_any}
use Rattle.bounds.specs.Sides.{last_minute}
use Rattle.bounds.specs.declared.gap.Gap.{Gap}
use Rattle.network.specs.declared.tables.Event.{Event}
use Rattle.network.specs.declared.tables.Rule.{Rule}
use Rattle.network.specs.declared.tables.View.{View}
use Rattle.network.specs.declared.tables.Window.{Window}
use Rattle.network.specs.Nets.{no_event}

-- every row passes the test
abbrev pub Pass : {X : Type 0} → (X → Bool) → List X → Type 0
Pass test xs = AllPass test xs

-- the window is not empty and ends by the last minute
abbrev pub opens : Window → Bool
opens w = nat_le w.earliest w.latest && nat_le w.latest last_minute

abbrev pub placed : Event → Bool
placed e = nat_lt e.room 8 && opens e.window

-- the bounds are in order, and no farther than the last minute either way
abbrev pub spans : Gap → Bool
spans g = int_le (neg_ℤ (pos last_minute)) g.least && (int_le g.least g.most && int_le g.most (pos last_minute))

-- both events of the rule are among so many
abbrev pub Known : ℕ → Rule → Type 0
Known events r = (r.from < events) × (r.to < events)

-- the rule joins two of so many events
abbrev pub joins : ℕ → Rule → Bool
joins events r = nat_lt r.from events && (nat_lt r.to events && (not (r.from == r.to) && spans r.gap))

-- the room of event x
abbrev pub room_of : List Event → ℕ → ℕ
room_of events x = (get_or events x no_event).room

-- an event lies in the room
abbrev pub lived : List Event → ℕ → Bool
lived events room = list_any (λ e. e.room == room) events

-- the views have that of the event in the room
abbrev pub shows : List View → ℕ → ℕ → Bool
shows views event room = list_any (λ v. v.event == event && v.room == room) views

-- the view shows a known event in another room than its own, in which some event lies
abbrev pub abroad : List Event → View → Bool
abroad events v = nat_lt v.event (length events) && (not (room_of events v.event == v.room) && lived events v.room)

-- a rule between two rooms has the view of each of its events in the room of the other
abbrev pub bordered : List Event → List View → Rule → Bool
bordered events views r =
    (room_of events r.from == room_of events r.to)
    || (shows views r.from (room_of events r.to) && shows views r.to (room_of events r.from))
