-- A draft's plan, the questions before an entry, and what an entry makes of the plan.
use Rattle.std.specs.Prelude.{ℕ, Bool, cond, not, List, [], ◌∷◌, ◌++◌, length, Some, None, Ok, Err, Option, Result, ◌==◌, nat_le, nat_lt}
use Rattle.bounds.specs.declared.fault.PlanFault.{PlanFault}
use Rattle.bounds.specs.declared.fault.PlanFault.TheVariants.{NoRoom, BadWindow, TooManyEvents, NoEvent, SameEvent, BadGap, TooManyRules, TooManyViews}
use Rattle.network.specs.Nets.{Net}
use Rattle.network.specs.Rows.{opens, spans, room_of, shows}
use Rattle.network.specs.declared.tables.Event.{Event}
use Rattle.network.specs.declared.tables.Rule.{Rule}
use Rattle.network.specs.declared.tables.View.{View}

pub record Plan : Type 0 where
  pub events : List Event
  pub rules : List Rule
  pub views : List View

abbrev pub net_of : Plan → Net
net_of P = record { events = P.events; rules = P.rules }

abbrev pub empty : Plan
empty = record { events = []; rules = []; views = [] }

-- ---- questions

-- a question, and the refusal that "no" gives
pub record Question : Type 0 where
  pub yes : Bool
  pub refusal : PlanFault

abbrev pub ask : Bool → PlanFault → Question
ask b f = record { yes = b; refusal = f }

-- the refusal of the first question that is answered by "no"
abbrev pub first_no : List Question → Option PlanFault
first_no [] = None
first_no (q ∷ qs) = cond q.yes (first_no qs) (Some q.refusal)

-- the answer of an entry, and the plan after it
abbrev pub answer : Option PlanFault → ℕ → Result ℕ PlanFault
answer None number = Ok number
answer (Some fault) number = Err fault

abbrev pub plan_after : Option PlanFault → Plan → Plan → Plan
plan_after None old new = new
plan_after (Some fault) old new = old

-- ---- events

abbrev pub event_questions : Plan → Event → List Question
event_questions P e =
    ask (nat_lt e.room 8) (NoRoom e.room)
    ∷ ask (opens e.window) BadWindow
    ∷ ask (nat_lt (length P.events) 64) TooManyEvents
    ∷ []

abbrev pub with_event : Plan → Event → Plan
with_event P e = record { events = P.events ++ e ∷ []; rules = P.rules; views = P.views }

-- the answer to an event, and the plan after it
abbrev pub event_answer : Plan → Event → Result ℕ PlanFault
event_answer P e = answer (first_no (event_questions P e)) (length P.events)

abbrev pub event_plan : Plan → Event → Plan
event_plan P e = plan_after (first_no (event_questions P e)) P (with_event P e)

-- ---- rules

-- the views, with that of the event in the room
abbrev pub with_view : List View → ℕ → ℕ → List View
with_view views event room = cond (shows views event room) views (views ++ record { event = event; room = room } ∷ [])

abbrev pub viewing : Plan → List View → Plan
viewing P views = record { events = P.events; rules = P.rules; views = views }

-- the view of an event in the room of another
abbrev pub view_of : Plan → ℕ → ℕ → View
view_of P event other = record { event = event; room = room_of P.events other }

-- a rule between rooms needs the view of its from event in its to event's room, then that of its to event in its from event's room
abbrev pub needed : Plan → Rule → Option (View × View)
needed P r = cond (room_of P.events r.from == room_of P.events r.to) None (Some (view_of P r.from r.to, view_of P r.to r.from))

-- the views, with those that the rule needs
abbrev pub with_views : Plan → Rule → List View
with_views P r =
    elim (needed P r) [
      | None ↦ P.views
      | Some vs ↦ with_view (with_view P.views vs.0.event vs.0.room) vs.1.event vs.1.room
    ]

abbrev pub rule_questions : Plan → Rule → List Question
rule_questions P r =
    ask (nat_lt r.from (length P.events)) (NoEvent r.from)
    ∷ ask (nat_lt r.to (length P.events)) (NoEvent r.to)
    ∷ ask (not (r.from == r.to)) (SameEvent r.from)
    ∷ ask (spans r.gap) BadGap
    ∷ ask (nat_lt (length P.rules) 128) TooManyRules
    ∷ ask (nat_le (length (with_views P r)) 64) TooManyViews
    ∷ []

abbrev pub with_rule : Plan → Rule → Plan
with_rule P r = record { events = P.events; rules = P.rules ++ r ∷ []; views = with_views P r }

-- the answer to a rule, and the plan after it
abbrev pub rule_answer : Plan → Rule → Result ℕ PlanFault
rule_answer P r = answer (first_no (rule_questions P r)) (length P.rules)

abbrev pub rule_plan : Plan → Rule → Plan
rule_plan P r = plan_after (first_no (rule_questions P r)) P (with_rule P r)
