-- The numbers of causes and refusals: each case with its number, its layer and its place.
use Rattle.std.specs.Prelude.{ℕ}
use Rattle.bounds.specs.declared.bar.Bar.{Bar}
use Rattle.bounds.specs.declared.bar.Cause.{Cause}
use Rattle.bounds.specs.declared.bar.Cause.TheVariants.{Crossed, Cycle}
use Rattle.bounds.specs.declared.fault.LineFault.{LineFault}
use Rattle.bounds.specs.declared.fault.LineFault.TheVariants.{Full, Nothing, Waiting}
use Rattle.bounds.specs.declared.fault.Mark.{Mark}
use Rattle.bounds.specs.declared.fault.PlanFault.{PlanFault}
use Rattle.bounds.specs.declared.fault.PlanFault.TheVariants.{NoRoom, BadWindow, TooManyEvents, NoEvent, SameEvent, BadGap, TooManyRules, TooManyViews, Barred, NothingUnsent, Unsent, Unworked, NotSettled, TooFewPlaces, NoSchedule, OutsideWindow, RuleBroken, Line}
use Rattle.bounds.specs.declared.fault.StreamFault.{StreamFault}
use Rattle.bounds.specs.declared.fault.StreamFault.TheVariants.{UnknownCommand, MissingOperands, WrongState, Plan}

abbrev pub cause_number : Cause → ℕ
cause_number Crossed = 1
cause_number Cycle = 2

-- how a refusal is told; the place is 255 where none stands
abbrev pub told : ℕ → ℕ → ℕ → Mark
told layer number place = record { number = number; layer = layer; place = place }

-- layer 3 is the line
abbrev pub line_mark : LineFault → Mark
line_mark (Full view) = told 3 11 view
line_mark Nothing = told 3 12 255
line_mark Waiting = told 3 14 255

-- layer 2 is the plan
abbrev pub plan_mark : PlanFault → Mark
plan_mark (NoRoom room) = told 2 1 room
plan_mark BadWindow = told 2 2 255
plan_mark TooManyEvents = told 2 3 255
plan_mark (NoEvent event) = told 2 4 event
plan_mark (SameEvent event) = told 2 5 event
plan_mark BadGap = told 2 6 255
plan_mark TooManyRules = told 2 7 255
plan_mark TooManyViews = told 2 8 255
plan_mark (Barred event) = told 2 9 event
plan_mark (NothingUnsent room) = told 2 10 room
plan_mark (Unsent view) = told 2 13 view
plan_mark (Unworked room) = told 2 15 room
plan_mark NotSettled = told 2 16 255
plan_mark TooFewPlaces = told 2 17 255
plan_mark (NoSchedule bar) = told 2 18 bar.event
plan_mark (OutsideWindow event) = told 2 19 event
plan_mark (RuleBroken rule) = told 2 20 rule
plan_mark (Line fault) = line_mark fault

-- the refusal of a plan that is barred: it has no schedule
abbrev pub barring : Bar → PlanFault
barring bar = NoSchedule bar

-- layer 1 is the stream; the place of its own refusals is the command's byte
abbrev pub stream_mark : StreamFault → Mark
stream_mark (UnknownCommand byte) = told 1 21 byte
stream_mark (MissingOperands byte) = told 1 22 byte
stream_mark (WrongState byte) = told 1 23 byte
stream_mark (Plan fault) = plan_mark fault
