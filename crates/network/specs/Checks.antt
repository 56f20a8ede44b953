-- Whether a list of minutes is a schedule, and if not, where it first fails.
use Rattle.std.specs.Prelude.{ℕ, suc, Bool, cond, ◌&&◌, List, [], ◌∷◌, length, ℤ, ◌-ℤ◌, Some, None, Option, int_le, nat_le, slice_index}
use Rattle.bounds.specs.Sides.{minute}
use Rattle.bounds.specs.declared.fault.PlanFault.{PlanFault}
use Rattle.bounds.specs.declared.fault.PlanFault.TheVariants.{TooFewPlaces, OutsideWindow, RuleBroken}
use Rattle.bounds.specs.declared.gap.Gap.{Gap}
use Rattle.network.specs.Nets.{Net, count}
use Rattle.network.specs.declared.tables.Event.{Event}
use Rattle.network.specs.declared.tables.Rule.{Rule}
use Rattle.network.specs.declared.tables.Window.{Window}

-- the number of the first row that fails a test, where the rows are numbered from i
abbrev pub first_failing : {A : Type 0} → (ℕ → A → Bool) → ℕ → List A → Option ℕ
first_failing test i [] = None
first_failing test i (x ∷ xs) = cond (test i x) (first_failing test (suc i) xs) (Some i)

-- the window has the minute
abbrev pub has_minute : Window → ℕ → Bool
has_minute w m = nat_le w.earliest m && nat_le m w.latest

-- event x has its minute in its given window
abbrev pub in_window : List ℕ → ℕ → Event → Bool
in_window minutes x e = has_minute e.window (slice_index minutes x)

-- the gap has room for so many minutes between two events
abbrev pub allows : Gap → ℤ → Bool
allows g between = int_le g.least between && int_le between g.most

-- the rule holds
abbrev pub kept : List ℕ → ℕ → Rule → Bool
kept minutes k r = allows r.gap (minute (slice_index minutes r.to) -ℤ minute (slice_index minutes r.from))

-- the first rule that does not hold, once every minute lies in its window
abbrev pub rule_refusal : Option ℕ → Option PlanFault
rule_refusal None = None
rule_refusal (Some k) = Some (RuleBroken k)

abbrev pub event_refusal : Option ℕ → Option PlanFault → Option PlanFault
event_refusal None rest = rest
event_refusal (Some x) rest = Some (OutsideWindow x)

-- too few minutes; else the first event outside its window; else the first rule that does not hold
abbrev pub check_refusal : Net → List ℕ → Option PlanFault
check_refusal N minutes =
    cond (nat_le (count N) (length minutes))
    (event_refusal (first_failing (in_window minutes) 0 N.events) (rule_refusal (first_failing (kept minutes) 0 N.rules)))
    (Some TooFewPlaces)
