-- Plans worked by hand: what the definitions give for them.
use Rattle.std.specs.Prelude.{◌≡◌, ℕ, List, [], ◌∷◌, ℤ, pos, neg_ℤ, Some, None, Ok, Err}
use Rattle.bounds.specs.declared.bar.Cause.TheVariants.{Crossed, Cycle}
use Rattle.bounds.specs.declared.fault.PlanFault.TheVariants.{NoSchedule, OutsideWindow, RuleBroken}
use Rattle.network.specs.Nets.{Net}
use Rattle.network.specs.Solved.{solve_answer, solve_leaves}
use Rattle.network.specs.Checks.{check_refusal}
use Rattle.network.specs.declared.tables.Event.{Event}
use Rattle.network.specs.declared.tables.Rule.{Rule}
use Rattle.network.specs.declared.tables.Window.{Window}

abbrev pub upto : ℕ → ℕ → Event
upto earliest latest = record { room = 0; window = record { earliest = earliest; latest = latest } }

-- a rule from event 0 to event 1
abbrev pub rule : ℤ → ℤ → Rule
rule least most = record { from = 0; to = 1; gap = record { least = least; most = most } }

abbrev pub two : Event → Event → List Rule → Net
two a b rules = record { events = a ∷ b ∷ []; rules = rules }

abbrev pub win : ℕ → ℕ → Window
win earliest latest = record { earliest = earliest; latest = latest }

-- a list of two places
abbrev pub blank : List Window
blank = win 0 0 ∷ win 0 0 ∷ []

-- the windows 0..100 and 0..60, with 30 to 40 minutes between
abbrev pub first_plan : Net
first_plan = two (upto 0 100) (upto 0 60) (rule (pos 30) (pos 40) ∷ [])

pub record HandWorked : Type 0 where
  pub no_events : solve_answer (record { events = []; rules = [] }) [] ≡ Ok (record { rounds = 1 })
  pub one_minute : solve_answer (record { events = upto 5 5 ∷ []; rules = [] }) (win 0 0 ∷ []) ≡ Ok (record { rounds = 1 })
  pub one_minute_window : solve_leaves (record { events = upto 5 5 ∷ []; rules = [] }) (win 0 0 ∷ []) ≡ win 5 5 ∷ []
  pub two_rounds : solve_answer first_plan blank ≡ Ok (record { rounds = 2 })
  pub two_rounds_windows : solve_leaves first_plan blank ≡ win 0 30 ∷ win 30 60 ∷ []
  pub crossed : solve_answer (two (upto 0 10) (upto 0 10) (rule (pos 11) (pos 20) ∷ [])) blank ≡ Err (NoSchedule (record { cause = Crossed; event = 0 }))
  pub just_fits : solve_leaves (two (upto 0 10) (upto 0 10) (rule (pos 10) (pos 20) ∷ [])) blank ≡ win 0 0 ∷ win 10 10 ∷ []
  pub cycle : solve_answer (two (upto 0 527040) (upto 0 527040) (rule (pos 5) (pos 5) ∷ rule (pos 6) (pos 6) ∷ [])) blank ≡ Err (NoSchedule (record { cause = Cycle; event = 0 }))
  pub together : solve_leaves (two (upto 3 9) (upto 5 12) (rule (pos 0) (pos 0) ∷ [])) blank ≡ win 5 9 ∷ win 5 9 ∷ []
  pub backwards : solve_leaves (two (upto 10 20) (upto 0 5) (rule (neg_ℤ (pos 10)) (neg_ℤ (pos 10)) ∷ [])) blank ≡ win 10 15 ∷ win 0 5 ∷ []
  pub follows : solve_leaves (two (upto 0 0) (upto 0 0) (rule (pos 0) (pos 527040) ∷ [])) blank ≡ win 0 0 ∷ win 0 0 ∷ []
  pub checked : check_refusal first_plan (0 ∷ 30 ∷ []) ≡ None
  pub checked_rule : check_refusal first_plan (31 ∷ 60 ∷ []) ≡ Some (RuleBroken 0)
  pub checked_window : check_refusal first_plan (101 ∷ 60 ∷ []) ≡ Some (OutsideWindow 0)
