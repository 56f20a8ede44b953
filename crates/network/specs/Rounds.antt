-- The central rounds.
use Rattle.std.specs.Prelude.{ℕ, zero, suc, ◌+◌, cond, List, [], ◌∷◌, map, Some, None, Option, ◌==◌, slice_index_or, slice_set}
use Rattle.std.specs.Option.{option_map}
use Rattle.bounds.specs.Sides.{earliest, latest}
use Rattle.bounds.specs.Ends.{loosest}
use Rattle.bounds.specs.declared.bar.Bar.{Bar}
use Rattle.bounds.specs.declared.end.Ends.{Ends}
use Rattle.bounds.specs.declared.gap.Way.{Way}
use Rattle.bounds.specs.declared.gap.Way.TheVariants.{Back, Ahead}
use Rattle.network.specs.Nets.{Net, count, leaves, enters}
use Rattle.network.specs.Revised.{revised}
use Rattle.network.specs.declared.revise.Revision.{Revision}
use Rattle.network.specs.declared.tables.Event.{Event}
use Rattle.network.specs.declared.tables.Rule.{Rule}

-- the ends that event x holds; of a number that no event has, the loosest
abbrev pub held : List Ends → ℕ → Ends
held table x = slice_index_or table x (record { earliest = loosest earliest; latest = loosest latest })

-- what the events hold, how many ends moved so far, and the bar, if there is one
pub record Sweep : Type 0 where
  pub table : List Ends
  pub moves : ℕ
  pub bar : Option Bar

abbrev pub noted_at : ℕ → Sweep → Revision → Sweep
noted_at x s v =
    record {
      table = slice_set s.table x v.ends;
      moves = s.moves + v.moves;
      bar = option_map (λ cause. record { cause = cause; event = x }) v.bar;
    }

-- one rule on one way, unless the plan is barred
abbrev pub step : ℕ → Rule → Way → Sweep → Sweep
step events r w s =
    elim s.bar [
      | Some bar ↦ s
      | None ↦ noted_at (enters r w) s (revised events r.gap w (held s.table (enters r w)) (held s.table (leaves r w)))
    ]

-- a round: all rules in order, each revising its from event, then its to event
abbrev pub sweep : ℕ → List Rule → Sweep → Sweep
sweep events [] s = s
sweep events (r ∷ rs) s = sweep events rs (step events r Ahead (step events r Back s))

abbrev pub begun : List Ends → Sweep
begun table = record { table = table; moves = 0; bar = None }

-- how many rounds were run, what the events hold then, and the bar, if there is one
pub record Answer : Type 0 where
  pub rounds : ℕ
  pub table : List Ends
  pub bar : Option Bar

-- after a round: the answer if it barred or moved nothing, else what further rounds give
abbrev pub after : ℕ → Sweep → Answer → Answer
after done s more =
    elim s.bar [
      | Some bar ↦ record { rounds = done; table = s.table; bar = Some bar }
      | None ↦ cond (s.moves == 0) (record { rounds = done; table = s.table; bar = None }) more
    ]

-- rounds until one moves nothing or bars, at most as many as the first number allows; so many are done
abbrev pub rounds : ℕ → ℕ → List Rule → ℕ → List Ends → Answer
rounds zero events rs done table = record { rounds = done; table = table; bar = None }
rounds (suc left) events rs done table =
    after (suc done) (sweep events rs (begun table)) (rounds left events rs (suc done) (sweep events rs (begun table)).table)

-- the given ends, with no links
abbrev pub given_ends : Event → Ends
given_ends e = record { earliest = record { minute = e.window.earliest; links = 0 }; latest = record { minute = e.window.latest; links = 0 } }

-- from the given windows; there are never more rounds than events, but one with none
abbrev pub central : Net → Answer
central N = rounds (suc (count N)) (count N) N.rules 0 (map given_ends N.events)
