-- What the central call answers, and what it leaves in the caller's list.
use Rattle.std.specs.Prelude.{◌≡◌, ℕ, ◌<◌, ◌≤◌, cond, ◌↔◌, List, ◌++◌, map, length, drop, Some, None, Ok, Err, Result, nat_le, slice_index_or}
use Rattle.bounds.specs.declared.end.Ends.{Ends}
use Rattle.bounds.specs.declared.fault.PlanFault.{PlanFault}
use Rattle.bounds.specs.declared.fault.PlanFault.TheVariants.{TooFewPlaces, NoSchedule}
use Rattle.network.specs.Nets.{Net, count, Schedule, Usable}
use Rattle.network.specs.Rounds.{Answer, central}
use Rattle.network.specs.declared.solve.Solution.{Solution}
use Rattle.network.specs.declared.tables.Window.{Window}

abbrev pub window_of : Ends → Window
window_of es = record { earliest = es.earliest.minute; latest = es.latest.minute }

-- the answer to what the rounds came to
abbrev pub told : Answer → Result Solution PlanFault
told a = elim a.bar [ Some bar ↦ Err (NoSchedule bar) | None ↦ Ok (record { rounds = a.rounds }) ]

-- the caller's list then: the windows in its first places, and the later places as they were
abbrev pub filled : List Window → Answer → List Window
filled before a = elim a.bar [ Some bar ↦ before | None ↦ map window_of a.table ++ drop (length a.table) before ]

-- with too few places neither
abbrev pub solve_answer : Net → List Window → Result Solution PlanFault
solve_answer N before = cond (nat_le (count N) (length before)) (told (central N)) (Err TooFewPlaces)

abbrev pub solve_leaves : Net → List Window → List Window
solve_leaves N before = cond (nat_le (count N) (length before)) (filled before (central N)) before

-- the window in place x
abbrev pub window : List Window → ℕ → Window
window ws x = slice_index_or ws x (record { earliest = 0; latest = 0 })

-- each window holds just the minutes that some schedule gives its event; the earliest minutes form a schedule, and so do the latest
pub record Windows (N : Net) (ws : List Window) : Type 0 where
  pub early : Schedule N (λ x. (window ws x).earliest)
  pub late : Schedule N (λ x. (window ws x).latest)
  pub usable : (x m : ℕ) → x < count N → (((window ws x).earliest ≤ m) × (m ≤ (window ws x).latest)) ↔ Usable N x m

-- the first places of a list have what the items turn into, and the later places what they had
pub record Filled {A B : Type 0} (becomes : A → B → Type 0) (items : List A) (before after : List B) : Type 0 where
  pub sized : length after ≡ length before
  pub turned : (k : ℕ) (a : A) (b : B) → k < length items → becomes (slice_index_or items k a) (slice_index_or after k b)
  pub rest : (k : ℕ) (b : B) → length items ≤ k → slice_index_or after k b ≡ slice_index_or before k b
