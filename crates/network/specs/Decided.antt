-- What the central rounds decide.
use Rattle.std.specs.Prelude.{◌≡◌, ℕ, ◌<◌, ◌≤◌, ◌↔◌, List, length, Some, None}
use Rattle.bounds.specs.declared.bar.Bar.{Bar}
use Rattle.bounds.specs.declared.end.Ends.{Ends}
use Rattle.network.specs.Nets.{Net, count, Schedule, Hopeless, Usable}
use Rattle.network.specs.Rounds.{held, Answer}

-- each window holds just the minutes that some schedule gives its event; the earliest minutes form a schedule, and so do the latest
pub record Exact (N : Net) (table : List Ends) : Type 0 where
  pub early : Schedule N (λ x. (held table x).earliest.minute)
  pub late : Schedule N (λ x. (held table x).latest.minute)
  pub usable : (x m : ℕ) → x < count N → (((held table x).earliest.minute ≤ m) × (m ≤ (held table x).latest.minute)) ↔ Usable N x m

pub record Decided (N : Net) (a : Answer) : Type 0 where
  pub sized : length a.table ≡ count N
  pub barred : (bar : Bar) → a.bar ≡ Some bar → Hopeless N
  pub settled : a.bar ≡ None → Exact N a.table
  pub some_round : 1 ≤ a.rounds
  pub few_rounds : 0 < count N → a.rounds ≤ count N
