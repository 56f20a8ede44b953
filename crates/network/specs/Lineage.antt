-- Where ends come from: walks of carried minutes, lineages, and what tables of held ends keep.
use Rattle.std.specs.Prelude.{◌≡◌, ℕ, suc, ◌<◌, ◌≤◌, List, [], ◌∷◌, length}
use Rattle.std.specs.List.{Contains, AllByRecursion}
use Rattle.bounds.specs.Sides.{Side, Minute, carry, Tighter, Within}
use Rattle.bounds.specs.Ends.{lies, end_of}
use Rattle.bounds.specs.declared.end.End.{End}
use Rattle.bounds.specs.declared.end.Ends.{Ends}
use Rattle.bounds.specs.declared.gap.Way.{Way}
use Rattle.network.specs.Nets.{Net, count, given, leaves, enters}
use Rattle.network.specs.Rounds.{held}
use Rattle.network.specs.declared.tables.Rule.{Rule}

-- a minute that stands for an event
pub record Stop : Type 0 where
  pub event : ℕ
  pub lies : Minute

-- the minute m of y, carried over one rule, is the minute m' of x
pub record Carried (s : Side) (N : Net) (y : ℕ) (m : Minute) (x : ℕ) (m' : Minute) : Type 0 where
  pub rule : Rule
  pub way : Way
  pub listed : Contains N.rules rule
  pub outof : leaves rule way ≡ y
  pub into : enters rule way ≡ x
  pub value : carry s rule.gap way m ≡ m'

-- minutes that rules carry from a given end, by event, minute and links
pub data Walk (s : Side) (N : Net) : ℕ → Minute → ℕ → Type 0 where
  start : {x : ℕ} {m : Minute} → x < count N → Within s m (given s N x) → Walk s N x m 0
  onward : {y : ℕ} {m : Minute} {k : ℕ} {x : ℕ} {m' : Minute} → Walk s N y m k → Carried s N y m x m' → Walk s N x m' (suc k)

-- a walk that comes to x at m, with the stops before it, the last first; its links are as many as those.
-- Each minute is no tighter than what its event holds now, and where an event comes again the later minute is strictly tighter
pub data Lineage (s : Side) (N : Net) (now : ℕ → Minute) : ℕ → Minute → List Stop → Type 0 where
  first : {x : ℕ} {m : Minute} → x < count N → Within s m (given s N x) → Within s m (now x) → Lineage s N now x m []
  next : {y : ℕ} {m : Minute} {past : List Stop} {x : ℕ} {m' : Minute} → Lineage s N now y m past → Carried s N y m x m' → Within s m' (now x) → AllByRecursion (λ e. e.event ≡ x → Tighter s m' e.lies) (record { event = y; lies = m } ∷ past) → Lineage s N now x m' (record { event = y; lies = m } ∷ past)

-- the end e of event x has a lineage of as many links as it counts, fewer than there are events
pub record Traced (s : Side) (N : Net) (now : ℕ → Minute) (x : ℕ) (e : End) : Type 0 where
  pub past : List Stop
  pub lineage : Lineage s N now x (lies e) past
  pub size : length past ≡ e.links
  pub few : e.links < count N

-- what each event holds on a side
abbrev pub minutes : Side → List Ends → ℕ → Minute
minutes s table x = lies (end_of s (held table x))

-- every event holds at least as tight an end
abbrev pub Tightened : Side → (ℕ → Minute) → (ℕ → Minute) → Type 0
Tightened s now later = (x : ℕ) → Within s (now x) (later x)

-- no walk of at most so many links is tighter than what its event holds
abbrev pub Covered : Side → Net → (ℕ → Minute) → ℕ → Type 0
Covered s N now links = (x : ℕ) (m : Minute) (k : ℕ) → k ≤ links → Walk s N x m k → Within s m (now x)

-- later has taken over all that the rules carry from now
abbrev pub Relaxed : Side → Net → (ℕ → Minute) → (ℕ → Minute) → Type 0
Relaxed s N now later = (r : Rule) (w : Way) → Contains N.rules r → Within s (carry s r.gap w (now (leaves r w))) (later (enters r w))

-- a table of held ends: each has a lineage and is no looser than the given one, and no window is empty
pub record Backed (N : Net) (table : List Ends) : Type 0 where
  pub sized : length table ≡ count N
  pub traced : (s : Side) (x : ℕ) → x < count N → Traced s N (minutes s table) x (end_of s (held table x))
  pub inside : (s : Side) (x : ℕ) → x < count N → Within s (given s N x) (minutes s table x)
  pub opened : (x : ℕ) → x < count N → (held table x).earliest.minute ≤ (held table x).latest.minute
