-- The two sides of a window: which of two minutes is tighter, what a rule carries over, and the laws that a side has to show.
use Rattle.std.specs.Prelude.{◌≡◌, ℕ, ◌≤◌, Bool, ◌⊎◌, ◌↔◌, ℤ, pos, ◌+ℤ◌, ◌-ℤ◌, ◌≤ℤ◌, ◌<ℤ◌, int_lt}
use Rattle.bounds.specs.declared.gap.Gap.{Gap}
use Rattle.bounds.specs.declared.gap.Way.{Way}
use Rattle.bounds.specs.declared.gap.Way.TheVariants.{Back, Ahead}

pub data Side : Type 0 where
  earliest : Side
  latest : Side

abbrev pub other : Side → Side
other earliest = latest
other latest = earliest

-- a minute as a side compares and carries it: on its way it may leave the minutes of a plan
abbrev pub Minute : Type 0
Minute = ℤ

-- the minute of a plan that a number is
abbrev pub minute : ℕ → Minute
minute n = pos n

-- the last minute of a plan
abbrev pub last_minute : ℕ
last_minute = 527040

abbrev pub loosest_minute : Side → ℕ
loosest_minute earliest = 0
loosest_minute latest = last_minute

-- a is strictly tighter than b
abbrev pub Tighter : Side → Minute → Minute → Type 0
Tighter earliest a b = b <ℤ a
Tighter latest a b = a <ℤ b

-- the same, as a test
abbrev pub tighter : Side → Minute → Minute → Bool
tighter earliest a b = int_lt b a
tighter latest a b = int_lt a b

-- a is no tighter than b
abbrev pub Within : Side → Minute → Minute → Type 0
Within earliest a b = a ≤ℤ b
Within latest a b = b ≤ℤ a

-- the minute that a rule carries to the event on the given way
abbrev pub carry : Side → Gap → Way → Minute → Minute
carry earliest g Back m = m -ℤ g.most
carry earliest g Ahead m = m +ℤ g.least
carry latest g Back m = m -ℤ g.least
carry latest g Ahead m = m +ℤ g.most

-- a rule with this gap holds for these minutes of its from event and its to event
abbrev pub Meets : Gap → Minute → Minute → Type 0
Meets g from to = (g.least ≤ℤ (to -ℤ from)) × ((to -ℤ from) ≤ℤ g.most)

-- of the from event's and the to event's, what the way leads out of, and what it leads to
abbrev pub source : {A : Type 0} → Way → A → A → A
source Back from to = to
source Ahead from to = from

abbrev pub target : {A : Type 0} → Way → A → A → A
target Back from to = from
target Ahead from to = to

-- how far the minute v that a schedule takes lies from the bound m, counted inwards: below 0 the bound is broken
abbrev pub slack : Side → Minute → Minute → ℤ
slack earliest v m = v -ℤ m
slack latest v m = m -ℤ v

pub record Lawful (s : Side) : Type 0 where
  -- tightness is a strict total order, and the test decides it
  pub irreflexive : (a : Minute) → Tighter s a a → ⊥
  pub transitive : (a b c : Minute) → Tighter s a b → Tighter s b c → Tighter s a c
  pub total : (a b : Minute) → Tighter s a b ⊎ ((a ≡ b) ⊎ Tighter s b a)
  pub within : (a b : Minute) → Within s a b ↔ (Tighter s a b → ⊥)
  -- carrying a tighter minute never gives a looser one
  pub monotone : (g : Gap) (w : Way) (a b : Minute) → Tighter s a b → Within s (carry s g w b) (carry s g w a)
  -- no minute of a plan is looser than the loosest
  pub loosest : (n : ℕ) → n ≤ last_minute → Within s (minute (loosest_minute s)) (minute n)
  -- a bound holds for a schedule's minute where there is slack, a strictly tighter one leaves strictly less,
  -- and carrying over a rule that the schedule meets never lowers it
  pub bounds : (v m : Minute) → Within s m v ↔ (pos 0 ≤ℤ slack s v m)
  pub nearer : (v a b : Minute) → Tighter s a b → slack s v a <ℤ slack s v b
  pub carried : (g : Gap) (w : Way) (from to m : Minute) → Meets g from to → slack s (source w from to) m ≤ℤ slack s (target w from to) (carry s g w m)
