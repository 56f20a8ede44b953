-- The laws of a side: each by its two cases and a rule's two ways. All that is proved above rests on these alone.
use Rattle.std.specs.Prelude.{◌≡◌, ℕ, ◌≤◌, true, false, ◌⊎◌, pos, negsuc, ◌≤ℤ◌, ◌<ℤ◌, unsigned_abs, refl}
use Rattle.std.proofs.Common.{inl, inr, arith}
use Rattle.std.proofs.lemmas.Int.{ints, by_lt_z}
use Rattle.bounds.specs.Sides.{Side, earliest, latest, other, Minute, minute, last_minute, loosest_minute, Tighter, tighter, Within, carry, Meets, source, target, slack, Lawful}
use Rattle.bounds.specs.declared.gap.Gap.{Gap}
use Rattle.bounds.specs.declared.gap.Way.{Way}
use Rattle.bounds.specs.declared.gap.Way.TheVariants.{Back, Ahead}

-- ---- the order

pub within_refl : (s : Side) (a : Minute) → Within s a a
within_refl earliest a = omega (arith, ints)
within_refl latest a = omega (arith, ints)

pub within_trans : (s : Side) (a b c : Minute) → Within s a b → Within s b c → Within s a c
within_trans earliest a b c h k = omega (arith, ints)
within_trans latest a b c h k = omega (arith, ints)

pub within_antisym : (s : Side) (a b : Minute) → Within s a b → Within s b a → a ≡ b
within_antisym earliest a b h k = omega (arith, ints)
within_antisym latest a b h k = omega (arith, ints)

pub tighter_within : (s : Side) (a b : Minute) → Tighter s a b → Within s b a
tighter_within earliest a b h = omega (arith, ints)
tighter_within latest a b h = omega (arith, ints)

-- a is tighter than b, and c no tighter than b
pub tighter_over : (s : Side) (a b c : Minute) → Tighter s a b → Within s c b → Tighter s a c
tighter_over earliest a b c h k = omega (arith, ints)
tighter_over latest a b c h k = omega (arith, ints)

pub not_both : (s : Side) (a b : Minute) → Tighter s a b → Within s a b → ⊥
not_both earliest a b h k = omega (arith, ints)
not_both latest a b h k = omega (arith, ints)

pub by_side : (s : Side) (a b : Minute) → Tighter s a b ⊎ Within s a b
by_side earliest a b = by_lt_z b a (λ h. inl h) (λ h. inr h)
by_side latest a b = by_lt_z a b (λ h. inl h) (λ h. inr h)

-- the test decides
pub tighter_true : (s : Side) (a b : Minute) → tighter s a b ≡ true → Tighter s a b
tighter_true earliest a b h = grind (arith, ints)
tighter_true latest a b h = grind (arith, ints)

pub tighter_false : (s : Side) (a b : Minute) → tighter s a b ≡ false → Within s a b
tighter_false earliest a b h = grind (arith, ints)
tighter_false latest a b h = grind (arith, ints)

pub is_tighter_lem : (s : Side) (a b : Minute) → Tighter s a b → tighter s a b ≡ true
is_tighter_lem earliest a b h = grind (arith, ints)
is_tighter_lem latest a b h = grind (arith, ints)

pub is_within : (s : Side) (a b : Minute) → Within s a b → tighter s a b ≡ false
is_within earliest a b h = grind (arith, ints)
is_within latest a b h = grind (arith, ints)

-- the sides look at each other
pub within_other : (s : Side) (a b : Minute) → Within s a b → Within (other s) b a
within_other earliest a b h = h
within_other latest a b h = h

pub other_within : (s : Side) (a b : Minute) → Within (other s) a b → Within s b a
other_within earliest a b h = h
other_within latest a b h = h

-- the minutes of a plan are in the order of their numbers
pub minutes_ordered : (a b : ℕ) → a ≤ b → minute a ≤ℤ minute b
minutes_ordered a b h = omega (arith, ints)

pub numbers_ordered : (a b : ℕ) → minute a ≤ℤ minute b → a ≤ b
numbers_ordered a b h = omega (arith, ints)

-- ---- carrying

pub carry_mono : (s : Side) (g : Gap) (w : Way) (a b : Minute) → Within s a b → Within s (carry s g w a) (carry s g w b)
carry_mono earliest g Back a b h = omega (arith, ints)
carry_mono earliest g Ahead a b h = omega (arith, ints)
carry_mono latest g Back a b h = omega (arith, ints)
carry_mono latest g Ahead a b h = omega (arith, ints)

-- where a rule carries nothing tighter either way, it holds
pub fixed_meets : (s : Side) (g : Gap) (from to : Minute) → Within s (carry s g Ahead from) to → Within s (carry s g Back to) from → Meets g from to
fixed_meets earliest g from to h k = (omega (arith, ints), omega (arith, ints))
fixed_meets latest g from to h k = (omega (arith, ints), omega (arith, ints))

-- a carried minute that is tighter than one minute of the plan and does not pass another is itself a minute of the plan
pub between_minutes : (s : Side) (m : Minute) (a b : ℕ) → Tighter s m (minute a) → Within s m (minute b) → minute (unsigned_abs m) ≡ m
between_minutes earliest (pos m) a b h k = refl
between_minutes latest (pos m) a b h k = refl
between_minutes earliest (negsuc m) a b h k = absurd (omega (arith, ints))
between_minutes latest (negsuc m) a b h k = absurd (omega (arith, ints))

-- ---- slack

pub slack_within : (s : Side) (v m : Minute) → pos 0 ≤ℤ slack s v m → Within s m v
slack_within earliest v m h = omega (arith, ints)
slack_within latest v m h = omega (arith, ints)

pub within_slack : (s : Side) (v m : Minute) → Within s m v → pos 0 ≤ℤ slack s v m
within_slack earliest v m h = omega (arith, ints)
within_slack latest v m h = omega (arith, ints)

pub slack_tighter : (s : Side) (v a b : Minute) → Tighter s a b → slack s v a <ℤ slack s v b
slack_tighter earliest v a b h = omega (arith, ints)
slack_tighter latest v a b h = omega (arith, ints)

pub slack_carry : (s : Side) (g : Gap) (w : Way) (from to m : Minute) → Meets g from to → slack s (source w from to) m ≤ℤ slack s (target w from to) (carry s g w m)
slack_carry earliest g Back from to m h = omega (arith, ints)
slack_carry earliest g Ahead from to m h = omega (arith, ints)
slack_carry latest g Back from to m h = omega (arith, ints)
slack_carry latest g Ahead from to m h = omega (arith, ints)

-- ---- all of them

loosest_within : (s : Side) (n : ℕ) → n ≤ last_minute → Within s (minute (loosest_minute s)) (minute n)
loosest_within earliest n h = omega (arith, ints)
loosest_within latest n h = omega (arith, ints)

three_ways : (s : Side) (a b : Minute) → Tighter s a b ⊎ Within s a b → Tighter s b a ⊎ Within s b a → Tighter s a b ⊎ ((a ≡ b) ⊎ Tighter s b a)
three_ways s a b (inl h) k = inl h
three_ways s a b (inr h) (inl k) = inr (inr k)
three_ways s a b (inr h) (inr k) = inr (inl (within_antisym s a b h k))

from_not : (s : Side) (a b : Minute) → (Tighter s a b → ⊥) → Tighter s a b ⊎ Within s a b → Within s a b
from_not s a b no' (inl h) = absurd (no' h)
from_not s a b no' (inr h) = h

pub lawful : (s : Side) → Lawful s
lawful s =
    record {
      irreflexive = λ a h. not_both s a a h (within_refl s a);
      transitive = λ a b c h k. tighter_over s a b c h (tighter_within s b c k);
      total = λ a b. three_ways s a b (by_side s a b) (by_side s b a);
      within = λ a b. (λ h k. not_both s a b k h, λ h. from_not s a b h (by_side s a b));
      monotone = λ g w a b h. carry_mono s g w b a (tighter_within s a b h);
      loosest = loosest_within s;
      bounds = λ v m. (within_slack s v m, slack_within s v m);
      nearer = slack_tighter s;
      carried = slack_carry s;
    }
