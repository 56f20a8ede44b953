-- Between two schedules: every minute from the one's to the other's is some schedule's.
use Rattle.std.proofs.Common.{ℕ, ◌+◌, ◌-◌, ◌≤◌, min, arith}
use Rattle.std.proofs.lemmas.Int.{ints}
use Rattle.bounds.specs.Sides.{minute, Meets}
use Rattle.bounds.specs.declared.gap.Gap.{Gap}
use Rattle.network.specs.Nets.{Net, Schedule, Usable}

shift_meets : (g : Gap) (a b d : ℕ) → Meets g (minute a) (minute b) → Meets g (minute (a + d)) (minute (b + d))
shift_meets g a b d h = (omega (arith, ints), omega (arith, ints))

min_meets : (g : Gap) (a b c d : ℕ) → Meets g (minute a) (minute b) → Meets g (minute c) (minute d) → Meets g (minute (min a c)) (minute (min b d))
min_meets g a b c d h k = (omega (arith, ints), omega (arith, ints))

-- the first schedule moved on until it takes m, and each event at the second's minute where it would pass that
pub between : (N : Net) (E L : ℕ → ℕ) → Schedule N E → Schedule N L → (x m : ℕ) → E x ≤ m → m ≤ L x → Usable N x m
between N E L e l x m h k =
    let d : ℕ = m - E x in (
      λ y. min (E y + d) (L y),
      record {
        after = λ y i. let p = e.after y i in let q = l.after y i in omega arith;
        before = λ y i. let q = l.before y i in omega arith;
        met = λ r has. min_meets r.gap (E r.from + d) (E r.to + d) (L r.from) (L r.to) (shift_meets r.gap (E r.from) (E r.to) d (e.met r has)) (l.met r has);
      },
      omega arith,
    )
