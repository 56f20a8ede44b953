-- From what the rounds decide to what the central call promises.
use Rattle.std.proofs.Common.{◌≡◌, ℕ, ◌<◌, ◌≤◌, ◌↔◌, List, ◌++◌, map, length, Some, None, Err, Option, sym, refl, ap, subst, arith}
use Rattle.std.proofs.lemmas.Grind.{common_steps}
use Rattle.std.proofs.lemmas.Int.{ints}
use Rattle.bounds.specs.Sides.{Meets, minute}
use Rattle.bounds.specs.declared.bar.Bar.{Bar}
use Rattle.bounds.specs.declared.end.Ends.{Ends}
use Rattle.bounds.specs.declared.fault.PlanFault.TheVariants.{NoSchedule}
use Rattle.network.specs.Nets.{Net, count, event, Schedule, Usable, Sound}
use Rattle.network.specs.Rounds.{held, Answer}
use Rattle.network.specs.Decided.{Exact}
use Rattle.network.specs.Solved.{window_of, told, filled, window, Windows}
use Rattle.network.specs.declared.tables.Window.{Window}

-- ---- a bar

told_by : (rounds : ℕ) (table : List Ends) (bar : Option Bar) (b : Bar) → bar ≡ Some b → told (record { rounds = rounds; table = table; bar = bar }) ≡ Err (NoSchedule b)
told_by rounds table (Some b') b h = ap (λ o. told (record { rounds = rounds; table = table; bar = o })) h
told_by rounds table None b h = absurd (let z : ◌≡◌ {A = ℕ} 0 1 = cc in omega arith)

pub told_barred : (a : Answer) (b : Bar) → a.bar ≡ Some b → told a ≡ Err (NoSchedule b)
told_barred a b h = told_by a.rounds a.table a.bar b h

filled_by : (before : List Window) (rounds : ℕ) (table : List Ends) (bar : Option Bar) (b : Bar) → bar ≡ Some b → filled before (record { rounds = rounds; table = table; bar = bar }) ≡ before
filled_by before rounds table (Some b') b h = refl
filled_by before rounds table None b h = absurd (let z : ◌≡◌ {A = ℕ} 0 1 = cc in omega arith)

pub filled_barred : (before : List Window) (a : Answer) (b : Bar) → a.bar ≡ Some b → filled before a ≡ before
filled_barred before a b h = filled_by before a.rounds a.table a.bar b h

-- ---- windows

-- what is a schedule does not depend on numbers that no event has
pub same_schedule : (N : Net) → Sound N → (σ τ : ℕ → ℕ) → ((x : ℕ) → x < count N → σ x ≡ τ x) → Schedule N σ → Schedule N τ
same_schedule N sound σ τ same s =
    record {
      after = λ x lt. subst (λ m. (event N x).window.earliest ≤ m) (same x lt) (s.after x lt);
      before = λ x lt. subst (λ m. m ≤ (event N x).window.latest) (same x lt) (s.before x lt);
      met = λ r has.
          let k = sound.known r has in
          subst (λ m. Meets r.gap (minute (τ r.from)) (minute m)) (same r.to k.1)
          (subst (λ m. Meets r.gap (minute m) (minute (σ r.to))) (same r.from k.0) (s.met r has));
    }

pub filled_window : (table : List Ends) (rest : List Window) (x : ℕ) → x < length table → window (map window_of table ++ rest) x ≡ window_of (held table x)
filled_window table rest x lt = grind (arith, common_steps, ints)

pub windows_exact : (N : Net) → Sound N → (table : List Ends) (rest : List Window) → length table ≡ count N → Exact N table → Windows N (map window_of table ++ rest)
windows_exact N sound table rest sized e =
    record {
      early = same_schedule N sound _ _ (λ x lt. ap (λ w. w.earliest) (sym (at x lt))) e.early;
      late = same_schedule N sound _ _ (λ x lt. ap (λ w. w.latest) (sym (at x lt))) e.late;
      usable = λ x m lt. subst (λ w. ((w.earliest ≤ m) × (m ≤ w.latest)) ↔ Usable N x m) (sym (at x lt)) (e.usable x m lt);
    }
  where
    at : (x : ℕ) → x < count N → window (map window_of table ++ rest) x ≡ window_of (held table x)
    at x lt = filled_window table rest x (subst (λ n. x < n) (sym sized) lt)
