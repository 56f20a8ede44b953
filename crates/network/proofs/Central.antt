-- The central rounds decide: they bar only where there is no schedule, and else stop, in no more rounds than events, at exact windows.
use Rattle.std.proofs.Common.{◌≡◌, ℕ, zero, suc, ◌+◌, ◌-◌, ◌*◌, ◌<◌, ◌≤◌, List, map, length, Some, None, ⊎_elim, arith}
use Rattle.std.specs.List.{Contains}
use Rattle.std.proofs.lemmas.List.Elements.{All-contains, All-from_recursion, recursion_from_All, Contains-get_or}
use Rattle.std.proofs.lemmas.Bool.{cases_lt}
use Rattle.std.proofs.lemmas.Grind.{common_steps}
use Rattle.std.proofs.lemmas.Int.{ints}
use Rattle.bounds.specs.Sides.{Side}
use Rattle.bounds.specs.declared.bar.Bar.{Bar}
use Rattle.bounds.specs.declared.end.Ends.{Ends}
use Rattle.bounds.specs.declared.gap.Way.{Way}
use Rattle.network.specs.Nets.{Net, count, Sound, Hopeless}
use Rattle.network.specs.Rounds.{Sweep, sweep, begun, Answer, after, rounds, given_ends, central}
use Rattle.network.specs.Lineage.{minutes, Covered, Relaxed, Backed}
use Rattle.network.specs.Decided.{Exact, Decided}
use Rattle.network.proofs.Held.{round, backed_at_start, covered_at_start, settled_exact}
use Rattle.network.proofs.Sweeps.{Fed, Sweeps, sweep_keeps}

-- so many rounds are done: walks of as many links are covered
pub record Underway (N : Net) (done : ℕ) (table : List Ends) : Type 0 where
  pub backed : Backed N table
  pub covered : (s : Side) → Covered s N (minutes s table) done

pub underway_start : (N : Net) → Sound N → Underway N 0 (map given_ends N.events)
underway_start N sound = record { backed = backed_at_start N sound; covered = λ s. covered_at_start s N }

-- what a round comes to, s, after so many others
pub record Next (N : Net) (done : ℕ) (s : Sweep) : Type 0 where
  pub sized : length s.table ≡ count N
  pub few_moves : s.moves ≤ 4 * length N.rules
  pub barred : (bar : Bar) → s.bar ≡ Some bar → Hopeless N
  pub settled : s.bar ≡ None → s.moves ≡ 0 → Exact N s.table
  pub goes_on : s.bar ≡ None → (s.moves ≡ 0 → ⊥) → (suc done < count N) × Underway N (suc done) s.table

next_from : (N : Net) (done : ℕ) (table : List Ends) (s : Sweep) → Underway N done table → Sweeps N N.rules (begun table) s → Next N done s
next_from N done table s u h =
    let k = h.keeps in
    let few = h.few_moves in
    record {
      sized = k.backed.sized;
      few_moves = omega arith;
      barred = k.hopeless;
      settled = λ free none. settled_exact N s.table k.backed (λ v. rw (k.still none) (rw (k.still none) at (relaxed free v)));
      goes_on = λ free some. (
        ⊎_elim (λ lt. lt) (λ enough. absurd (some (k.idle done u.covered enough))) (cases_lt (suc done) (count N)),
        record { backed = k.backed; covered = λ v. round v N (minutes v table) (minutes v s.table) done (u.covered v) (k.tightens v) (relaxed free v) },
      );
    }
  where
    relaxed : s.bar ≡ None → (v : Side) → Relaxed v N (minutes v table) (minutes v s.table)
    relaxed free v r w has = All-contains (λ r. (w : Way) → Fed table s.table r w) N.rules r (All-from_recursion (λ r. (w : Way) → Fed table s.table r w) N.rules (h.fed free)) has w v

pub underway_next : (N : Net) → Sound N → (done : ℕ) (table : List Ends) → Underway N done table → Next N done (sweep (count N) N.rules (begun table))
underway_next N sound done table u = next_from N done table (sweep (count N) N.rules (begun table)) u (sweep_keeps N sound N.rules (recursion_from_All (Contains N.rules) N.rules (Contains-get_or N.rules)) (begun table) u.backed (λ bar e. grind arith))

after_decides : (N : Net) (done : ℕ) (s : Sweep) (more : Answer) → Next N done s → done ≤ count N - 1 → ((suc done < count N) × Underway N (suc done) s.table → Decided N more) → Decided N (after (suc done) s more)
after_decides N done s more h few on = grind (arith, common_steps, ints)

-- a round that is not the last covers walks of one link more, and no lineage has as many links as there are events: the fuel is never used up
rounds_decide : (N : Net) → Sound N → (left done : ℕ) (table : List Ends) → Underway N done table → done ≤ count N - 1 → count N < done + left → Decided N (rounds left (count N) N.rules done table)
rounds_decide N sound zero done table u few fuel = absurd (omega arith)
rounds_decide N sound (suc left) done table u few fuel =
    let s : Sweep = sweep (count N) N.rules (begun table) in
    after_decides N done s (rounds left (count N) N.rules (suc done) s.table) (underway_next N sound done table u) few
    (λ more. let lt = more.0 in rounds_decide N sound left (suc done) s.table more.1 (omega arith) (omega arith))

pub central_decides : (N : Net) → Sound N → Decided N (central N)
central_decides N sound = rounds_decide N sound (suc (count N)) 0 (map given_ends N.events) (underway_start N sound) (omega arith) (omega arith)
