-- The central rounds while they run: what is left of them still comes to the answer.
use Rattle.std.proofs.Common.{◌≡◌, ℕ, suc, ◌+◌, ◌-◌, ◌<◌, ◌≤◌, eqb, List, map, Some, None, Option, sym, refl, ap, ◌∙◌, subst, arith}
use Rattle.std.proofs.lemmas.Bool.{ne_eqb, cond-false}
use Rattle.std.proofs.lemmas.Grind.{common_steps}
use Rattle.std.proofs.lemmas.Int.{ints}
use Rattle.bounds.specs.declared.bar.Bar.{Bar}
use Rattle.bounds.specs.declared.end.Ends.{Ends}
use Rattle.network.specs.Nets.{Net, count, Sound}
use Rattle.network.specs.Rounds.{Sweep, sweep, begun, Answer, after, rounds, given_ends, central}
use Rattle.network.specs.declared.tables.Rule.{Rule}
use Rattle.network.proofs.Central.{Underway, underway_start, underway_next}

-- the round with this number is to be run
pub record Going (N : Net) (number : ℕ) (table : List Ends) : Type 0 where
  pub first : 1 ≤ number
  pub last : number ≤ suc (count N)
  pub underway : Underway N (number - 1) table
  pub comes_to : rounds (suc (suc (count N)) - number) (count N) N.rules (number - 1) table ≡ central N

pub going_start : (N : Net) → Sound N → Going N 1 (map given_ends N.events)
going_start N sound =
    let all : suc (suc (count N)) - 1 ≡ suc (count N) = omega arith in
    record {
      first = omega arith;
      last = omega arith;
      underway = underway_start N sound;
      comes_to = ap (λ left. rounds left (count N) N.rules 0 (map given_ends N.events)) all;
    }

module _ (N : Net) (sound : Sound N) (number : ℕ) (table : List Ends) (g : Going N number table) where
  -- the round is run, and others may follow
  run_one : (s : Sweep) → sweep (count N) N.rules (begun table) ≡ s → after number s (rounds (suc (count N) - number) (count N) N.rules number s.table) ≡ central N
  run_one s e =
      let a = g.first in
      let b = g.last in
      let one_more : suc (suc (count N)) - number ≡ suc (suc (count N) - number) = omega (arith, b) in
      let done : suc (number - 1) ≡ number = omega (arith, a) in
      let more : List Ends → ℕ → Answer = λ t k. rounds (suc (count N) - number) (count N) N.rules k t in
      sym (ap (λ k. after k s (more s.table k)) done)
      ∙ sym (ap (λ v. after (suc (number - 1)) v (more v.table (suc (number - 1)))) e)
      ∙ sym (ap (λ left. rounds left (count N) N.rules (number - 1) table) one_more)
      ∙ g.comes_to

  barred_after : (bar : Option Bar) (t : List Ends) (m : ℕ) (b : Bar) (more : Answer) → bar ≡ Some b → (after number (record { table = t; moves = m; bar = bar }) more).bar ≡ Some b
  barred_after (Some b') t m b more h = h
  barred_after None t m b more h = absurd (let z : ◌≡◌ {A = ℕ} 0 1 = cc in omega arith)

  pub going_barred : (b : Bar) → (sweep (count N) N.rules (begun table)).bar ≡ Some b → (central N).bar ≡ Some b
  going_barred b h =
      let s : Sweep = sweep (count N) N.rules (begun table) in
      ap (λ a. a.bar) (sym (run_one s refl)) ∙ barred_after s.bar s.table s.moves b _ h

  -- (nothing rests on this one any more; it stands as it was named)
  pub going_done : (t : List Ends) (moves : ℕ) → sweep (count N) N.rules (begun table) ≡ record { table = t; moves = moves; bar = None } → moves ≡ 0 → central N ≡ record { rounds = number; table = t; bar = None }
  going_done t moves e none =
      sym (run_one (record { table = t; moves = 0; bar = None }) (e ∙ ap (λ m. record { table = t; moves = m; bar = None }) none))

  pub going_on : (t : List Ends) (moves : ℕ) → sweep (count N) N.rules (begun table) ≡ record { table = t; moves = moves; bar = None } → (moves ≡ 0 → ⊥) → (number < count N) × Going N (number + 1) t
  going_on t moves e some =
      let s : Sweep = record { table = t; moves = moves; bar = None } in
      let a = g.first in
      let next = subst (λ v. v.bar ≡ None → (v.moves ≡ 0 → ⊥) → (suc (number - 1) < count N) × Underway N (suc (number - 1)) v.table) e (underway_next N sound (number - 1) table g.underway).goes_on refl some in
      let lt = next.0 in
      let done : suc (number - 1) ≡ number + 1 - 1 = omega (arith, a) in
      let fuel : suc (suc (count N)) - (number + 1) ≡ suc (count N) - number = omega arith in
      let same : number + 1 - 1 ≡ number = omega arith in (
        omega (arith, lt, a),
        record {
          first = omega arith;
          last = omega (arith, lt, a);
          underway = subst (λ k. Underway N k t) done next.1;
          comes_to =
              ap (λ left. rounds left (count N) N.rules (number + 1 - 1) t) fuel
              ∙ ap (λ k. rounds (suc (count N) - number) (count N) N.rules k t) same
              ∙ sym (cond-false (eqb moves 0) _ _ (ne_eqb moves 0 some))
              ∙ run_one s e;
        },
      )

-- the round that the code ran
pub sweep_read : (N : Net) (n : ℕ) (rs : List Rule) (t : List Ends) → n ≡ count N → rs ≡ N.rules → sweep n rs (begun t) ≡ sweep (count N) N.rules (begun t)
sweep_read N n rs t a b = grind (arith, common_steps, ints)
