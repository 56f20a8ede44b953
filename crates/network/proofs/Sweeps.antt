-- What a step and a round of the central rounds keep.
use Rattle.std.proofs.Common.{◌≡◌, ℕ, suc, ◌+◌, ◌*◌, ◌≤◌, List, [], ◌∷◌, length, Some, None, Option, refl, ◌∙◌, arith}
use Rattle.std.specs.Option.{option_map}
use Rattle.std.specs.List.{Contains, AllByRecursion}
use Rattle.std.proofs.lemmas.List.{set-get_or}
use Rattle.bounds.specs.Sides.{Side, carry, Within}
use Rattle.bounds.specs.declared.bar.Bar.{Bar}
use Rattle.bounds.specs.declared.bar.Cause.{Cause}
use Rattle.bounds.specs.declared.end.Ends.{Ends}
use Rattle.bounds.specs.declared.gap.Way.{Way}
use Rattle.bounds.specs.declared.gap.Way.TheVariants.{Back, Ahead}
use Rattle.bounds.specs.SidesLemmas.{within_refl, within_trans, carry_mono}
use Rattle.network.specs.Nets.{Net, count, Sound, Hopeless, leaves, enters}
use Rattle.network.specs.Revised.{revised}
use Rattle.network.specs.Rounds.{held, Sweep, noted_at, step, sweep}
use Rattle.network.specs.Lineage.{minutes, Tightened, Covered, Backed}
use Rattle.network.specs.declared.revise.Revision.{Revision}
use Rattle.network.specs.declared.tables.Rule.{Rule}
use Rattle.network.proofs.Lineages.{all_weaker, leaves_inside}
use Rattle.network.proofs.Revisions.{covered_later, Revises, revised_keeps}

-- ---- what every part of a round keeps

pub record Keeps (N : Net) (s s' : Sweep) : Type 0 where
  pub backed : Backed N s'.table
  pub tightens : (u : Side) → Tightened u (minutes u s.table) (minutes u s'.table)
  pub hopeless : (bar : Bar) → s'.bar ≡ Some bar → Hopeless N
  pub unbarred : s'.bar ≡ None → s.bar ≡ None
  pub grows : s.moves ≤ s'.moves
  pub still : s'.moves ≡ s.moves → s'.table ≡ s.table
  pub idle : (k : ℕ) → ((u : Side) → Covered u N (minutes u s.table) k) → count N ≤ suc k → s'.moves ≡ s.moves

keeps_all : (N : Net) (s : Sweep) → Backed N s.table → ((bar : Bar) → s.bar ≡ Some bar → Hopeless N) → Keeps N s s
keeps_all N s b h = record { backed = b; tightens = λ u z. within_refl u (minutes u s.table z); hopeless = h; unbarred = λ e. e; grows = omega arith; still = λ e. refl; idle = λ k c enough. refl }

keeps_then : (N : Net) (s t v : Sweep) → Keeps N s t → Keeps N t v → Keeps N s v
keeps_then N s t v a b =
    let p = a.grows in
    let q = b.grows in
    record {
      backed = b.backed;
      tightens = λ u z. within_trans u (minutes u s.table z) (minutes u t.table z) (minutes u v.table z) (a.tightens u z) (b.tightens u z);
      hopeless = b.hopeless;
      unbarred = λ e. a.unbarred (b.unbarred e);
      grows = omega arith;
      still = λ e. b.still (omega arith) ∙ a.still (omega arith);
      idle = λ k c enough. b.idle k (λ u. covered_later u N (minutes u s.table) (minutes u t.table) k (a.tightens u) (c u)) enough ∙ a.idle k c enough;
    }

-- the second table has taken over what the rule carries from the first on the way
abbrev pub Fed : List Ends → List Ends → Rule → Way → Type 0
Fed now later r w = (u : Side) → Within u (carry u r.gap w (minutes u now (leaves r w))) (minutes u later (enters r w))

fed_wider : (was now later last : List Ends) (r : Rule) (w : Way) → ((u : Side) → Tightened u (minutes u was) (minutes u now)) → ((u : Side) → Tightened u (minutes u later) (minutes u last)) → Fed now later r w → Fed was last r w
fed_wider was now later last r w before behind h u =
    let x = leaves r w in
    let z = enters r w in
    let out = carry u r.gap w (minutes u now x) in
    within_trans u (carry u r.gap w (minutes u was x)) out (minutes u last z)
    (carry_mono u r.gap w (minutes u was x) (minutes u now x) (before u x))
    (within_trans u out (minutes u later z) (minutes u last z) (h u) (behind u z))

-- ---- a step

pub record Steps (N : Net) (r : Rule) (w : Way) (s s' : Sweep) : Type 0 where
  pub keeps : Keeps N s s'
  pub fed : s'.bar ≡ None → Fed s.table s'.table r w
  pub few_moves : s'.moves ≤ s.moves + 2

was_some : {A B : Type 0} (f : A → B) (o : Option A) (y : B) → option_map f o ≡ Some y → (x : A) × (o ≡ Some x)
was_some f (Some x) y e = (x, refl)
was_some f None y e = grind arith

was_none : {A B : Type 0} (f : A → B) (o : Option A) → option_map f o ≡ None → o ≡ None
was_none f (Some x) e = grind arith
was_none f None e = refl

noted_keeps : (N : Net) (r : Rule) (w : Way) (table : List Ends) (moves : ℕ) (v : Revision) → Revises N table r w (held table (leaves r w)) v → Steps N r w (record { table = table; moves = moves; bar = None }) (noted_at (enters r w) (record { table = table; moves = moves; bar = None }) v)
noted_keeps N r w table moves v h =
    let at : Cause → Bar = λ cause. record { cause = cause; event = enters r w } in
    let few = h.few_moves in
    record {
      keeps = record {
        backed = h.backed;
        tightens = h.tightens;
        hopeless = λ bar e. let c = was_some at v.bar bar e in h.hopeless c.0 c.1;
        unbarred = λ e. refl;
        grows = omega arith;
        still = λ e. rw (h.still (omega arith)) (set-get_or table (enters r w) _);
        idle = λ k c enough. let none = h.idle k c enough in omega arith;
      };
      fed = λ e. h.fed (was_none at v.bar e);
      few_moves = omega arith;
    }

pub step_keeps : (N : Net) → Sound N → (r : Rule) (w : Way) → Contains N.rules r → (s : Sweep) → Backed N s.table → ((bar : Bar) → s.bar ≡ Some bar → Hopeless N) → Steps N r w s (step (count N) r w s)
step_keeps N sound r w has s b h = from s.table s.moves s.bar b h
  where
    from : (table : List Ends) (moves : ℕ) (bar : Option Bar) → Backed N table → ((c : Bar) → bar ≡ Some c → Hopeless N) → Steps N r w (record { table = table; moves = moves; bar = bar }) (step (count N) r w (record { table = table; moves = moves; bar = bar }))
    from table moves (Some c) b h = record { keeps = keeps_all N (record { table = table; moves = moves; bar = Some c }) b h; fed = λ e. grind arith; few_moves = omega arith }
    from table moves None b h = noted_keeps N r w table moves (revised (count N) r.gap w (held table (enters r w)) (held table (leaves r w))) (revised_keeps N sound table b r w has (held table (leaves r w)) (λ u. b.traced u (leaves r w) (leaves_inside N r w (sound.known r has))))

-- ---- a round

pub record Sweeps (N : Net) (rs : List Rule) (s s' : Sweep) : Type 0 where
  pub keeps : Keeps N s s'
  pub fed : s'.bar ≡ None → AllByRecursion (λ r. (w : Way) → Fed s.table s'.table r w) rs
  pub few_moves : s'.moves ≤ s.moves + 4 * length rs

-- a rule both ways, then the others
sweeps_then : (N : Net) (r : Rule) (rs : List Rule) (s t v z : Sweep) → Steps N r Back s t → Steps N r Ahead t v → Sweeps N rs v z → Sweeps N (r ∷ rs) s z
sweeps_then N r rs s t v z a b c =
    let after_b : Keeps N t z = keeps_then N t v z b.keeps c.keeps in
    let before_c : Keeps N s v = keeps_then N s t v a.keeps b.keeps in
    let p = a.few_moves in
    let q = b.few_moves in
    let k = c.few_moves in
    record {
      keeps = keeps_then N s t z a.keeps after_b;
      fed = λ e. (
        ways (fed_wider s.table s.table t.table z.table r Back (λ u x. within_refl u (minutes u s.table x)) after_b.tightens (a.fed (after_b.unbarred e)))
            (fed_wider s.table t.table v.table z.table r Ahead a.keeps.tightens c.keeps.tightens (b.fed (c.keeps.unbarred e))),
        all_weaker (λ r. (w : Way) → Fed v.table z.table r w) (λ r. (w : Way) → Fed s.table z.table r w) (λ r f w. fed_wider s.table v.table z.table z.table r w before_c.tightens (λ u x. within_refl u (minutes u z.table x)) (f w)) rs (c.fed e),
      );
      few_moves = omega arith;
    }
  where
    ways : Fed s.table z.table r Back → Fed s.table z.table r Ahead → (w : Way) → Fed s.table z.table r w
    ways back ahead Back = back
    ways back ahead Ahead = ahead

pub sweep_keeps : (N : Net) → Sound N → (rs : List Rule) → AllByRecursion (Contains N.rules) rs → (s : Sweep) → Backed N s.table → ((bar : Bar) → s.bar ≡ Some bar → Hopeless N) → Sweeps N rs s (sweep (count N) rs s)
sweep_keeps N sound [] all s b h = record { keeps = keeps_all N s b h; fed = λ e. tt; few_moves = omega arith }
sweep_keeps N sound (r ∷ rs) all s b h =
    let one : Sweep = step (count N) r Back s in
    let two : Sweep = step (count N) r Ahead one in
    let p = step_keeps N sound r Back all.0 s b h in
    let q = step_keeps N sound r Ahead all.0 one p.keeps.backed p.keeps.hopeless in
    sweeps_then N r rs s one two (sweep (count N) rs two) p q (sweep_keeps N sound rs all.1 two q.keeps.backed q.keeps.hopeless)
