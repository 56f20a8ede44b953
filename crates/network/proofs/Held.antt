-- Rows of held minutes: the start, one round more, and what holds once nothing is carried over any more.
use Rattle.std.proofs.Common.{◌≡◌, ℕ, suc, ◌<◌, ◌≤◌, List, [], map, sym, subst, arith}
use Rattle.std.proofs.lemmas.List.{length-map, get_or-map}
use Rattle.bounds.specs.Sides.{Side, earliest, latest, Minute, minute, carry, Within}
use Rattle.bounds.specs.Ends.{end_of}
use Rattle.bounds.specs.declared.end.Ends.{Ends}
use Rattle.bounds.specs.declared.gap.Way.TheVariants.{Back, Ahead}
use Rattle.bounds.specs.SidesLemmas.{within_refl, within_trans, carry_mono, numbers_ordered, fixed_meets}
use Rattle.network.specs.Nets.{Net, count, event, Schedule, Sound, given, leaves, enters}
use Rattle.network.specs.Rounds.{held, given_ends}
use Rattle.network.specs.Lineage.{Carried, start, onward, first, minutes, Tightened, Covered, Relaxed, Backed}
use Rattle.network.specs.Decided.{Exact}
use Rattle.network.proofs.Lineages.{lineage_sound}
use Rattle.network.proofs.Lattice.{between}

-- ---- a round

module _ (s : Side) (N : Net) where
  pub carried_on : (now later : ℕ → Minute) (y : ℕ) (m : Minute) (x : ℕ) (m' : Minute) → Relaxed s N now later → Within s m (now y) → Carried s N y m x m' → Within s m' (later x)
  carried_on now later y m x m' h k c =
      let r = c.rule in
      let g = c.rule.gap in
      let w = c.way in
      let k' : Within s m (now (leaves r w)) = subst (λ z. Within s m (now z)) (sym c.outof) k in
      rw (← c.into, ← c.value) (within_trans s (carry s g w m) (carry s g w (now (leaves r w))) (later (enters r w)) (carry_mono s g w m (now (leaves r w)) k') (h r w c.listed))

  -- one round more covers walks of one link more
  pub round : (now later : ℕ → Minute) (n : ℕ) → Covered s N now n → Tightened s now later → Relaxed s N now later → Covered s N later (suc n)
  round now later n all t h x m k le (start inside g) = within_trans s m (now x) (later x) (all x m 0 (omega arith) (start inside g)) (t x)
  round now later n all t h x m k le (onward {y = y} {m = a} {k = j} w c) = carried_on now later y a x m h (all y a j (omega arith) w) c

-- ---- the start

pub held_at_start : (N : Net) (x : ℕ) → x < count N → held (map given_ends N.events) x ≡ given_ends (event N x)
held_at_start N x i = get_or-map given_ends N.events x _ _ i

start_minutes : (s : Side) (N : Net) (x : ℕ) → x < count N → minutes s (map given_ends N.events) x ≡ given s N x
start_minutes earliest N x i = rw (held_at_start N x i)
start_minutes latest N x i = rw (held_at_start N x i)

start_links : (s : Side) (N : Net) (x : ℕ) → x < count N → (end_of s (held (map given_ends N.events) x)).links ≡ 0
start_links earliest N x i = rw (held_at_start N x i)
start_links latest N x i = rw (held_at_start N x i)

pub backed_at_start : (N : Net) → Sound N → Backed N (map given_ends N.events)
backed_at_start N sound =
    let table : List Ends = map given_ends N.events in
    record {
      sized = length-map N.events given_ends;
      traced = λ s x i.
          let w : Within s (minutes s table x) (given s N x) = rw (start_minutes s N x i) (within_refl s (given s N x)) in
          let none = start_links s N x i in
          record { past = []; lineage = first i w (within_refl s (minutes s table x)); size = sym none; few = omega arith };
      inside = λ s x i. rw (start_minutes s N x i) (within_refl s (given s N x));
      opened = λ x i. rw (held_at_start N x i) (sound.opened x i);
    }

pub covered_at_start : (s : Side) (N : Net) → Covered s N (minutes s (map given_ends N.events)) 0
covered_at_start s N x m k le (start inside g) = rw (start_minutes s N x inside) g
covered_at_start s N x m k le (onward w c) = absurd (omega arith)

-- ---- nothing is carried over any more

module _ (N : Net) (table : List Ends) (b : Backed N table) where
  between_ends : (s : Side) (x : ℕ) → x < count N → ((event N x).window.earliest ≤ (end_of s (held table x)).minute) × ((end_of s (held table x)).minute ≤ (event N x).window.latest)
  between_ends s x i =
      let e = numbers_ordered (event N x).window.earliest (held table x).earliest.minute (b.inside earliest x i) in
      let l = numbers_ordered (held table x).latest.minute (event N x).window.latest (b.inside latest x i) in
      let o = b.opened x i in
      of s e l o
    where
      of : (s : Side) → (event N x).window.earliest ≤ (held table x).earliest.minute → (held table x).latest.minute ≤ (event N x).window.latest → (held table x).earliest.minute ≤ (held table x).latest.minute → ((event N x).window.earliest ≤ (end_of s (held table x)).minute) × ((end_of s (held table x)).minute ≤ (event N x).window.latest)
      of earliest e l o = (e, omega arith)
      of latest e l o = (omega arith, l)

  settled_schedule : (s : Side) → Relaxed s N (minutes s table) (minutes s table) → Schedule N (λ x. (end_of s (held table x)).minute)
  settled_schedule s h =
      record {
        after = λ x i. (between_ends s x i).0;
        before = λ x i. (between_ends s x i).1;
        met = λ r has. fixed_meets s r.gap (minutes s table r.from) (minutes s table r.to) (h r Ahead has) (h r Back has);
      }

  held_bounds : (s : Side) (σ : ℕ → ℕ) (x : ℕ) → Schedule N σ → x < count N → Within s (minutes s table x) (minute (σ x))
  held_bounds s σ x h i = lineage_sound s N σ (minutes s table) h (b.traced s x i).lineage

  pub settled_exact : ((s : Side) → Relaxed s N (minutes s table) (minutes s table)) → Exact N table
  settled_exact h =
      let early = settled_schedule earliest (h earliest) in
      let late = settled_schedule latest (h latest) in
      record {
        early = early;
        late = late;
        usable = λ x m i. (
          λ w. between N (λ y. (held table y).earliest.minute) (λ y. (held table y).latest.minute) early late x m w.0 w.1,
          λ u. (
            subst (λ v. (held table x).earliest.minute ≤ v) u.2 (numbers_ordered (held table x).earliest.minute (u.0 x) (held_bounds earliest u.0 x u.1 i)),
            subst (λ v. v ≤ (held table x).latest.minute) u.2 (numbers_ordered (u.0 x) (held table x).latest.minute (held_bounds latest u.0 x u.1 i)),
          ),
        );
      }
