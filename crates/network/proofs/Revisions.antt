-- What one revision keeps, for any source whose ends have lineages.
use Rattle.std.proofs.Common.{◌≡◌, ℕ, suc, ◌<◌, ◌≤◌, List, ◌∷◌, length, set, nat_abs, Some, None, Option, sym, refl, ap, ◌∙◌, subst, ⊎_elim, arith}
use Rattle.std.specs.List.{Contains}
use Rattle.std.proofs.lemmas.List.{length-set, get_or-set_same, get_or-set_other, set-get_or, set-set}
use Rattle.std.proofs.lemmas.Bool.{cases_eq}
use Rattle.bounds.specs.Sides.{Side, earliest, latest, other, Minute, minute, carry, Tighter, Within}
use Rattle.bounds.specs.Ends.{lies, end_of, with_end, carried}
use Rattle.bounds.specs.Narrowed.{Narrowing}
use Rattle.bounds.specs.declared.bar.Cause.{Cause}
use Rattle.bounds.specs.declared.bar.Cause.TheVariants.{Crossed, Cycle}
use Rattle.bounds.specs.declared.end.End.{End}
use Rattle.bounds.specs.declared.end.Ends.{Ends}
use Rattle.bounds.specs.declared.gap.Way.{Way}
use Rattle.bounds.specs.SidesLemmas.{within_refl, within_trans, tighter_within, not_both, other_within, numbers_ordered}
use Rattle.network.specs.Nets.{Net, count, Sound, Hopeless, given, leaves, enters}
use Rattle.network.specs.Revised.{noted, one_side, revised}
use Rattle.network.specs.Rounds.{held}
use Rattle.network.specs.Lineage.{Carried, onward, Lineage, Traced, minutes, Tightened, Covered, Backed}
use Rattle.network.specs.declared.revise.Revision.{Revision}
use Rattle.network.specs.declared.tables.Rule.{Rule}
use Rattle.network.proofs.Lineages.{stop, enters_inside, walked, walk_sound, lineage_sound, survives, extends, no_schedule, covers}
use Rattle.network.proofs.Narrowings.{Outcome, drops, crosses, cycles, shifts, outcome}

-- ---- a table with one end replaced

abbrev shifted : Side → List Ends → ℕ → End → List Ends
shifted s T x e = set T x (with_end s (held T x) e)

picked : (P : Side → End → Type 0) (s u : Side) (es : Ends) (e : End) → P s e → P u (end_of u es) → P u (end_of u (with_end s es e))
picked P earliest earliest es e p q = p
picked P earliest latest es e p q = q
picked P latest earliest es e p q = q
picked P latest latest es e p q = p

-- each end of the table is the new one, at its place, or as it was
shift_both : (P : Side → ℕ → End → Type 0) (s : Side) (T : List Ends) (x : ℕ) (e : End) → x < length T → (u : Side) (z : ℕ) → P s x e → P u z (end_of u (held T z)) → P u z (end_of u (held (shifted s T x e) z))
shift_both P s T x e i u z p q =
    ⊎_elim
    (λ same.
    let q' : P u x (end_of u (held T x)) = subst (λ z. P u z (end_of u (held T z))) same q in
    subst (λ z. P u z (end_of u (held (shifted s T x e) z))) (sym same) (rw (get_or-set_same T x (with_end s (held T x) e) _ i) (picked (λ u e. P u x e) s u (held T x) e p q')))
    (λ ne. rw (get_or-set_other T x z (with_end s (held T x) e) _ ne) q)
    (cases_eq z x)

-- the end that is held where it was put
shift_here : (s : Side) (T : List Ends) (x : ℕ) (e : End) → x < length T → end_of s (held (shifted s T x e) x) ≡ e
shift_here s T x e i = ap (end_of s) (get_or-set_same T x (with_end s (held T x) e) _ i) ∙ of s
  where
    of : (s : Side) → end_of s (with_end s (held T x) e) ≡ e
    of earliest = refl
    of latest = refl

with_end_opened : (s : Side) (es : Ends) (e : End) → Within s (lies e) (lies (end_of (other s) es)) → (with_end s es e).earliest.minute ≤ (with_end s es e).latest.minute
with_end_opened earliest es e h = numbers_ordered e.minute es.latest.minute h
with_end_opened latest es e h = numbers_ordered es.earliest.minute e.minute h

shift_opened : (s : Side) (T : List Ends) (x : ℕ) (e : End) → x < length T → Within s (lies e) (minutes (other s) T x) → (z : ℕ) → (held T z).earliest.minute ≤ (held T z).latest.minute → (held (shifted s T x e) z).earliest.minute ≤ (held (shifted s T x e) z).latest.minute
shift_opened s T x e i h z o =
    ⊎_elim
    (λ same. subst (λ z. (held (shifted s T x e) z).earliest.minute ≤ (held (shifted s T x e) z).latest.minute) (sym same) (rw (get_or-set_same T x (with_end s (held T x) e) _ i) (with_end_opened s (held T x) e h)))
    (λ ne. rw (get_or-set_other T x z (with_end s (held T x) e) _ ne) o)
    (cases_eq z x)

-- ---- lineages of what is held, later on

pub traced_later : (s : Side) (N : Net) (now later : ℕ → Minute) (x : ℕ) (e : End) → Tightened s now later → Traced s N now x e → Traced s N later x e
traced_later s N now later x e t h = record { past = h.past; lineage = survives s N now later t h.lineage; size = h.size; few = h.few }

pub covered_later : (s : Side) (N : Net) (now later : ℕ → Minute) (k : ℕ) → Tightened s now later → Covered s N now k → Covered s N later k
covered_later s N now later k t h x m j le walk = within_trans s m (now x) (later x) (h x m j le walk) (t x)

-- ---- one end against one source

pub enters_table : (N : Net) → Sound N → (T : List Ends) → Backed N T → (r : Rule) (w : Way) → Contains N.rules r → enters r w < length T
enters_table N sound T b r w has = rw b.sized (enters_inside N r w (sound.known r has))

abbrev new_end : Side → Rule → Way → End → End
new_end s r w e = record { minute = nat_abs (carry s r.gap w (lies e)); links = suc e.links }

module _ (s : Side) (N : Net) (sound : Sound N) (T : List Ends) (b : Backed N T) (r : Rule) (w : Way) (has : Contains N.rules r) (e : End) (from : Traced s N (minutes s T) (leaves r w) e) where
  placed : enters r w < length T
  placed = enters_table N sound T b r w has

  carries : (m : Minute) → carry s r.gap w (lies e) ≡ m → Carried s N (leaves r w) (lies e) (enters r w) m
  carries m is = record { rule = r; way = w; listed = has; outof = refl; into = refl; value = is }

  -- no schedule has a minute for an event between ends that have crossed
  cross_hopeless : Tighter s (carry s r.gap w (lies e)) (minutes (other s) T (enters r w)) → Hopeless N
  cross_hopeless t σ h =
      let x = enters r w in
      let m = carry s r.gap w (lies e) in
      let o = minutes (other s) T x in
      let near = walk_sound s N σ h (onward (walked s N (minutes s T) from.lineage) (carries m refl)) in
      let far = lineage_sound (other s) N σ (minutes (other s) T) h (b.traced (other s) x (enters_inside N r w (sound.known r has))).lineage in
      not_both s m o t (within_trans s m (minute (σ x)) o near (other_within s o (minute (σ x)) far))

  -- with as many links covered as a lineage can have, what is carried is no news
  covered_still : (k : ℕ) → Covered s N (minutes s T) k → count N ≤ suc k → suc e.links < count N → Within s (carry s r.gap w (lies e)) (minutes s T (enters r w))
  covered_still k c enough few =
      let size = from.size in
      covers s N (minutes s T) k c (minutes s T) from.lineage (carries (carry s r.gap w (lies e)) refl) (omega arith)

  module _ (t : Tighter s (carry s r.gap w (lies e)) (minutes s T (enters r w))) (is : minute (nat_abs (carry s r.gap w (lies e))) ≡ carry s r.gap w (lies e)) where
    shift_tightens : (u : Side) → Tightened u (minutes u T) (minutes u (shifted s T (enters r w) (new_end s r w e)))
    shift_tightens u z = shift_both (λ u z f. Within u (minutes u T z) (lies f)) s T (enters r w) (new_end s r w e) placed u z (rw is (tighter_within s (carry s r.gap w (lies e)) (minutes s T (enters r w)) t)) (within_refl u (minutes u T z))

    -- the new end is held, and has a lineage
    shift_lineage : Lineage s N (minutes s (shifted s T (enters r w) (new_end s r w e))) (enters r w) (lies (new_end s r w e)) (stop (leaves r w) (lies e) ∷ from.past)
    shift_lineage =
        let x = enters r w in
        let f = new_end s r w e in
        let now : Within s (lies f) (minutes s (shifted s T x f) x) = rw (shift_here s T x f placed) (within_refl s (lies f)) in
        extends s N (minutes s T) (minutes s (shifted s T x f)) (shift_tightens s) now from.lineage (carries (lies f) (sym is)) (rw is t)

    shift_fed : Within s (carry s r.gap w (lies e)) (minutes s (shifted s T (enters r w) (new_end s r w e)) (enters r w))
    shift_fed = rw (shift_here s T (enters r w) (new_end s r w e) placed, is) (within_refl s (carry s r.gap w (lies e)))

    cycle_hopeless : count N ≤ suc e.links → Hopeless N
    cycle_hopeless many = let size = from.size in no_schedule s N (minutes s (shifted s T (enters r w) (new_end s r w e))) sound shift_lineage (omega arith)

    shift_backed : Within s (carry s r.gap w (lies e)) (minutes (other s) T (enters r w)) → suc e.links < count N → Backed N (shifted s T (enters r w) (new_end s r w e))
    shift_backed o few =
        let x = enters r w in
        let f = new_end s r w e in
        let T' : List Ends = shifted s T x f in
        record {
          sized = length-set T x (with_end s (held T x) f) ∙ b.sized;
          traced = λ u z i. shift_both (λ u z g. Traced u N (minutes u T') z g) s T x f placed u z (record { past = stop (leaves r w) (lies e) ∷ from.past; lineage = shift_lineage; size = ap suc from.size; few = few }) (traced_later u N (minutes u T) (minutes u T') z (end_of u (held T z)) (shift_tightens u) (b.traced u z i));
          inside = λ u z i. within_trans u (given u N z) (minutes u T z) (minutes u T' z) (b.inside u z i) (shift_tightens u z);
          opened = λ z i. shift_opened s T x f placed (rw is o) z (b.opened z i);
        }

-- ---- one side of a revision

-- the event holds what the table says; moves so far, and the bar
abbrev so_far : List Ends → ℕ → ℕ → Option Cause → Revision
so_far T x moves bar = record { ends = held T x; moves = moves; bar = bar }

-- what one side of a revision by the rule r on the way w keeps, where v becomes v'
record Narrows (s : Side) (N : Net) (T : List Ends) (r : Rule) (w : Way) (src : Ends) (v v' : Revision) : Type 0 where
  backed : Backed N (set T (enters r w) v'.ends)
  tightens : (u : Side) → Tightened u (minutes u T) (minutes u (set T (enters r w) v'.ends))
  hopeless : (cause : Cause) → v'.bar ≡ Some cause → Hopeless N
  unbarred : v'.bar ≡ None → v.bar ≡ None
  fed : v'.bar ≡ None → Within s (carry s r.gap w (lies (end_of s src))) (minutes s (set T (enters r w) v'.ends) (enters r w))
  still : v'.moves ≡ v.moves → v'.ends ≡ v.ends
  grows : v.moves ≤ v'.moves
  few : v'.moves ≤ suc v.moves
  idle : (k : ℕ) → Covered s N (minutes s T) k → count N ≤ suc k → v'.moves ≡ v.moves

module _ (s : Side) (N : Net) (sound : Sound N) (T : List Ends) (b : Backed N T) (r : Rule) (w : Way) (has : Contains N.rules r) (src : Ends) (from : Traced s N (minutes s T) (leaves r w) (end_of s src)) where
  -- where nothing is stored
  unstored : (moves : ℕ) (bar bar' : Option Cause) → ((cause : Cause) → bar' ≡ Some cause → Hopeless N) → (bar' ≡ None → bar ≡ None) → (bar' ≡ None → Within s (carry s r.gap w (lies (end_of s src))) (minutes s T (enters r w))) → Narrows s N T r w src (so_far T (enters r w) moves bar) (so_far T (enters r w) moves bar')
  unstored moves bar bar' h u f =
      let same : set T (enters r w) (held T (enters r w)) ≡ T = set-get_or T (enters r w) _ in
      record {
        backed = rw same b;
        tightens = λ u z. rw same (within_refl u (minutes u T z));
        hopeless = h;
        unbarred = u;
        fed = λ e. rw same (f e);
        still = λ e. refl;
        grows = omega arith;
        few = omega arith;
        idle = λ k c enough. refl;
      }

  by_outcome : (moves : ℕ) (n : Narrowing) → Outcome s (count N) (end_of s (held T (enters r w))) (end_of (other s) (held T (enters r w))) (carried s r.gap w (end_of s src)) n → Narrows s N T r w src (so_far T (enters r w) moves None) (noted s (so_far T (enters r w) moves None) n)
  by_outcome moves n (drops k) = unstored moves None None (λ c e. grind arith) (λ e. e) (λ e. k)
  by_outcome moves n (crosses t) = unstored moves None (Some Crossed) (λ c e. cross_hopeless s N sound T b r w has (end_of s src) from t) (λ e. grind arith) (λ e. grind arith)
  by_outcome moves n (cycles t is many) = unstored moves None (Some Cycle) (λ c e. cycle_hopeless s N sound T b r w has (end_of s src) from t is many) (λ e. grind arith) (λ e. grind arith)
  by_outcome moves n (shifts t o is few) =
      let e = end_of s src in
      record {
        backed = shift_backed s N sound T b r w has e from t is o few;
        tightens = shift_tightens s N sound T b r w has e from t is;
        hopeless = λ c q. grind arith;
        unbarred = λ q. q;
        fed = λ q. shift_fed s N sound T b r w has e from t is;
        still = λ q. absurd (omega arith);
        grows = omega arith;
        few = omega arith;
        idle = λ k c enough. absurd (not_both s (carry s r.gap w (lies e)) (minutes s T (enters r w)) t (covered_still s N sound T b r w has e from k c enough few));
      }

  side_keeps : (moves : ℕ) (bar : Option Cause) → ((cause : Cause) → bar ≡ Some cause → Hopeless N) → Narrows s N T r w src (so_far T (enters r w) moves bar) (one_side s (count N) r.gap w src (so_far T (enters r w) moves bar))
  side_keeps moves (Some c) h = unstored moves (Some c) (Some c) h (λ e. e) (λ e. grind arith)
  side_keeps moves None h = by_outcome moves _ (outcome s (count N) (end_of s (held T (enters r w))) (end_of (other s) (held T (enters r w))) (carried s r.gap w (end_of s src)))

-- ---- a revision: both sides

-- what a revision v of the event that the rule r leads to on the way w keeps, against a source that holds src
pub record Revises (N : Net) (table : List Ends) (r : Rule) (w : Way) (src : Ends) (v : Revision) : Type 0 where
  pub backed : Backed N (set table (enters r w) v.ends)
  pub tightens : (s : Side) → Tightened s (minutes s table) (minutes s (set table (enters r w) v.ends))
  pub hopeless : (cause : Cause) → v.bar ≡ Some cause → Hopeless N
  pub fed : v.bar ≡ None → (s : Side) → Within s (carry s r.gap w (lies (end_of s src))) (minutes s (set table (enters r w) v.ends) (enters r w))
  pub still : v.moves ≡ 0 → v.ends ≡ held table (enters r w)
  pub few_moves : v.moves ≤ 2
  -- once walks of as many links as a lineage can have are covered, nothing moves
  pub idle : (k : ℕ) → ((s : Side) → Covered s N (minutes s table) k) → count N ≤ suc k → v.moves ≡ 0

both_sides : (N : Net) (T : List Ends) (r : Rule) (w : Way) (src : Ends) (v v' : Revision) → Narrows earliest N T r w src (so_far T (enters r w) 0 None) v → Narrows latest N (set T (enters r w) v.ends) r w src v v' → Revises N T r w src v'
both_sides N T r w src v v' a b =
    let x = enters r w in
    let mid : List Ends = set T x v.ends in
    let over : set mid x v'.ends ≡ set T x v'.ends = set-set T x v.ends v'.ends in
    let later : (s : Side) → Tightened s (minutes s mid) (minutes s (set T x v'.ends)) = λ s. subst (λ t. Tightened s (minutes s mid) (minutes s t)) over (b.tightens s) in
    let up = b.grows in
    record {
      backed = subst (λ t. Backed N t) over b.backed;
      tightens = λ s z. within_trans s (minutes s T z) (minutes s mid z) (minutes s (set T x v'.ends) z) (a.tightens s z) (later s z);
      hopeless = b.hopeless;
      fed = λ free s. of s (within_trans earliest (carry earliest r.gap w (lies src.earliest)) (minutes earliest mid x) (minutes earliest (set T x v'.ends) x) (a.fed (b.unbarred free)) (later earliest x)) (subst (λ t. Within latest (carry latest r.gap w (lies src.latest)) (minutes latest t x)) over (b.fed free));
      still = λ none. b.still (omega arith) ∙ a.still (omega arith);
      few_moves = omega (arith, a.few, b.few);
      idle = λ k c enough. b.idle k (covered_later latest N (minutes latest T) (minutes latest mid) k (a.tightens latest) (c latest)) enough ∙ a.idle k (c earliest) enough;
    }
  where
    of : (s : Side) → Within earliest (carry earliest r.gap w (lies src.earliest)) (minutes earliest (set T (enters r w) v'.ends) (enters r w)) → Within latest (carry latest r.gap w (lies src.latest)) (minutes latest (set T (enters r w) v'.ends) (enters r w)) → Within s (carry s r.gap w (lies (end_of s src))) (minutes s (set T (enters r w) v'.ends) (enters r w))
    of earliest e l = e
    of latest e l = l

pub revised_keeps : (N : Net) → Sound N → (table : List Ends) → Backed N table → (r : Rule) (w : Way) → Contains N.rules r → (src : Ends) → ((s : Side) → Traced s N (minutes s table) (leaves r w) (end_of s src)) → Revises N table r w src (revised (count N) r.gap w (held table (enters r w)) src)
revised_keeps N sound T b r w has src from =
    let x = enters r w in
    let v : Revision = one_side earliest (count N) r.gap w src (so_far T x 0 None) in
    let a : Narrows earliest N T r w src (so_far T x 0 None) v = side_keeps earliest N sound T b r w has src (from earliest) 0 None (λ c e. grind arith) in
    let mid : List Ends = set T x v.ends in
    let here : held mid x ≡ v.ends = get_or-set_same T x v.ends _ (enters_table N sound T b r w has) in
    let l = side_keeps latest N sound mid a.backed r w has src (traced_later latest N (minutes latest T) (minutes latest mid) (leaves r w) src.latest (a.tightens latest) (from latest)) v.moves v.bar a.hopeless in
    both_sides N T r w src v (one_side latest (count N) r.gap w src v) a
    (subst (λ es. Narrows latest N mid r w src (record { ends = es; moves = v.moves; bar = v.bar }) (one_side latest (count N) r.gap w src (record { ends = es; moves = v.moves; bar = v.bar }))) here l)
