-- Walks and lineages: no schedule passes them, a strictly tighter end extends one, and with a schedule none comes to an event twice.
use Rattle.std.proofs.Common.{◌≡◌, ℕ, suc, ◌<◌, ◌≤◌, true, false, eqb, List, [], ◌∷◌, map, length, pos, ◌≤ℤ◌, sym, subst, arith}
use Rattle.std.specs.List.{AllByRecursion, IsDistinct, list_any}
use Rattle.std.proofs.lemmas.Int.{ints}
use Rattle.std.proofs.lemmas.List.{length-map}
use Rattle.std.proofs.lemmas.Bool.{ne_eqb}
use Rattle.std.proofs.lemmas.Grind.{common_steps}
use Rattle.std.proofs.lemmas.Map.Keys.{IsDistinct-cons, IsDistinct-from_apart}
use Rattle.std.proofs.lemmas.Map.Steps.{length-le_from_distinct_below}
use Rattle.std.proofs.lemmas.List.Elements.{All-weaker, All-from_recursion, recursion_from_All}
use Rattle.bounds.specs.Sides.{Side, earliest, latest, Minute, minute, carry, Tighter, Within, slack, source, target}
use Rattle.bounds.specs.declared.gap.Way.{Way}
use Rattle.bounds.specs.declared.gap.Way.TheVariants.{Back, Ahead}
use Rattle.bounds.specs.SidesLemmas.{within_trans, tighter_over, slack_within, within_slack, slack_tighter, slack_carry, minutes_ordered}
use Rattle.network.specs.Nets.{Net, count, Schedule, Hopeless, Sound, given, leaves, enters}
use Rattle.network.specs.Lineage.{Stop, Carried, Walk, start, onward, Lineage, first, next, Tightened, Covered}
use Rattle.network.specs.declared.tables.Rule.{Rule}

pub all_weaker : {X : Type 0} (P Q : X → Type 0) → ((x : X) → P x → Q x) → (xs : List X) → AllByRecursion P xs → AllByRecursion Q xs
all_weaker P Q f xs h = recursion_from_All Q xs (All-weaker P Q f xs (All-from_recursion P xs h))

abbrev pub stop : ℕ → Minute → Stop
stop x m = record { event = x; lies = m }

pub leaves_inside : (N : Net) → (r : Rule) (w : Way) → (r.from < count N) × (r.to < count N) → leaves r w < count N
leaves_inside N r Back h = h.1
leaves_inside N r Ahead h = h.0

pub enters_inside : (N : Net) → (r : Rule) (w : Way) → (r.from < count N) × (r.to < count N) → enters r w < count N
enters_inside N r Back h = h.0
enters_inside N r Ahead h = h.1

pub given_within : (s : Side) (N : Net) (σ : ℕ → ℕ) (x : ℕ) → Schedule N σ → x < count N → Within s (given s N x) (minute (σ x))
given_within earliest N σ x h k = minutes_ordered _ _ (h.after x k)
given_within latest N σ x h k = minutes_ordered _ _ (h.before x k)

module _ (s : Side) (N : Net) where
  pub carried_slack : (σ : ℕ → ℕ) (y : ℕ) (m : Minute) (x : ℕ) (m' : Minute) → Schedule N σ → Carried s N y m x m' → slack s (minute (σ y)) m ≤ℤ slack s (minute (σ x)) m'
  carried_slack σ y m x m' h c = rw (← c.outof, ← c.into, ← c.value) (along c.rule c.way (slack_carry s c.rule.gap c.way (minute (σ c.rule.from)) (minute (σ c.rule.to)) m (h.met c.rule c.listed)))
    where
      along : (r : Rule) (w : Way) → slack s (source w (minute (σ r.from)) (minute (σ r.to))) m ≤ℤ slack s (target w (minute (σ r.from)) (minute (σ r.to))) (carry s r.gap w m) → slack s (minute (σ (leaves r w))) m ≤ℤ slack s (minute (σ (enters r w))) (carry s r.gap w m)
      along r Back h = h
      along r Ahead h = h

  -- ---- soundness: every schedule keeps within a walk's minute

  pub walk_slack : (σ : ℕ → ℕ) {x : ℕ} {m : Minute} {k : ℕ} → Schedule N σ → Walk s N x m k → pos 0 ≤ℤ slack s (minute (σ x)) m
  walk_slack σ {x} {m} h (start inside g) = within_slack s (minute (σ x)) m (within_trans s m (given s N x) (minute (σ x)) g (given_within s N σ x h inside))
  walk_slack σ {x} {m} h (onward {y = y} {m = a} w c) =
      let p = walk_slack σ h w in
      let q = carried_slack σ y a x m h c in
      omega (arith, ints)

  pub walk_sound : (σ : ℕ → ℕ) {x : ℕ} {m : Minute} {k : ℕ} → Schedule N σ → Walk s N x m k → Within s m (minute (σ x))
  walk_sound σ {x} {m} h w = slack_within s (minute (σ x)) m (walk_slack σ h w)

  pub walked : (now : ℕ → Minute) {x : ℕ} {m : Minute} {past : List Stop} → Lineage s N now x m past → Walk s N x m (length past)
  walked now (first inside g h) = start inside g
  walked now (next l c h a) = onward (walked now l) c

  pub lineage_sound : (σ : ℕ → ℕ) (now : ℕ → Minute) {x : ℕ} {m : Minute} {past : List Stop} → Schedule N σ → Lineage s N now x m past → Within s m (minute (σ x))
  lineage_sound σ now h l = walk_sound σ h (walked now l)

  -- ---- extension

  pub survives : (now later : ℕ → Minute) {x : ℕ} {m : Minute} {past : List Stop} → Tightened s now later → Lineage s N now x m past → Lineage s N later x m past
  survives now later {x} {m} t (first inside g h) = first inside g (within_trans s m (now x) (later x) h (t x))
  survives now later {x} {m} t (next l c h a) = next (survives now later t l) c (within_trans s m (now x) (later x) h (t x)) a

  pub under_held : (now : ℕ → Minute) {x : ℕ} {m : Minute} {past : List Stop} → Lineage s N now x m past → AllByRecursion (λ e. Within s e.lies (now e.event)) (stop x m ∷ past)
  under_held now (first inside g h) = (h, tt)
  under_held now (next l c h a) = (h, under_held now l)

  -- a carried minute that is strictly tighter than what its event held goes on from the lineage of its source
  pub extends : (now later : ℕ → Minute) {y : ℕ} {m : Minute} {past : List Stop} {x : ℕ} {m' : Minute} → Tightened s now later → Within s m' (later x) → Lineage s N now y m past → Carried s N y m x m' → Tighter s m' (now x) → Lineage s N later x m' (stop y m ∷ past)
  extends now later {y} {m} {past} {x} {m'} t u l c h =
      next (survives now later t l) c u
      (all_weaker (λ e. Within s e.lies (now e.event)) (λ e. e.event ≡ x → Tighter s m' e.lies) (λ e k same. tighter_over s m' (now x) e.lies h (subst (λ z. Within s e.lies (now z)) same k)) (stop y m ∷ past) (under_held now l))

  -- ---- links

  -- along a lineage the slack never falls
  pub spread : (σ : ℕ → ℕ) (now : ℕ → Minute) {x : ℕ} {m : Minute} {past : List Stop} → Schedule N σ → Lineage s N now x m past → AllByRecursion (λ e. slack s (minute (σ e.event)) e.lies ≤ℤ slack s (minute (σ x)) m) past
  spread σ now h (first inside g k) = tt
  spread σ now {x} {m} h (next {y = y} {m = a} {past = past} l c k f) =
      let q = carried_slack σ y a x m h c in
      (q, all_weaker (λ e. slack s (minute (σ e.event)) e.lies ≤ℤ slack s (minute (σ y)) a) (λ e. slack s (minute (σ e.event)) e.lies ≤ℤ slack s (minute (σ x)) m) (λ e p. omega (arith, ints)) past (spread σ now h l))

  -- so, with a schedule, no event comes again
  never_again : (σ : ℕ → ℕ) (x : ℕ) (m : Minute) (past : List Stop) → AllByRecursion (λ e. slack s (minute (σ e.event)) e.lies ≤ℤ slack s (minute (σ x)) m) past → AllByRecursion (λ e. e.event ≡ x → Tighter s m e.lies) past → AllByRecursion (λ y. eqb x y ≡ false) (map (λ e. e.event) past)
  never_again σ x m [] p q = tt
  never_again σ x m (e ∷ es) p q = (
    ne_eqb x e.event (λ same.
        let t = slack_tighter s (minute (σ x)) m e.lies (q.0 (sym same)) in
        let u : slack s (minute (σ x)) e.lies ≤ℤ slack s (minute (σ x)) m = subst (λ z. slack s (minute (σ z)) e.lies ≤ℤ slack s (minute (σ x)) m) (sym same) p.0 in
        omega (arith, ints)),
    never_again σ x m es p.1 q.1,
  )

  pub events_apart : (σ : ℕ → ℕ) (now : ℕ → Minute) {x : ℕ} {m : Minute} {past : List Stop} → Schedule N σ → Lineage s N now x m past → IsDistinct eqb (map (λ e. e.event) (stop x m ∷ past))
  events_apart σ now {x} h (first inside g k) = IsDistinct-from_apart eqb (x ∷ []) (λ i j d lt in'. absurd (omega arith))
  events_apart σ now {x} {m} h (next {y = y} {m = a} {past = past} l c k f) =
      IsDistinct-cons eqb x (map (λ e. e.event) (stop y a ∷ past)) (never_again σ x m (stop y a ∷ past) (spread σ now h (next l c k f)) f) (events_apart σ now h l)

  carried_inside : (y : ℕ) (m : Minute) (x : ℕ) (m' : Minute) → Sound N → Carried s N y m x m' → x < count N
  carried_inside y m x m' j c = rw (← c.into) (enters_inside N c.rule c.way (j.known c.rule c.listed))

  pub events_inside : (now : ℕ → Minute) {x : ℕ} {m : Minute} {past : List Stop} → Sound N → Lineage s N now x m past → (q : ℕ) → list_any (eqb q) (map (λ e. e.event) (stop x m ∷ past)) ≡ true → q < count N
  events_inside now {x} j (first inside g k) q has = grind (arith, common_steps)
  events_inside now {x} {m} j (next {y = y} {m = a} l c k f) q has = let here = carried_inside y a x m j c in let before = events_inside now j l q in grind (arith, common_steps)

  pub few_links : (σ : ℕ → ℕ) (now : ℕ → Minute) {x : ℕ} {m : Minute} {past : List Stop} → Sound N → Schedule N σ → Lineage s N now x m past → length past < count N
  few_links σ now {x} {m} {past} j h l =
      let es : List Stop = stop x m ∷ past in
      let p = length-le_from_distinct_below (map (λ e. e.event) es) (count N) (events_apart σ now h l) (events_inside now j l) in
      let q = length-map past (λ e. e.event) in
      omega arith

  pub no_schedule : (now : ℕ → Minute) {x : ℕ} {m : Minute} {past : List Stop} → Sound N → Lineage s N now x m past → count N ≤ length past → Hopeless N
  no_schedule now j l many σ h = let p = few_links σ now j h l in omega arith

  -- ---- coverage

  pub covers : (now : ℕ → Minute) (n : ℕ) → Covered s N now n → (then : ℕ → Minute) {y : ℕ} {m : Minute} {past : List Stop} {x : ℕ} {m' : Minute} → Lineage s N then y m past → Carried s N y m x m' → suc (length past) ≤ n → Within s m' (now x)
  covers now n all then {past} {x} {m'} l c few = all x m' (suc (length past)) few (onward (walked then l) c)
