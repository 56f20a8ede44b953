-- When a list of minutes passes the check.
use Rattle.std.proofs.Common.{◌≡◌, ℕ, ◌+◌, ◌<◌, ◌≤◌, true, false, not, leb, ◌↔◌, List, length, get_or, ℤ, pos, ◌≤ℤ◌, Some, None, Option, sym, refl, ap, ◌∙◌, subst, ⊎_elim, zero-add, arith}
use Rattle.std.specs.Prelude.{int_le}
use Rattle.std.specs.List.{position, zip}
use Rattle.std.proofs.lemmas.Slice.Zip.{length-zip, get_or-zip}
use Rattle.std.proofs.lemmas.List.{get_or_default}
use Rattle.std.proofs.lemmas.Int.{ints}
use Rattle.std.proofs.lemmas.List.Elements.{Contains-get_or}
use Rattle.std.proofs.lemmas.Bool.{false≢true, and_parts, and_from, leb-true, le-leb, cond-true, cond-false, cases_Bool}
use Rattle.std.proofs.lemmas.Grind.{common_steps}
use Rattle.bounds.specs.Sides.{Meets, minute}
use Rattle.bounds.specs.declared.fault.PlanFault.{PlanFault}
use Rattle.bounds.specs.declared.fault.PlanFault.TheVariants.{TooFewPlaces, OutsideWindow}
use Rattle.network.specs.Nets.{Net, count, no_event, event, Schedule}
use Rattle.network.specs.Checks.{first_failing, has_minute, in_window, kept, rule_refusal, event_refusal, check_refusal}
use Rattle.network.specs.declared.tables.Event.{Event}
use Rattle.network.specs.declared.tables.Rule.{Rule}
use Rattle.network.proofs.Firsts.{first_position, none_fails, all_pass}

-- what stands where no rule has the number
abbrev no_rule : Rule
no_rule = record { from = 0; to = 0; gap = record { least = pos 0; most = pos 0 } }

int_le_true : (a b : ℤ) → int_le a b ≡ true → a ≤ℤ b
int_le_true a b h = grind (arith, ints)

true_int_le : (a b : ℤ) → a ≤ℤ b → int_le a b ≡ true
true_int_le a b h = grind (arith, ints)

-- the test of a rule says what the rule says
pub kept_meets : (minutes : List ℕ) (k : ℕ) (r : Rule) → kept minutes k r ≡ true → Meets r.gap (minute (get_or minutes r.from 0)) (minute (get_or minutes r.to 0))
kept_meets minutes k r h = let p = and_parts _ _ h in (int_le_true _ _ p.0, int_le_true _ _ p.1)

pub meets_kept : (minutes : List ℕ) (k : ℕ) (r : Rule) → Meets r.gap (minute (get_or minutes r.from 0)) (minute (get_or minutes r.to 0)) → kept minutes k r ≡ true
meets_kept minutes k r h = and_from _ _ (true_int_le _ _ h.0) (true_int_le _ _ h.1)

module _ (N : Net) (minutes : List ℕ) where
  pub schedule_passes : Schedule N (λ x. get_or minutes x 0) → (first_failing (in_window minutes) 0 N.events ≡ None) × (first_failing (kept minutes) 0 N.rules ≡ None)
  schedule_passes s = (
    all_pass (in_window minutes) 0 N.events (λ k d lt.
        subst (λ x. in_window minutes x (get_or N.events k d) ≡ true) (sym (zero-add k))
        (subst (λ e. in_window minutes k e ≡ true) (get_or_default N.events k _ d lt)
        (and_from _ _ (le-leb _ _ (s.after k lt)) (le-leb _ _ (s.before k lt))))),
    all_pass (kept minutes) 0 N.rules (λ k d lt. meets_kept minutes (0 + k) (get_or N.rules k d) (s.met (get_or N.rules k d) (Contains-get_or N.rules k d lt))),
  )

  pub passes_schedule : first_failing (in_window minutes) 0 N.events ≡ None → first_failing (kept minutes) 0 N.rules ≡ None → Schedule N (λ x. get_or minutes x 0)
  passes_schedule e r =
      record {
        after = λ x lt. leb-true _ _ (inside x lt).0;
        before = λ x lt. leb-true _ _ (inside x lt).1;
        met = λ q has. subst (λ q. Meets q.gap (minute (get_or minutes q.from 0)) (minute (get_or minutes q.to 0))) has.2 (kept_meets minutes (0 + has.0) (get_or N.rules has.0 q) (none_fails (kept minutes) 0 N.rules r has.0 q has.1));
      }
    where
      inside : (x : ℕ) → x < count N → (leb (event N x).window.earliest (get_or minutes x 0) ≡ true) × (leb (get_or minutes x 0) (event N x).window.latest ≡ true)
      inside x lt = and_parts _ _ (subst (λ k. in_window minutes k (event N x) ≡ true) (zero-add x) (none_fails (in_window minutes) 0 N.events e x _ lt))

  -- ---- the refusal, as the code finds it

  -- the first event outside its window, and the first rule that does not hold
  pub first_outside : count N ≤ length minutes → position (λ p. not (has_minute p.0.window p.1)) (zip N.events minutes) ≡ first_failing (in_window minutes) 0 N.events
  first_outside le =
      let n = length-zip N.events minutes in
      first_position (in_window minutes) (λ p. not (has_minute p.0.window p.1)) N.events (zip N.events minutes) no_event (no_event, 0) (omega (arith, n))
      (λ k lt. ap (λ p. not (has_minute p.0.window p.1)) (get_or-zip N.events minutes k (no_event, 0) lt (omega arith)))

  pub first_broken : position (λ r. not (kept minutes 0 r)) N.rules ≡ first_failing (kept minutes) 0 N.rules
  first_broken = first_position (kept minutes) (λ r. not (kept minutes 0 r)) N.rules N.rules no_rule no_rule refl (λ k lt. refl)

  pub refusal_outside : (x : ℕ) → count N ≤ length minutes → Some x ≡ first_failing (in_window minutes) 0 N.events → Some (OutsideWindow x) ≡ check_refusal N minutes
  refusal_outside x le h = grind (arith, common_steps, ints)

  pub refusal_inside : count N ≤ length minutes → None ≡ first_failing (in_window minutes) 0 N.events → check_refusal N minutes ≡ rule_refusal (first_failing (kept minutes) 0 N.rules)
  refusal_inside le h = grind (arith, common_steps, ints)

  -- the same of the lists that the code reads
  module _ (es : List Event) (events_are : es ≡ N.events) (fits : length es ≤ length minutes) where
    enough : count N ≤ length minutes
    enough = subst (λ l. length l ≤ length minutes) events_are fits

    found : (o : Option ℕ) → o ≡ position (λ p. not (has_minute p.0.window p.1)) (zip es minutes) → o ≡ first_failing (in_window minutes) 0 N.events
    found o h = subst (λ l. o ≡ position (λ p. not (has_minute p.0.window p.1)) (zip l minutes)) events_are h ∙ first_outside enough

    pub told_outside : (x : ℕ) → Some x ≡ position (λ p. not (has_minute p.0.window p.1)) (zip es minutes) → Some (OutsideWindow x) ≡ check_refusal N minutes
    told_outside x h = refusal_outside x enough (found (Some x) h)

    pub told_inside : (rs : List Rule) → rs ≡ N.rules → (o : Option ℕ) → None ≡ position (λ p. not (has_minute p.0.window p.1)) (zip es minutes) → o ≡ position (λ r. not (kept minutes 0 r)) rs → rule_refusal o ≡ check_refusal N minutes
    told_inside rs rules_are o h k = ap rule_refusal (subst (λ l. o ≡ position (λ r. not (kept minutes 0 r)) l) rules_are k ∙ first_broken) ∙ sym (refusal_inside enough (found None h))

  -- accepted exactly when the list's first places are a schedule
  accepted : (a b : Option ℕ) → event_refusal a (rule_refusal b) ≡ None → (a ≡ None) × (b ≡ None)
  accepted None None h = (refl, refl)
  accepted None (Some k) h = absurd (let z : ◌≡◌ {A = ℕ} 0 1 = cc in omega arith)
  accepted (Some x) b h = absurd (let z : ◌≡◌ {A = ℕ} 0 1 = cc in omega arith)

  pub accepts : check_refusal N minutes ≡ None → (count N ≤ length minutes) × Schedule N (λ x. get_or minutes x 0)
  accepts h =
      ⊎_elim
      (λ yes'. let p = accepted (first_failing (in_window minutes) 0 N.events) (first_failing (kept minutes) 0 N.rules) (sym (cond-true _ _ _ yes') ∙ h) in (leb-true _ _ yes', passes_schedule p.0 p.1))
      (λ no'. absurd (let e : Some TooFewPlaces ≡ None = sym (cond-false _ _ _ no') ∙ h in let z : ◌≡◌ {A = ℕ} 0 1 = cc in omega arith))
      (cases_Bool (leb (count N) (length minutes)))

  pub schedule_accepted : (count N ≤ length minutes) × Schedule N (λ x. get_or minutes x 0) → check_refusal N minutes ≡ None
  schedule_accepted h =
      let p = schedule_passes h.1 in
      refusal_inside h.0 (sym p.0) ∙ ap rule_refusal p.1

  pub refused_exactly : (fault : PlanFault) → Some fault ≡ check_refusal N minutes → (false ≡ true) ↔ ((count N ≤ length minutes) × Schedule N (λ x. get_or minutes x 0))
  refused_exactly fault v = (λ e. absurd (false≢true e), λ h. absurd (let e : Some fault ≡ None = v ∙ schedule_accepted h in let z : ◌≡◌ {A = ℕ} 0 1 = cc in omega arith))

  pub accepted_exactly : None ≡ check_refusal N minutes → (true ≡ true) ↔ ((count N ≤ length minutes) × Schedule N (λ x. get_or minutes x 0))
  accepted_exactly v = (λ e. accepts (sym v), λ h. refl)
