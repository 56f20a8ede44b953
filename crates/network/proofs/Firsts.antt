-- The first row that fails a test: how the library's search finds it, and what it means that none does.
use Rattle.std.proofs.Common.{◌≡◌, ℕ, zero, suc, ◌+◌, ◌<◌, ◌≤◌, Bool, true, false, not, cond, List, [], ◌∷◌, length, get_or, drop, Some, None, sym, refl, ap, ◌∙◌, subst, ⊎_elim, add-zero, add-one, arith}
use Rattle.std.specs.List.{position, position_or_len}
use Rattle.std.proofs.lemmas.List.{at_drop_all}
use Rattle.std.proofs.lemmas.List.Sums.{fails_before_first, passes_at_first}
use Rattle.std.proofs.lemmas.Bool.{not-true, not-false, cond-true, cond-false, lt-ltb, le-ltb, cases_lt}
use Rattle.std.proofs.lemmas.Grind.{common_steps}
use Rattle.std.proofs.lemmas.Int.{ints}
use Rattle.network.specs.Checks.{first_failing}

module _ {A : Type 0} (test : ℕ → A → Bool) where
  pub first_on : (xs : List A) (i : ℕ) (d : A) → i < length xs → test i (get_or xs i d) ≡ true → first_failing test (i + 1) (drop (i + 1) xs) ≡ first_failing test i (drop i xs)
  first_on xs i d lt h = grind (arith, common_steps, ints)

  pub first_here : (xs : List A) (i : ℕ) (d : A) → i < length xs → test i (get_or xs i d) ≡ false → first_failing test i (drop i xs) ≡ Some i
  first_here xs i d lt h = grind (arith, common_steps, ints)

  pub first_none : (xs : List A) (i : ℕ) → length xs ≤ i → first_failing test i (drop i xs) ≡ None
  first_none xs i le = at_drop_all (first_failing test i) xs i le

  -- where the rows of ys fail just as those of xs do, the first position of one that fails is the first failing row
  module _ {B : Type 0} (fails : B → Bool) (xs : List A) (ys : List B) (a : A) (b : B) (long : length ys ≡ length xs) (alike : (k : ℕ) → k < length xs → fails (get_or ys k b) ≡ not (test k (get_or xs k a))) where
    all_before : (i : ℕ) → i ≤ length xs → i ≤ position_or_len fails ys → first_failing test i (drop i xs) ≡ first_failing test 0 xs
    all_before zero le few = refl
    all_before (suc i) le few =
        let lt : i < length xs = omega arith in
        let passes = not-false _ (sym (alike i lt) ∙ fails_before_first fails ys i b (omega arith)) in
        subst (λ n. first_failing test n (drop n xs) ≡ first_failing test 0 xs) (add-one i) (first_on xs i a lt passes ∙ all_before i (omega arith) (omega arith))

    pub first_position : position fails ys ≡ first_failing test 0 xs
    first_position =
        let n : ℕ = position_or_len fails ys in
        ⊎_elim
        (λ found.
        let lt : n < length xs = omega (arith, long) in
        cond-true _ _ _ (lt-ltb _ _ found)
        ∙ sym (sym (all_before n (omega arith) (omega arith)) ∙ first_here xs n a lt (not-true _ (sym (alike n lt) ∙ passes_at_first fails ys b found))))
        (λ none.
        cond-false _ _ _ (le-ltb _ _ none)
        ∙ sym (sym (all_before (length xs) (omega arith) (omega (arith, long))) ∙ first_none xs (length xs) (omega arith)))
        (cases_lt n (length ys))

  -- none fails: all pass, numbered from i
  pub none_fails : (i : ℕ) (xs : List A) → first_failing test i xs ≡ None → (k : ℕ) (d : A) → k < length xs → test (i + k) (get_or xs k d) ≡ true
  none_fails i [] h k d lt = absurd (omega arith)
  none_fails i (x ∷ xs) h k d lt = by (test i x) refl h k lt (none_fails (suc i) xs)
    where
      by : (b : Bool) → test i x ≡ b → cond b (first_failing test (suc i) xs) (Some i) ≡ None → (k : ℕ) → k < length (x ∷ xs) → (first_failing test (suc i) xs ≡ None → (k : ℕ) (d : A) → k < length xs → test (suc i + k) (get_or xs k d) ≡ true) → test (i + k) (get_or (x ∷ xs) k d) ≡ true
      by true e h zero lt rest = subst (λ n. test n x ≡ true) (sym (add-zero i)) e
      by true e h (suc k) lt rest = let same : suc i + k ≡ i + suc k = omega arith in subst (λ n. test n (get_or xs k d) ≡ true) same (rest h k d (omega arith))
      by false e h k lt rest = absurd (let z : ◌≡◌ {A = ℕ} 0 1 = cc in omega arith)

  pub all_pass : (i : ℕ) (xs : List A) → ((k : ℕ) (d : A) → k < length xs → test (i + k) (get_or xs k d) ≡ true) → first_failing test i xs ≡ None
  all_pass i [] h = refl
  all_pass i (x ∷ xs) h =
      ap (λ b. cond b (first_failing test (suc i) xs) (Some i)) (subst (λ n. test n x ≡ true) (add-zero i) (h 0 x (omega arith)))
      ∙ all_pass (suc i) xs (λ k d lt. let same : i + suc k ≡ suc i + k = omega arith in subst (λ n. test n (get_or xs k d) ≡ true) same (h (suc k) d (omega arith)))
