-- A list filled with what the items of another turn into, as one list after another.
use Rattle.std.proofs.Common.{◌≡◌, ℕ, ◌+◌, ◌-◌, ◌<◌, ◌≤◌, List, ◌++◌, map, length, get_or, take, drop, sym, ap, ◌∙◌, ⊎_elim, arith, length-append, length-drop}
use Rattle.std.proofs.lemmas.List.{length-map, get_or-map, get_or_append_left, get_or-append_right, get_or-drop, same_lists, drop_all, append-nil}
use Rattle.std.proofs.lemmas.Bool.{cases_lt}
use Rattle.std.proofs.lemmas.Grind.{common_steps}
use Rattle.network.specs.Solved.{Filled}

module _ {A B : Type 0} (f : A → B) (a : A) (items : List A) (before after : List B) (h : Filled (λ x y. y ≡ f x) items before after) where
  at : (k : ℕ) (d : B) → k < length after → get_or after k d ≡ get_or (map f items ++ drop (length items) before) k d
  at k d lt =
      let n = length-map items f in
      ⊎_elim
      (λ first. h.turned k a d first ∙ sym (get_or_append_left (map f items) (drop (length items) before) d k (omega arith) ∙ get_or-map f items k a d first))
      (λ later.
      let same : length items + (k - length items) ≡ k = omega arith in
      h.rest k d later
      ∙ sym (get_or-append_right (map f items) (drop (length items) before) (length items) k d n later ∙ get_or-drop (length items) before (k - length items) d ∙ ap (λ i. get_or before i d) same))
      (cases_lt k (length items))

  pub filled_places : length items ≤ length before → after ≡ map f items ++ drop (length items) before
  filled_places fits =
      let n = length-map items f in
      let l = length-append (map f items) (drop (length items) before) in
      let m = length-drop (length items) before in
      let s = h.sized in
      same_lists after (map f items ++ drop (length items) before) (omega arith) at

  -- where there is a place for each item and no other
  pub filled_all : length items ≡ length before → after ≡ map f items
  filled_all same = filled_places (omega arith) ∙ ap (λ l. map f items ++ l) (drop_all (length items) before (omega arith)) ∙ append-nil (map f items)

-- a list that was written place by place over the front of another, once no item is left
-- (nothing rests on this one any more; it stands as it was named)
pub written_all : {X Y : Type 0} (f : X → Y) (xs : List X) (old : List Y) (now : List Y) (i : ℕ) → length xs ≤ i → i ≤ length xs → now ≡ map f (take i xs) ++ drop i old → now ≡ map f xs ++ drop (length xs) old
written_all f xs old now i ge le h = grind (arith, common_steps)
