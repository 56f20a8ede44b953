-- How the code of a round reads the table, and what it may count on.
use Rattle.std.proofs.Common.{◌≡◌, ℕ, ◌+◌, ◌<◌, ◌≤◌, true, List, [], ◌∷◌, length, get_or, drop, Some, None, Ok, Err, Option, ap, ◌∙◌, arith}
use Rattle.std.proofs.lemmas.List.{at_drop_more}
use Rattle.std.proofs.lemmas.Grind.{common_steps}
use Rattle.std.proofs.lemmas.Int.{ints}
use Rattle.bounds.specs.Sides.{Side, earliest, latest, other}
use Rattle.bounds.specs.Ends.{end_of, carried}
use Rattle.bounds.specs.Narrowed.{Narrowing, narrowed}
use Rattle.bounds.specs.declared.bar.Bar.{Bar}
use Rattle.bounds.specs.declared.bar.Cause.{Cause}
use Rattle.bounds.specs.declared.end.Ends.{Ends}
use Rattle.bounds.specs.declared.gap.Gap.{Gap}
use Rattle.bounds.specs.declared.gap.Way.{Way}
use Rattle.bounds.specs.declared.gap.Way.TheVariants.{Back, Ahead}
use Rattle.network.specs.Nets.{leaves, enters}
use Rattle.network.specs.Revised.{noted, one_side, revised}
use Rattle.network.specs.Rounds.{held, Sweep, step, sweep}
use Rattle.network.specs.Rows.{joins}
use Rattle.network.specs.declared.revise.Revision.{Revision}
use Rattle.network.specs.declared.tables.Rule.{Rule}

-- both events of a rule that joins are in the table
pub joined_inside : (n : ℕ) (r : Rule) (w : Way) → joins n r ≡ true → (leaves r w < n) × (enters r w < n)
joined_inside n r w h = grind (arith, common_steps, ints)

pub revised_read : (n : ℕ) (g : Gap) (w : Way) (t : List Ends) (d : Ends) (a b x y : ℕ) → a ≡ x → b ≡ y → x < length t → y < length t → revised n g w (get_or t a d) (get_or t b d) ≡ revised n g w (held t x) (held t y)
revised_read n g w t d a b x y ax by xin yin = grind (arith, common_steps, ints)

-- ---- a revision moves at most two ends

noted_moves : (s : Side) (v : Revision) (m : Narrowing) → (noted s v m).moves ≤ v.moves + 1
noted_moves s v (Ok None) = omega arith
noted_moves s v (Ok (Some e)) = omega arith
noted_moves s v (Err cause) = omega arith

one_side_moves : (s : Side) (n : ℕ) (g : Gap) (w : Way) (src ends : Ends) (moves : ℕ) (bar : Option Cause) → (one_side s n g w src (record { ends = ends; moves = moves; bar = bar })).moves ≤ moves + 1
one_side_moves s n g w src ends moves (Some cause) = omega arith
one_side_moves s n g w src ends moves None = noted_moves s (record { ends = ends; moves = moves; bar = None }) (narrowed s n (end_of s ends) (end_of (other s) ends) (carried s g w (end_of s src)))

pub revised_moves : (n : ℕ) (g : Gap) (w : Way) (was src : Ends) → (revised n g w was src).moves ≤ 2
revised_moves n g w was src =
    let half : Revision = one_side earliest n g w src (record { ends = was; moves = 0; bar = None }) in
    let a = one_side_moves earliest n g w src was 0 None in
    let b = one_side_moves latest n g w src half.ends half.moves half.bar in
    omega (arith, a, b)

-- ---- a round goes on from rule to rule, and a bar stays

step_barred : (n : ℕ) (r : Rule) (w : Way) (table : List Ends) (moves : ℕ) (bar : Option Bar) (b : Bar) → bar ≡ Some b → (step n r w (record { table = table; moves = moves; bar = bar })).bar ≡ Some b
step_barred n r w table moves (Some b') b h = h
step_barred n r w table moves None b h = absurd (let z : ◌≡◌ {A = ℕ} 0 1 = cc in omega arith)

barred_on : (n : ℕ) (r : Rule) (w : Way) (s : Sweep) (b : Bar) → s.bar ≡ Some b → (step n r w s).bar ≡ Some b
barred_on n r w s b h = step_barred n r w s.table s.moves s.bar b h

sweep_barred : (n : ℕ) (rs : List Rule) (s : Sweep) (b : Bar) → s.bar ≡ Some b → (sweep n rs s).bar ≡ Some b
sweep_barred n [] s b h = h
sweep_barred n (r ∷ rs) s b h = sweep_barred n rs (step n r Ahead (step n r Back s)) b (barred_on n r Ahead (step n r Back s) b (barred_on n r Back s b h))

module _ (n : ℕ) (rs : List Rule) (i : ℕ) (d : Rule) (in' : i < length rs) where
  pub sweep_on : (s mid end : Sweep) → step n (get_or rs i d) Back s ≡ mid → step n (get_or rs i d) Ahead mid ≡ end → sweep n (drop (i + 1) rs) end ≡ sweep n (drop i rs) s
  sweep_on s mid end a b = grind (arith, common_steps, ints)

  pub back_bars : (s : Sweep) (b : Bar) → (step n (get_or rs i d) Back s).bar ≡ Some b → (sweep n (drop i rs) s).bar ≡ Some b
  back_bars s b h =
      ap (λ v. v.bar) (at_drop_more (λ l. sweep n l s) rs i d in')
      ∙ sweep_barred n (drop (i + 1) rs) (step n (get_or rs i d) Ahead (step n (get_or rs i d) Back s)) b (barred_on n (get_or rs i d) Ahead (step n (get_or rs i d) Back s) b h)

  pub ahead_bars : (s mid : Sweep) (b : Bar) → step n (get_or rs i d) Back s ≡ mid → (step n (get_or rs i d) Ahead mid).bar ≡ Some b → (sweep n (drop i rs) s).bar ≡ Some b
  ahead_bars s mid b a h =
      ap (λ v. v.bar) (at_drop_more (λ l. sweep n l s) rs i d in')
      ∙ ap (λ m. (sweep n (drop (i + 1) rs) (step n (get_or rs i d) Ahead m)).bar) a
      ∙ sweep_barred n (drop (i + 1) rs) (step n (get_or rs i d) Ahead mid) b h
