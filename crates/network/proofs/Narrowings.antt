-- What a carried end comes to against a held one, with what the tests have shown.
use Rattle.std.proofs.Common.{◌≡◌, ℕ, ◌<◌, ◌≤◌, cond, leb, nat_abs, Some, None, Ok, Err}
use Rattle.std.proofs.lemmas.Bool.{cond_both, leb-true, leb-false}
use Rattle.bounds.specs.Sides.{Side, minute, Tighter, tighter, Within}
use Rattle.bounds.specs.Ends.{lies}
use Rattle.bounds.specs.Narrowed.{Narrowing, narrowed}
use Rattle.bounds.specs.declared.bar.Cause.TheVariants.{Crossed, Cycle}
use Rattle.bounds.specs.declared.end.End.{End}
use Rattle.bounds.specs.declared.end.Carried.{Carried}
use Rattle.bounds.specs.SidesLemmas.{tighter_true, tighter_false, between_minutes}

pub data Outcome (s : Side) (n : ℕ) (was opposite : End) (c : Carried) : Narrowing → Type 0 where
  drops : Within s c.minute (lies was) → Outcome s n was opposite c (Ok None)
  crosses : Tighter s c.minute (lies opposite) → Outcome s n was opposite c (Err Crossed)
  cycles : Tighter s c.minute (lies was) → minute (nat_abs c.minute) ≡ c.minute → n ≤ c.links → Outcome s n was opposite c (Err Cycle)
  shifts : Tighter s c.minute (lies was) → Within s c.minute (lies opposite) → minute (nat_abs c.minute) ≡ c.minute → c.links < n → Outcome s n was opposite c (Ok (Some (record { minute = nat_abs c.minute; links = c.links })))

pub outcome : (s : Side) (n : ℕ) (was opposite : End) (c : Carried) → Outcome s n was opposite c (narrowed s n was opposite c)
outcome s n was opposite c =
    let Out : Narrowing → Type 0 = Outcome s n was opposite c in
    let moved : Narrowing = Ok (Some (record { minute = nat_abs c.minute; links = c.links })) in
    let long : Narrowing = cond (leb n c.links) (Err Cycle) moved in
    cond_both (tighter s c.minute (lies was)) (cond (tighter s c.minute (lies opposite)) (Err Crossed) long) (Ok None) Out
    (λ t.
    let h = tighter_true s c.minute (lies was) t in
    cond_both (tighter s c.minute (lies opposite)) (Err Crossed) long Out
    (λ p. crosses (tighter_true s c.minute (lies opposite) p))
    (λ p.
    let k = tighter_false s c.minute (lies opposite) p in
    let is = between_minutes s c.minute was.minute opposite.minute h k in
    cond_both (leb n c.links) (Err Cycle) moved Out (λ l. cycles h is (leb-true n c.links l)) (λ l. shifts h k is (leb-false n c.links l))))
    (λ t. drops (tighter_false s c.minute (lies was) t))
