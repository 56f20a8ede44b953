-- What becomes of an end against a carried one.
use Rattle.std.specs.Prelude.{ℕ, cond, nat_le, unsigned_abs, Some, None, Ok, Err, Option, Result}
use Rattle.bounds.specs.Sides.{Side, tighter}
use Rattle.bounds.specs.Ends.{lies}
use Rattle.bounds.specs.declared.bar.Cause.{Cause}
use Rattle.bounds.specs.declared.bar.Cause.TheVariants.{Crossed, Cycle}
use Rattle.bounds.specs.declared.end.End.{End}
use Rattle.bounds.specs.declared.end.Carried.{Carried}

-- the end that takes a held one's place, if one does, or the cause of a bar
abbrev pub Narrowing : Type 0
Narrowing = Result (Option End) Cause

-- a carried end is dropped unless it is strictly tighter than the held one; where it passes the opposite end it bars the plan,
-- and so it does, by a cycle, where its links reach the number of events; else it replaces the held end
abbrev pub narrowed : Side → ℕ → End → End → Carried → Narrowing
narrowed s events held opposite c =
    cond (tighter s c.minute (lies held))
    (cond (tighter s c.minute (lies opposite)) (Err Crossed)
    (cond (nat_le events c.links) (Err Cycle)
    (Ok (Some (record { minute = unsigned_abs c.minute; links = c.links })))))
    (Ok None)
