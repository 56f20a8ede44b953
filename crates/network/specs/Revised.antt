-- Revising one event against a source by a rule.
use Rattle.std.specs.Prelude.{ℕ, ◌+◌, Some, None, Ok, Err}
use Rattle.bounds.specs.Sides.{Side, earliest, latest, other}
use Rattle.bounds.specs.Ends.{end_of, with_end, carried}
use Rattle.bounds.specs.Narrowed.{Narrowing, narrowed}
use Rattle.bounds.specs.declared.end.Ends.{Ends}
use Rattle.bounds.specs.declared.gap.Gap.{Gap}
use Rattle.bounds.specs.declared.gap.Way.{Way}
use Rattle.network.specs.declared.revise.Revision.{Revision}

-- what a narrowing of one side makes of the revision
abbrev pub noted : Side → Revision → Narrowing → Revision
noted s v (Ok None) = v
noted s v (Ok (Some e)) = record { ends = with_end s v.ends e; moves = v.moves + 1; bar = None }
noted s v (Err cause) = record { ends = v.ends; moves = v.moves; bar = Some cause }

-- the end of one side against the source's, unless the plan is barred already
abbrev pub one_side : Side → ℕ → Gap → Way → Ends → Revision → Revision
one_side s events g w from v =
    elim v.bar [
      | Some cause ↦ v
      | None ↦ noted s v (narrowed s events (end_of s v.ends) (end_of (other s) v.ends) (carried s g w (end_of s from)))
    ]

-- the earliest end, then the latest
abbrev pub revised : ℕ → Gap → Way → Ends → Ends → Revision
revised events g w held from =
    one_side latest events g w from (one_side earliest events g w from (record { ends = held; moves = 0; bar = None }))
