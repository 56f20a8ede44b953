-- The rows of a draft make a sound network.
use Rattle.std.proofs.Common.{◌≡◌, ℕ, ◌<◌, true, List, length, subst, arith}
use Rattle.std.proofs.lemmas.Bool.{and_parts, leb-true}
use Rattle.std.proofs.lemmas.Grind.{common_steps}
use Rattle.std.proofs.lemmas.Int.{ints}
use Rattle.bounds.specs.declared.gap.Way.TheVariants.{Ahead}
use Rattle.network.specs.Nets.{event, Sound}
use Rattle.network.specs.Drafts.{net}
use Rattle.network.specs.Rows.{Pass, placed, opens, joins}
use Rattle.network.specs.declared.draft.Draft.{Draft}
use Rattle.network.specs.declared.tables.Event.{Event}
use Rattle.network.specs.declared.tables.Rule.{Rule}
use Rattle.network.proofs.Steps.{joined_inside}

pub rows_sound : (es : List Event) (rs : List Rule) → Pass placed es → Pass (joins (length es)) rs → Sound (record { events = es; rules = rs })
rows_sound es rs placed_all joined_all =
    record {
      opened = λ x lt. leb-true _ _ (and_parts _ _ (opens_at x lt)).0;
      closed = λ x lt. leb-true _ _ (and_parts _ _ (opens_at x lt)).1;
      known = λ r has. let j = subst (λ q. joins (length es) q ≡ true) has.2 (joined_all has.0 r has.1) in let p = joined_inside (length es) r Ahead j in (p.0, p.1);
    }
  where
    opens_at : (x : ℕ) → x < length es → opens (event (record { events = es; rules = rs }) x).window ≡ true
    opens_at x lt = grind (arith, common_steps, ints)

pub draft_sound : (d : Draft) → Sound (net d)
draft_sound d = rows_sound (net d).events (net d).rules d.events_pass d.rules_pass
