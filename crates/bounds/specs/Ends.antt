-- Ends and their join.
use Rattle.std.specs.Prelude.{◌≡◌, suc, ◌≤◌, Bool, cond, ◌&&◌, ◌||◌, ◌⊎◌, ◌==◌, nat_lt}
use Rattle.bounds.specs.Sides.{Side, earliest, latest, Minute, minute, loosest_minute, tighter, Within, carry}
use Rattle.bounds.specs.declared.end.End.{End}
use Rattle.bounds.specs.declared.end.Ends.{Ends}
use Rattle.bounds.specs.declared.end.Carried.{Carried}
use Rattle.bounds.specs.declared.gap.Gap.{Gap}
use Rattle.bounds.specs.declared.gap.Way.{Way}

-- where an end lies
abbrev pub lies : End → Minute
lies e = minute e.minute

-- the end of a side
abbrev pub end_of : Side → Ends → End
end_of earliest es = es.earliest
end_of latest es = es.latest

-- the ends with that of one side replaced
abbrev pub with_end : Side → Ends → End → Ends
with_end earliest es e = record { earliest = e; latest = es.latest }
with_end latest es e = record { earliest = es.earliest; latest = e }

abbrev pub loosest : Side → End
loosest s = record { minute = loosest_minute s; links = 0 }

-- the end that a rule carries over: one link more
abbrev pub carried : Side → Gap → Way → End → Carried
carried s g w e = record { minute = carry s g w (lies e); links = suc e.links }

-- b is to be kept in place of a: it is tighter, or as tight over fewer links
abbrev pub better : Side → End → End → Bool
better s b a = tighter s (lies b) (lies a) || (a.minute == b.minute && nat_lt b.links a.links)

abbrev pub join : Side → End → End → End
join s a b = cond (better s b a) b a

-- a is no better than b: no tighter, and of equal minutes with no fewer links
pub record Under (s : Side) (a b : End) : Type 0 where
  pub within : Within s (lies a) (lies b)
  pub fewer : a.minute ≡ b.minute → b.links ≤ a.links

-- c is one of a and b, and neither is better
pub record Join (s : Side) (a b c : End) : Type 0 where
  pub one : (c ≡ a) ⊎ (c ≡ b)
  pub left : Under s a c
  pub right : Under s b c
