-- What a rule that fails no question has passed, and the views that it then has.
use Rattle.std.proofs.Common.{◌≡◌, ◌<◌, ◌≤◌, true, List, [], ◌∷◌, length, None, arith}
use Rattle.std.specs.List.{AllByRecursion}
use Rattle.std.proofs.lemmas.Grind.{common_steps}
use Rattle.network.specs.Rows.{joins, bordered}
use Rattle.network.specs.Plans.{Plan, Question, first_no, with_views, rule_questions}
use Rattle.network.specs.declared.tables.Rule.{Rule}

pub border_kept : (P : Plan) (r : Rule) → bordered P.events (with_views P r) r ≡ true
border_kept P r = grind (arith, common_steps)

-- (nothing rests on this one any more; it stands as it was named)
pub all_yes : (qs : List Question) → first_no qs ≡ None → AllByRecursion (λ q. q.yes ≡ true) qs
all_yes [] h = tt
all_yes (q ∷ qs) h = grind (arith, common_steps, all_yes qs)

pub record Passed (P : Plan) (r : Rule) : Type 0 where
  pub joined : joins (length P.events) r ≡ true
  pub few_rules : length P.rules < 128
  pub few_views : length (with_views P r) ≤ 64

pub passed : (P : Plan) (r : Rule) → first_no (rule_questions P r) ≡ None → Passed P r
passed P r h =
    record {
      joined = grind (arith, common_steps, h);
      few_rules = grind (arith, common_steps, h);
      few_views = grind (arith, common_steps, h);
    }
