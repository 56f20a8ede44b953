-- What the rows of a draft keep to, as rows are added.
use Rattle.std.proofs.Common.{◌≡◌, ℕ, true, List, [], ◌∷◌, ◌++◌, length, arith}
use Rattle.std.proofs.lemmas.Grind.{common_steps}
use Rattle.network.specs.Drafts.{plan}
use Rattle.network.specs.Rows.{Pass, placed, joins, shows, abroad, bordered}
use Rattle.network.specs.declared.draft.Draft.{Draft}
use Rattle.network.specs.declared.tables.Event.{Event}
use Rattle.network.specs.declared.tables.Rule.{Rule}
use Rattle.network.specs.declared.tables.View.{View}

-- (nothing rests on this one any more; it stands as it was named)
pub shows_more : (vs : List View) (v : View) (event room : ℕ) → shows vs event room ≡ true → shows (vs ++ v ∷ []) event room ≡ true
shows_more vs v event room h = grind (arith, common_steps)

pub record Rows (es : List Event) (rs : List Rule) (vs : List View) : Type 0 where
  pub events : Pass placed es
  pub rules : Pass (joins (length es)) rs
  pub views : Pass (abroad es) vs
  pub borders : Pass (bordered es vs) rs

pub rows_event : (es after : List Event) (rs : List Rule) (vs : List View) (e : Event) → after ≡ es ++ e ∷ [] → placed e ≡ true → Rows es rs vs → Rows after rs vs
rows_event es after rs vs e is here h = record {
  events = λ k d lt. grind (arith, common_steps, h.events);
  rules = λ k d lt. grind (arith, common_steps, h.rules);
  views = λ k d lt. grind (arith, common_steps, h.views);
  borders = λ k d lt. grind (arith, common_steps, h.borders, h.rules);
}

pub rows_view : (es : List Event) (rs : List Rule) (vs after : List View) (v : View) → after ≡ vs ++ v ∷ [] → abroad es v ≡ true → Rows es rs vs → Rows es rs after
rows_view es rs vs after v is here h = record {
  events = h.events;
  rules = h.rules;
  views = λ k d lt. grind (arith, common_steps, h.views);
  borders = λ k d lt. grind (arith, common_steps, h.borders);
}

pub rows_rule : (es : List Event) (rs after : List Rule) (vs : List View) (r : Rule) → after ≡ rs ++ r ∷ [] → joins (length es) r ≡ true → bordered es vs r ≡ true → Rows es rs vs → Rows es after vs
rows_rule es rs after vs r is j b h = record {
  events = h.events;
  rules = λ k d lt. grind (arith, common_steps, h.rules);
  views = h.views;
  borders = λ k d lt. grind (arith, common_steps, h.borders);
}

-- a draft's own
pub draft_rows : (d : Draft) → Rows (plan d).events (plan d).rules (plan d).views
draft_rows d = record { events = d.events_pass; rules = d.rules_pass; views = d.views_pass; borders = d.borders_pass }
