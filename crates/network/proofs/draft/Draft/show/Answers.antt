-- Kept: without each of these the check finds no proof at half its limits (tried one by one).
use Rattle.network.specs.Drafts.{plan}
use Rattle.network.proofs.Entries.{rows_view, draft_rows}
use Rattle.network.proofs.draft.Draft.show.Goals as goal

pub invariant_of-self : goal.invariant_of-self
invariant_of-self c =
    let d = c.args.self.now in
    let P = plan d in
    let new = rows_view P.events P.rules P.views _ c.args.view c.push.ensures c.requires.abroad (draft_rows d) in
    record { events_pass = new.events; rules_pass = new.rules; views_pass = new.views; borders_pass = new.borders }
