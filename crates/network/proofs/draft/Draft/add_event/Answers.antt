-- Kept: without each of these the check finds no proof at half its limits (tried one by one).
use Rattle.std.proofs.Common.{◌≡◌, true, arith}
use Rattle.std.proofs.lemmas.Grind.{common_steps}
use Rattle.network.specs.Drafts.{plan}
use Rattle.network.specs.Rows.{placed}
use Rattle.network.proofs.Entries.{rows_event, draft_rows}
use Rattle.network.proofs.draft.Draft.add_event.Goals as goal

pub invariant_of-self : goal.invariant_of-self
invariant_of-self c =
    let d = c.args.self.now in
    let P = plan d in
    let e = c.args.event in
    let here : placed e ≡ true = grind (arith, common_steps) in
    let new = rows_event P.events _ P.rules P.views e c.push.ensures here (draft_rows d) in
    record { events_pass = new.events; rules_pass = new.rules; views_pass = new.views; borders_pass = new.borders }
