-- Kept: without each of these the check finds no proof at half its limits (tried one by one).
use Rattle.std.proofs.Common.{◌≡◌, true, length, sym, subst}
use Rattle.network.specs.Drafts.{plan}
use Rattle.network.specs.Rows.{joins, bordered}
use Rattle.network.proofs.Entries.{rows_rule, draft_rows}
use Rattle.network.proofs.Borders.{passed, border_kept}
use Rattle.network.proofs.draft.Draft.enter_rule.Goals as goal

pub invariant_of-self : goal.invariant_of-self
invariant_of-self c =
    let P = plan c.args.self.now in
    let r = c.args.rule in
    let p = passed P r c.requires in
    let d = c.show_border.new.self in
    let Q = plan d in
    let joined : joins (length Q.events) r ≡ true = subst (λ Q. joins (length Q.events) r ≡ true) (sym c.show_border.ensures) p.joined in
    let border : bordered Q.events Q.views r ≡ true = subst (λ Q. bordered Q.events Q.views r ≡ true) (sym c.show_border.ensures) (border_kept P r) in
    let new = rows_rule Q.events Q.rules _ Q.views r c.push.ensures joined border (draft_rows d) in
    record { events_pass = new.events; rules_pass = new.rules; views_pass = new.views; borders_pass = new.borders }
