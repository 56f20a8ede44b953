-- Kept: without each of these the check finds no proof at half its limits (tried one by one).
use Rattle.std.proofs.Common.{ℕ, not, length, Some, None, sym, ap, arith}
use Rattle.std.specs.List.{zip}
use Rattle.std.proofs.lemmas.List.Quantifiers.{position-Some}
use Rattle.std.proofs.lemmas.Slice.Zip.{length-zip}
use Rattle.network.specs.Checks.{has_minute}
use Rattle.network.specs.Drafts.{net}
use Rattle.network.specs.Nets.{no_event}
use Rattle.network.specs.declared.tables.Event.{Event}
use Rattle.network.proofs.Schedules.{told_outside, told_inside, refused_exactly, accepted_exactly}
use Rattle.network.proofs.check.check.Goals as goal

pub overflow_cast-result : goal.overflow_cast-result
overflow_cast-result c =
    let d = c.args.draft.now in
    let es = c.events-events.result.now in
    let ms = c.args.minutes.now in
    let at = position-Some (λ (p : Event × ℕ). not (has_minute p.0.window p.1)) (zip es ms) c.in-Some.event (no_event, 0) (sym c.in-Some.ensures) in
    let n = length-zip es ms in
    let same = ap length c.events-events.ensures in
    omega (arith, at.0, n, same, d.events.few)

pub returns-in-Some : goal.returns-in-Some
returns-in-Some c =
    let N = net c.args.draft.now in
    let ms = c.args.minutes.now in
    let v = told_outside N ms _ c.events-events.ensures (omega arith) _ c.in-Some.ensures in
    record { value = v; exactly = refused_exactly N ms _ v }

pub returns-in-Some-first_broken : goal.returns-in-Some-first_broken
returns-in-Some-first_broken c =
    let N = net c.args.draft.now in
    let ms = c.args.minutes.now in
    let v = told_inside N ms _ c.events-events.ensures (omega arith) _ c.rules.ensures (Some _) c.in_default.ensures c.in-Some-first_broken.ensures in
    record { value = v; exactly = refused_exactly N ms _ v }

pub returns : goal.returns
returns c =
    let N = net c.args.draft.now in
    let ms = c.args.minutes.now in
    let v = told_inside N ms _ c.events-events.ensures (omega arith) _ c.rules.ensures None c.in_default.ensures c.in_default-first_broken.ensures in
    record { value = v; exactly = accepted_exactly N ms v }
