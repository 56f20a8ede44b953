-- Kept: without each of these the check finds no proof at half its limits (tried one by one).
use Rattle.std.proofs.Common.{◌+◌, pos, None, sym, ap, ◌∙◌, arith}
use Rattle.std.proofs.lemmas.Result.{err_from_is_err_and}
use Rattle.network.specs.Rounds.{Sweep}
use Rattle.network.proofs.Steps.{sweep_on, back_bars, ahead_bars}
use Rattle.network.proofs.solve.sweep.Goals as goal

pub returns-in_err-moves : goal.returns-in_err-moves
returns-in_err-moves c =
    let p = err_from_is_err_and c.from_residual.result c.from_residual.ensures.1 in
    let l = c.loop-rule in
    let s : Sweep = record { table = l.ends; moves = l.moves; bar = None } in
    rw (p.1, p.2) (ap (λ v. v.bar) (sym l.invariant.0) ∙ back_bars c.args.events c.args.rules.now l.rule-index _ c.loop-rule-test.true s _ (c.in_err-moves.ensures l.moves))

pub returns-in_err-moves-2 : goal.returns-in_err-moves-2
returns-in_err-moves-2 c =
    let p = err_from_is_err_and c.from_residual-in_err-moves-2.result c.from_residual-in_err-moves-2.ensures.1 in
    let l = c.loop-rule in
    let s : Sweep = record { table = l.ends; moves = l.moves; bar = None } in
    let mid : Sweep = record { table = c.step.new.ends; moves = l.moves + c.in_ok-moves.field-0; bar = None } in
    rw (p.1, p.2) (ap (λ v. v.bar) (sym l.invariant.0) ∙ ahead_bars c.args.events c.args.rules.now l.rule-index _ c.loop-rule-test.true s mid _ (c.in_ok-moves.ensures.1 l.moves) (c.in_err-moves-2.ensures (l.moves + c.in_ok-moves.field-0)))

pub loop-rule-preserved : goal.loop-rule-preserved
loop-rule-preserved c =
    let l = c.loop-rule in
    let a = c.in_ok-moves.ensures in
    let b = c.in_ok-moves-2.ensures in
    let s : Sweep = record { table = l.ends; moves = l.moves; bar = None } in
    let mid : Sweep = record { table = c.step.new.ends; moves = l.moves + c.in_ok-moves.field-0; bar = None } in
    let end : Sweep = record { table = c.step-in-loop-rule.new.ends; moves = l.moves + c.in_ok-moves.field-0 + c.in_ok-moves-2.field-0; bar = None } in (
      sweep_on c.args.events c.args.rules.now l.rule-index (record { from = 0; to = 0; gap = record { least = pos 0; most = pos 0 } }) c.loop-rule-test.true s mid end (a.1 l.moves) (b.1 (l.moves + c.in_ok-moves.field-0)) ∙ l.invariant.0,
      omega (arith, a.0, b.0, l.invariant.1),
    )
