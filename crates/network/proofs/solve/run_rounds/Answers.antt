-- Kept: without each of these the check finds no proof at half its limits (tried one by one).
use Rattle.std.proofs.Common.{◌+◌, ◌<◌, length, sym, ap, ◌∙◌, subst, arith}
use Rattle.std.proofs.lemmas.List.{length-map}
use Rattle.std.proofs.lemmas.Result.{err_from_is_err_and}
use Rattle.network.specs.Drafts.{net}
use Rattle.network.specs.Nets.{count}
use Rattle.network.specs.Rounds.{given_ends}
use Rattle.network.proofs.Going.{Going, going_start, going_on, going_barred, sweep_read}
use Rattle.network.proofs.Sounds.{draft_sound}
use Rattle.network.proofs.solve.run_rounds.Goals as goal

pub loop-rounds-init : goal.loop-rounds-init
loop-rounds-init c = let N = net c.args.draft.now in subst (Going N 1) (sym c.requires) (going_start N (draft_sound c.args.draft.now))

pub returns-in_err-sweep : goal.returns-in_err-sweep
returns-in_err-sweep c =
    let p = err_from_is_err_and c.from_residual.result c.from_residual.ensures.1 in
    let N = net c.args.draft.now in
    let l = c.loop-rounds in
    let n = ap length c.requires ∙ length-map N.events given_ends in
    let e = ap (λ s. s.bar) (sym (sweep_read N _ _ l.ends n c.rules-rules.ensures)) ∙ c.in_err-sweep.ensures in
    rw (p.1, p.2) (going_barred N (draft_sound c.args.draft.now) l.rounds l.ends l.invariant _ e)

-- a round that moved an end is not the last
turn : (c : goal.Then-branch-gt0) → (c.loop-rounds.rounds < count (net c.args.draft.now)) × Going (net c.args.draft.now) (c.loop-rounds.rounds + 1) c.sweep.new.ends
turn c =
    let N = net c.args.draft.now in
    let l = c.loop-rounds in
    let n = ap length c.requires ∙ length-map N.events given_ends in
    let e = sym (sweep_read N _ _ l.ends n c.rules-rules.ensures) ∙ c.in_ok-sweep.ensures in
    going_on N (draft_sound c.args.draft.now) l.rounds l.ends l.invariant c.sweep.new.ends c.in_ok-sweep.field-0 e (λ none. let some = c.if-branch-gt0.true in omega (arith, some))

pub loop-rounds-smaller : goal.loop-rounds-smaller
loop-rounds-smaller c = let k = (turn c).0 in omega (arith, k)

pub loop-rounds-preserved : goal.loop-rounds-preserved
loop-rounds-preserved c = (turn c).1
