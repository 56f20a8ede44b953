use Rattle.std.proofs.Common.{◌≡◌, ◌*◌, ◌≤◌, drop, None}
use Rattle.network.specs.Rounds.{sweep, begun}
use Rattle.network.proofs.solve.sweep.Given as goal

abbrev pub invariant-loop-rule : goal.invariant-loop-rule
invariant-loop-rule l =
    (sweep l.events (drop l.rule-index l.rules) (record { table = l.ends; moves = l.moves; bar = None }) ≡ sweep l.events l.rules (begun l.initial.ends))
    × (l.moves ≤ 4 * l.rule-index)
