use Rattle.std.proofs.Common.{◌-◌}
use Rattle.network.specs.Drafts.{net}
use Rattle.network.specs.Nets.{count}
use Rattle.network.proofs.Going.{Going}
use Rattle.network.proofs.solve.run_rounds.Given as goal

abbrev pub invariant-loop-rounds : goal.invariant-loop-rounds
invariant-loop-rounds l = Going (net l.draft) l.rounds l.ends

abbrev pub decreases-loop-rounds : goal.decreases-loop-rounds
decreases-loop-rounds l = count (net l.draft) - l.rounds
