use Rattle.std.proofs.Common.{◌≡◌, ℕ, ◌<◌, ◌≤◌, length, slice_index_or}
use Rattle.network.proofs.solve.fill.Given as goal

abbrev pub invariant-loop-x : goal.invariant-loop-x
invariant-loop-x g l =
    record {
      sized : length l.places ≡ length l.initial.places;
      turned : (k : ℕ) (a : _) (b : _) → k < l.x → g.B.From.from_gives (slice_index_or l.items k a) (slice_index_or l.places k b);
      rest : (k : ℕ) (b : _) → l.x ≤ k → slice_index_or l.places k b ≡ slice_index_or l.initial.places k b;
    }
