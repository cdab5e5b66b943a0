-- The games without a result among those so far stand in front, and behind them what stood there.
use Rattle.standings.proofs.Kept.{Kept}
use Rattle.standings.proofs.results.keep_unplayed.Given as goal

abbrev pub invariant-loop-k : goal.invariant-loop-k
invariant-loop-k l = Kept l.initial.games l.results l.k l.left l.games
