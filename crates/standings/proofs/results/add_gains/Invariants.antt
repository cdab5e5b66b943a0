-- The teams so far have what they gained, and the others what they had.
use Rattle.std.proofs.Common.{◌≡◌}
use Rattle.season.specs.Encoding.{table_held}
use Rattle.season.specs.Rows.{written}
use Rattle.standings.proofs.results.add_gains.Given as goal
use Rattle.standings.specs.Results.{after}

abbrev pub invariant-loop-team : goal.invariant-loop-team
invariant-loop-team l =
    l.points ≡ written (after (table_held l.initial.points l.games) l.results).points l.team l.initial.points
