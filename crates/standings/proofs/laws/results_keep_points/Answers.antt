use Rattle.standings.proofs.Totals.{points_kept}
use Rattle.standings.proofs.laws.results_keep_points.Goals as goal
use Rattle.standings.specs.Theorems.{PointsKept}

pub returns : goal.returns
unfolding PointsKept
returns c = points_kept
