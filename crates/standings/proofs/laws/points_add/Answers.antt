use Rattle.season.specs.Promise.{PointsAdd}
use Rattle.standings.proofs.Totals.{points_add}
use Rattle.standings.proofs.laws.points_add.Goals as goal

pub returns : goal.returns
unfolding PointsAdd
returns c = points_add
