use Rattle.planner.proofs.Best.{planned}
use Rattle.planner.proofs.laws.circle_is_best.Goals as goal

pub returns : goal.returns
returns c = planned
