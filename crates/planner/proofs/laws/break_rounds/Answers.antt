use Rattle.planner.proofs.CircleBreaks.{break_is}
use Rattle.planner.proofs.laws.break_rounds.Goals as goal
use Rattle.planner.specs.Theorems.{BreakRounds}

pub returns : goal.returns
unfolding BreakRounds
returns c = break_is
