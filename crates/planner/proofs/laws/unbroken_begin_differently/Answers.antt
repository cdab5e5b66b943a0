use Rattle.planner.proofs.Begins.{begin_differently}
use Rattle.planner.proofs.laws.unbroken_begin_differently.Goals as goal

pub returns : goal.returns
returns c = begin_differently
