use Rattle.planner.proofs.Needed.{breaks_needed}
use Rattle.planner.proofs.laws.breaks_are_needed.Goals as goal

pub returns : goal.returns
returns c = breaks_needed
