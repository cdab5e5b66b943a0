use Rattle.standings.proofs.Parts.{in_parts}
use Rattle.standings.proofs.laws.results_in_parts.Goals as goal
use Rattle.standings.specs.Theorems.{InParts}

pub returns : goal.returns
unfolding InParts
returns c = in_parts
