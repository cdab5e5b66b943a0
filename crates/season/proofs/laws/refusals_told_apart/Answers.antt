use Rattle.season.proofs.Refusals.{told_apart}
use Rattle.season.proofs.laws.refusals_told_apart.Goals as goal

pub returns : goal.returns
returns c = told_apart
