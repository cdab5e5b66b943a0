use Rattle.standings.proofs.FullRows.{full_row}
use Rattle.standings.proofs.laws.full_row_is_the_ending.Goals as goal
use Rattle.standings.specs.Theorems.{FullRow}

pub returns : goal.returns
unfolding FullRow
returns c = full_row
