use Rattle.standings.proofs.ReadTables.{same_own}
use Rattle.standings.proofs.own.OwnTable.read.Goals as goal

pub returns-clause-table : goal.returns-clause-table
returns-clause-table c = same_own c.in_ok-sizes.ensures.held _ _
