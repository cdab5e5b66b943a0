use Rattle.season.proofs.ReadBack.{read_back}
use Rattle.season.proofs.laws.tables_read_back.Goals as goal

pub returns : goal.returns
returns c = read_back
