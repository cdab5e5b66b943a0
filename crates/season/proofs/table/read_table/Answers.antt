use Rattle.std.proofs.Common.{ℕ, arith}
use Rattle.season.proofs.Exact.{exact, held}
use Rattle.season.proofs.table.read_table.Goals as goal

pub returns : goal.returns
returns c =
    let told = c.read_checked.ensures in
    let bytes = λ (i : ℕ). (c.type_inv.file i).fits in
    let holds = held _ _ _ _ _ _ _ _ bytes told.answer told.points told.games (omega arith) (omega arith) in
    record {
      answer = told.answer;
      points = told.points;
      games = told.games;
      exact = exact _ _ _ _ _ _ told.answer holds;
      held = holds;
    }
