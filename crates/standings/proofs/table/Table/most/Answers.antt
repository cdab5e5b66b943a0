use Rattle.std.proofs.Common.{map, arith}
use Rattle.season.specs.Encoding.{match_of}
use Rattle.standings.proofs.Matches.{left_of_few}
use Rattle.standings.proofs.table.Table.most.Goals as goal

pub overflow_cast-left_of : goal.overflow_cast-left_of
overflow_cast-left_of c = omega (arith, c.args.self.within.left_few, left_of_few (map match_of c.args.self.games.now) c.args.team)
