use Rattle.std.proofs.Common.{map, arith}
use Rattle.season.specs.Encoding.{match_of}
use Rattle.standings.proofs.FullRows.{won_gained}
use Rattle.standings.proofs.Matches.{won_few}
use Rattle.standings.proofs.table.Table.points_with.Goals as goal

pub overflow_add-result : goal.overflow_add-result
overflow_add-result c =
    let few = won_few (map match_of c.args.self.games.now) c.args.results.now c.args.team in
    omega (arith, c.args.self.within.left_few, c.args.self.within.points_low c.args.team c.requires)

pub returns-clause-ended : goal.returns-clause-ended
returns-clause-ended c = λ e.
    let gained = won_gained (map match_of c.args.self.games.now) c.args.results.now c.args.team e in
    omega (arith, c.gained_by.ensures)
