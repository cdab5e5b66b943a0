use Rattle.std.proofs.Common.{arith}
use Rattle.season.proofs.Written.{written_more, written_past}
use Rattle.standings.proofs.results.add_gains.Goals as goal

pub loop-team-preserved : goal.loop-team-preserved
loop-team-preserved c =
    let had = written_past _ c.args.points.now _ _ 0 c.loop-team.invariant in
    written_more _ c.args.points.now _ _ _ c.loop-team-test.true c.loop-team.invariant (omega arith)
