use Rattle.std.proofs.Common.{◌+◌, ◌-◌, arith}
use Rattle.std.proofs.lemmas.Int.{ints}
use Rattle.planner.proofs.Remainders.{remainder}
use Rattle.planner.proofs.circle.CircleRound.team_beside.Goals as goal

pub returns-then-ahead : goal.returns-then-ahead
returns-then-ahead c =
    let m = c.args.self.now.teams - 1 in
    let r = c.args.self.now.number in
    rw c.if-ahead.true (remainder c.team_at.result _ m 0 (r + c.args.k) (omega arith) c.team_at.ensures (omega (arith, ints)))

pub returns-else-ahead : goal.returns-else-ahead
returns-else-ahead c =
    let m = c.args.self.now.teams - 1 in
    let r = c.args.self.now.number in
    let behind = c.team_at-else-ahead in
    rw c.if-ahead.false (remainder behind.result _ m 1 (r + m - c.args.k) (omega arith) behind.ensures (omega (arith, ints)))
