use Rattle.std.proofs.Common.{◌≡◌, ◌+◌, ◌-◌, ◌*◌, arith}
use Rattle.std.proofs.lemmas.List.{drop-drop}
use Rattle.planner.proofs.Rounds.{next_round, written_round}
use Rattle.planner.proofs.circle.write_rounds.Goals as goal

pub loop-number-preserved : goal.loop-number-preserved
loop-number-preserved c =
    let n = c.args.teams in
    let r = c.loop-number.number in
    let part : (r + 1) * n - r * n ≡ n = omega (arith, next_round n r) in
    rw (part, c.write.ensures, drop-drop) (written_round n r c.args.plan.now c.loop-number.plan c.loop-number.invariant)
