-- The rounds so far are written, and what follows them is as it was.
use Rattle.std.proofs.Common.{◌≡◌, ◌*◌}
use Rattle.planner.proofs.circle.write_rounds.Given as goal
use Rattle.planner.specs.Circle.{plan_byte}
use Rattle.season.specs.Rows.{written}

abbrev pub invariant-loop-number : goal.invariant-loop-number
invariant-loop-number l = l.plan ≡ written (plan_byte l.teams) (l.number * l.teams) l.initial.plan
