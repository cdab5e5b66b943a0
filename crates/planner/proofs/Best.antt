-- The plan by circles is a best plan.
use Rattle.std.proofs.Common.{arith}
use Rattle.season.specs.Promise.{Planned, BreaksNeeded}
use Rattle.planner.proofs.Circles.{circle_proper}
use Rattle.planner.proofs.CircleBreaks.{circle_breaks}
use Rattle.planner.proofs.Needed.{breaks_needed}

pub planned : Planned
unfolding Planned BreaksNeeded
planned n positive even =
    let count = circle_breaks n even in
    (record { proper = circle_proper n even; fewest = λ q p. omega (arith, breaks_needed n q p) }, count)
