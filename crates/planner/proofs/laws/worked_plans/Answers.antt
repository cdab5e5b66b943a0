use Rattle.std.proofs.Common.{refl}
use Rattle.planner.proofs.laws.worked_plans.Goals as goal
use Rattle.planner.specs.Circle.{plan_byte, round_byte}
use Rattle.season.specs.Bytes.{plan_of}
use Rattle.season.specs.Plan.{breaks, breaks_of, circle, equal, rest, span}

pub returns : goal.returns
unfolding breaks breaks_of circle equal plan_byte plan_of rest round_byte span
returns c = (
  record { plan = refl; in_bytes = refl; in_circle = refl },
  record { plan = refl; in_bytes = refl; in_circle = refl },
  record { plan = refl; in_bytes = refl; in_circle = refl },
)
