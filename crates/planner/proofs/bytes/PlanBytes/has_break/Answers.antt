use Rattle.std.proofs.Common.{◌≡◌, suc, add-one, arith}
use Rattle.planner.proofs.bytes.PlanBytes.has_break.Goals as goal
use Rattle.season.specs.Bytes.{plan_of}
use Rattle.season.specs.Plan.{equal}

pub returns : goal.returns
unfolding equal plan_of
returns c =
    let s = plan_of c.args.self.now.teams c.args.self.now.bytes.now in
    let here : c.at_home-2.result ≡ s.home c.args.r c.args.team = rw c.round-2.ensures at c.at_home-2.ensures in
    let next : c.at_home.result ≡ s.home (suc c.args.r) c.args.team = rw (c.round.ensures, add-one) at c.at_home.ensures in
    rw (here, next) (grind arith)
