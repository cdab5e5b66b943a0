use Rattle.std.proofs.Common.{◌≡◌, ◌-◌, ◌∙◌, arith}
use Rattle.std.proofs.lemmas.Bool.Decides.{nat_tests}
use Rattle.planner.proofs.Best.{planned}
use Rattle.planner.proofs.ReadBack.{bytes_agree}
use Rattle.planner.proofs.circle.write_plan.Goals as goal
use Rattle.planner.specs.Circle.{with_plan}
use Rattle.planner.specs.Theorems.{BytesAgree}
use Rattle.season.proofs.Agreement.{breaks_agree, best_agree}
use Rattle.season.specs.Bytes.{plan_of}
use Rattle.season.specs.Plan.{Agree, breaks, circle}
use Rattle.season.specs.Promise.{Planned}

pub returns : goal.returns
unfolding BytesAgree Planned
returns c =
    let n = c.args.n in
    let old = c.args.plan.now in
    let plan = c.write_rounds.new.plan in
    let checked = c.in_ok-teams.ensures in
    let fitting = checked.fitting.1 in
    let bytes : plan ≡ with_plan n old = rw checked.fitting.0 at c.write_rounds.ensures in
    let counted : c.breaks.result ≡ breaks n (plan_of n plan) = rw checked.fitting.0 at c.breaks.ensures in
    let agree : Agree n (plan_of n plan) (circle n) = rw bytes (bytes_agree n old fitting.some_teams fitting.even_teams) in
    let all = planned n fitting.some_teams fitting.even_teams in
    let count : c.breaks.result ≡ n - 2 = counted ∙ breaks_agree agree ∙ all.1 in
    record {
      answer = grind (arith, nat_tests);
      bytes = bytes;
      circle = agree;
      counted = counted;
      best = best_agree agree all.0;
    }
