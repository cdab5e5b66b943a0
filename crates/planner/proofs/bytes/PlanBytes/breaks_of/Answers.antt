use Rattle.std.proofs.Common.{ℕ, ◌-◌, nat_eq, rules, ◌∙◌, arith}
use borrow.Author.Tests.{tests}
use Rattle.std.proofs.lemmas.Bool.Decides.{nat_tests}
use Rattle.std.proofs.lemmas.Iterator.{YieldsList-from_range}
use Rattle.std.proofs.lemmas.Iterator.Consumers.{YieldsList-from_filter, count_from_yields_List}
use Rattle.planner.proofs.Below.{count_below}
use Rattle.planner.proofs.bytes.PlanBytes.breaks_of.Goals as goal
use Rattle.season.specs.Bytes.{plan_of}
use Rattle.season.specs.Plan.{break_at, breaks_of}

pub returns-clause-counted : goal.returns-clause-counted
unfolding breaks_of
returns-clause-counted c =
    let n = c.args.self.now.teams in
    let s = plan_of n c.args.self.now.bytes.now in
    let turn = break_at s c.args.team in
    let test = λ (r : ℕ). nat_eq (turn r) 1 in
    count_from_yields_List c.filter.result c.count.result c.count.ensures.ran
    (YieldsList-from_filter _ test (YieldsList-from_range 0 (n - 2) (n - 2) c.filter.ensures.source (omega arith)) c.filter.ensures.closure
    (λ x b q k. search (rules, tests)))
    ∙ count_below turn test (n - 2) (λ k. grind (arith, nat_tests))
