use Rattle.std.proofs.Common.{rules, ◌∙◌, arith}
use Rattle.std.proofs.lemmas.Iterator.{YieldsList-from_range, YieldsList-from_map}
use Rattle.std.proofs.lemmas.Iterator.Consumers.{sum_from_yields_List}
use Rattle.std.proofs.lemmas.Iterator.Adapters.{fits_from_length, at_most_from_yields_List}
use Rattle.std.proofs.lemmas.List.FromFn.{length-range_with_len}
use borrow.Author.Tests.{tests}
use Rattle.planner.proofs.Below.{sum_below}
use Rattle.planner.proofs.bytes.PlanBytes.breaks.Goals as goal
use Rattle.season.specs.Bytes.{plan_of}
use Rattle.season.specs.Plan.{breaks, breaks_of}

pub sum-requires-clause-fits : goal.sum-requires-clause-fits
sum-requires-clause-fits c =
    let n = c.args.self.now.teams in
    fits_from_length _ _ 64 _
    (at_most_from_yields_List (YieldsList-from_range 0 n n c.map.ensures.source (omega arith)) (rw length-range_with_len (omega arith)))
    c.map.ensures.closure (omega arith) (λ x r q k. search (rules, tests))

pub returns : goal.returns
unfolding breaks
returns c =
    let n = c.args.self.now.teams in
    let s = plan_of n c.args.self.now.bytes.now in
    sum_from_yields_List c.map.result c.sum.result c.sum.ensures.ran
    (YieldsList-from_map _ (breaks_of n s) (YieldsList-from_range 0 n n c.map.ensures.source (omega arith)) c.map.ensures.closure
    (λ x r q k. search rules))
    ∙ sum_below (breaks_of n s) n
