use borrow.Author.Tests.{tests}
use Rattle.std.proofs.Common.{length, refl, ap, ◌∙◌, rules}
use Rattle.season.proofs.First.{found_in_range, refused_there, passed_all}
use Rattle.season.specs.Refused.{given}
use Rattle.standings.proofs.table.Table.check_gains.Goals as goal
use Rattle.standings.specs.Held.{held}
use Rattle.standings.specs.Results.{after, passes_limit}

pub returns : goal.returns
returns c =
    let passes = passes_limit (after (held c.args.self) c.args.results.now) in
    let found = found_in_range _ passes (length c.args.self.points.now) c.find.ensures.ran refl refl
    (λ x b q k. search (rules, tests)) in
    refused_there found _ _ c.in-Some.is

pub returns-in_default : goal.returns-in_default
returns-in_default c =
    let passes = passes_limit (after (held c.args.self) c.args.results.now) in
    let found = found_in_range _ passes (length c.args.self.points.now) c.find.ensures.ran refl refl
    (λ x b q k. search (rules, tests)) in
    ap given c.sizes.ensures ∙ passed_all found _ _ c.in_default.is
