use Rattle.std.proofs.Common.{ℕ, ◌∙◌, rules}
use borrow.Author.Tests.{tests}
use Rattle.std.proofs.lemmas.Iterator.{YieldsList-from_map, YieldsList-from_slice, YieldsList-from_zip}
use Rattle.std.proofs.lemmas.Iterator.Consumers.{sum_by_from_yields_List}
use Rattle.std.specs.List.{zip}
use Rattle.season.specs.declared.game.Game.{Game}
use Rattle.season.specs.Encoding.{match_of}
use Rattle.standings.proofs.Matches.{won_summed}
use Rattle.standings.proofs.gains.gained_by.Goals as goal
use Rattle.standings.specs.Results.{share_beside}

pub returns : goal.returns
returns c =
    let games = c.args.games.now in
    let xs = c.args.results.now in
    let f = λ (p : Game × ℕ). share_beside (match_of p.0) p.1 c.args.team in
    let summed = sum_by_from_yields_List f (zip games xs) _ c.sum.result c.sum.ensures.ran
    (YieldsList-from_map _ f (YieldsList-from_zip (YieldsList-from_slice games (cc)) (YieldsList-from_slice xs (cc))) c.map.ensures.closure
    (λ x r q k. search (rules, tests))) in
    summed ∙ won_summed games xs c.args.team
