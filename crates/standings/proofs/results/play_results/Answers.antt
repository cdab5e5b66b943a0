use Rattle.std.proofs.Common.{◌≡◌, arith}
use Rattle.std.proofs.lemmas.List.{length-map}
use Rattle.season.specs.Encoding.{match_of, sizes_of, table_held}
use Rattle.standings.proofs.After.{low_passed, played}
use Rattle.standings.proofs.results.play_results.Goals as goal
use Rattle.standings.specs.Results.{after}

pub add_gains-requires-clause-few : goal.add_gains-requires-clause-few
add_gains-requires-clause-few c = omega (arith, c.requires.left_few, length-map c.args.games.now match_of)

pub add_gains-requires-clause-low : goal.add_gains-requires-clause-low
add_gains-requires-clause-low c = (low_passed _ _ _ _ c.in_ok-sizes.ensures).0

pub returns-clause-played : goal.returns-clause-played
returns-clause-played c =
    let t = table_held c.args.points.now c.args.games.now in
    let xs = c.args.results.now in
    let known = low_passed t xs _ _ c.in_ok-sizes.ensures in
    let kept = c.keep_unplayed-games.ensures in
    let sizes : record { teams = c.in_ok-sizes.sizes.teams; games = c.keep_unplayed-games.result } ≡ sizes_of (after t xs) =
    λ i. record { teams = (known.1 i).teams; games = kept.answer i } in
    let games = rw kept.answer at kept.games in
    rw (sizes, c.add_gains.ensures, games) (played t xs c.requires known.0 c.args.points.now c.args.games.now)
