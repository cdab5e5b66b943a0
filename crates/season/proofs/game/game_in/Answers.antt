use Rattle.std.proofs.Common.{rules, ◌≡◌, ◌/◌, ◌<◌, [], length, get_or, Some, ap, ◌∙◌}
use Rattle.std.proofs.lemmas.Bool.{lt-ltb}
use Rattle.season.proofs.Chunks.{game_there}
use Rattle.season.proofs.game.game_in.Goals as goal

pub returns : goal.returns
returns c =
    let row = c.args.row.now in
    let there : c.args.k < length row / 2 = search rules in
    let here : c.in_ok-pair.pair.now ≡ get_or c.as_chunks.result.0.now c.args.k [] = search rules in
    let game = c.from.ensures ∙ game_there (length row / 2) row c.args.k [] there c.as_chunks.ensures.front here in
    rw (lt-ltb _ _ there) (ap Some game)
