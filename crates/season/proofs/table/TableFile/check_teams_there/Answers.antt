use Rattle.std.proofs.Common.{◌≡◌, ◌<◌, length, nat_le, ◌||◌, refl, rules, ap, ◌∙◌}
use Rattle.season.specs.declared.game.Game.{Game}
use Rattle.season.specs.Bytes.{game_at}
use Rattle.season.specs.Reading.{games_in, absent, unless_at}
use Rattle.season.specs.Refused.{given}
use Rattle.season.proofs.Chunks.{length-first_chunks, game_there}
use Rattle.season.proofs.table.TableFile.check_teams_there.Goals as goal

pub returns : goal.returns
returns c =
    let sizes = c.args.self.now.sizes in
    let bytes = games_in c.args.self.now.bytes.now sizes in
    let outside = λ (game : Game). nat_le sizes.teams game.host || nat_le sizes.teams game.guest in
    let long : length c.games.result.now ≡ sizes.games = rw (c.games.ensures, length-first_chunks) refl in
    let told = c.refuse_first.ensures (absent bytes sizes.teams) 6 (λ k d b l says.
    let there : k < sizes.games = rw long at l in
    let answer : b ≡ outside (game_at says.shown.now 0) = search rules in
    answer ∙ ap outside (game_there sizes.games bytes k d there c.games.ensures says.shows))
    (λ k e called. search rules) in
    told ∙ ap (λ n. unless_at (absent bytes sizes.teams) n 6 (given sizes)) long
