use Rattle.std.proofs.Common.{◌≡◌, ◌<◌, length, ◌==◌, refl, rules, ap, ◌∙◌}
use Rattle.season.specs.Bytes.{game_at}
use Rattle.season.specs.Reading.{games_in, against_itself, unless_at}
use Rattle.season.specs.Refused.{given}
use Rattle.season.proofs.Chunks.{length-first_chunks, game_there}
use Rattle.season.proofs.table.TableFile.check_two_teams.Goals as goal

pub returns : goal.returns
returns c =
    let sizes = c.args.self.now.sizes in
    let bytes = games_in c.args.self.now.bytes.now sizes in
    let long : length c.games.result.now ≡ sizes.games = rw (c.games.ensures, length-first_chunks) refl in
    let told = c.refuse_first.ensures (against_itself bytes) 7 (λ k d b l says.
    let there : k < sizes.games = rw long at l in
    let answer : b ≡ ((game_at says.shown.now 0).host == (game_at says.shown.now 0).guest) = search rules in
    answer ∙ ap (λ game. game.host == game.guest) (game_there sizes.games bytes k d there c.games.ensures says.shows))
    (λ k e called. search rules) in
    told ∙ ap (λ n. unless_at (against_itself bytes) n 7 (given sizes)) long
