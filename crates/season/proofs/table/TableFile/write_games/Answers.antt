use Rattle.std.proofs.Common.{◌≡◌, [], length, get_or, rules, refl, ◌∙◌, ap, arith}
use Rattle.season.specs.Bytes.{game_at}
use Rattle.season.specs.Reading.{games_in}
use Rattle.season.specs.Rows.{written}
use Rattle.season.proofs.Chunks.{length-first_chunks, game_there}
use Rattle.season.proofs.table.TableFile.write_games.Goals as goal

pub write_front-requires-clause-room : goal.write_front-requires-clause-room
write_front-requires-clause-room c = rw (c.games-pairs.ensures, length-first_chunks) c.requires

pub returns : goal.returns
returns c =
    let bytes = games_in c.args.self.now.bytes.now c.args.self.now.sizes in
    let n = c.args.self.now.sizes.games in
    let long : length c.games-pairs.result.now ≡ n = rw (c.games-pairs.ensures, length-first_chunks) refl in
    let all = c.write_front.ensures.values (game_at bytes) (λ k x l post.
    let here : x ≡ game_at (get_or c.games-pairs.result.now k []) 0 = search rules in
    here ∙ game_there n bytes k [] (omega arith) c.games-pairs.ensures refl) in
    all ∙ ap (λ m. written (game_at bytes) m c.args.row.now) long
