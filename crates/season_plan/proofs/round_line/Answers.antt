-- The pair at a place is the game there, and is written after the games before it.
use Rattle.std.proofs.Common.{rules, ◌≡◌, ◌+◌, ◌/◌, ◌<◌, ◌++◌, ℕ, List, [], length, refl, sym, ◌∙◌, map, arith}
use Rattle.std.specs.Prelude.{codes, decimal, string_bytes}
use Rattle.std.proofs.lemmas.List.{flat_map_more}
use Rattle.std.proofs.lemmas.List.FromFn.{map-range_with_len_more}
use Rattle.std.specs.List.{range_with_len}
use Rattle.season.proofs.Chunks.{game_there}
use Rattle.season.specs.Bytes.{game_at}
use Rattle.season_plan.specs.Lines.{game_in_line, line_of}
use Rattle.season_plan.proofs.round_line.Goals as goal

-- a line with one more game
line_of-more : (r : ℕ) (round : List ℕ) (k : ℕ) → line_of r round (k + 1) ≡ line_of r round k ++ game_in_line (game_at round k)
line_of-more r round k =
    let front = codes "round " ++ decimal r ++ codes ":" in
    let games = map (game_at round) (range_with_len 0 k) in
    rw (map-range_with_len_more (game_at round) 0 k k (omega arith)) (sym (flat_map_more game_in_line front games (game_at round k)))

pub loop-pair-preserved : goal.loop-pair-preserved
loop-pair-preserved c =
    let round = c.args.round.now in
    let k = c.loop-pair.pair-index in
    let there : k < length round / 2 = search rules in
    let game : c.from-game.result ≡ game_at round k =
    c.from-game.ensures ∙ game_there (length round / 2) round k [] there c.as_chunks.ensures.front refl in
    let written : string_bytes c.write.new.self ≡ string_bytes c.loop-pair.line ++ game_in_line c.from-game.result = search rules in
    rw (written, c.loop-pair.invariant, game) (sym (line_of-more c.args.r round k))
