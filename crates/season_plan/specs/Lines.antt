-- The lines of a plan as text.
use Rattle.std.specs.Prelude.{ℕ, List, ◌++◌, map, flat_map, codes, decimal}
use Rattle.std.specs.List.{range_with_len}
use Rattle.season.specs.Bytes.{game_at, game_text}
use Rattle.season.specs.declared.game.Game.{Game}

-- a game in a line, as ` 3-0`
abbrev pub game_in_line : Game → List ℕ
game_in_line game = codes " " ++ game_text game

-- the line of round r with so many of its games, as `round 0: 3-0 1-2`
abbrev pub line_of : ℕ → List ℕ → ℕ → List ℕ
line_of r round games = codes "round " ++ decimal r ++ codes ":" ++ flat_map game_in_line (map (game_at round) (range_with_len 0 games))
